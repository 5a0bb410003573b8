-- `light_sheet_c::lvs_read` meets its contract. Assumes nothing.
use Rattle.std.proofs.Common.{ℕ, List, sym, subst}
use Rattle.surface_answers.specs.Answers.{Every}
use Rattle.surface_answers.proofs.Floats.{quotient_number}
use Rattle.surface_of_sheet.specs.Read.{read}
use Rattle.surface_of_sheet.proofs.EachValue.{each_value}
use Rattle.light_sheet_c.specs.Values.{IsNumber}
use Rattle.light_sheet_c.proofs.lvs_read.Goals as goal

-- no value of a reading is a NaN
no_nan : (s : List ℕ) (x y kind : ℕ) → Every IsNumber (read s x y kind).values
no_nan s x y kind = each_value IsNumber s x y kind (quotient_number kind)

pub store-requires : goal.store-requires
store-requires c = subst (λ o. Every IsNumber o.values) (sym c.read.ensures.answer) (no_nan _ _ _ _)
