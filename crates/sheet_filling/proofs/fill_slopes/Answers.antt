-- `sheet_filling::fill_slopes` meets its contract. Assumes nothing.
use Rattle.std.proofs.Common.{sym, ◌∙◌}
use Rattle.sheet_calls.proofs.Refused.{number-not_zero}
use Rattle.sheet_slopes.proofs.Chain.{refused_is}
use Rattle.sheet_slopes.proofs.Fillable.{fillable}
use Rattle.sheet_slopes.proofs.Filled.{in_place_is}
use Rattle.sheet_filling.proofs.fill_slopes.Goals as goal

pub returns-in_err-slope_refusal-clause-sheet : goal.returns-in_err-slope_refusal-clause-sheet
returns-in_err-slope_refusal-clause-sheet c =
    let e = c.in_err-slope_refusal.ensures in sym (refused_is _ _ (λ z. number-not_zero _ (e ∙ z)))

pub fill_rows-requires : goal.fill_rows-requires
fill_rows-requires c = fillable _ _ (sym c.in_ok-slope_refusal.ensures)

pub returns-clause-sheet : goal.returns-clause-sheet
returns-clause-sheet c = c.fill_rows.ensures ∙ sym (in_place_is _ _ (sym c.in_ok-slope_refusal.ensures))
