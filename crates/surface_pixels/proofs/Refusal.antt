-- What refuses a reading at a pixel that is not refused: its kind alone. Assumes nothing.
use Rattle.std.proofs.Common.{◌≡◌, ℕ, ◌<◌, List, cond, refl, sym, ◌∙◌, ap}
use borrow.Author.Tests.{lt-ltb}
use Rattle.sheet_calls.specs.declared.refusal.Refusal.{Refusal}
use Rattle.sheet_calls.specs.declared.refusal.Refusal.TheVariants.{OtherKind}
use Rattle.sheet_calls.specs.Refused.{number}
use Rattle.sheet_calls.specs.Refusals.{other_kind, reading_refusal}
use Rattle.sheet_calls.proofs.Rules.{passed_by}
use Rattle.surface_answers.specs.Kinds.{kind_number}
use Rattle.surface_answers.specs.declared.kind.Kind.{Kind}
use Rattle.surface_answers.specs.declared.kind.Kind.TheVariants.{Level, Tilt, Bend}
use Rattle.surface_places.specs.Spots.{spot_refusal}
use Rattle.surface_places.proofs.Spots.{reading_by_spot}

no_other : (k : Kind) → ◌≡◌ {A = ℕ} 0 (cond (other_kind (kind_number k)) 9 0)
unfolding other_kind
no_other Level = refl
no_other Tilt = refl
no_other Bend = refl

module _ (s : List ℕ) (x y kind : ℕ) (spot : 0 ≡ spot_refusal s x y) where
  by_kind : cond (other_kind kind) 9 0 ≡ reading_refusal s x y kind
  by_kind = passed_by _ _ (reading_by_spot s x y kind) spot refl

  pub kind_refused : {e : Refusal} → (e ≡ OtherKind) × (2 < kind) → number e ≡ reading_refusal s x y kind
  unfolding other_kind
  kind_refused h = ap number h.0 ∙ ap (λ b. cond b 9 0) (sym (lt-ltb _ _ h.1)) ∙ by_kind

  pub kind_passed : (k : Kind) → kind_number k ≡ kind → 0 ≡ reading_refusal s x y kind
  kind_passed k e = no_other k ∙ ap (λ n. cond (other_kind n) 9 0) e ∙ by_kind
