-- What filling answers where its sheet is accepted. Assumes nothing.
use Rattle.std.proofs.Common.{◌≡◌, ℕ, ◌≤◌, ◌<◌, List, Bool, cond, refl}
use borrow.Author.Tests.{lt-ltb, le-ltb}
use Rattle.sheet_calls.specs.Refusals.{sheet_refusal}
use Rattle.sheet_calls.proofs.Rules.{passed_by}
use Rattle.sheet_slopes.specs.Slopes.{too_stiff, some_too_steep, slope_refusal}
use Rattle.sheet_slopes.proofs.Chain.{slope_is}

module _ (s : List ℕ) (t : ℕ) (e : 0 ≡ sheet_refusal s) where
  pub stiffness_refused : 64 < t → 12 ≡ slope_refusal s t
  unfolding too_stiff
  stiffness_refused l = rw (lt-ltb 64 t l) at (passed_by _ _ (slope_is s t) e refl)

  pub steepness_answer : t ≤ 64 → {b : Bool} → some_too_steep s t ≡ b → cond b 13 0 ≡ slope_refusal s t
  unfolding too_stiff
  steepness_answer l w = rw (le-ltb 64 t l, w) at (passed_by _ _ (slope_is s t) e refl)
