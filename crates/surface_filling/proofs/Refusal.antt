-- What refuses a run, from the answers that the code has. Assumes nothing.
use Prim.Native.Nat.{ℕ}
use mathlib.Core.Path.{◌≡◌, refl}
use mathlib.Core.List.{List}
use mathlib.Core.Bool.{Bool, cond}
use lib.Dec.{eqb}
use Rattle.sheet_calls.specs.Refusals.{off_mesh, empty_run, sheet_refusal, run_refusal}
use Rattle.sheet_calls.proofs.Rules.{passed_by}
use Rattle.sheet_calls.proofs.Chains.{run_is}

module _ (s : List ℕ) (x y count : ℕ) where
  -- the sheet is accepted: the test of the first and the last pixel, then that of an empty run
  pub run_answer : sheet_refusal s ≡ 0 → {p k : Bool} → p ≡ off_mesh s x y count → k ≡ eqb count 0 → cond p 7 (cond k 8 0) ≡ run_refusal s x y count
  unfolding empty_run
  run_answer z f g = rw (f, g) (passed_by _ _ (run_is s x y count) refl z)
