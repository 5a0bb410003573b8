-- When the first or the last pixel of a run lies outside the mesh. Assumes nothing.
use Prim.Native.Nat.{ℕ, ◌+◌, ◌-◌, ◌≤◌, ◌<◌}
use mathlib.Core.Path.{◌≡◌, refl, sym, ◌∙◌}
use mathlib.Core.Bool.{Bool, true, false, ◌||◌, true≢false}
use mathlib.Core.List.{List}
use native.Mathlib.Omega.{arith}
use native.Mathlib.Decide.{dec_lt}
use lib.Dec.{ltb}
use borrow.Author.Tests.{lt-ltb, eq-eqb, ne_eqb}
use Rattle.sheet_layout.specs.Format.{columns, rows, line_x, line_y}
use Rattle.sheet_calls.specs.Refusals.{outside, off_mesh, Accepted}
use Rattle.surface_of_sheet.proofs.Cells.{last_x_near}

module _ (s : List ℕ) (x y count : ℕ) where
  pub first_off : outside s x y ≡ true → true ≡ off_mesh s x y count
  unfolding off_mesh
  first_off e = rw e refl

  -- an empty run has no last pixel
  pub no_last : outside s x y ≡ false → count ≡ 0 → false ≡ off_mesh s x y count
  unfolding off_mesh
  no_last e z = rw (e, eq-eqb count 0 z) refl

  pub last_off : outside s x y ≡ false → (count ≡ 0 → ⊥) → outside s (x + (count - 1)) y ≡ off_mesh s x y count
  unfolding off_mesh
  last_off e h = let same : x + (count - 1) ≡ x + count - 1 = omega (arith, h) in rw (e, ne_eqb count 0 h, same) refl

either : (a b c d : Bool) → b ≡ true → a || b || c || d ≡ true
either true b c d e = refl
either false b c d e = rw e refl

module _ (s : List ℕ) (accepted : Accepted s) where
  -- no pixel of the mesh lies beyond 4,096
  pub far_off : (x y : ℕ) → 4096 < x → outside s x y ≡ true
  unfolding outside
  far_off x y h = let last = last_x_near s accepted in
      either (ltb x (line_x s 0)) (ltb (line_x s (columns s - 1)) x) (ltb y (line_y s 0)) (ltb (line_y s (rows s - 1)) y) (lt-ltb (line_x s (columns s - 1)) x (omega arith))

  -- so one of the mesh fits 32 bits with a row's length added
  pub not_far : (x y : ℕ) → outside s x y ≡ false → x ≤ 4096
  not_far x y e = elim (dec_lt 4096 x) [
    | yes h ↦ absurd (true≢false (sym (far_off x y h) ∙ e))
    | no h ↦ omega arith
  ]
