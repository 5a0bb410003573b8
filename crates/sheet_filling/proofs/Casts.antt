-- A slope in range, z, that the code has in 64 bits as r and hands on in 32. Assumes nothing.
use mathlib.Core.Path.{◌≡◌, ◌∙◌, ap}
use mathlib.Core.Bool.{true}
use lib.IntN.{ℤ}
use mir.Syntax.{w32, w64}
use mir.Val.{SFits, to_z, of_z}
use Rattle.integers.proofs.Operand.{Operand, returned, asks, gives}
use Rattle.sheet_layout.specs.Format.{slope_in}
use Rattle.sheet_layout.proofs.NodeRange.{slope_in_lem}

module _ {r z : ℤ} (e : r ≡ z) (h : slope_in z ≡ true) where
  wide : Operand
  wide = returned w64 e ((slope_in_lem z).0 h) tt

  pub narrow_fits : SFits w32 (to_z w64 (of_z w64 r))
  unfolding wide
  narrow_fits = asks w32 wide tt

  pub narrow_is : to_z w32 (of_z w32 (to_z w64 (of_z w64 r))) ≡ z
  unfolding wide
  narrow_is = gives w32 wide tt

  pub narrow_in : slope_in (to_z w32 (of_z w32 (to_z w64 (of_z w64 r)))) ≡ true
  narrow_in = ap slope_in narrow_is ∙ h
