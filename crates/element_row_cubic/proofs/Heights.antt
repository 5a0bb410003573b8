-- The height at a pixel over the divisor times W³ H³, as a cubic in the offset along its row. Assumes nothing.
use mathlib.Core.Path.{◌≡◌, ◌∙◌, ap}
use mathlib.Core.List.{List, [], ◌∷◌}
use Prim.Native.Nat.{ℕ, ◌+◌, ◌*◌}
use native.Mathlib.Nat.{one-mul}
use lib.IntN.{ℤ, pos}
use Rattle.integers.proofs.Polynomial.{Expr, var, #◌, ◌⊕◌, ◌⊗◌}
use Rattle.integers.specs.Round.{round}
use Rattle.element_sibson.specs.Fraction.{Positive, ℚ, ◌≈◌, ◌*⁺◌, whole, ◌÷◌}
use Rattle.element_sibson.specs.Cubic.{Cell, pixel, Cubic, value, jet}
use Rattle.element_sibson.proofs.Quote.{Quotient, ◌/ₑ◌, valueₑ, equal, anyₑ, cubic}
use Rattle.element_readings.specs.Reading.{rounded, level_of}
use Rattle.element_readings.proofs.Rounded.{rounded-≈}
use Rattle.element_row_cubic.specs.Row.{down, along_row, at_offset, cubes_of, RowLaws}

-- from variable i on: a, W, b and H
abbrev pub rₑ : ℕ → Quotient
rₑ i = var i /ₑ (# 1 ⊗ var (i + 1))

abbrev pub sₑ : ℕ → Quotient
sₑ i = var (i + 2) /ₑ (# 1 ⊗ var (i + 3))

abbrev pub offset : Cell → ℕ → ℕ → List ℤ
offset C a b = pos a ∷ pos C.W.number ∷ pos b ∷ pos C.H.number ∷ []

abbrev downₑ : Expr → Expr → Expr → Expr → Expr
downₑ c d e f = let b = var 13 in let h = var 14 in c ⊗ (h ⊗ h ⊗ h) ⊕ d ⊗ (b ⊗ h ⊗ h) ⊕ e ⊗ (b ⊗ b ⊗ h) ⊕ f ⊗ (b ⊗ b ⊗ b)

abbrev rowₑ : Expr
rowₑ = let f = anyₑ in let a = var 11 in let w = var 12 in
    w ⊗ w ⊗ w ⊗ downₑ f.c00 f.c01 f.c02 f.c03 ⊕ w ⊗ w ⊗ downₑ f.c10 f.c11 f.c12 (# 0) ⊗ a
    ⊕ w ⊗ downₑ f.c20 f.c21 (# 0) (# 0) ⊗ (a ⊗ a) ⊕ downₑ f.c30 (# 0) (# 0) (# 0) ⊗ (a ⊗ a ⊗ a)

abbrev cubesₑ : Expr
cubesₑ = let w = var 12 in let h = var 14 in w ⊗ w ⊗ w ⊗ (h ⊗ h ⊗ h)

heights : (C : Cell) (f : Cubic) (a b : ℕ) → value f (pixel C a b) ≈ whole (at_offset (along_row C f b) a) ÷ (f.divisor *⁺ cubes_of C)
unfolding value down along_row at_offset cubes_of
heights C f a b = record {
  crossed = equal (valueₑ anyₑ (rₑ 11) (sₑ 11)) (rowₑ /ₑ (# 1 ⊗ (anyₑ.divisor ⊗ cubesₑ))) tt (cubic f (offset C a b));
}

-- a fraction over a natural, rounded
pub rounded_over : {x : ℚ} (n : ℤ) (d : Positive) → x ≈ whole n ÷ d → rounded x ≡ round n d.number
unfolding rounded
rounded_over n d e = rounded-≈ e ∙ ap (round n) (one-mul d.number)

levels : (C : Cell) (f : Cubic) (a b : ℕ) → level_of C f (pixel C a b) ≡ round (at_offset (along_row C f b) a) (f.divisor.number * (cubes_of C).number)
unfolding level_of jet
levels C f a b = rounded_over (at_offset (along_row C f b) a) (f.divisor *⁺ cubes_of C) (heights C f a b)

pub row_laws : RowLaws
row_laws = record { heights = heights; levels = levels }
