-- The derivatives are derivatives, in r and s and per pixel. Assumes nothing.
use mathlib.Core.List.{[], ◌∷◌}
use Prim.Native.Nat.{ℕ, ◌+◌}
use lib.IntN.{pos}
use Rattle.element_sibson.specs.Fraction.{Positive, ℚ, ◌≈◌, ◌+ℚ◌, ◌*ℚ◌, ◌÷◌, positive, whole}
use Rattle.element_sibson.specs.Cubic.{Cell, Point, Cubic, value, by_r, by_s, jet, bend}
use Rattle.element_sibson.specs.Sense.{expansion, right_of, below, Derivatives}
use Rattle.integers.proofs.Polynomial.{var, #◌, ◌⊕◌, ◌⊗◌}
use Rattle.integers.proofs.Solve.{◌≐◌, solve}
use Rattle.element_sibson.proofs.Fractions.{≈_refl, ≈_sym, ≈_trans, ≈-+, ≈-*, ≈-÷}
use Rattle.element_sibson.proofs.Quote.{Quotient, ◌+ₑ◌, ◌*ₑ◌, ◌÷ₑ◌, Cubicₑ, by_rₑ, by_sₑ, equal, anyₑ, rₑ, sₑ, any, fractionₑ, fraction}
use Rattle.element_sibson.proofs.Evaluate.{numerator, cubes, common, value_is, commonₑ}

abbrev hₑ : Quotient
hₑ = fractionₑ 15

-- an expansion of quoted fractions, and of a cubic along a coordinate
abbrev partsₑ : Quotient → Quotient → Quotient → Quotient → Quotient → Quotient
partsₑ x x' x'' x''' h = x +ₑ h *ₑ x' +ₑ h *ₑ h *ₑ (x'' ÷ₑ # 2 +ₑ h *ₑ (x''' ÷ₑ # 6))

abbrev expansionₑ : (Cubicₑ → Cubicₑ) → Quotient
expansionₑ by = partsₑ (commonₑ anyₑ rₑ sₑ) (commonₑ (by anyₑ) rₑ sₑ) (commonₑ (by (by anyₑ)) rₑ sₑ) (commonₑ (by (by (by anyₑ))) rₑ sₑ) hₑ

-- equal parts make equal expansions
≈_expansion : {x x' x'' x''' y y' y'' y''' : ℚ} (h : ℚ) → x ≈ y → x' ≈ y' → x'' ≈ y'' → x''' ≈ y''' → expansion x x' x'' x''' h ≈ expansion y y' y'' y''' h
unfolding expansion
≈_expansion h a b c d =
    ≈-+ (≈-+ a (≈-* (≈_refl h) b)) (≈-* (≈_refl (h *ℚ h)) (≈-+ (≈-÷ (positive 2 tt) c) (≈-* (≈_refl h) (≈-÷ (positive 6 tt) d))))

-- with every value over one denominator
abbrev common_expansion : (Cubic → Cubic) → Cubic → Point → ℚ → ℚ
common_expansion by f P h = expansion (common f P) (common (by f) P) (common (by (by f)) P) (common (by (by (by f))) P) h

expanded : (by : Cubic → Cubic) (f : Cubic) (P Q : Point) (h : ℚ) → common f Q ≈ common_expansion by f P h →
    value f Q ≈ expansion (value f P) (value (by f) P) (value (by (by f)) P) (value (by (by (by f))) P) h
expanded by f P Q h e = ≈_trans {y = common f Q} (value_is f Q) (≈_trans {y = common_expansion by f P h} e
    (≈_sym (≈_expansion h (value_is f P) (value_is (by f) P) (value_is (by (by f)) P) (value_is (by (by (by f))) P))))

along_r : (f : Cubic) (P : Point) (h : ℚ) →
    value f (record { r = P.r +ℚ h; s = P.s }) ≈ expansion (value f P) (value (by_r f) P) (value (by_r (by_r f)) P) (value (by_r (by_r (by_r f))) P) h
unfolding expansion numerator cubes by_r
along_r f P h = expanded by_r f P (record { r = P.r +ℚ h; s = P.s }) h
    (record { crossed = equal (commonₑ anyₑ (rₑ +ₑ hₑ) sₑ) (expansionₑ by_rₑ) tt (any f P (fraction h [])) })

along_s : (f : Cubic) (P : Point) (h : ℚ) →
    value f (record { r = P.r; s = P.s +ℚ h }) ≈ expansion (value f P) (value (by_s f) P) (value (by_s (by_s f)) P) (value (by_s (by_s (by_s f))) P) h
unfolding expansion numerator cubes by_s
along_s f P h = expanded by_s f P (record { r = P.r; s = P.s +ℚ h }) h
    (record { crossed = equal (commonₑ anyₑ rₑ (sₑ +ₑ hₑ)) (expansionₑ by_sₑ) tt (any f P (fraction h [])) })

-- ---- per pixel

-- h/n as the step: the derivatives over n
scaled : (n : Positive) (x x' x'' x''' h : ℚ) → expansion x x' x'' x''' (h ÷ n) ≈ expansion x (x' ÷ n) (x'' ÷ n ÷ n) (x''' ÷ n ÷ n ÷ n) h
unfolding expansion
scaled n x x' x'' x''' h = record {
  crossed = equal
      (partsₑ (fractionₑ 1) (fractionₑ 3) (fractionₑ 5) (fractionₑ 7) (fractionₑ 9 ÷ₑ var 0))
      (partsₑ (fractionₑ 1) (fractionₑ 3 ÷ₑ var 0) (fractionₑ 5 ÷ₑ var 0 ÷ₑ var 0) (fractionₑ 7 ÷ₑ var 0 ÷ₑ var 0 ÷ₑ var 0) (fractionₑ 9)) tt
      (pos n.number ∷ fraction x (fraction x' (fraction x'' (fraction x''' (fraction h [])))));
}

-- an expansion over n
divided : (n : Positive) (x x' x'' x''' h : ℚ) → expansion x x' x'' x''' h ÷ n ≈ expansion (x ÷ n) (x' ÷ n) (x'' ÷ n) (x''' ÷ n) h
unfolding expansion
divided n x x' x'' x''' h = record {
  crossed = equal
      (partsₑ (fractionₑ 1) (fractionₑ 3) (fractionₑ 5) (fractionₑ 7) (fractionₑ 9) ÷ₑ var 0)
      (partsₑ (fractionₑ 1 ÷ₑ var 0) (fractionₑ 3 ÷ₑ var 0) (fractionₑ 5 ÷ₑ var 0) (fractionₑ 7 ÷ₑ var 0) (fractionₑ 9)) tt
      (pos n.number ∷ fraction x (fraction x' (fraction x'' (fraction x''' (fraction h [])))));
}

next_pixel_lem : (n : Positive) (a : ℕ) → whole (pos a) ÷ n +ℚ whole (pos 1) ÷ n ≈ whole (pos (a + 1)) ÷ n
next_pixel_lem n a = record { crossed = solve 2 (λ n a. (a ⊗ (# 1 ⊗ n) ⊕ # 1 ⊗ (# 1 ⊗ n)) ⊗ (# 1 ⊗ n) ≐ (a ⊕ # 1) ⊗ (# 1 ⊗ n ⊗ (# 1 ⊗ n))) tt (pos n.number) (pos a) }

-- a slope over m along h/n
slope_along_lem : (m n : Positive) (y x x' x'' x''' h : ℚ) → y ≈ expansion x x' x'' x''' (h ÷ n) →
    y ÷ m ≈ expansion (x ÷ m) (x' ÷ m ÷ n) (x'' ÷ m ÷ n ÷ n) (x''' ÷ m ÷ n ÷ n ÷ n) h
slope_along_lem m n y x x' x'' x''' h e =
    ≈_trans {y = expansion x x' x'' x''' (h ÷ n) ÷ m} (≈-÷ m e)
    (≈_trans {y = expansion (x ÷ m) (x' ÷ m) (x'' ÷ m) (x''' ÷ m) (h ÷ n)} (divided m x x' x'' x''' (h ÷ n)) (scaled n (x ÷ m) (x' ÷ m) (x'' ÷ m) (x''' ÷ m) h))

x_slopes_along_y : (C : Cell) (f : Cubic) (P : Point) (h : ℚ) → (jet C f (below C P h)).x_slope
    ≈ expansion (jet C f P).x_slope (bend C f P).xy
    (value (by_s (by_s (by_r f))) P ÷ C.W ÷ C.H ÷ C.H) (value (by_s (by_s (by_s (by_r f)))) P ÷ C.W ÷ C.H ÷ C.H ÷ C.H) h
unfolding jet bend
x_slopes_along_y C f P h = slope_along_lem C.W C.H (value (by_r f) (below C P h))
    (value (by_r f) P) (value (by_s (by_r f)) P) (value (by_s (by_s (by_r f))) P) (value (by_s (by_s (by_s (by_r f)))) P) h (along_s (by_r f) P (h ÷ C.H))

mixed : (f : Cubic) (P : Point) → value (by_s (by_r f)) P ≈ value (by_r (by_s f)) P
unfolding by_r by_s
mixed f P = ≈_refl (value (by_s (by_r f)) P)

-- divisors in the other order
≈-÷_swap : (m n : Positive) (x : ℚ) → x ÷ m ÷ n ≈ x ÷ n ÷ m
≈-÷_swap m n x = record {
  crossed = equal (fractionₑ 2 ÷ₑ var 0 ÷ₑ var 1) (fractionₑ 2 ÷ₑ var 1 ÷ₑ var 0) tt (pos m.number ∷ pos n.number ∷ fraction x []);
}

-- the mixed derivative is bend's
y_slopes_along_x : (C : Cell) (f : Cubic) (P : Point) (h : ℚ) → (jet C f (right_of C P h)).y_slope
    ≈ expansion (jet C f P).y_slope (bend C f P).xy
    (value (by_r (by_r (by_s f))) P ÷ C.H ÷ C.W ÷ C.W) (value (by_r (by_r (by_r (by_s f)))) P ÷ C.H ÷ C.W ÷ C.W ÷ C.W) h
unfolding jet bend
y_slopes_along_x C f P h = let w = C.W in let t = C.H in
    let x = value (by_s f) P in let x' = value (by_r (by_s f)) P in let x'' = value (by_r (by_r (by_s f))) P in let x''' = value (by_r (by_r (by_r (by_s f)))) P in
    ≈_trans {y = expansion (x ÷ t) (x' ÷ t ÷ w) (x'' ÷ t ÷ w ÷ w) (x''' ÷ t ÷ w ÷ w ÷ w) h}
    (slope_along_lem t w (value (by_s f) (right_of C P h)) x x' x'' x''' h (along_r (by_s f) P (h ÷ w)))
    (≈_expansion h (≈_refl (x ÷ t))
    (≈_trans {y = x' ÷ w ÷ t} (≈-÷_swap t w x') (≈-÷ t (≈-÷ w (≈_sym (mixed f P)))))
    (≈_refl (x'' ÷ t ÷ w ÷ w)) (≈_refl (x''' ÷ t ÷ w ÷ w ÷ w)))

pub derivatives : Derivatives
unfolding jet bend
derivatives = record {
  along_r = along_r;
  along_s = along_s;
  heights_along_x = λ C f P h. let w = C.W in let x = value f P in let x' = value (by_r f) P in let x'' = value (by_r (by_r f)) P in let x''' = value (by_r (by_r (by_r f))) P in
      ≈_trans {y = expansion x x' x'' x''' (h ÷ w)} (along_r f P (h ÷ w)) (scaled w x x' x'' x''' h);
  heights_along_y = λ C f P h. let w = C.H in let x = value f P in let x' = value (by_s f) P in let x'' = value (by_s (by_s f)) P in let x''' = value (by_s (by_s (by_s f))) P in
      ≈_trans {y = expansion x x' x'' x''' (h ÷ w)} (along_s f P (h ÷ w)) (scaled w x x' x'' x''' h);
  x_slopes_along_y = x_slopes_along_y;
  y_slopes_along_x = y_slopes_along_x;
  mixed = mixed;
  pixels = λ C a b. (next_pixel_lem C.W a, next_pixel_lem C.H b);
}
