-- Heights and slopes: the same jet is an equivalence, a jet depends on its point as a pair of fractions, jets subtract. Assumes nothing.
use lib.IntN.{pos}
use Rattle.element_sibson.specs.Fraction.{ℚ, ◌≈◌, ◌-ℚ◌, whole}
use Rattle.element_sibson.specs.Cubic.{Cell, Point, Cubic, value, by_r, by_s, Jet, jet, ◌≋◌}
use Rattle.element_sibson.proofs.Fractions.{≈_refl, ≈_sym, ≈_trans, ≈-+, ≈-*, ≈-·, ≈--, ≈-÷, ≈_minus, ≈_of_minus}

pub ≋_refl : (j : Jet ℚ) → j ≋ j
≋_refl j = record { heights = ≈_refl j.height; x_slopes = ≈_refl j.x_slope; y_slopes = ≈_refl j.y_slope }

pub ≋_sym : {j k : Jet ℚ} → j ≋ k → k ≋ j
≋_sym e = record { heights = ≈_sym e.heights; x_slopes = ≈_sym e.x_slopes; y_slopes = ≈_sym e.y_slopes }

pub ≋_trans : {j k l : Jet ℚ} → j ≋ k → k ≋ l → j ≋ l
≋_trans e f = record {
  heights = ≈_trans e.heights f.heights;
  x_slopes = ≈_trans e.x_slopes f.x_slopes;
  y_slopes = ≈_trans e.y_slopes f.y_slopes;
}

-- ---- the same point

infix 20 ◌≈ₚ◌
pub record ◌≈ₚ◌ (P Q : Point) : Type 0 where
  pub rs : P.r ≈ Q.r
  pub ss : P.s ≈ Q.s

pub value_at : (f : Cubic) {P Q : Point} → P ≈ₚ Q → value f P ≈ value f Q
unfolding value
value_at f {P} {Q} e =
    let r = e.rs in let s = e.ss in
    ≈-÷ f.divisor (≈-+ (≈-+ (≈-+ (≈-+ (≈-+ (≈-+ (≈-+ (≈-+ (≈-+
    (≈_refl (whole f.c00)) (≈-· f.c10 r)) (≈-· f.c01 s))
    (≈-· f.c20 (≈-* r r))) (≈-· f.c11 (≈-* r s))) (≈-· f.c02 (≈-* s s)))
    (≈-· f.c30 (≈-* (≈-* r r) r))) (≈-· f.c21 (≈-* (≈-* r r) s))) (≈-· f.c12 (≈-* (≈-* r s) s))) (≈-· f.c03 (≈-* (≈-* s s) s)))

pub jet_at_lem : (C : Cell) (f : Cubic) {P Q : Point} → P ≈ₚ Q → jet C f P ≋ jet C f Q
unfolding jet
jet_at_lem C f e = record { heights = value_at f e; x_slopes = ≈-÷ _ (value_at (by_r f) e); y_slopes = ≈-÷ _ (value_at (by_s f) e) }

-- ---- differences

unfoldable pub none : Jet ℚ
none = record { height = whole (pos 0); x_slope = whole (pos 0); y_slope = whole (pos 0) }

infixl 60 ◌⊟◌
abbrev pub ◌⊟◌ : Jet ℚ → Jet ℚ → Jet ℚ
j ⊟ k = record { height = j.height -ℚ k.height; x_slope = j.x_slope -ℚ k.x_slope; y_slope = j.y_slope -ℚ k.y_slope }

pub ≋-⊟ : {j j' k k' : Jet ℚ} → j ≋ j' → k ≋ k' → j ⊟ k ≋ j' ⊟ k'
≋-⊟ e f = record {
  heights = ≈-- e.heights f.heights;
  x_slopes = ≈-- e.x_slopes f.x_slopes;
  y_slopes = ≈-- e.y_slopes f.y_slopes;
}

pub ≋_minus : {j k : Jet ℚ} → j ≋ k → j ⊟ k ≋ none
unfolding none
≋_minus e = record { heights = ≈_minus e.heights; x_slopes = ≈_minus e.x_slopes; y_slopes = ≈_minus e.y_slopes }

pub ≋_of_minus : {j k : Jet ℚ} → j ⊟ k ≋ none → j ≋ k
unfolding none
≋_of_minus e = record { heights = ≈_of_minus e.heights; x_slopes = ≈_of_minus e.x_slopes; y_slopes = ≈_of_minus e.y_slopes }
