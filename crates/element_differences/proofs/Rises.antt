-- The differences of the cubic along a row: what the code computes for them, how large they are, and that each adds up with the next to the one an offset
-- further on. Assumes nothing.
use mathlib.Core.Path.{◌≡◌, refl, sym, ◌∙◌, subst}
use mathlib.Core.List.{List, [], ◌∷◌}
use Prim.Native.Nat.{ℕ, ◌+◌, ◌^◌, ◌≤◌}
use native.Mathlib.Omega.{arith}
use lib.Dec.{lit≤}
use lib.ListN.{get_or}
use lib.IntN.{ℤ, pos, ◌+ℤ◌, ◌*ℤ◌}
use Rattle.integers.specs.Within.{◌within◌}
use Rattle.integers.proofs.Bounds.{is_within, within_self, within_mono, within-+, within-*}
use Rattle.integers.proofs.Polynomial.{Expr, #◌, ◌⊕◌, ◌⊗◌, ◌⊝◌}
use Rattle.integers.proofs.Solve.{◌≐◌, solve}
use Rattle.element_row_cubic.specs.Row.{at_offset, reach}
use Rattle.element_differences.specs.Differences.{rise, differences, stepped, DifferenceLaws, SumsFit}
use Rattle.element_row_cubic.proofs.Horner.{at_offset_within}

rise_adds : (f : ℕ → ℤ) (a : ℕ) → f a +ℤ rise f a ≡ f (a + 1)
unfolding rise
rise_adds f a = solve 2 (λ x y. x ⊕ (y ⊝ x) ≐ y) tt (f a) (f (a + 1))

-- p + q a + r a² + s a³, and how it rises
abbrev cubic : Expr → Expr → Expr → Expr → Expr → Expr
cubic p q r s a = p ⊕ q ⊗ a ⊕ r ⊗ (a ⊗ a) ⊕ s ⊗ (a ⊗ a ⊗ a)

abbrev rises : (Expr → Expr) → Expr → Expr
rises f a = f (a ⊕ # 1) ⊝ f a

module _ (p : List ℤ) where
  abbrev coefficient : ℕ → ℤ
  coefficient i = get_or p i (pos 0)

  module _ (a : ℕ) where
    abbrev first : ℤ
    first = coefficient 1 +ℤ coefficient 2 *ℤ (pos a +ℤ (pos a +ℤ pos 1)) +ℤ coefficient 3 *ℤ (pos 3 *ℤ pos a *ℤ (pos a +ℤ pos 1) +ℤ pos 1)

    abbrev second : ℤ
    second = pos 2 *ℤ coefficient 2 +ℤ pos 6 *ℤ coefficient 3 *ℤ (pos a +ℤ pos 1)

    pub first_is : first ≡ rise (at_offset p) a
    unfolding at_offset rise
    first_is = solve 5 (λ a p q r s. q ⊕ r ⊗ (a ⊕ (a ⊕ # 1)) ⊕ s ⊗ (# 3 ⊗ a ⊗ (a ⊕ # 1) ⊕ # 1) ≐ rises (cubic p q r s) a) tt
        (pos a) (coefficient 0) (coefficient 1) (coefficient 2) (coefficient 3)

    pub second_is : second ≡ rise (rise (at_offset p)) a
    unfolding at_offset rise
    second_is = solve 5 (λ a p q r s. # 2 ⊗ r ⊕ # 6 ⊗ s ⊗ (a ⊕ # 1) ≐ rises (rises (cubic p q r s)) a) tt
        (pos a) (coefficient 0) (coefficient 1) (coefficient 2) (coefficient 3)

    pub third_is : pos 6 *ℤ coefficient 3 ≡ rise (rise (rise (at_offset p))) a
    unfolding at_offset rise
    third_is = solve 5 (λ a p q r s. # 6 ⊗ s ≐ rises (rises (rises (cubic p q r s))) a) tt
        (pos a) (coefficient 0) (coefficient 1) (coefficient 2) (coefficient 3)

  -- the third difference is the same everywhere
  third_same : (a b : ℕ) → rise (rise (rise (at_offset p))) a ≡ rise (rise (rise (at_offset p))) b
  third_same a b = sym (third_is a) ∙ third_is b

  -- so differences step to differences
  pub steps_on : (a : ℕ) → stepped (differences p a) ≡ differences p (a + 1)
  unfolding stepped differences
  steps_on a = let f = at_offset p in λ i. rise_adds f a i ∷ rise_adds (rise f) a i ∷ rise_adds (rise (rise f)) a i ∷ third_same a (a + 1) i ∷ []

  -- the reach leaves to each power of the offset its share
  module _ (r : reach p ≤ 2 ^ 62) where
    pub linear : coefficient 1 within (2 ^ 56)
    unfolding reach
    linear = is_within (coefficient 1) (omega (arith, r))

    pub quadratic : coefficient 2 within (2 ^ 50)
    unfolding reach
    quadratic = is_within (coefficient 2) (omega (arith, r))

    pub leading : coefficient 3 within (2 ^ 44)
    unfolding reach
    leading = is_within (coefficient 3) (omega (arith, r))

    module _ {a : ℕ} (u : a ≤ 64) where
      here : pos a within 64
      here = is_within (pos a) u

      next : (pos a +ℤ pos 1) within 65
      next = within-+ here (within_self (pos 1))

      -- so the differences are small beside the value
      pub may_step : SumsFit (differences p a)
      unfolding differences
      may_step = record {
        value = within_mono (at_offset_within p r u) (lit≤ tt);
        first = subst (λ z. z within (2 ^ 60)) (first_is a)
            (within_mono (within-+ (within-+ linear (within-* quadratic (within-+ here next)))
            (within-* leading (within-+ (within-* (within-* (within_self (pos 3)) here) next) (within_self (pos 1))))) (lit≤ tt));
        second = subst (λ z. z within (2 ^ 60)) (second_is a)
            (within_mono (within-+ (within-* (within_self (pos 2)) quadratic) (within-* (within-* (within_self (pos 6)) leading) next)) (lit≤ tt));
        third = subst (λ z. z within (2 ^ 60)) (third_is a) (within_mono (within-* (within_self (pos 6)) leading) (lit≤ tt));
      }

pub difference_laws : DifferenceLaws
unfolding differences
difference_laws = record { values = λ p a. refl; steps = steps_on }
