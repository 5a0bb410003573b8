-- The slopes as quotients: on heights in steps, with stiffness 0, and of heights that rise evenly. Along an axis first, then of a sheet. Assumes nothing.
use Prim.Native.Nat.{ℕ, zero, suc, ◌+◌, ◌*◌, ◌-◌, ◌≤◌, ◌<◌}
use mathlib.Core.Path.{◌≡◌, refl, sym, ◌∙◌, ap, ap₂}
use mathlib.Core.Logic.{◌↔◌}
use mathlib.Core.List.{List, [], ◌∷◌}
use native.Mathlib.Nat.{mul_comm}
use native.Mathlib.Omega.{arith}
use lib.Dec.{lit<}
use lib.IntN.{ℤ, pos, ◌-ℤ◌, ◌*ℤ◌}
use Rattle.integers.specs.Round.{round}
use Rattle.integers.specs.Within.{◌within◌}
use Rattle.integers.proofs.Polynomial.{#◌, ◌⊕◌, ◌⊗◌, ◌⊝◌, ⊖◌}
use Rattle.integers.proofs.Solve.{◌≐◌, solve}
use Rattle.integers.proofs.Deduce.{◌·◌, ◌⊨◌, deduce}
use Rattle.integers.proofs.Bounds.{is_within}
use Rattle.integers.proofs.Rounding.{rounding_laws}
use Rattle.sheet_layout.specs.Format.{columns, rows, line_x, line_y, node_at, grains_per_step, height_at}
use Rattle.sheet_calls.specs.Refusals.{Accepted}
use Rattle.sheet_calls.specs.WellFormed.{Rising}
use Rattle.sheet_calls.proofs.WellFormed.{accepted_laws}
use Rattle.sheet_layout.specs.Neighbours.{previous, next}
use Rattle.sheet_layout.proofs.NeighbourLaws.{previous-≤, next-<}
use Rattle.sheet_slopes.specs.Slopes.{rise, distance, slope_along, filled_x, filled_y, slope_refusal}
use Rattle.sheet_slopes.proofs.Neighbours.{lines_apart, distance_above}
use Rattle.sheet_slopes.proofs.Conditions.{thirteen}
use Rattle.sheet_slopes.proofs.Chain.{slope_taken}

-- ---- along an axis

-- of heights in steps: 64 cancels
steps_along : (t n : ℕ) (line : ℕ → ℕ) (stored : ℕ → ℤ) (k : ℕ) → 0 < distance n line k
    → slope_along t n line (λ m. grains_per_step *ℤ stored m) k ≡ round (pos t *ℤ rise n stored k) (distance n line k)
unfolding slope_along rise
steps_along t n line stored k p =
    ap₂ round
    (solve 3 (λ t h g. t ⊗ (# 64 ⊗ h ⊝ # 64 ⊗ g) ≐ t ⊗ (h ⊝ g) ⊗ # 64) tt (pos t) (stored (next n k)) (stored (previous k)))
    (mul_comm 64 (distance n line k))
    ∙ rounding_laws.cancels (pos t *ℤ (stored (next n k) -ℤ stored (previous k))) (distance n line k) p 64 (lit< tt)

flat_along : (n : ℕ) (line : ℕ → ℕ) (height : ℕ → ℤ) (k : ℕ) → 0 < distance n line k → slope_along 0 n line height k ≡ pos 0
unfolding slope_along rise
flat_along n line height k p =
    let d = 64 * distance n line k in
    ap (λ z. round z d) (solve 2 (λ h d. # 0 ⊗ h ≐ # 0 ⊗ d) tt (height (next n k) -ℤ height (previous k)) (pos d))
    ∙ rounding_laws.whole (pos 0) d (omega arith)

-- heights that rise evenly: b height − 64 a line is the same at each line
module _ (n : ℕ) (line : ℕ → ℕ) (height : ℕ → ℤ) (a : ℤ) (b : ℕ) (two : 2 ≤ n) (rising : Rising line n)
    (evenly : (k : ℕ) → suc k < n → pos b *ℤ (height (suc k) -ℤ height k) ≡ grains_per_step *ℤ (a *ℤ pos (line (suc k) - line k))) where
  abbrev level : ℕ → ℤ
  level k = pos b *ℤ height k -ℤ grains_per_step *ℤ (a *ℤ pos (line k))

  same_level : (i k : ℕ) → line i < line k → (pos b *ℤ (height k -ℤ height i) ≡ grains_per_step *ℤ (a *ℤ pos (line k - line i))) ↔ (level k ≡ level i)
  same_level i k up =
      let gap : pos (line k) ≡ pos (line i + (line k - line i)) = ap pos (omega arith) in (
        λ e. deduce 7 (λ b h g a y x d. (# 1 · (b ⊗ (h ⊝ g) ≐ # 64 ⊗ (a ⊗ d))) ∷ (⊖ (# 64 ⊗ a) · (y ≐ x ⊕ d)) ∷ []
            ⊨ b ⊗ h ⊝ # 64 ⊗ (a ⊗ y) ≐ b ⊗ g ⊝ # 64 ⊗ (a ⊗ x)) tt
            (pos b) (height k) (height i) a (pos (line k)) (pos (line i)) (pos (line k - line i)) e gap,
        λ e. deduce 7 (λ b h g a y x d. (# 1 · (b ⊗ h ⊝ # 64 ⊗ (a ⊗ y) ≐ b ⊗ g ⊝ # 64 ⊗ (a ⊗ x))) ∷ (# 64 ⊗ a · (y ≐ x ⊕ d)) ∷ []
            ⊨ b ⊗ (h ⊝ g) ≐ # 64 ⊗ (a ⊗ d)) tt
            (pos b) (height k) (height i) a (pos (line k)) (pos (line i)) (pos (line k - line i)) e gap,
      )

  stays : (k : ℕ) → k < n → level k ≡ level 0
  stays zero l = refl
  stays (suc k) l = (same_level k (suc k) (rising.rises k l)).0 (evenly k l) ∙ stays k (omega arith)

  -- so they rise evenly from the node before to the node after
  evenly_across : (k : ℕ) → k < n → pos b *ℤ (height (next n k) -ℤ height (previous k)) ≡ grains_per_step *ℤ (a *ℤ pos (distance n line k))
  unfolding distance
  evenly_across k l =
      (same_level (previous k) (next n k) (lines_apart n two rising k l)).1
      (stays (next n k) (next-< n k l) ∙ sym (stays (previous k) (omega (arith, previous-≤ k))))

-- t Δ / 64 d = t Δ b / 64 d b = t a 64 d / b 64 d = t a / b
pub even : (t n : ℕ) (line : ℕ → ℕ) (height : ℕ → ℤ) (a : ℤ) (b : ℕ) → 0 < b → 2 ≤ n → Rising line n →
    ((k : ℕ) → suc k < n → pos b *ℤ (height (suc k) -ℤ height k) ≡ grains_per_step *ℤ (a *ℤ pos (line (suc k) - line k))) →
    (k : ℕ) → k < n → slope_along t n line height k ≡ round (pos t *ℤ a) b
unfolding slope_along rise
even t n line height a b p two rising evenly k l =
    let d = distance n line k in
    let change = height (next n k) -ℤ height (previous k) in
    let above : 0 < 64 * d = omega (arith, distance_above n two rising k l) in
    sym (rounding_laws.cancels (pos t *ℤ change) (64 * d) above b p)
    ∙ ap₂ round
    (deduce 5 (λ t c b a d. (t · (b ⊗ c ≐ # 64 ⊗ (a ⊗ d))) ∷ [] ⊨ t ⊗ c ⊗ b ≐ t ⊗ a ⊗ (# 64 ⊗ d)) tt
    (pos t) change (pos b) a (pos d) (evenly_across n line height a b two rising evenly k l))
    (mul_comm (64 * d) b)
    ∙ rounding_laws.cancels (pos t *ℤ a) b p (64 * d) above

-- ---- of a sheet

module _ {s : List ℕ} (accepted : Accepted s) where
  across_x : (i : ℕ) → i < columns s → 0 < distance (columns s) (line_x s) i
  across_x = let w = accepted_laws.sound s accepted in distance_above (columns s) w.few_columns w.rising_x

  across_y : (j : ℕ) → j < rows s → 0 < distance (rows s) (line_y s) j
  across_y = let w = accepted_laws.sound s accepted in distance_above (rows s) w.few_rows w.rising_y

pub steps_x_lem : (s : List ℕ) (t i j : ℕ) → Accepted s → i < columns s → filled_x s t i j
    ≡ round (pos t *ℤ rise (columns s) (λ k. (node_at s k j).stored_height) i) (distance (columns s) (line_x s) i)
unfolding filled_x height_at
steps_x_lem s t i j accepted l = steps_along t (columns s) (line_x s) (λ k. (node_at s k j).stored_height) i (across_x accepted i l)

pub steps_y_lem : (s : List ℕ) (t i j : ℕ) → Accepted s → j < rows s → filled_y s t i j
    ≡ round (pos t *ℤ rise (rows s) (λ k. (node_at s i k).stored_height) j) (distance (rows s) (line_y s) j)
unfolding filled_y height_at
steps_y_lem s t i j accepted l = steps_along t (rows s) (line_y s) (λ k. (node_at s i k).stored_height) j (across_y accepted j l)

pub flat_x_lem : (s : List ℕ) (i j : ℕ) → Accepted s → i < columns s → filled_x s 0 i j ≡ pos 0
unfolding filled_x
flat_x_lem s i j accepted l = flat_along (columns s) (line_x s) (λ k. height_at s k j) i (across_x accepted i l)

pub flat_y_lem : (s : List ℕ) (i j : ℕ) → Accepted s → j < rows s → filled_y s 0 i j ≡ pos 0
unfolding filled_y
flat_y_lem s i j accepted l = flat_along (rows s) (line_y s) (λ k. height_at s i k) j (across_y accepted j l)

-- ---- stiffness 0 is not refused

none_in_range : {z : ℤ} → z ≡ pos 0 → z within 4095
none_in_range e = rw e (is_within (pos 0) (omega arith))

pub flat : (s : List ℕ) → Accepted s → slope_refusal s 0 ≡ 0
flat s accepted =
    slope_taken accepted (omega arith)
    ((thirteen s 0).1 (λ j k i l. (none_in_range (flat_x_lem s i j accepted l), none_in_range (flat_y_lem s i j accepted k))))
