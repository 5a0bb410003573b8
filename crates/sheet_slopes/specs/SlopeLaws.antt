-- Slopes from heights: what the conditions say, what filling leaves, and how slopes follow heights. Assumes nothing.
use Rattle.std.specs.Prelude.{ℕ, suc, ◌+◌, ◌-◌, ◌≤◌, ◌<◌, ◌≡◌, ◌↔◌, List, [], ◌∷◌, map, false, ℤ, pos, ◌-ℤ◌, ◌*ℤ◌}
use Rattle.integers.specs.Within.{◌within◌}
use Rattle.integers.specs.Round.{round}
use Rattle.sheet_words.specs.Word.{byte_at}
use Rattle.sheet_layout.specs.Format.{columns, rows, line_x, line_y, node, height_size, node_offset, node_at, grains_per_step}
use Rattle.sheet_layout.specs.SameLines.{SameLines}
use Rattle.sheet_calls.specs.Refusals.{Accepted}
use Rattle.sheet_calls.specs.WellFormed.{Rising}
use Rattle.sheet_slopes.specs.Slopes.{SameHeights, rise, distance, slope_along, filled_x, filled_y, too_stiff, some_too_steep, slope_rules, slope_refusal, with_slopes}
use Rattle.sheet_slopes.specs.InPlace.{rows_filled}

-- what filling the slopes of s leaves, r
pub record Filled (s : List ℕ) (t : ℕ) (r : List ℕ) : Type 0 where
  pub accepted : Accepted r
  pub same : SameHeights s r
  pub lines : SameLines s r
  -- each node has its height and the slopes defined
  pub nodes : (i j : ℕ) → i < columns s → j < rows s → node_at r i j ≡ node (node_at s i j).stored_height (filled_x s t i j) (filled_y s t i j)

pub record SlopeLaws : Type 0 where
  -- the numbers that the call looks at, in order, and what the two that are its own say
  pub numbers : map (λ r. r.number) slope_rules ≡ 1 ∷ 2 ∷ 3 ∷ 4 ∷ 5 ∷ 6 ∷ 12 ∷ 13 ∷ []
  pub twelve : (t : ℕ) → (too_stiff t ≡ false) ↔ (t ≤ 64)
  pub thirteen : (s : List ℕ) (t : ℕ) → (some_too_steep s t ≡ false)
      ↔ ((j : ℕ) → j < rows s → (i : ℕ) → i < columns s → (filled_x s t i j within 4095) × (filled_y s t i j within 4095))
  -- on the heights in steps, as 02 has it
  pub steps_x : (s : List ℕ) (t i j : ℕ) → Accepted s → i < columns s → filled_x s t i j
      ≡ round (pos t *ℤ rise (columns s) (λ k. (node_at s k j).stored_height) i) (distance (columns s) (line_x s) i)
  pub steps_y : (s : List ℕ) (t i j : ℕ) → Accepted s → j < rows s → filled_y s t i j
      ≡ round (pos t *ℤ rise (rows s) (λ k. (node_at s i k).stored_height) j) (distance (rows s) (line_y s) j)
  -- what the call leaves
  pub filled : (s : List ℕ) (t : ℕ) → slope_refusal s t ≡ 0 → Filled s t (with_slopes s t)
  pub refused : (s : List ℕ) (t : ℕ) → ¬ (slope_refusal s t ≡ 0) → with_slopes s t ≡ s
  -- it leaves every byte but the last four of each node
  pub beside : (s : List ℕ) (t b : ℕ) → ((i j c : ℕ) → i < columns s → j < rows s → c < 4 → ¬ (b ≡ node_offset s i j + height_size + c)) →
      byte_at (with_slopes s t) b ≡ byte_at s b
  -- it is the same in place, node by node
  pub in_place : (s : List ℕ) (t : ℕ) → slope_refusal s t ≡ 0 → with_slopes s t ≡ rows_filled s t (rows s)
  -- the slopes that are stored do not matter, but that they are in range
  pub old_slopes : (s s' : List ℕ) (t : ℕ) → Accepted s → Accepted s' → SameHeights s s' →
      (slope_refusal s' t ≡ slope_refusal s t) × (slope_refusal s t ≡ 0 → with_slopes s' t ≡ with_slopes s t)
  -- so filling again with the same stiffness changes nothing
  pub again : (s : List ℕ) (t : ℕ) → slope_refusal (with_slopes s t) t ≡ slope_refusal s t
  pub twice : (s : List ℕ) (t : ℕ) → with_slopes (with_slopes s t) t ≡ with_slopes s t
  -- stiffness 0 gives slopes 0, and no accepted sheet is refused then
  pub flat : (s : List ℕ) → Accepted s → slope_refusal s 0 ≡ 0
  pub flat_x : (s : List ℕ) (i j : ℕ) → Accepted s → i < columns s → filled_x s 0 i j ≡ pos 0
  pub flat_y : (s : List ℕ) (i j : ℕ) → Accepted s → j < rows s → filled_y s 0 i j ≡ pos 0
  -- heights that rise evenly along an axis, by a / b steps per pixel from each line to the next, give t a / b, rounded, at every node, the ends too
  pub even : (t n : ℕ) (line : ℕ → ℕ) (height : ℕ → ℤ) (a : ℤ) (b : ℕ) → 0 < b → 2 ≤ n → Rising line n →
      ((k : ℕ) → suc k < n → pos b *ℤ (height (suc k) -ℤ height k) ≡ grains_per_step *ℤ (a *ℤ pos (line (suc k) - line k))) →
      (k : ℕ) → k < n → slope_along t n line height k ≡ round (pos t *ℤ a) b
