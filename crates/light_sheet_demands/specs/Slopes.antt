-- 02's request #101, "Slopes from heights alone", sentence by sentence, of whatever `fill_slopes` may give and leave; when it is refused, and which bytes it
-- leaves alone, demand 1 says too. Assumes nothing.
use Rattle.std.specs.Prelude.{ℕ, suc, ◌+◌, ◌≤◌, ◌<◌, ◌≡◌, ◌↔◌, List, [], ◌∷◌, false, ℤ, pos, ◌-ℤ◌, ◌*ℤ◌}
use Rattle.integers.specs.Within.{◌within◌}
use Rattle.element_sibson.specs.Fraction.{Positive, positive, ℚ, ◌≈◌, ◌·ℚ◌, ◌÷◌, whole}
use Rattle.element_readings.specs.Reading.{rounded}
use Rattle.sheet_words.specs.Word.{byte_at}
use Rattle.sheet_layout.specs.Format.{columns, rows, line_x, line_y, node_at}
use Rattle.sheet_calls.specs.Refusals.{Accepted}
use Rattle.sheet_calls.specs.WellFormed.{Rising}
use Rattle.sheet_slopes.specs.Slopes.{filled_x, filled_y, too_stiff, some_too_steep, SameHeights}
use Rattle.surface_answers.specs.Answers.{outcome}
use Rattle.surface_answers.specs.declared.Answer.{Answer}
use Rattle.light_sheet_demands.specs.CallRecords.{FillSlopes, Read}
use Rattle.light_sheet_demands.specs.Demands.{node_start, given}

-- the slopes at the n nodes of a row or a column: k is the stiffness, 02's t; lines are in pixels, heights in steps; d is how far two lines are apart
pub record FromHeights (k n : ℕ) (line : ℕ → ℕ) (height slope : ℕ → ℤ) : Type 0 where
  -- "an inner node gets t × (next height − previous height) / (next x − previous x), rounded as levels are."
  pub inner : (i : ℕ) (d : Positive) → suc (suc i) < n → line (suc (suc i)) ≡ line i + d.number →
      slope (suc i) ≡ rounded (pos k ·ℚ whole (height (suc (suc i)) -ℤ height i) ÷ d)
  -- "An end node uses itself in place of the missing neighbour."
  pub first : (d : Positive) → line 1 ≡ line 0 + d.number → slope 0 ≡ rounded (pos k ·ℚ whole (height 1 -ℤ height 0) ÷ d)
  pub last : (i : ℕ) (d : Positive) → suc (suc i) ≡ n → line (suc i) ≡ line i + d.number →
      slope (suc i) ≡ rounded (pos k ·ℚ whole (height (suc i) -ℤ height i) ÷ d)

-- the heights rise by ρ steps per pixel from each line to the next
abbrev pub Evenly : ℚ → ℕ → (ℕ → ℕ) → (ℕ → ℤ) → Type 0
Evenly ρ n line height = (i d : ℕ) → suc i < n → line (suc i) ≡ line i + d → whole (height (suc i) -ℤ height i) ≈ pos d ·ℚ ρ

pub record SlopeFilling : Type 0 where
  -- "Fill every slope of a lent sheet from its heights. Along x, …" What the call leaves, where it is not refused
  pub along_x : {s t : List ℕ} {k : ℕ} → FillSlopes s k 0 t → (j : ℕ) → j < rows s →
      FromHeights k (columns s) (line_x s) (λ i. (node_at s i j).stored_height) (λ i. (node_at t i j).slope_x)
  -- "Along y it is alike."
  pub along_y : {s t : List ℕ} {k : ℕ} → FillSlopes s k 0 t → (i : ℕ) → i < columns s →
      FromHeights k (rows s) (line_y s) (λ j. (node_at s i j).stored_height) (λ j. (node_at t i j).slope_y)
  -- there are two lines each way or more, and they rise, so that the distances are above 0
  pub apart : (s : List ℕ) → Accepted s → (2 ≤ columns s) × Rising (line_x s) (columns s) × (2 ≤ rows s) × Rising (line_y s) (rows s)
  -- "The stiffness t, an unsigned 32-bit number, runs from 0 to 64 and 0 gives flat slopes."
  pub flat : {s t : List ℕ} → FillSlopes s 0 0 t → (i j : ℕ) → i < columns s → j < rows s → ((node_at t i j).slope_x ≡ pos 0) × ((node_at t i j).slope_y ≡ pos 0)
  pub flat_taken : {s t : List ℕ} {n : ℕ} → Accepted s → FillSlopes s 0 n t → n ≡ 0
  -- "Heights and lines keep their bytes."
  pub heights : {s t : List ℕ} {k n : ℕ} → FillSlopes s k n t → (i j : ℕ) → i < columns s → j < rows s →
      (byte_at t (node_start s i j) ≡ byte_at s (node_start s i j)) × (byte_at t (node_start s i j + 1) ≡ byte_at s (node_start s i j + 1))
  pub lines : {s t : List ℕ} {k n : ℕ} → FillSlopes s k n t → (b : ℕ) → b < node_start s 0 0 → byte_at t b ≡ byte_at s b
  -- "Errors: 12 when t exceeds 64, after 6; 13 when a slope would leave −4,095 to 4,095, after 12." The order is that of `of_slopes`; this is what the two say,
  -- and what the slopes would be
  pub twelve : (k : ℕ) → (too_stiff k ≡ false) ↔ (k ≤ 64)
  pub thirteen : (s : List ℕ) (k : ℕ) → (some_too_steep s k ≡ false)
      ↔ ((j : ℕ) → j < rows s → (i : ℕ) → i < columns s → (filled_x s k i j within 4095) × (filled_y s k i j within 4095))
  pub would_x : {s : List ℕ} {k : ℕ} → Accepted s → (j : ℕ) → j < rows s →
      FromHeights k (columns s) (line_x s) (λ i. (node_at s i j).stored_height) (λ i. filled_x s k i j)
  pub would_y : {s : List ℕ} {k : ℕ} → Accepted s → (i : ℕ) → i < columns s →
      FromHeights k (rows s) (line_y s) (λ j. (node_at s i j).stored_height) (λ j. filled_y s k i j)
  -- what follows: the sheet that is left is accepted, and the old slopes do not matter, so filling twice with one stiffness is filling once
  pub accepted : {s t : List ℕ} {k : ℕ} → FillSlopes s k 0 t → Accepted t
  pub old_slopes : {s s' t t' : List ℕ} {k n n' : ℕ} → Accepted s → Accepted s' → SameHeights s s' → FillSlopes s k n t → FillSlopes s' k n' t' →
      (n' ≡ n) × (n ≡ 0 → t' ≡ t)
  pub twice : {s t t' : List ℕ} {k n n' : ℕ} → FillSlopes s k n t → FillSlopes t k n' t' → (n' ≡ n) × (t' ≡ t)
  -- heights that rise evenly along a row, or a column, give the stiffness times ρ, rounded, at all its nodes, the ends too
  pub even_x : {s t : List ℕ} {k : ℕ} → FillSlopes s k 0 t → (ρ : ℚ) (j : ℕ) → j < rows s → Evenly ρ (columns s) (line_x s) (λ i. (node_at s i j).stored_height) →
      (i : ℕ) → i < columns s → (node_at t i j).slope_x ≡ rounded (pos k ·ℚ ρ)
  pub even_y : {s t : List ℕ} {k : ℕ} → FillSlopes s k 0 t → (ρ : ℚ) (i : ℕ) → i < columns s → Evenly ρ (rows s) (line_y s) (λ j. (node_at s i j).stored_height) →
      (j : ℕ) → j < rows s → (node_at t i j).slope_y ≡ rounded (pos k ·ℚ ρ)
  -- the surface passes through the heights as before, and has the new slopes there
  pub levels : {s t t' : List ℕ} {k i j : ℕ} {r : Answer} → FillSlopes s k 0 t → i < columns s → j < rows s → Read t (line_x s i) (line_y s j) 0 r t' →
      outcome r ≡ given (positive 64 tt) ((pos 64 *ℤ (node_at s i j).stored_height) ∷ [])
  pub tilts : {s t t' : List ℕ} {k i j : ℕ} {r : Answer} → FillSlopes s k 0 t → i < columns s → j < rows s → Read t (line_x s i) (line_y s j) 1 r t' →
      outcome r ≡ given (positive 64 tt) ((node_at t i j).slope_x ∷ (node_at t i j).slope_y ∷ [])
