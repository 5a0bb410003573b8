-- Slopes from heights alone (02, #101): the slope that a stiffness gives at each node, when the call is refused, and what it leaves. Assumes nothing.
use Rattle.std.specs.Prelude.{ℕ, ◌+◌, ◌*◌, ◌-◌, ◌<◌, ◌≡◌, List, [], ◌∷◌, ◌++◌, Bool, cond, not, ◌||◌, ltb, eqb, length, ℤ, pos, nat_abs, ◌-ℤ◌, ◌*ℤ◌}
use Rattle.integers.specs.Round.{round}
use Rattle.sheet_words.specs.Word.{byte_at}
use Rattle.sheet_layout.specs.Some.{some}
use Rattle.sheet_layout.specs.Neighbours.{previous, next}
use Rattle.sheet_layout.specs.Format.{columns, rows, line_x, line_y, slope_bytes, slope_in, nodes_offset, node_offset, height_bytes, grains_per_step, height_at}
use Rattle.sheet_calls.specs.Rules.{Rule, rule, first_refusal}
use Rattle.sheet_calls.specs.Refusals.{sheet_rules}
use Rattle.sheet_assembly.specs.Assembled.{assembled}

-- ---- a slope along an axis: n nodes on n lines, k one of them, t the stiffness

-- next height − previous height, in grains
unfoldable pub rise : ℕ → (ℕ → ℤ) → ℕ → ℤ
rise n height k = height (next n k) -ℤ height (previous k)

-- next position − previous position
unfoldable pub distance : ℕ → (ℕ → ℕ) → ℕ → ℕ
distance n line k = line (next n k) - line (previous k)

-- t × rise in steps / distance, rounded as levels are; the rise is in grains, so it is divided by those of a step too
unfoldable pub slope_along : ℕ → ℕ → (ℕ → ℕ) → (ℕ → ℤ) → ℕ → ℤ
slope_along t n line height k = round (pos t *ℤ rise n height k) (nat_abs grains_per_step * distance n line k)

-- ---- the slopes of a sheet

-- those of the node at column i and row j: along its row, and along its column
unfoldable pub filled_x : List ℕ → ℕ → ℕ → ℕ → ℤ
filled_x s t i j = slope_along t (columns s) (line_x s) (λ k. height_at s k j) i

unfoldable pub filled_y : List ℕ → ℕ → ℕ → ℕ → ℤ
filled_y s t i j = slope_along t (rows s) (line_y s) (λ k. height_at s i k) j

-- the node's bytes: those of its height as they are, then the slopes
unfoldable pub filled_bytes : List ℕ → ℕ → ℕ → ℕ → List ℕ
filled_bytes s t i j = height_bytes s i j ++ slope_bytes (filled_x s t i j) (filled_y s t i j)

-- ---- when the call is refused

-- 12: t exceeds 64
unfoldable pub too_stiff : ℕ → Bool
too_stiff t = ltb 64 t

-- 13: a slope would leave −4,095 to 4,095
unfoldable pub too_steep : List ℕ → ℕ → ℕ → ℕ → Bool
too_steep s t i j = not (slope_in (filled_x s t i j)) || not (slope_in (filled_y s t i j))

unfoldable pub some_too_steep : List ℕ → ℕ → Bool
some_too_steep s t = some (λ j. some (λ i. too_steep s t i j) (columns s)) (rows s)

-- what the call is given, its rules in the order of looking, and the number that refuses it, or 0
pub record SlopeInput : Type 0 where
  pub sheet : List ℕ
  pub stiffness : ℕ

unfoldable pub slope_rules : List (Rule SlopeInput)
slope_rules = sheet_rules (λ u. u.sheet) ++ rule 12 (λ u. too_stiff u.stiffness) ∷ rule 13 (λ u. some_too_steep u.sheet u.stiffness) ∷ []

unfoldable pub slope_refusal : List ℕ → ℕ → ℕ
slope_refusal s t = first_refusal slope_rules (record { sheet = s; stiffness = t })

-- ---- what it leaves

-- s with every slope filled, or, refused, as it was
unfoldable pub with_slopes : List ℕ → ℕ → List ℕ
with_slopes s t = cond (eqb (slope_refusal s t) 0) (assembled s (filled_bytes s t)) s

-- ---- sheets that differ in their slopes alone

-- r has the length of s, its bytes before the nodes and the two bytes of each height
pub record SameHeights (s r : List ℕ) : Type 0 where
  pub size : length r ≡ length s
  pub front : (k : ℕ) → k < nodes_offset s → byte_at r k ≡ byte_at s k
  pub heights : (i j : ℕ) → i < columns s → j < rows s → (byte_at r (node_offset s i j) ≡ byte_at s (node_offset s i j))
      × (byte_at r (node_offset s i j + 1) ≡ byte_at s (node_offset s i j + 1))
