-- 02's #101, from the laws of slopes that are filled from heights. Assumes nothing.
use Prim.Native.Nat.{ℕ, suc, ◌+◌, ◌*◌, ◌-◌, ◌≤◌, ◌<◌}
use mathlib.Core.Path.{◌≡◌, sym, ◌∙◌, ap}
use mathlib.Core.List.{List, [], ◌∷◌}
use native.Mathlib.Omega.{arith}
use lib.IntN.{ℤ, pos, ◌-ℤ◌, ◌*ℤ◌}
use Rattle.integers.specs.Round.{round}
use Rattle.integers.proofs.Polynomial.{#◌, ◌⊗◌, ◌⊝◌}
use Rattle.integers.proofs.Solve.{◌≐◌}
use Rattle.integers.proofs.Deduce.{◌·◌, ◌⊨◌, deduce}
use Rattle.element_sibson.specs.Fraction.{Positive, positive, ℚ, ◌·ℚ◌, ◌÷◌, whole}
use Rattle.element_readings.specs.Reading.{rounded}
use Rattle.sheet_layout.specs.Format.{columns, rows, line_x, line_y, node_at, height_at, slope_x_at, slope_y_at, grains_per_step}
use Rattle.sheet_calls.specs.Refusals.{Accepted}
use Rattle.sheet_calls.specs.WellFormed.{Rising, WellFormed}
use Rattle.sheet_calls.proofs.WellFormed.{accepted_laws}
use Rattle.sheet_layout.specs.Neighbours.{previous, next}
use Rattle.sheet_layout.proofs.NeighbourLaws.{neighbour_laws, last_is}
use Rattle.sheet_slopes.specs.Slopes.{rise, distance, SameHeights, slope_along, filled_x, filled_y, slope_refusal, with_slopes}
use Rattle.sheet_slopes.specs.SlopeLaws.{Filled}
use Rattle.sheet_slopes.proofs.Chain.{slope_held}
use Rattle.sheet_slopes.proofs.Laws.{slope_laws}
use Rattle.surface_answers.specs.Answers.{outcome, answered}
use Rattle.surface_answers.specs.declared.Answer.{Answer}
use Rattle.surface_of_sheet.proofs.AtNodes.{at_nodes}
use Rattle.light_sheet_demands.specs.CallRecords.{FillSlopes, Read}
use Rattle.light_sheet_demands.specs.Demands.{given}
use Rattle.light_sheet_demands.specs.Slopes.{FromHeights, Evenly, SlopeFilling}
use Rattle.light_sheet_demands.proofs.KeptHeights.{kept}
use Rattle.light_sheet_demands.proofs.Values.{outcome_is}

-- ---- along an axis

-- the quotient of whole numbers is the fraction
quotient_is : (k : ℕ) (z : ℤ) (d : Positive) {n : ℕ} → n ≡ d.number → round (pos k *ℤ z) n ≡ rounded (pos k ·ℚ whole z ÷ d)
unfolding rounded
quotient_is k z d e = ap (round (pos k *ℤ z)) (omega (arith, e))

module _ (k n : ℕ) (line : ℕ → ℕ) (height slope : ℕ → ℤ) (two : 2 ≤ n)
    (are : (i : ℕ) → i < n → slope i ≡ round (pos k *ℤ rise n height i) (distance n line i)) where
  -- of the node i with a before it and b after it
  between : (i a b : ℕ) (d : Positive) → i < n → previous i ≡ a → next n i ≡ b → line b ≡ line a + d.number
      → slope i ≡ rounded (pos k ·ℚ whole (height b -ℤ height a) ÷ d)
  unfolding rise distance
  between i a b d l before after e =
      are i l ∙ rw (before, after) (quotient_is k (height b -ℤ height a) d (omega (arith, e)))

  from_heights : FromHeights k n line height slope
  from_heights = record {
    inner = λ i d l e. between (suc i) i (suc (suc i)) d (omega arith) (neighbour_laws.before i) (neighbour_laws.after n (suc i) l) e;
    first = λ d e. between 0 0 1 d (omega arith) neighbour_laws.first (neighbour_laws.after n 0 two) e;
    last = λ i d m e. between (suc i) i (suc i) d (omega arith) (neighbour_laws.before i) (last_is n (suc i) (omega arith)) e;
  }

-- heights that rise evenly in steps do so in grains
module _ (k n : ℕ) (line : ℕ → ℕ) (stored : ℕ → ℤ) (ρ : ℚ) (two : 2 ≤ n) (rising : Rising line n) (evenly : Evenly ρ n line stored) where
  even_along : (i : ℕ) → i < n → slope_along k n line (λ m. grains_per_step *ℤ stored m) i ≡ rounded (pos k ·ℚ ρ)
  unfolding rounded
  even_along = slope_laws.even k n line _ ρ.numerator ρ.denominator.number ρ.denominator.above two rising grains
    where
      grains : (i : ℕ) → suc i < n → pos ρ.denominator.number *ℤ (grains_per_step *ℤ stored (suc i) -ℤ grains_per_step *ℤ stored i)
          ≡ grains_per_step *ℤ (ρ.numerator *ℤ pos (line (suc i) - line i))
      grains i l =
          let d = line (suc i) - line i in
          let e = (evenly i d l (omega (arith, rising.rises i l))).crossed in
          deduce 5 (λ h g d a b. (# 64 · ((h ⊝ g) ⊗ b ≐ d ⊗ a ⊗ # 1)) ∷ [] ⊨ b ⊗ (# 64 ⊗ h ⊝ # 64 ⊗ g) ≐ # 64 ⊗ (a ⊗ d)) tt
          (stored (suc i)) (stored i) (pos d) ρ.numerator (pos ρ.denominator.number) e

-- ---- of an accepted sheet

formed : {s : List ℕ} → Accepted s → WellFormed s
formed {s} a = accepted_laws.sound s a

module _ {s : List ℕ} {k : ℕ} (a : Accepted s) where
  would_x_lem : (j : ℕ) → j < rows s → FromHeights k (columns s) (line_x s) (λ i. (node_at s i j).stored_height) (λ i. filled_x s k i j)
  would_x_lem j l = from_heights k (columns s) (line_x s) _ _ (formed a).few_columns (λ i. slope_laws.steps_x s k i j a)

  would_y_lem : (i : ℕ) → i < columns s → FromHeights k (rows s) (line_y s) (λ j. (node_at s i j).stored_height) (λ j. filled_y s k i j)
  would_y_lem i l = from_heights k (rows s) (line_y s) _ _ (formed a).few_rows (λ j. slope_laws.steps_y s k i j a)

-- ---- of a call that is not refused

module _ {s t : List ℕ} {k : ℕ} (c : FillSlopes s k 0 t) where
  taken : Accepted s
  taken = (slope_held s k (sym c.answer)).0

  left : Filled s k t
  left = rw c.sheet (slope_laws.filled s k (sym c.answer))

  slope_x_lem : (i j : ℕ) → i < columns s → j < rows s → (node_at t i j).slope_x ≡ filled_x s k i j
  slope_x_lem i j h l = ap (λ v. v.slope_x) (left.nodes i j h l)

  slope_y_lem : (i j : ℕ) → i < columns s → j < rows s → (node_at t i j).slope_y ≡ filled_y s k i j
  slope_y_lem i j h l = ap (λ v. v.slope_y) (left.nodes i j h l)

  along_x_lem : (j : ℕ) → j < rows s → FromHeights k (columns s) (line_x s) (λ i. (node_at s i j).stored_height) (λ i. (node_at t i j).slope_x)
  along_x_lem j l =
      from_heights k (columns s) (line_x s) _ _ (formed taken).few_columns (λ i h. slope_x_lem i j h l ∙ slope_laws.steps_x s k i j taken h)

  along_y_lem : (i : ℕ) → i < columns s → FromHeights k (rows s) (line_y s) (λ j. (node_at s i j).stored_height) (λ j. (node_at t i j).slope_y)
  along_y_lem i h =
      from_heights k (rows s) (line_y s) _ _ (formed taken).few_rows (λ j l. slope_y_lem i j h l ∙ slope_laws.steps_y s k i j taken l)

  even_x_lem : (ρ : ℚ) (j : ℕ) → j < rows s → Evenly ρ (columns s) (line_x s) (λ i. (node_at s i j).stored_height) → (i : ℕ) → i < columns s →
      (node_at t i j).slope_x ≡ rounded (pos k ·ℚ ρ)
  unfolding filled_x height_at
  even_x_lem ρ j l e i h =
      slope_x_lem i j h l ∙ even_along k (columns s) (line_x s) (λ i. (node_at s i j).stored_height) ρ (formed taken).few_columns (formed taken).rising_x e i h

  even_y_lem : (ρ : ℚ) (i : ℕ) → i < columns s → Evenly ρ (rows s) (line_y s) (λ j. (node_at s i j).stored_height) → (j : ℕ) → j < rows s →
      (node_at t i j).slope_y ≡ rounded (pos k ·ℚ ρ)
  unfolding filled_y height_at
  even_y_lem ρ i h e j l =
      slope_y_lem i j h l ∙ even_along k (rows s) (line_y s) (λ j. (node_at s i j).stored_height) ρ (formed taken).few_rows (formed taken).rising_y e j l

  -- at a node's pixel
  module _ {t' : List ℕ} {i j : ℕ} {r : Answer} (h : i < columns s) (l : j < rows s) where
    level_there : Read t (line_x s i) (line_y s j) 0 r t' → outcome r ≡ given (positive 64 tt) ((pos 64 *ℤ (node_at s i j).stored_height) ∷ [])
    unfolding answered height_at
    level_there d =
        outcome_is d
        ∙ rw (← left.lines.same_x i h, ← left.lines.same_y j l)
        (at_nodes.read_levels t i j left.accepted (rw left.lines.same_columns h) (rw left.lines.same_rows l))
        ∙ ap (λ v. given (positive 64 tt) ((pos 64 *ℤ v.stored_height) ∷ [])) (left.nodes i j h l)

    tilt_there : Read t (line_x s i) (line_y s j) 1 r t' → outcome r ≡ given (positive 64 tt) ((node_at t i j).slope_x ∷ (node_at t i j).slope_y ∷ [])
    unfolding answered slope_x_at slope_y_at
    tilt_there d =
        outcome_is d
        ∙ rw (← left.lines.same_x i h, ← left.lines.same_y j l)
        (at_nodes.read_tilts t i j left.accepted (rw left.lines.same_columns h) (rw left.lines.same_rows l))

-- ---- of every call

again : {s t t' : List ℕ} {k n n' : ℕ} → FillSlopes s k n t → FillSlopes t k n' t' → (n' ≡ n) × (t' ≡ t)
again {s} {k = k} c d = (
  d.answer ∙ ap (λ u. slope_refusal u k) c.sheet ∙ slope_laws.again s k ∙ sym c.answer,
  d.sheet ∙ ap (λ u. with_slopes u k) c.sheet ∙ slope_laws.twice s k ∙ sym c.sheet,
)

old_slopes_lem : {s s' t t' : List ℕ} {k n n' : ℕ} → Accepted s → Accepted s' → SameHeights s s' → FillSlopes s k n t → FillSlopes s' k n' t' →
    (n' ≡ n) × (n ≡ 0 → t' ≡ t)
old_slopes_lem {s} {s'} {k = k} a b same c d =
    let like = slope_laws.old_slopes s s' k a b same in
    (d.answer ∙ like.0 ∙ sym c.answer, λ z. d.sheet ∙ like.1 (sym c.answer ∙ z) ∙ sym c.sheet)

pub slope_filling : SlopeFilling
slope_filling = record {
  along_x = along_x_lem;
  along_y = along_y_lem;
  apart = λ s a. let w = formed a in (w.few_columns, w.rising_x, w.few_rows, w.rising_y);
  flat = λ c i j h l. (slope_x_lem c i j h l ∙ slope_laws.flat_x _ i j (taken c) h, slope_y_lem c i j h l ∙ slope_laws.flat_y _ i j (taken c) l);
  flat_taken = λ a c. c.answer ∙ slope_laws.flat _ a;
  heights = λ c. (kept c).heights;
  lines = λ c b l. (kept c).front b (omega arith);
  twelve = slope_laws.twelve;
  thirteen = slope_laws.thirteen;
  would_x = would_x_lem;
  would_y = would_y_lem;
  accepted = λ c. (left c).accepted;
  old_slopes = old_slopes_lem;
  twice = again;
  even_x = even_x_lem;
  even_y = even_y_lem;
  levels = λ c h l. level_there c h l;
  tilts = λ c h l. tilt_there c h l;
}
