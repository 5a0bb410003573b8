-- When filling slopes is refused: as its sheet is, then by 12, then by 13; and what it leaves then, and otherwise. Assumes nothing.
use Prim.Native.Nat.{ℕ, ◌≤◌}
use mathlib.Core.Path.{◌≡◌, refl, sym, ◌∙◌}
use mathlib.Core.List.{List}
use mathlib.Core.Bool.{false, cond}
use borrow.Author.Tests.{eq-eqb, ne_eqb}
use Rattle.sheet_calls.specs.Rules.{first_refusal}
use Rattle.sheet_calls.specs.Refusals.{Accepted, sheet_refusal}
use Rattle.sheet_calls.proofs.Rules.{or_else}
use Rattle.sheet_calls.proofs.Chains.{sheet_append, cond_zero, not_given, behind_sheet, sheet_taken}
use Rattle.sheet_assembly.specs.Assembled.{assembled}
use Rattle.sheet_slopes.specs.Slopes.{filled_bytes, too_stiff, some_too_steep, slope_rules, slope_refusal, with_slopes}
use Rattle.sheet_slopes.proofs.Conditions.{twelve}

pub slope_is : (s : List ℕ) (t : ℕ) → slope_refusal s t ≡ or_else (sheet_refusal s) (cond (too_stiff t) 12 (cond (some_too_steep s t) 13 0))
unfolding slope_refusal slope_rules first_refusal
slope_is s t = sheet_append _ _ _

pub slope_held : (s : List ℕ) (t : ℕ) → slope_refusal s t ≡ 0 → Accepted s × (t ≤ 64) × (some_too_steep s t ≡ false)
slope_held s t e =
    let h = behind_sheet (sym (slope_is s t) ∙ e) in
    let p = cond_zero (too_stiff t) 11 _ h.1 in
    (h.0, (twelve t).0 p.0, not_given (some_too_steep s t) 12 p.1)

pub slope_taken : {s : List ℕ} {t : ℕ} → Accepted s → t ≤ 64 → some_too_steep s t ≡ false → slope_refusal s t ≡ 0
slope_taken {s} {t} a h e = slope_is s t ∙ sheet_taken a ∙ rw ((twelve t).1 h, e) refl

-- ---- filled or refused

pub set_is : (s : List ℕ) (t : ℕ) → slope_refusal s t ≡ 0 → with_slopes s t ≡ assembled s (filled_bytes s t)
unfolding with_slopes
set_is s t e = rw (eq-eqb _ _ e) refl

pub refused_is : (s : List ℕ) (t : ℕ) → ¬ (slope_refusal s t ≡ 0) → with_slopes s t ≡ s
unfolding with_slopes
refused_is s t e = rw (ne_eqb _ _ e) refl
