-- A reading's floats are exact, a zero is +0, their bits say them, and levels lie strictly between −2²⁰ and 2²⁰. Assumes nothing.
use Prim.Native.Nat.{ℕ, ◌+◌, ◌^◌, ◌<◌}
use mathlib.Core.Path.{◌≡◌, sym}
use mathlib.Core.List.{List, [], ◌∷◌}
use native.Mathlib.Decide.{ℕ_discrete}
use native.Mathlib.Omega.{arith}
use lib.Dec.{lit<}
use lib.IntN.{ℤ, pos, nat_abs}
use lib.ListN.{length, get_or}
use lib.Ieee.{binary64, of_bits, to_bits}
use Rattle.integers.proofs.Polynomial.{#◌, ◌⊗◌, ⊖◌}
use Rattle.integers.proofs.Solve.{◌≐◌, ◌≼◌, ◌≺◌}
use Rattle.integers.proofs.Deduce.{◌·◌, ◌⊨◌, deduce}
use Rattle.integers.proofs.Order.{*ℤ_cancel_r}
use Rattle.integers.proofs.Bounds.{is_within, within_lower, within_upper}
use Rattle.element_sibson.specs.Fraction.{positive, whole, ◌÷◌}
use Rattle.sheet_calls.specs.Refusals.{Accepted}
use Rattle.sheet_calls.specs.WellFormed.{Inside}
use Rattle.surface_answers.specs.Answers.{outcome, Every, divisor, quotient, answered, FitsFloat}
use Rattle.surface_answers.specs.AnswerLaws.{◌is◌}
use Rattle.surface_answers.specs.declared.Answer.{Answer}
use Rattle.surface_answers.proofs.Floats.{quotient_bits}
use Rattle.surface_answers.proofs.Quotients.{quotient_laws}
use Rattle.surface_of_sheet.specs.Surface.{level}
use Rattle.surface_of_sheet.specs.Read.{numbers}
use Rattle.surface_of_sheet.proofs.Answered.{taken_is}
use Rattle.surface_of_sheet.proofs.Runs.{run_laws}
use Rattle.surface_of_sheet.proofs.EachValue.{each_value}
use Rattle.surface_of_sheet.proofs.Sizes.{level_below, small_level}
use Rattle.light_sheet_demands.specs.CallRecords.{Read, FillRun}
use Rattle.light_sheet_demands.specs.Demands.{Lossless, LevelSized}
use Rattle.light_sheet_demands.proofs.Readings.{no_values_lem, taken, pixel_held}

lossless : (kind : ℕ) (z : ℤ) → FitsFloat z → Lossless (divisor kind) (quotient (divisor kind) z)
lossless kind z h = record { number = z; exact = quotient_laws.exact kind z h; zero = λ e. rw e (quotient_laws.zero kind) }

sized : (z : ℤ) → nat_abs z < 2 ^ 20 → LevelSized z
sized z h =
    let w = is_within z {N = 1048575} (omega (arith, h)) in (
      deduce 1 (λ z. (# 1 · (⊖ # 1048575 ≼ z)) ∷ [] ⊨ ⊖ # 1048576 ≺ z) tt z (within_lower w),
      deduce 1 (λ z. (# 1 · (z ≼ # 1048575)) ∷ [] ⊨ z ≺ # 1048576) tt z (within_upper w),
    )

-- a whole number that over 64 is the float of a level is the level
pub level_of_float : (w z : ℤ) → FitsFloat w → quotient (positive 64 tt) w is whole z ÷ positive 64 tt → w ≡ z
level_of_float w z h e =
    let c = (quotient_laws.times 0 w h (whole z ÷ positive 64 tt) e).crossed in
    *ℤ_cancel_r 64 (lit< tt) (deduce 2 (λ w z. (⊖ # 1 · (# 64 ⊗ z ⊗ # 1 ≐ w ⊗ (# 1 ⊗ # 64))) ∷ [] ⊨ w ⊗ # 64 ≐ z ⊗ # 64) tt w z c)

module _ {s t : List ℕ} {x y kind : ℕ} {r : Answer} (c : Read s x y kind r t) where
  pub floats_are : Every (Lossless (divisor kind)) (outcome r).values
  floats_are = rw c.values (each_value (Lossless (divisor kind)) s x y kind (lossless kind))

  pub patterns_are : Every (λ v. of_bits binary64 (to_bits binary64 v) ≡ v) (outcome r).values
  patterns_are = rw c.values (each_value (λ v. of_bits binary64 (to_bits binary64 v) ≡ v) s x y kind (λ z h. quotient_bits (divisor kind) z))

pub read_level_sized : {s t : List ℕ} {x y : ℕ} {r : Answer} → Read s x y 0 r t →
    Every (λ v. (z : ℤ) → v is whole z ÷ positive 64 tt → LevelSized z) (outcome r).values
unfolding answered numbers
read_level_sized {s} {t} {x} {y} {r} c = elim (ℕ_discrete (outcome r).number 0) [
  | yes z ↦ rw (c.values, taken_is s x y 0 (taken c z)) (λ w e. at_pixel (pixel_held c z).accepted (pixel_held c z).inside w e, tt)
  | no h ↦ rw (no_values_lem c h) tt
]
  where
    at_pixel : Accepted s → Inside s x y → (w : ℤ) → quotient (positive 64 tt) (level s x y) is whole w ÷ positive 64 tt → LevelSized w
    at_pixel a i w e = rw (← level_of_float (level s x y) w (small_level s x y a i) e) (sized (level s x y) (level_below s x y a i))

pub run_level_sized : {s t : List ℕ} {x y : ℕ} {row row' : List ℤ} → FillRun s x y row 0 row' t → (k : ℕ) → k < length row → LevelSized (get_or row' k (pos 0))
run_level_sized {s} {t} {x} {y} {row} c k l =
    let e = sym c.answer in
    rw (c.levels, run_laws.levels s x y row e k l)
    (sized (level s (x + k) y) (level_below s (x + k) y (run_laws.accepted s x y (length row) e) (run_laws.inside s x y (length row) e k l)))
