-- What refuses a pixel: the refusal of its sheet, then 7; and it stands first in those of calls at a pixel. Assumes nothing.
use Rattle.std.proofs.Common.{◌≡◌, ℕ, List, Bool, true, false, cond, refl, sym, ◌∙◌, ap}
use native.Mathlib.Decide.{ℕ_discrete}
use borrow.Author.Tests.{ne_eqb}
use Rattle.sheet_calls.specs.Rules.{first_refusal}
use Rattle.sheet_calls.specs.Refusals.{outside, other_kind, sheet_refusal, reading_refusal}
use Rattle.sheet_calls.proofs.Rules.{or_else, passed_by}
use Rattle.sheet_calls.proofs.Chains.{sheet_append, reading_is}
use Rattle.surface_places.specs.Spots.{spot_rules, spot_refusal}

pub spot_is : (s : List ℕ) (x y : ℕ) → spot_refusal s x y ≡ or_else (sheet_refusal s) (cond (outside s x y) 7 0)
unfolding spot_refusal spot_rules first_refusal
spot_is s x y = sheet_append _ _ _

-- what is answered of an accepted sheet
pub spot_answer : (s : List ℕ) (x y : ℕ) (b : Bool) → 0 ≡ sheet_refusal s → b ≡ outside s x y → cond b 7 0 ≡ spot_refusal s x y
spot_answer s x y b e h = ap (λ b. cond b 7 0) h ∙ passed_by _ _ (spot_is s x y) e refl

-- a further test behind those of n and 7
behind_seven : (n : ℕ) (b : Bool) (k : ℕ) → or_else n (cond b 7 k) ≡ or_else (or_else n (cond b 7 0)) k
behind_seven n b k = elim (ℕ_discrete n 0) [ yes e ↦ rw e (by b) | no h ↦ rw (ne_eqb n 0 h, ne_eqb n 0 h) refl ]
  where
    by : (b : Bool) → cond b 7 k ≡ or_else (cond b 7 0) k
    by true = refl
    by false = refl

pub behind_spot : (s : List ℕ) (x y k : ℕ) → or_else (sheet_refusal s) (cond (outside s x y) 7 k) ≡ or_else (spot_refusal s x y) k
behind_spot s x y k = behind_seven (sheet_refusal s) (outside s x y) k ∙ ap (λ n. or_else n k) (sym (spot_is s x y))

pub reading_by_spot : (s : List ℕ) (x y kind : ℕ) → reading_refusal s x y kind ≡ or_else (spot_refusal s x y) (cond (other_kind kind) 9 0)
reading_by_spot s x y kind = reading_is s x y kind ∙ behind_spot s x y _
