-- The number that a list of rules gives is that of the first condition that holds, and 0 where none does; and rules behind others. Assumes nothing.
use Prim.Native.Nat.{ℕ}
use mathlib.Core.Path.{◌≡◌, refl, sym, ◌∙◌, ap}
use mathlib.Core.List.{List, [], ◌∷◌, ◌++◌}
use mathlib.Core.Bool.{Bool, true, false, cond, ◌&&◌}
use native.Mathlib.Omega.{arith}
use lib.Dec.{T, eqb, ltb, ltb→lt}
use borrow.Author.Tests.{eqb-true, eqb-false, eq-eqb, ne_eqb}
use Rattle.integers.proofs.Deduce.{both}
use Rattle.sheet_calls.specs.Rules.{Rule, first_refusal, Each, Fails, FirstToHold, RuleLaws}

module _ {Input : Type 0} where
  -- ---- a number is given

  first_holding : (before : List (Rule Input)) (r : Rule Input) (after : List (Rule Input)) (u : Input) → Each (Fails u) before → r.condition u ≡ true
      → first_refusal (before ++ r ∷ after) u ≡ r.number
  unfolding first_refusal
  first_holding [] r after u f c = rw c refl
  first_holding (b ∷ before) r after u f c = rw f.0 (first_holding before r after u f.1 c)

  given : (t : List (Rule Input)) (u : Input) (n : ℕ) → FirstToHold t u n → first_refusal t u ≡ n
  given t u n h = rw h.listed (first_holding h.before h.at h.after u h.earlier h.holds ∙ h.numbered)

  pub after_failing : (r : Rule Input) {t : List (Rule Input)} {u : Input} {n : ℕ} → Fails u r → FirstToHold t u n → FirstToHold (r ∷ t) u n
  after_failing r f h = record {
    before = r ∷ h.before;
    at = h.at;
    after = h.after;
    listed = ap (λ t. r ∷ t) h.listed;
    numbered = h.numbered;
    holds = h.holds;
    earlier = (f, h.earlier);
  }

  then_only_lem : (t : List (Rule Input)) (u : Input) (n : ℕ) → ¬ (n ≡ 0) → first_refusal t u ≡ n → FirstToHold t u n
  unfolding first_refusal
  then_only_lem [] u n h e = absurd (h (sym e))
  then_only_lem (r ∷ t) u n h e = by (r.condition u) refl (then_only_lem t u n h) e
    where
      by : (b : Bool) → r.condition u ≡ b → (first_refusal t u ≡ n → FirstToHold t u n) → cond b r.number (first_refusal t u) ≡ n → FirstToHold (r ∷ t) u n
      by true c rest e = record { before = []; at = r; after = t; listed = refl; numbered = e; holds = c; earlier = tt }
      by false c rest e = after_failing r c (rest e)

  -- ---- none is given

  none_given : (t : List (Rule Input)) (u : Input) → Each (Fails u) t → first_refusal t u ≡ 0
  unfolding first_refusal
  none_given [] u f = refl
  none_given (r ∷ t) u f = rw f.0 (none_given t u f.1)

  -- no rule has the number 0
  abbrev pub Numbered : List (Rule Input) → Type 0
  Numbered t = Each (λ r. ¬ (r.number ≡ 0)) t

  none_holds : (t : List (Rule Input)) (u : Input) → Numbered t → first_refusal t u ≡ 0 → Each (Fails u) t
  unfolding first_refusal
  none_holds [] u h e = tt
  none_holds (r ∷ t) u h e = by (r.condition u) refl (none_holds t u h.1) e
    where
      by : (b : Bool) → r.condition u ≡ b → (first_refusal t u ≡ 0 → Each (Fails u) t) → cond b r.number (first_refusal t u) ≡ 0 → Fails u r × Each (Fails u) t
      by true c rest e = absurd (h.0 e)
      by false c rest e = (c, rest e)

  pub rule_laws : RuleLaws Input
  rule_laws = record { given = given; then_only = then_only_lem; zero = none_given; zero_only = none_holds }

  -- by a test of the whole list
  unfoldable pub nonzero : List (Rule Input) → Bool
  nonzero [] = true
  nonzero (r ∷ t) = ltb 0 r.number && nonzero t

  pub numbered : (t : List (Rule Input)) → T (nonzero t) → Numbered t
  unfolding nonzero
  numbered [] h = tt
  numbered (r ∷ t) h = let p = both (ltb 0 r.number) (nonzero t) h in let k = ltb→lt 0 r.number p.0 in ((λ e. omega arith), numbered t p.1)

-- ---- further rules behind those of t

-- n where it is not 0, else what further rules give
abbrev pub or_else : ℕ → ℕ → ℕ
or_else n k = cond (eqb n 0) k n

pub first_append : {Input : Type 0} (t more : List (Rule Input)) (u : Input) → Numbered t → first_refusal (t ++ more) u ≡ or_else (first_refusal t u) (first_refusal more u)
unfolding first_refusal
first_append [] more u h = refl
first_append (r ∷ t) more u h = by (r.condition u) (first_append t more u h.1)
  where
    by : (b : Bool) → first_refusal (t ++ more) u ≡ or_else (first_refusal t u) (first_refusal more u)
        → cond b r.number (first_refusal (t ++ more) u) ≡ or_else (cond b r.number (first_refusal t u)) (first_refusal more u)
    by true e = rw (ne_eqb r.number 0 h.0) refl
    by false e = e

pub zero_or : (n k : ℕ) → n ≡ 0 → or_else n k ≡ k
zero_or n k e = rw (eq-eqb n 0 e) refl

refused_or : (n k : ℕ) → ¬ (n ≡ 0) → or_else n k ≡ n
refused_or n k h = rw (ne_eqb n 0 h) refl

-- what a call answers, m, where it is n's part or k's that answers; r is n as the caller has it
pub refused_by_lem : {m r : ℕ} (n k : ℕ) → m ≡ or_else n k → r ≡ n → ¬ (r ≡ 0) → r ≡ m
refused_by_lem n k q e h = e ∙ sym (q ∙ refused_or n k (λ z. h (e ∙ z)))

pub passed_by : {m r : ℕ} (n k : ℕ) → m ≡ or_else n k → r ≡ n → r ≡ 0 → k ≡ m
passed_by n k q e h = sym (q ∙ zero_or n k (sym e ∙ h))

-- both are 0
pub or_zero : (n k : ℕ) → or_else n k ≡ 0 → (n ≡ 0) × (k ≡ 0)
or_zero n k e = by (eqb n 0) refl
  where
    by : (b : Bool) → eqb n 0 ≡ b → (n ≡ 0) × (k ≡ 0)
    by true q = (eqb-true n 0 q, sym (zero_or n k (eqb-true n 0 q)) ∙ e)
    by false q = absurd (eqb-false n 0 q (sym (refused_or n k (eqb-false n 0 q)) ∙ e))
