-- The number of one rule of a list, by what holds of the input: the rules before it fail, and it holds. Assumes nothing.
use Prim.Native.Nat.{ℕ}
use mathlib.Core.Path.{◌≡◌, refl, sym, subst}
use mathlib.Core.Logic.Iff
use mathlib.Core.Logic.{◌↔◌, inl, inr}
use mathlib.Core.List.{List, [], ◌∷◌, ◌++◌}
use mathlib.Core.Bool.{Bool, true, false, not, ◌&&◌}
use borrow.Author.Tests.{eq-eqb}
use lib.Dec.{T, eqb}
use Rattle.integers.proofs.Deduce.{both}
use Rattle.sheet_calls.specs.Rules.{Rule}
use Rattle.sheet_calls.specs.Refusals.{Accepted}
use Rattle.light_sheet_demands.specs.Demands.{FirstHolds, NoneHolds, Gives, of_sheet}
use Rattle.light_sheet_demands.proofs.Refusals.{behind, each_fails}

-- a test holds exactly where what it says by failing does not
holds_not : (b : Bool) {B : Type 0} → (b ≡ false) ↔ B → (b ≡ true) ↔ (¬ B)
holds_not true h = (λ e x. subst T (h.1 x) tt, λ k. refl)
holds_not false h = (λ e x. subst T (sym e) tt, λ k. absurd (k (h.0 refl)))

differs : (m n : ℕ) → T (not (eqb m n)) → ¬ (m ≡ n)
differs m n t e = subst (λ b. T (not b)) (eq-eqb m n e) t

module _ {Input : Type 0} (u : Input) (n : ℕ) where
  -- no rule has the number
  unfoldable pub lacks : List (Rule Input) → Bool
  lacks [] = true
  lacks (r ∷ rules) = not (eqb r.number n) && lacks rules

  split : (r : Rule Input) (rules : List (Rule Input)) → T (lacks (r ∷ rules)) → (¬ (r.number ≡ n)) × T (lacks rules)
  unfolding lacks
  split r rules t = let (f, rest) = both (not (eqb r.number n)) (lacks rules) t in (differs r.number n f, rest)

  absent : (rules : List (Rule Input)) → T (lacks rules) → ¬ FirstHolds rules u n
  absent [] t h = h
  absent (r ∷ rules) t (inl (c, e)) = (split r rules t).0 e
  absent (r ∷ rules) t (inr (f, h)) = absent rules (split r rules t).1 h

  first_of : (before : List (Rule Input)) (r : Rule Input) (after : List (Rule Input)) → T (lacks before) → T (lacks after) → r.number ≡ n →
      FirstHolds (before ++ r ∷ after) u n ↔ (NoneHolds before u × (r.condition u ≡ true))
  first_of before r after b a e = (to before b, λ h. behind u before r after n (each_fails u before h.0) h.1 e)
    where
      to : (before : List (Rule Input)) → T (lacks before) → FirstHolds (before ++ r ∷ after) u n → NoneHolds before u × (r.condition u ≡ true)
      to [] b (inl (c, _)) = (tt, c)
      to [] b (inr (_, h)) = absurd (absent after a h)
      to (s ∷ before) b (inl (_, e)) = absurd ((split s before b).0 e)
      to (s ∷ before) b (inr (f, h)) = let (x, c) = to before (split s before b).1 h in ((f, x), c)

-- the rule r gives its number exactly where those before it all fail, which says K, and what it says by failing, B, does not hold
pub number_of : {Input : Type 0} {u : Input} {n : ℕ} (before : List (Rule Input)) (r : Rule Input) (after : List (Rule Input)) →
    Gives (before ++ r ∷ after) u n →
    T (lacks u r.number before) → T (lacks u r.number after) → T (not (eqb r.number 0)) →
    {K B : Type 0} → NoneHolds before u ↔ K → (r.condition u ≡ false) ↔ B → (n ≡ r.number) ↔ (K × ¬ B)
number_of {u = u} before r after g b a z k h =
    let test = holds_not (r.condition u) h in
    Iff.trans (g.refused r.number (differs r.number 0 z))
    (Iff.trans (first_of u r.number before r after b a refl) (λ w. (k.0 w.0, test.0 w.1), λ w. (k.1 w.0, test.1 w.1)))

-- where none of a sheet's rules holds, and none of those behind them
pub past_sheet : {Input : Type 0} (sheet : Input → List ℕ) (u : Input) (more : List (Rule Input)) →
    NoneHolds (of_sheet sheet ++ more) u ↔ (Accepted (sheet u) × NoneHolds more u)
past_sheet sheet u more = (
  λ h. let rest = h.1.1.1.1 in
      (record { one = h.0; two = h.1.0; three = h.1.1.0; four = h.1.1.1.0; five = rest.0; six = rest.1.0 }, rest.1.1),
  λ h. let x = h.0 in (x.one, (x.two, (x.three, (x.four, (x.five, (x.six, h.1)))))),
)
