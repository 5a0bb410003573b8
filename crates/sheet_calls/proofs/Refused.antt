-- No refusal has the number 0, no two have the same, and each number that rules give is a refusal's. Assumes nothing.
use Rattle.std.proofs.Common.{◌≡◌, ℕ, ◌≤◌, Bool, true, false, cond, List, [], ◌∷◌, ◌++◌, ◌⊎◌, inl, inr, refl, sym, ◌∙◌, ap, slice_index_or, lit≤, arith}
use Rattle.sheet_calls.specs.declared.refusal.Refusal.{Refusal}
use Rattle.sheet_calls.specs.declared.refusal.Refusal.TheVariants.{OtherMark, OtherVersion, OtherCounts, OtherLength, WrongLines, WrongNodes, Outside, EmptyRun, OtherKind, NoNode, WrongNumbers, TooStiff, TooSteep, ShortList, SecondRefused, OtherLines, OtherSize, OtherZones, WrongZone}
use Rattle.sheet_calls.specs.Rules.{Rule, first_refusal, Each}
use Rattle.sheet_calls.specs.Refusals.{sheet_rules}
use Rattle.sheet_calls.specs.Refused.{number}
use Rattle.sheet_calls.proofs.Rules.{or_else, refused_by_lem}

number-positive : (e : Refusal) → 1 ≤ number e
number-positive OtherMark = lit≤ tt
number-positive OtherVersion = lit≤ tt
number-positive OtherCounts = lit≤ tt
number-positive OtherLength = lit≤ tt
number-positive WrongLines = lit≤ tt
number-positive WrongNodes = lit≤ tt
number-positive Outside = lit≤ tt
number-positive EmptyRun = lit≤ tt
number-positive OtherKind = lit≤ tt
number-positive NoNode = lit≤ tt
number-positive WrongNumbers = lit≤ tt
number-positive TooStiff = lit≤ tt
number-positive TooSteep = lit≤ tt
number-positive ShortList = lit≤ tt
number-positive SecondRefused = lit≤ tt
number-positive OtherLines = lit≤ tt
number-positive OtherSize = lit≤ tt
number-positive OtherZones = lit≤ tt
number-positive WrongZone = lit≤ tt

pub number-not_zero : (e : Refusal) → ¬ (number e ≡ 0)
number-not_zero e h = let p = number-positive e in omega (arith, p, h)

-- what a call answers, m, where its first part n refuses
pub refused_first : {m : ℕ} (n k : ℕ) → m ≡ or_else n k → (e : Refusal) → number e ≡ n → number e ≡ m
refused_first n k q e h = refused_by_lem n k q h (number-not_zero e)

-- ---- the number tells the refusal

-- the refusals in the order of their numbers, behind one for 0
in_order : List Refusal
in_order = OtherMark ∷ OtherMark ∷ OtherVersion ∷ OtherCounts ∷ OtherLength ∷ WrongLines ∷ WrongNodes ∷ Outside ∷ EmptyRun ∷ OtherKind ∷ NoNode ∷ WrongNumbers ∷ TooStiff ∷ TooSteep ∷ ShortList ∷ SecondRefused ∷ OtherLines ∷ OtherSize ∷ OtherZones ∷ WrongZone ∷ []

of_number : ℕ → Refusal
of_number n = slice_index_or in_order n OtherMark

of_number-number : (e : Refusal) → of_number (number e) ≡ e
unfolding of_number in_order
of_number-number OtherMark = refl
of_number-number OtherVersion = refl
of_number-number OtherCounts = refl
of_number-number OtherLength = refl
of_number-number WrongLines = refl
of_number-number WrongNodes = refl
of_number-number Outside = refl
of_number-number EmptyRun = refl
of_number-number OtherKind = refl
of_number-number NoNode = refl
of_number-number WrongNumbers = refl
of_number-number TooStiff = refl
of_number-number TooSteep = refl
of_number-number ShortList = refl
of_number-number SecondRefused = refl
of_number-number OtherLines = refl
of_number-number OtherSize = refl
of_number-number OtherZones = refl
of_number-number WrongZone = refl

pub number-injective : (d e : Refusal) → number d ≡ number e → d ≡ e
number-injective d e q = sym (of_number-number d) ∙ ap of_number q ∙ of_number-number e

-- ---- each rule has a refusal's number

pub record Named (n : ℕ) : Type 0 where
  pub refusal : Refusal
  pub numbered : number refusal ≡ n

abbrev pub NamedRules : {Input : Type 0} → List (Rule Input) → Type 0
NamedRules t = Each (λ r. Named r.number) t

pub name : (e : Refusal) → Named (number e)
name e = record { refusal = e; numbered = refl }

-- what they give is 0 or a refusal's number
pub first_named : {Input : Type 0} (t : List (Rule Input)) (u : Input) → NamedRules t → ¬ (first_refusal t u ≡ 0) → Named (first_refusal t u)
unfolding first_refusal
first_named [] u h d = absurd (d refl)
first_named (r ∷ t) u h d = by (r.condition u) (first_named t u h.1) d
  where
    by : (b : Bool) → (¬ (first_refusal t u ≡ 0) → Named (first_refusal t u)) → ¬ (cond b r.number (first_refusal t u) ≡ 0) → Named (cond b r.number (first_refusal t u))
    by true rest d = h.0
    by false rest d = rest d

-- the rules of a sheet, and further ones behind them
pub sheet_named : {Input : Type 0} (sheet : Input → List ℕ) (more : List (Rule Input)) → NamedRules more → NamedRules (sheet_rules sheet ++ more)
unfolding sheet_rules
sheet_named sheet more h = (name OtherMark, (name OtherVersion, (name OtherCounts, (name OtherLength, (name WrongLines, (name WrongNodes, h))))))
