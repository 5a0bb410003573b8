-- An input that is longer than any sheet with two bytes behind it: its first bytes say what refuses it. Assumes nothing.
use Prim.Native.Nat.{ℕ, ◌-◌, ◌<◌}
use mathlib.Core.Path.{◌≡◌, sym, ◌∙◌, ap}
use mathlib.Core.List.{List, []}
use native.Mathlib.Decide.{dec_lt}
use native.Mathlib.Omega.{arith}
use lib.ListN.{length, take}
use lib.Seq.{length-take-le, take_all}
use Rattle.sheet_calls.specs.Refusals.{sheet_refusal}
use Rattle.sheet_calls.proofs.Rules.{refused_by_lem}
use Rattle.sheet_calls.proofs.Chains.{accepts, lookup_is}
use Rattle.sheet_calls.proofs.WellFormed.{accepted_laws}
use Rattle.sheet_reach.specs.Reach.{sheet_in, ReachAnswer, reach_answer}
use Rattle.sheet_reach.proofs.Refused.{lookup, refused_answer}

abbrev refused_by : ℕ → ReachAnswer
refused_by n = record { number = n; positions = [] }

-- it is refused as all its bytes would be, read as a sheet
long_answer : (input : List ℕ) → 25620 < length input → reach_answer input ≡ refused_by (sheet_refusal input)
long_answer input long = refused_answer input (refused_by_lem _ _ (lookup input (omega arith) ∙ lookup_is _ _ _) same wrong) wrong
  where
    same : sheet_refusal input ≡ sheet_refusal (sheet_in input)
    same = sym (accepted_laws.cut input (length input - 2) (omega arith))

    wrong : ¬ (sheet_refusal input ≡ 0)
    wrong e = let most = accepted_laws.longest input (accepts e) in omega arith

pub cut : (input : List ℕ) (n : ℕ) → 25620 < n → reach_answer (take n input) ≡ reach_answer input
cut input n long = elim (dec_lt (length input) n) [
  | yes l ↦ ap reach_answer (take_all n input (omega arith))
  | no l ↦
      let size = length-take-le n input (omega arith) in
      long_answer (take n input) (omega (arith, size)) ∙ ap refused_by (accepted_laws.cut input n (omega arith)) ∙ sym (long_answer input (omega arith))
]
