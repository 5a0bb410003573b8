-- The numbers that calls give, by their records: each is that of the first condition of the call's list to hold. Assumes nothing.
use Rattle.std.proofs.Common.{Result}
use Prim.Native.Nat.{ℕ}
use mathlib.Core.Path.{◌≡◌, refl}
use mathlib.Core.Logic.{inl, inr}
use mathlib.Core.List.{List, [], ◌∷◌, ◌++◌}
use mathlib.Core.Bool.{true}
use native.Mathlib.Decide.{ℕ_discrete}
use lib.Dec.{T}
use lib.IntN.{ℤ}
use lib.ListN.{length}
use Rattle.sheet_layout.specs.Format.{Node}
use Rattle.sheet_calls.specs.Rules.{Rule, first_refusal, Each, Fails, FirstToHold}
use Rattle.sheet_calls.specs.Refusals.{sheet_rules, check_rules, check_refusal, lookup_rules, lookup_refusal, setting_rules, setting_refusal, reading_rules, reading_refusal, run_rules, run_refusal}
use Rattle.sheet_calls.proofs.Rules.{after_failing, rule_laws, nonzero, numbered}
use Rattle.sheet_slopes.specs.Slopes.{slope_rules, slope_refusal}
use Rattle.sheet_pool.specs.Pool.{pool_rules, pool_refusal}
use Rattle.sheet_zones.specs.Zones.{zone_rules}
use Rattle.surface_answers.specs.Answers.{outcome, answered, refused}
use Rattle.surface_answers.specs.declared.Answer.{Answer}
use Rattle.surface_of_sheet.specs.Read.{read}
use Rattle.surface_of_sheet.proofs.Answered.{taken_is, refused_is}
use Rattle.surface_bends.specs.Bends.{bends_rules, bends_refusal, tally}
use Rattle.sheet_calls.specs.declared.refusal.Refusal.{Refusal}
use Rattle.surface_zones.specs.Zoned.{zoned_rules, zoned_refusal, zoned_outcome, zoned_run_rules, zoned_run_refusal}
use Rattle.light_sheet_demands.specs.CallRecords.{Check, NodeRefusal, SetNode, FillSlopes, Pool, Read, ListBends, FillRun, ZonedLevel, FillZonedRun}
use Rattle.light_sheet_demands.specs.Demands.{FirstHolds, NoneHolds, Gives, of_check, of_lookup, of_setting, of_slopes, of_pool, of_reading, of_bends, of_run, of_zoned_level, of_zoned_run, AcceptedMeans}

-- ---- the law of rules, in the demands' words

module _ {Input : Type 0} (u : Input) where
  pub behind : (before : List (Rule Input)) (r : Rule Input) (after : List (Rule Input)) (n : ℕ) → Each (Fails u) before → r.condition u ≡ true → r.number ≡ n →
      FirstHolds (before ++ r ∷ after) u n
  behind [] r after n f c e = inl (c, e)
  behind (b ∷ before) r after n f c e = inr (f.0, behind before r after n f.1 c e)

  first_holds : {rules : List (Rule Input)} {n : ℕ} → FirstToHold rules u n → FirstHolds rules u n
  first_holds h = rw h.listed (behind h.before h.at h.after _ h.earlier h.holds h.numbered)

  first_to_hold : (rules : List (Rule Input)) (n : ℕ) → FirstHolds rules u n → FirstToHold rules u n
  first_to_hold [] n h = absurd h
  first_to_hold (r ∷ rules) n (inl (c, e)) = record { before = []; at = r; after = rules; listed = refl; numbered = e; holds = c; earlier = tt }
  first_to_hold (r ∷ rules) n (inr (f, h)) = after_failing r f (first_to_hold rules n h)

  none_holds : (rules : List (Rule Input)) → Each (Fails u) rules → NoneHolds rules u
  none_holds [] f = tt
  none_holds (r ∷ rules) f = (f.0, none_holds rules f.1)

  pub each_fails : (rules : List (Rule Input)) → NoneHolds rules u → Each (Fails u) rules
  each_fails [] f = tt
  each_fails (r ∷ rules) f = (f.0, each_fails rules f.1)

-- what rules give, whatever they are, where none has the number 0
pub gives : {Input : Type 0} (rules : List (Rule Input)) (u : Input) → T (nonzero rules) → {n : ℕ} → n ≡ first_refusal rules u → Gives rules u n
gives rules u h e = rw e (record {
  refused = λ k z. (λ q. first_holds u (rule_laws.then_only rules u k z q), λ f. rule_laws.given rules u k (first_to_hold u rules k f));
  taken = (λ q. none_holds u rules (rule_laws.zero_only rules u (numbered rules h) q), λ f. rule_laws.zero rules u (each_fails u rules f));
})

-- ---- the calls

pub check_gives : {s t : List ℕ} {n : ℕ} → Check s n t → Gives of_check s n
unfolding nonzero sheet_rules check_rules check_refusal
check_gives c = gives _ _ tt c.answer

pub lookup_gives : {s t : List ℕ} {i j n : ℕ} → NodeRefusal s i j n t → Gives of_lookup (record { sheet = s; column = i; row = j }) n
unfolding nonzero sheet_rules lookup_rules lookup_refusal
lookup_gives c = gives _ _ tt c.answer

pub setting_gives : {s t : List ℕ} {i j n : ℕ} {v : Node} → SetNode s i j v n t → Gives of_setting (record { sheet = s; column = i; row = j; numbers = v }) n
unfolding nonzero sheet_rules setting_rules setting_refusal
setting_gives c = gives _ _ tt c.answer

pub slopes_gives : {s t : List ℕ} {k n : ℕ} → FillSlopes s k n t → Gives of_slopes (record { sheet = s; stiffness = k }) n
unfolding nonzero sheet_rules slope_rules slope_refusal
slopes_gives c = gives _ _ tt c.answer

pub pool_gives : {a b target p a' b' : List ℕ} {n : ℕ} → Pool a b target n p a' b' → Gives of_pool (record { first = a; second = b; size = length target }) n
unfolding nonzero sheet_rules pool_rules pool_refusal
pool_gives c = gives _ _ tt c.answer

pub reading_gives : {s t : List ℕ} {x y kind : ℕ} {r : Answer} → Read s x y kind r t →
    Gives of_reading (record { sheet = s; x = x; y = y; kind = kind }) (outcome r).number
unfolding nonzero sheet_rules reading_rules reading_refusal
reading_gives c = gives _ _ tt c.answer

pub bends_gives : {s t : List ℕ} {x y : ℕ} {buffer buffer' : List ℤ} {r : Result ℕ Refusal} → ListBends s x y buffer r buffer' t →
    Gives of_bends (record { sheet = s; x = x; y = y; places = length buffer }) (tally r).number
unfolding nonzero sheet_rules bends_rules bends_refusal
bends_gives c = gives _ _ tt c.answer

pub run_gives : {s t : List ℕ} {x y n : ℕ} {row row' : List ℤ} → FillRun s x y row n row' t →
    Gives of_run (record { sheet = s; x = x; y = y; count = length row }) n
unfolding nonzero sheet_rules run_rules run_refusal
run_gives c = gives _ _ tt c.answer

pub zoned_gives : {s b t b' : List ℕ} {x y : ℕ} {r : Result ℤ Refusal} → ZonedLevel s b x y r t b' →
    Gives of_zoned_level (record { sheet = s; zones = b; x = x; y = y }) (zoned_outcome r).number
unfolding nonzero sheet_rules zone_rules zoned_rules zoned_refusal
zoned_gives c = gives _ _ tt c.answer

pub zoned_run_gives : {s b t b' : List ℕ} {x y n : ℕ} {row row' : List ℤ} → FillZonedRun s b x y row n row' t b' →
    Gives of_zoned_run (record { sheet = s; zones = b; x = x; y = y; count = length row }) n
unfolding nonzero sheet_rules zone_rules zoned_run_rules zoned_run_refusal
zoned_run_gives c = gives _ _ tt c.answer

-- an accepted sheet is one of which none of the six conditions holds
pub accepted_means : AcceptedMeans
accepted_means s = (
  λ a. (a.one, (a.two, (a.three, (a.four, (a.five, (a.six, tt)))))),
  λ h. record { one = h.0; two = h.1.0; three = h.1.1.0; four = h.1.1.1.0; five = h.1.1.1.1.0; six = h.1.1.1.1.1.0 },
)

-- the number that a reading is refused with, or 0
pub read_number : (s : List ℕ) (x y kind : ℕ) → (read s x y kind).number ≡ reading_refusal s x y kind
unfolding answered refused
read_number s x y kind = elim (ℕ_discrete (reading_refusal s x y kind) 0) [
  | yes e ↦ rw (taken_is s x y kind e, e)
  | no h ↦ rw (refused_is s x y kind h)
]
