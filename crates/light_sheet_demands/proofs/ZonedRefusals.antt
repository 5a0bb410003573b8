-- When a zoned level and a zoned run give 18, 19 and 0: where the plain call is taken, by what the list of zones is. Assumes nothing.
use Rattle.std.proofs.Common.{Result}
use Prim.Native.Nat.{ℕ}
use mathlib.Core.Path.{◌≡◌, sym, subst}
use mathlib.Core.Logic.Iff
use mathlib.Core.Logic.{◌↔◌}
use mathlib.Core.List.{List, [], ◌∷◌, ◌++◌, append_assoc}
use lib.Dec.{T, lit≤}
use lib.IntN.{ℤ}
use lib.ListN.{length}
use Rattle.sheet_calls.specs.Rules.{Rule, rule}
use Rattle.sheet_calls.specs.Refusals.{outside, off_mesh, empty_run}
use Rattle.sheet_calls.proofs.Conditions.{condition_laws}
use Rattle.sheet_zones.specs.Zones.{other_zones_length, wrong_zones}
use Rattle.sheet_zones.specs.ZoneLaws.{OfZones, EachValid}
use Rattle.sheet_zones.proofs.Conditions.{eighteen, nineteen}
use Rattle.surface_answers.specs.Answers.{outcome}
use Rattle.surface_answers.specs.declared.Answer.{Answer}
use Rattle.surface_zones.specs.Zoned.{ZonedInput, ZonedRunInput, zoned_outcome}
use Rattle.sheet_calls.specs.declared.refusal.Refusal.{Refusal}
use Rattle.light_sheet_demands.specs.CallRecords.{Read, FillRun, ZonedLevel, FillZonedRun}
use Rattle.light_sheet_demands.specs.Demands.{NoneHolds, Gives, of_sheet}
use Rattle.light_sheet_demands.proofs.Refusals.{reading_gives, run_gives, zoned_gives, zoned_run_gives}
use Rattle.light_sheet_demands.proofs.Numbers.{lacks, number_of}

-- ---- the list's two rules behind those of a plain call

none_append : {Input : Type 0} (u : Input) (front back : List (Rule Input)) → NoneHolds (front ++ back) u ↔ (NoneHolds front u × NoneHolds back u)
none_append u [] back = (λ h. (tt, h), λ h. h.1)
none_append u (r ∷ front) back =
    let i = none_append u front back in (λ h. let (f, g) = i.0 h.1 in ((h.0, f), g), λ h. (h.0.0, i.1 (h.0.1, h.1)))

module _ {Input : Type 0} (zones : Input → List ℕ) where
  abbrev eighteenth : Rule Input
  eighteenth = rule 18 (λ u. other_zones_length (zones u))

  abbrev nineteenth : Rule Input
  nineteenth = rule 19 (λ u. wrong_zones (zones u))

  -- n is what the call gives, and the plain rules all fail exactly where K
  module _ (plain : List (Rule Input)) {u : Input} {n : ℕ} {K : Type 0} (g : Gives (plain ++ eighteenth ∷ nineteenth ∷ []) u n) (k : NoneHolds plain u ↔ K) where
    abbrev b : List ℕ
    b = zones u

    gives_eighteen : T (lacks u 18 plain) → (n ≡ 18) ↔ (K × ¬ OfZones b)
    unfolding lacks
    gives_eighteen l = number_of plain eighteenth (nineteenth ∷ []) g l tt tt k (eighteen b)

    gives_nineteen : T (lacks u 19 (plain ++ eighteenth ∷ [])) → (n ≡ 19) ↔ (K × OfZones b × ¬ EachValid b)
    unfolding lacks
    gives_nineteen l = let whole = subst (λ rules. Gives rules u n) (sym (append_assoc plain (eighteenth ∷ []) (nineteenth ∷ []))) g in
        Iff.trans (number_of (plain ++ eighteenth ∷ []) nineteenth [] whole l tt tt (none_append u plain (eighteenth ∷ [])) (nineteen b)) (
          λ ((p, (e, _)), w). (k.0 p, (eighteen b).0 e, w),
          λ (p, o, w). ((k.1 p, ((eighteen b).1 o, tt)), w),
        )

    gives_zero : (n ≡ 0) ↔ (K × OfZones b × EachValid b)
    gives_zero = Iff.trans (Iff.trans g.taken (none_append u plain (eighteenth ∷ nineteenth ∷ []))) (
      λ (p, (e, (w, _))). (k.0 p, (eighteen b).0 e, (nineteen b).0 w),
      λ (p, o, r). (k.1 p, ((eighteen b).1 o, ((nineteen b).1 r, tt))),
    )

-- ---- a level

abbrev level_rules : List (Rule ZonedInput)
level_rules = of_sheet (λ u. u.sheet) ++ rule 7 (λ u. outside u.sheet u.x u.y) ∷ []

module _ {s b t u b' : List ℕ} {x y : ℕ} {a : Answer} {r : Result ℤ Refusal} (c : Read s x y 0 a u) (d : ZonedLevel s b x y r t b') where
  -- a reading has one rule more, that of its kind, and 0 is a kind
  plain_level : NoneHolds level_rules (record { sheet = s; zones = b; x = x; y = y }) ↔ ((outcome a).number ≡ 0)
  plain_level = let taken = (reading_gives c).taken in (
    λ (e, (f, (g, (h, (i, (j, (k, _))))))). taken.1 (e, (f, (g, (h, (i, (j, (k, ((condition_laws.nine 0).1 (lit≤ tt), tt)))))))),
    λ z. let (e, (f, (g, (h, (i, (j, (k, _))))))) = taken.0 z in (e, (f, (g, (h, (i, (j, (k, tt))))))),
  )

  pub eighteen_of_level : ((zoned_outcome r).number ≡ 18) ↔ (((outcome a).number ≡ 0) × ¬ OfZones b)
  unfolding lacks
  eighteen_of_level = gives_eighteen (λ u. u.zones) level_rules (zoned_gives d) plain_level tt

  pub nineteen_of_level : ((zoned_outcome r).number ≡ 19) ↔ (((outcome a).number ≡ 0) × OfZones b × ¬ EachValid b)
  unfolding lacks
  nineteen_of_level = gives_nineteen (λ u. u.zones) level_rules (zoned_gives d) plain_level tt

  pub zero_of_level : ((zoned_outcome r).number ≡ 0) ↔ (((outcome a).number ≡ 0) × OfZones b × EachValid b)
  zero_of_level = gives_zero (λ u. u.zones) level_rules (zoned_gives d) plain_level

-- ---- a run

abbrev run_rules : List (Rule ZonedRunInput)
run_rules = of_sheet (λ u. u.sheet) ++ rule 7 (λ u. off_mesh u.sheet u.x u.y u.count) ∷ rule 8 (λ u. empty_run u.count) ∷ []

module _ {s b t u b' : List ℕ} {x y m n : ℕ} {plain plain' row row' : List ℤ} (c : FillRun s x y plain n plain' u) (l : length plain ≡ length row)
    (d : FillZonedRun s b x y row m row' t b') where
  plain_run : NoneHolds run_rules (record { sheet = s; zones = b; x = x; y = y; count = length row }) ↔ (n ≡ 0)
  plain_run = let taken = rw l at (run_gives c).taken in (taken.1, taken.0)

  pub eighteen_of_run_lem : (m ≡ 18) ↔ ((n ≡ 0) × ¬ OfZones b)
  unfolding lacks
  eighteen_of_run_lem = gives_eighteen (λ u. u.zones) run_rules (zoned_run_gives d) plain_run tt

  pub nineteen_of_run_lem : (m ≡ 19) ↔ ((n ≡ 0) × OfZones b × ¬ EachValid b)
  unfolding lacks
  nineteen_of_run_lem = gives_nineteen (λ u. u.zones) run_rules (zoned_run_gives d) plain_run tt

  pub zero_of_run : (m ≡ 0) ↔ ((n ≡ 0) × OfZones b × EachValid b)
  zero_of_run = gives_zero (λ u. u.zones) run_rules (zoned_run_gives d) plain_run
