-- 02's #106, from the laws of zones and of zoned levels and runs. Assumes nothing.
use Rattle.std.proofs.Common.{Result, Ok}
use Prim.Native.Nat.{ℕ, ◌+◌, ◌≤◌, ◌<◌}
use mathlib.Core.Path.{◌≡◌, refl, sym, ◌∙◌, ap, subst}
use mathlib.Core.List.{List}
use native.Mathlib.Nat.{le_refl}
use lib.IntN.{ℤ, pos}
use lib.ListN.{length, get_or}
use Rattle.sheet_zones.specs.Zones.{zone_at, zones_refusal}
use Rattle.sheet_zones.specs.ZoneLaws.{Between}
use Rattle.sheet_zones.proofs.Last.{none_held, last_held}
use Rattle.sheet_zones.proofs.Laws.{list_laws, limit_laws}
use Rattle.surface_of_sheet.specs.Surface.{level}
use Rattle.surface_zones.specs.Zoned.{zoned_level, zoned_refusal}
use Rattle.sheet_calls.specs.declared.refusal.Refusal.{Refusal}
use Rattle.surface_zones.proofs.Chain.{zoned_run_held}
use Rattle.surface_zones.proofs.Filled.{plain_refusal}
use Rattle.surface_zones.proofs.Levels.{none, last, bounded}
use Rattle.surface_zones.proofs.Laws.{zoned_laws}
use Rattle.light_sheet_demands.specs.CallRecords.{FillRun, FillZonedRun, ZonedLevel}
use Rattle.light_sheet_demands.specs.Zones.{HeldBy, ZonedPixel, ScreenZones}
use Rattle.light_sheet_demands.proofs.Levels.{level_given, run_level}
use Rattle.light_sheet_demands.proofs.ZonedLevels.{level_is, given_level, level_written}
use Rattle.light_sheet_demands.proofs.ZonedRefusals.{eighteen_of_level, nineteen_of_level, zero_of_level, eighteen_of_run_lem, nineteen_of_run_lem, zero_of_run}

-- ---- a pixel

module _ (s b : List ℕ) (x y : ℕ) (taken : zoned_refusal s b x y ≡ 0) where
  valid : zones_refusal b ≡ 0
  valid = ((zoned_laws.taken s b x y).0 taken).2

  last_kept : (k : ℕ) → HeldBy b k x y → ((j : ℕ) → HeldBy b j x y → j ≤ k) → Between (zone_at b k) (zoned_level s b x y)
  last_kept k h later =
      let (before, e) = last_held b x y k h.listed h.holds (λ j l g. later j (record { listed = l; holds = g })) in
      last s b x y valid before (zone_at b k) e

  zoned_pixel : ZonedPixel b x y (level s x y) (zoned_level s b x y)
  unfolding zoned_level
  zoned_pixel = record {
    made = refl;
    none = λ h. none s b x y (none_held b x y (λ k l g. h k (record { listed = l; holds = g })));
    one = λ k h only. last_kept k h (λ j g. rw (only j g) (le_refl k));
    last = last_kept;
    range = bounded s b x y valid;
  }

-- ---- a run

module _ {s b t b' : List ℕ} {x y : ℕ} {row row' : List ℤ} (c : FillZonedRun s b x y row 0 row' t b') {k : ℕ} (l : k < length row) where
  -- slot k has the zoned level of its pixel
  slot_is : get_or row' k (pos 0) ≡ zoned_level s b (x + k) y
  slot_is = rw c.levels (zoned_laws.slots s b x y row (sym c.answer) k l (pos 0))

  -- and there the call for a level is taken
  taken_there : zoned_refusal s b (x + k) y ≡ 0
  taken_there = let (h, valid) = zoned_run_held s b x y (length row) (sym c.answer) in (zoned_laws.taken s b (x + k) y).1 (h.accepted, h.each k l, valid)

  slot_given : {u c' : List ℕ} {r : Result ℤ Refusal} → ZonedLevel s b (x + k) y r u c' → r ≡ Ok (get_or row' k (pos 0))
  slot_given d = level_is d (d.answer ∙ taken_there) ∙ ap Ok (sym slot_is)

  slot_pixel : {u : List ℕ} {n : ℕ} {plain plain' : List ℤ} → FillRun s x y plain n plain' u → length plain ≡ length row →
      ZonedPixel b (x + k) y (get_or plain' k (pos 0)) (get_or row' k (pos 0))
  slot_pixel {u} {n} {plain} {plain'} d e =
      let given = subst (λ n. FillRun s x y plain n plain' u) ((zero_of_run d e c).0 refl).0 d in
      rw (run_level given k (rw e l), slot_is) (zoned_pixel s b (x + k) y taken_there)

pub screen_zones : ScreenZones
screen_zones = record {
  list = list_laws;
  limits = limit_laws;
  answers = (zoned_laws.of_level, zoned_laws.of_refused);
  grains = λ c z. record { grains = _; is = level_is c z };
  pixel = λ c g d. let (e, v) = given_level d in rw (v, ← level_given c g) (zoned_pixel _ _ _ _ e);
  run = λ c l d. slot_given c l d;
  slots = λ c l d e. slot_pixel c l d e;
  no_zones = λ c d. (c.answer ∙ plain_refusal _ _ _ _ ∙ sym d.answer, c.levels ∙ zoned_laws.plain _ _ _ _ ∙ sym d.levels);
  eighteen = eighteen_of_level;
  nineteen = nineteen_of_level;
  taken = zero_of_level;
  eighteen_of_run = eighteen_of_run_lem;
  nineteen_of_run = nineteen_of_run_lem;
  taken_of_run = zero_of_run;
  for_c = λ c. subst (λ r. ZonedLevel _ _ _ _ r _ _) (level_written c) c.is_zoned;
}
