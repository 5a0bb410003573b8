-- The zones of the examples, computed. Assumes nothing.
use mathlib.Core.Path.{refl}
use Rattle.sheet_words.specs.Word.{signed}
use Rattle.sheet_layout.specs.Some.{some}
use Rattle.sheet_calls.specs.Rules.{first_refusal}
use Rattle.sheet_zones.specs.Zones.{zone_in, zones_from, zones_of, crosses, holds, holding, raised, lowered, limited, other_zones_length, limit_in, wrong_zone, wrong_zones, zone_rules, zones_refusal}
use Rattle.sheet_zones.specs.Examples.{Examples}

pub examples : Examples
unfolding signed some first_refusal zone_in zones_from zones_of crosses holds holding raised lowered limited other_zones_length limit_in wrong_zone wrong_zones zone_rules zones_refusal
examples = record {
  bytes = refl;
  no_bytes = refl;
  held = refl;
  held_down = refl;
  lamp_first = refl;
  lamp_last = refl;
  screen_last = refl;
  lengths = refl;
  wrong = refl;
}
