-- The laws of zoned levels and runs. Assumes nothing.
use Rattle.surface_zones.specs.ZonedLaws.{ZonedLaws}
use Rattle.surface_zones.proofs.Chain.{numbers, run_numbers_lem, taken, run_taken_lem}
use Rattle.surface_zones.proofs.Answer.{of_level_lem, of_refused_lem, answers, refused}
use Rattle.surface_zones.proofs.Filled.{unfilled_is, size, slots, plain}

pub zoned_laws : ZonedLaws
zoned_laws = record {
  numbers = numbers;
  run_numbers = run_numbers_lem;
  taken = taken;
  run_taken = run_taken_lem;
  of_level = of_level_lem;
  of_refused = of_refused_lem;
  answers = answers;
  refused = refused;
  size = size;
  untouched = unfilled_is;
  slots = slots;
  plain = plain;
}
