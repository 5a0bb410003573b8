-- `light_sheet_c::lvs_zoned_level` meets its contract. Assumes nothing.
use Rattle.std.proofs.Common.{◌∙◌, ap, w32, rules}
use mir.ValLaws.{to_z-of_z}
use Rattle.surface_zones.specs.Zoned.{ZonedAnswer, zoned_outcome}
use Rattle.light_sheet_c.specs.Values.{level_over}
use Rattle.light_sheet_c.proofs.lvs_zoned_level.Goals as goal

pub returns-in-Ok-clause-answer : goal.returns-in-Ok-clause-answer
unfolding zoned_outcome
returns-in-Ok-clause-answer c = ap (λ (a : ZonedAnswer). a.number) c.in-Ok.ensures.answer

pub returns-in-Ok-clause-level : goal.returns-in-Ok-clause-level
unfolding zoned_outcome level_over
returns-in-Ok-clause-level c = to_z-of_z w32 _ (search rules) ∙ ap (λ (a : ZonedAnswer). level_over a c.args.level.now) c.in-Ok.ensures.answer

pub returns-in-Err-clause-answer : goal.returns-in-Err-clause-answer
unfolding zoned_outcome
returns-in-Err-clause-answer c = c.number.ensures ∙ ap (λ (a : ZonedAnswer). a.number) c.in-Err.ensures.answer

pub returns-in-Err-clause-level : goal.returns-in-Err-clause-level
unfolding zoned_outcome level_over
returns-in-Err-clause-level c = ap (λ (a : ZonedAnswer). level_over a c.args.level.now) c.in-Err.ensures.answer
