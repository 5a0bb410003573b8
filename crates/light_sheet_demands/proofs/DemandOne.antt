-- Demand 1, from the laws of looking up and setting, of runs and of refusals. Assumes nothing.
use mathlib.Core.Path.{sym, ◌∙◌, ap, subst}
use native.Mathlib.Nat.{le_trans}
use native.Mathlib.Omega.{arith}
use lib.ListN.{length}
use Rattle.sheet_words.proofs.Laws.{word_laws}
use Rattle.sheet_calls.specs.Calls.{Part}
use Rattle.sheet_calls.proofs.Conditions.{condition_laws}
use Rattle.sheet_calls.proofs.Lookup.{lookup_laws}
use Rattle.sheet_calls.proofs.Setting.{setting_laws}
use Rattle.sheet_slopes.proofs.Laws.{slope_laws}
use Rattle.sheet_pool.proofs.Laws.{pool_laws}
use Rattle.surface_of_sheet.proofs.Runs.{run_laws}
use Rattle.sheet_calls.specs.Refused.{RefusedWith}
use Rattle.surface_bends.proofs.Laws.{bend_laws}
use Rattle.surface_zones.proofs.Laws.{zoned_laws}
use Rattle.light_sheet_c.proofs.Stored.{over_size, over_behind}
use Rattle.light_sheet_demands.specs.Demands.{DemandOne}
use Rattle.light_sheet_demands.proofs.Refusals.{check_gives, lookup_gives, setting_gives, slopes_gives, pool_gives, reading_gives, bends_gives, run_gives, zoned_gives, zoned_run_gives}
use Rattle.light_sheet_demands.proofs.Readings.{refused_reading_lem, no_values_lem, few_words, none_stored}
use Rattle.light_sheet_demands.proofs.KeptHeights.{kept}
use Rattle.light_sheet_demands.proofs.Lists.{refused_list, behind_list, buffer_kept, count_written, count_kept}
use Rattle.light_sheet_demands.proofs.ZonedLevels.{refused_level, level_kept, level_written}

pub demand_one : DemandOne
demand_one = record {
  kept_by_check = λ c. c.sheet;
  kept_by_node_refusal = λ c. c.sheet;
  kept_by_node = λ c. c.sheet;
  kept_by_read = λ c. c.sheet;
  kept_by_fill_run = λ c. c.sheet;
  kept_by_bends = λ c. c.sheet;
  kept_by_pool = λ c. (c.first, c.second);
  kept_by_node_offset = λ c. c.sheet;
  kept_by_read_into = λ c. c.is_read.sheet;
  kept_by_bends_into = λ c. c.is_listed.sheet;
  kept_by_zoned_level = λ c. (c.sheet, c.zones);
  kept_by_zoned_run = λ c. (c.sheet, c.zones);
  kept_by_zoned_into = λ c. (c.is_zoned.sheet, c.is_zoned.zones);
  sheet_size = λ c. rw c.sheet (setting_laws.leaves _ _ _ _).size;
  before_node = λ c. rw c.sheet (setting_laws.leaves _ _ _ _).before;
  after_node = λ c. rw c.sheet (setting_laws.leaves _ _ _ _).after;
  sheet_refused = λ c h. c.sheet ∙ setting_laws.refused _ _ _ _ (λ e. h (c.answer ∙ e));
  slopes_size = λ c. (kept c).size;
  beside_slopes = λ c. rw c.sheet (slope_laws.beside _ _);
  slopes_refused = λ c h. c.sheet ∙ slope_laws.refused _ _ (λ e. h (c.answer ∙ e));
  pool_size = λ c. rw c.pool (pool_laws.size _ _ _);
  pool_refused = λ c h. c.pool ∙ pool_laws.refused _ _ _ (λ e. h (c.answer ∙ e));
  row_size = λ c. rw c.levels (run_laws.size _ _ _ _);
  row_refused = λ c h. c.levels ∙ run_laws.refused _ _ _ _ (λ e. h (c.answer ∙ e));
  zoned_row_size = λ c. rw c.levels (zoned_laws.size _ _ _ _ _);
  zoned_row_refused = λ c h. c.levels ∙ zoned_laws.untouched _ _ _ _ _ (λ e. h (c.answer ∙ e));
  zoned_into_level = level_written;
  zoned_into_refused = level_kept;
  buffer_size = λ c. rw c.list (bend_laws.buffer _ _ _ _);
  buffer_behind = behind_list;
  buffer_refused = buffer_kept;
  into_buffer = λ c. c.is_listed;
  into_count = count_written;
  into_refused = λ c h. (buffer_kept c.is_listed (λ e. h (c.answer ∙ e)), count_kept c h);
  array_size = λ c. ap length c.values ∙ over_size _ _;
  array_behind = λ c k l w. rw c.values (over_behind _ _ k (le_trans (few_words c.is_read) l) w);
  array_refused = λ c h. c.values ∙ none_stored c.is_read (λ e. h (c.answer ∙ e));
  check = check_gives;
  lookup = lookup_gives;
  setting = setting_gives;
  slopes = slopes_gives;
  pool = pool_gives;
  reading = reading_gives;
  array_reading = λ c. rw c.answer (reading_gives c.is_read);
  bends = bends_gives;
  bends_into = λ c. rw c.answer (bends_gives c.is_listed);
  run = run_gives;
  zoned_level = zoned_gives;
  zoned_into = λ c. rw c.answer (zoned_gives c.is_zoned);
  zoned_run = zoned_run_gives;
  refused_reading = λ c. refused_reading_lem c;
  no_values = no_values_lem;
  refused_bends = λ c e h. subst (RefusedWith _) e (refused_list c (λ z. h (sym e ∙ z)));
  refused_zoned = λ c. refused_level c;
  empty_part = λ c d h.
      let p = subst (Part _ _) (lookup_laws.refused _ _ _ (λ e. h (d.answer ∙ e))) c.part in
      (c.part.bytes ∙ lookup_laws.none _ _ _ (λ e. h (d.answer ∙ e)), p.block, omega (arith, p.address));
  node_part = λ c d e.
      let p = subst (Part _ _) (lookup_laws.found _ _ _ (sym d.answer ∙ e)) c.part in
      (ap length c.part.bytes ∙ lookup_laws.six _ _ _ (sym d.answer ∙ e), p.block, p.address);
  each_byte = λ c d e k l. rw c.part.bytes (lookup_laws.each _ _ _ (sym d.answer ∙ e) k l);
  offset = λ c d e. c.answer ∙ ap (λ p. p.start) (lookup_laws.found _ _ _ (sym d.answer ∙ e));
  no_offset = λ c d. (
    λ z e. omega (arith, sym z ∙ c.answer ∙ ap (λ p. p.start) (lookup_laws.found _ _ _ (sym d.answer ∙ e))),
    λ h. c.answer ∙ ap (λ p. p.start) (lookup_laws.refused _ _ _ (λ e. h (d.answer ∙ e))),
  );
  conditions = condition_laws;
  words = word_laws;
}
