-- `surface_zoning::fill_zoned_run` meets its contract. Assumes nothing.
use Rattle.std.proofs.Common.{sym, ◌∙◌, rules}
use Rattle.sheet_calls.proofs.Chains.{run_held}
use Rattle.surface_zoning.proofs.Refusal.{left_as_it_was, run_refused, behind_run, filled_row}
use Rattle.surface_zoning.proofs.fill_zoned_run.Goals as goal

pub returns-in_err-run_refusal-clause-answer : goal.returns-in_err-run_refusal-clause-answer
returns-in_err-run_refusal-clause-answer c = let h = run_refused c.args.sheet.now c.args.zones.now c.args.x c.args.y c.args.levels.now _ c.in_err-run_refusal.ensures in search rules

pub returns-in_err-run_refusal-clause-levels : goal.returns-in_err-run_refusal-clause-levels
returns-in_err-run_refusal-clause-levels c = left_as_it_was _ _ _ _ _ _ (run_refused _ _ _ _ _ _ c.in_err-run_refusal.ensures)

pub returns-in_err-zones_refusal-clause-answer : goal.returns-in_err-zones_refusal-clause-answer
returns-in_err-zones_refusal-clause-answer c =
    let h = c.in_err-zones_refusal.ensures ∙ behind_run c.args.sheet.now c.args.zones.now c.args.x c.args.y c.args.levels.now c.in_ok-run_refusal.ensures in search rules

pub returns-in_err-zones_refusal-clause-levels : goal.returns-in_err-zones_refusal-clause-levels
returns-in_err-zones_refusal-clause-levels c = left_as_it_was _ _ _ _ _ _ (c.in_err-zones_refusal.ensures ∙ behind_run _ _ _ _ _ c.in_ok-run_refusal.ensures)

pub fill_stretches-requires : goal.fill_stretches-requires
fill_stretches-requires c = run_held _ _ _ _ (sym c.in_ok-run_refusal.ensures)

pub returns-clause-answer : goal.returns-clause-answer
returns-clause-answer c = c.in_ok-zones_refusal.ensures ∙ behind_run _ _ _ _ _ c.in_ok-run_refusal.ensures

pub returns-clause-levels : goal.returns-clause-levels
returns-clause-levels c = filled_row _ _ _ _ _ c.in_ok-run_refusal.ensures c.in_ok-zones_refusal.ensures c.fill_stretches.ensures
