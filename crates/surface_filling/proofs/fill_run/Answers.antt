-- `surface_filling::fill_run` meets its contract. Assumes nothing.
use Rattle.std.proofs.Common.{sym, ◌∙◌, arith}
use Rattle.sheet_calls.proofs.Chains.{run_held}
use Rattle.sheet_calls.proofs.Refused.{number-not_zero}
use Rattle.surface_of_sheet.proofs.Runs.{filled_steps, unfilled_is}
use Rattle.surface_filling.proofs.fill_run.Goals as goal

pub returns-in_err-run_refusal-clause-levels : goal.returns-in_err-run_refusal-clause-levels
returns-in_err-run_refusal-clause-levels c = sym (unfilled_is _ _ _ _ (λ z. number-not_zero _ (c.in_err-run_refusal.ensures ∙ z)))

pub run-requires : goal.run-requires
run-requires c = (run_held _ _ _ _ (sym c.in_ok-run_refusal.ensures), omega arith)

pub returns-clause-levels : goal.returns-clause-levels
returns-clause-levels c = c.run.ensures ∙ sym (filled_steps _ _ _ _ (sym c.in_ok-run_refusal.ensures))
