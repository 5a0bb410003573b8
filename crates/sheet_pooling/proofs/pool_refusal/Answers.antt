-- `sheet_pooling::pool_refusal` meets its contract. Assumes nothing.
use Rattle.std.proofs.Common.{rules, sym, ◌∙◌}
use Rattle.sheet_calls.proofs.Chains.{accepts}
use Rattle.sheet_calls.proofs.Refused.{number-not_zero, refused_first}
use Rattle.sheet_pool.proofs.Chain.{pool_is}
use Rattle.sheet_pool.proofs.Conditions.{sixteen}
use Rattle.sheet_pooling.proofs.Answers.{second_refused_lem}
use Rattle.sheet_pooling.proofs.pool_refusal.Goals as goal

pub returns-in_err-one : goal.returns-in_err-one
returns-in_err-one c = let h = refused_first _ _ (pool_is c.args.first.now c.args.second.now c.args.size) _ c.in_err-one.ensures.refusal in search rules

pub returns-in_default : goal.returns-in_default
returns-in_default c =
    sym (second_refused_lem _ _ _ c.in_ok-one.ensures.refusal (λ z. number-not_zero c.in_default.field-0 (c.in_default.ensures.refusal ∙ z)))

pub some_sum_out-requires : goal.some_sum_out-requires
some_sum_out-requires c = let l = rw (c.in_ok-one.ensures.bytes, c.in-Ok.ensures.bytes) at c.other_lines.ensures in record {
  first_accepted = accepts (sym c.in_ok-one.ensures.refusal);
  second_accepted = accepts (sym c.in-Ok.ensures.refusal);
  lines = (sixteen _ _).0 (sym l ∙ c.if-other_lines.false);
}
