-- `sheet_pooling::pool` meets its contract. Assumes nothing.
use Rattle.std.proofs.Common.{length, sym, ◌∙◌, ap, arith}
use Rattle.sheet_calls.proofs.Refused.{number-not_zero}
use Rattle.sheet_calls.proofs.WellFormed.{header_there, lines_there}
use Rattle.sheet_pool.proofs.Chain.{pool_held, pooled_is, refused_is}
use Rattle.sheet_sums.specs.Sums.{with_sums}
use Rattle.sheet_pooling.proofs.Joined.{copied_size, joined}
use Rattle.sheet_pooling.proofs.pool.Goals as goal

pub returns-in_err-pool_refusal-clause-target : goal.returns-in_err-pool_refusal-clause-target
returns-in_err-pool_refusal-clause-target c =
    sym (refused_is c.args.first.now c.args.second.now c.args.target.now (λ z. number-not_zero c.in_err-pool_refusal.field-0.0 (c.in_err-pool_refusal.ensures ∙ z)))

pub copy_lines-requires : goal.copy_lines-requires
copy_lines-requires c =
    let held = pool_held _ _ _ (sym c.in_ok-pool_refusal.ensures) in
    let a = held.pair.first_accepted in
    (header_there _ a, lines_there _ a, omega (arith, lines_there _ a, held.size))

pub put_sums-requires : goal.put_sums-requires
put_sums-requires c =
    let held = pool_held _ _ _ (sym c.in_ok-pool_refusal.ensures) in
    (held.pair, ap length c.copy_lines.ensures ∙ copied_size _ held)

pub returns-clause-target : goal.returns-clause-target
returns-clause-target c =
    let e = sym c.in_ok-pool_refusal.ensures in
    c.put_sums.ensures ∙ ap (with_sums _ _) c.copy_lines.ensures ∙ joined _ (pool_held _ _ _ e) ∙ sym (pooled_is _ _ _ e)
