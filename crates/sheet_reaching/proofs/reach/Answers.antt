-- `sheet_reaching::reach` meets its contract. Assumes nothing.
use Rattle.std.proofs.Common.{◌≡◌, ◌≤◌, ℕ, List, [], length, Result, Ok, Err, IsErrAnd, sym, ◌∙◌, ap, arith}
use Rattle.sheet_calls.specs.declared.refusal.Refusal.{Refusal}
use Rattle.sheet_calls.specs.Refusals.{lookup_refusal}
use Rattle.sheet_calls.specs.Refused.{number}
use Rattle.sheet_calls.proofs.Refused.{number-not_zero}
use Rattle.sheet_reach.specs.declared.OuterLines.{OuterLines}
use Rattle.sheet_reach.specs.Reach.{outermost, sheet_in, column_in, row_in, reach_refusal, told}
use Rattle.sheet_reach.proofs.Refused.{short, lookup, lines_answer, refused_answer}
use Rattle.sheet_reaching.proofs.reach.Goals as goal

-- what refuses the lookup of the node refuses the input; i and j are the last two bytes as the code has them
refusal : (input : List ℕ) → 2 ≤ length input → {i j n : ℕ} → i ≡ column_in input → j ≡ row_in input → n ≡ lookup_refusal (sheet_in input) i j
    → n ≡ reach_refusal input
refusal input two e f q = q ∙ (λ t. lookup_refusal (sheet_in input) (e t) (f t)) ∙ sym (lookup input two)

-- what `?` hands on
told_refused : (r : Result OuterLines Refusal) (e : Refusal) → IsErrAnd r (λ x. x ≡ e) → told r ≡ record { number = number e; positions = [] }
unfolding told
told_refused (Ok lines) e h = absurd h
told_refused (Err x) e h = ap (λ x. record { number = number x; positions = [] }) h

pub returns-in_default : goal.returns-in_default
unfolding told
returns-in_default c = sym (refused_answer c.args.input.now (sym (short c.args.input.now c.in_default.len_below)) (λ e. omega arith))

pub returns-in_err-node_refusal : goal.returns-in_err-node_refusal
returns-in_err-node_refusal c =
    let input = c.args.input.now in
    let n = refusal input c.in-len2-up.len_at_least c.from.ensures c.from-2.ensures c.in_err-node_refusal.ensures in
    told_refused _ _ c.from_residual.ensures.1 ∙ sym (refused_answer input n (number-not_zero _))

pub returns : goal.returns
unfolding told
returns c =
    let input = c.args.input.now in
    let n = refusal input c.in-len2-up.len_at_least c.from.ensures c.from-2.ensures c.in_ok-node_refusal.ensures in
    ap (λ lines. told (Ok lines)) c.outermost_lines.ensures
    ∙ (λ t. let o = outermost (sheet_in input) (c.from-3.ensures t) (c.from-4.ensures t) in told (Ok (record { left = o.left; top = o.top; right = o.right; bottom = o.bottom })))
    ∙ sym (lines_answer input (sym n))
