-- 02's #105, from the laws of a nudged sheet and of a node's reach. Assumes nothing.
use Rattle.std.proofs.Common.{Result, Ok, Err, refl}
use Prim.Native.Nat.{ℕ, ◌≤◌, ◌<◌}
use mathlib.Core.Path.{◌≡◌, sym, ◌∙◌, ap}
use mathlib.Core.Logic.Iff
use mathlib.Core.Logic.{◌↔◌}
use mathlib.Core.List.{List, [], ◌∷◌}
use native.Mathlib.Omega.{arith}
use lib.Dec.{lit<}
use lib.ListN.{length, get_or}
use Rattle.sheet_layout.specs.Format.{columns, rows}
use Rattle.sheet_calls.specs.Rules.{rule}
use Rattle.sheet_calls.specs.Refusals.{no_node, Accepted, sheet_rules}
use Rattle.sheet_calls.proofs.Rules.{nonzero}
use Rattle.sheet_calls.proofs.Conditions.{condition_laws}
use Rattle.sheet_reach.specs.Reach.{outermost, sheet_in, column_in, row_in, too_short, reach_rules, reach_refusal, ReachAnswer, told, reach_answer}
use Rattle.sheet_reach.specs.declared.OuterLines.{OuterLines}
use Rattle.sheet_calls.specs.declared.refusal.Refusal.{Refusal}
use Rattle.sheet_calls.specs.Refused.{RefusedWith}
use Rattle.sheet_calls.proofs.Refused.{number-injective}
use Rattle.sheet_reach.proofs.Laws.{reach_laws}
use Rattle.sheet_reach.proofs.Refused.{number_is}
use Rattle.surface_reach.proofs.Laws.{nudged_levels}
use Rattle.light_sheet_demands.specs.CallRecords.{ReachOf}
use Rattle.light_sheet_demands.specs.Demands.{Gives, of_sheet}
use Rattle.light_sheet_demands.specs.Reach.{of_reach, NodeReach}
use Rattle.light_sheet_demands.proofs.Refusals.{gives}
use Rattle.light_sheet_demands.proofs.Numbers.{lacks, number_of, past_sheet}
use Rattle.light_sheet_demands.proofs.Nudged.{nudged_node, follows_steps}

-- ---- the answer, by its number and its positions

told_lines : (r : Result OuterLines Refusal) {a b c d : ℕ} → (told r).positions ≡ a ∷ b ∷ c ∷ d ∷ [] → r ≡ Ok (record { left = a; top = b; right = c; bottom = d })
unfolding told
told_lines (Ok lines) e = λ t. Ok (record { left = get_or (e t) 0 0; top = get_or (e t) 1 0; right = get_or (e t) 2 0; bottom = get_or (e t) 3 0 })
told_lines (Err x) e = absurd (let none : 0 ≡ 4 = ap length e in omega arith)

told_refused : (r : Result OuterLines Refusal) {n : ℕ} → (told r).number ≡ n → (told r).positions ≡ [] → RefusedWith r n
unfolding told
told_refused (Ok lines) e f = absurd (let four : 4 ≡ 0 = ap length f in omega arith)
told_refused (Err x) e f = record { refusal = x; is = refl; numbered = e }

-- they tell it
told_same : (q r : Result OuterLines Refusal) → (told q).number ≡ (told r).number → (told q).positions ≡ (told r).positions → q ≡ r
unfolding told
told_same q (Ok lines) e f = told_lines q f
told_same q (Err x) e f = let w = told_refused q e f in w.is ∙ ap Err (number-injective _ _ w.numbered)

-- ---- the program's worker

module _ {input t : List ℕ} {r : Result OuterLines Refusal} (c : ReachOf input r t) where
  refusals : Gives of_reach input (told r).number
  unfolding nonzero sheet_rules reach_rules reach_refusal
  refusals = gives _ _ tt c.answer

  refused : {n : ℕ} → (told r).number ≡ n → ¬ (n ≡ 0) → RefusedWith r n
  refused e h = told_refused r e (c.positions ∙ ap (λ (a : ReachAnswer). a.positions) (reach_laws.refused input (λ z. h (sym e ∙ c.answer ∙ z))))

  short : length input < 2 → RefusedWith r 1
  short l = refused (c.answer ∙ reach_laws.short input l) (λ e. omega (arith, e))

  gives_ten_lem : ((told r).number ≡ 10) ↔
      ((2 ≤ length input) × Accepted (sheet_in input) × ¬ ((column_in input < columns (sheet_in input)) × (row_in input < rows (sheet_in input))))
  unfolding lacks
  gives_ten_lem = Iff.trans
      (number_of (rule 1 too_short ∷ of_sheet sheet_in) (rule 10 (λ u. no_node (sheet_in u) (column_in u) (row_in u))) [] refusals tt tt tt
      (λ h. h, λ h. h) (condition_laws.ten (sheet_in input) (column_in input) (row_in input))) (
        λ ((l, h), k). ((reach_laws.one input).0 l, ((past_sheet sheet_in input []).0 h).0, k),
        λ (l, a, k). (((reach_laws.one input).1 l, (past_sheet sheet_in input []).1 (a, tt)), k),
      )

pub node_reach : NodeReach
node_reach = record {
  nudged = nudged_node;
  either = λ a c r. nudged_levels.either _ _ _ a c r;
  read_steps = λ n c d g h. follows_steps ((nudged_node n).read_levels c d g h);
  run_steps = λ n c d k l m. follows_steps ((nudged_node n).run_levels c d k l m);
  setting = λ c sx sy. rw c.sheet (nudged_levels.setting _ _ _ _ (sym c.answer) sx sy);
  answer = λ a c r w. told_lines _ (w.positions ∙ ap (λ (a : ReachAnswer). a.positions) (reach_laws.answered _ _ _ a c r));
  between = λ a c r has. reach_laws.between _ _ _ _ _ a c r has.column has.row;
  attained = λ a c r. reach_laws.attained _ _ _ a c r;
  last_two = reach_laws.parts;
  together = reach_laws.together;
  one = reach_laws.one;
  refusals = refusals;
  short = short;
  gives_ten = gives_ten_lem;
  refused = λ c e h. refused c e h;
  kept = λ c. c.bytes;
  cut = λ {input} c d.
      let same = reach_laws.cut input 25621 (lit< tt) in
      told_same _ _ (d.answer ∙ sym (number_is _) ∙ ap (λ (a : ReachAnswer). a.number) same ∙ number_is _ ∙ sym c.answer)
      (d.positions ∙ ap (λ (a : ReachAnswer). a.positions) same ∙ sym c.positions);
}
