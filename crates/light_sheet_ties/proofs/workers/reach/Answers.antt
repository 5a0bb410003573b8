-- `light_sheet_ties::workers::reach` meets its contract. Assumes nothing.
use Rattle.std.proofs.Common.{refl, ◌∙◌, ap}
use Rattle.sheet_reach.specs.Reach.{ReachAnswer}
use Rattle.sheet_reach.proofs.Refused.{number_is}
use Rattle.light_sheet_ties.proofs.workers.reach.Goals as goal

pub returns : goal.returns
returns c = let e = c.reach.ensures in record {
  answer = ap (λ (a : ReachAnswer). a.number) e ∙ number_is _;
  positions = ap (λ (a : ReachAnswer). a.positions) e;
  bytes = refl;
}
