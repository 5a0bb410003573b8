-- The laws of a node's reach. Assumes nothing.
use mathlib.Core.Path.{refl}
use Rattle.sheet_reach.specs.ReachLaws.{ReachLaws}
use Rattle.sheet_reach.proofs.Input.{parts, together}
use Rattle.sheet_reach.proofs.Refused.{numbers, one, short, lookup, refused_answer, node_answer}
use Rattle.sheet_reach.proofs.Lines.{between, attained}
use Rattle.sheet_reach.proofs.Cut.{cut}

pub reach_laws : ReachLaws
reach_laws = record {
  parts = parts;
  together = together;
  numbers = numbers;
  one = one;
  short = short;
  lookup = lookup;
  answered = node_answer;
  refused = λ input h. refused_answer input refl h;
  between = between;
  attained = attained;
  cut = cut;
}
