-- Two accepted sheets on the same lines. Assumes nothing.
use Rattle.std.specs.Prelude.{ℕ, List}
use Rattle.sheet_layout.specs.SameLines.{SameLines}
use Rattle.sheet_calls.specs.Refusals.{Accepted}

pub record OnSameLines (a b : List ℕ) : Type 0 where
  pub first_accepted : Accepted a
  pub second_accepted : Accepted b
  pub lines : SameLines a b
