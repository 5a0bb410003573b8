-- What the loop of `sheet_zoning::Clamp::clamp_row` keeps. Assumes nothing.
use Rattle.std.proofs.Common.{◌≡◌, ◌++◌, map, take, drop}
use Rattle.sheet_zoning.specs.Clamps.{clamped}
use Rattle.sheet_zoning.proofs.Clamp.clamp_row.Given as goal

abbrev pub invariant-loop-level : goal.invariant-loop-level
invariant-loop-level l = l.row ≡ map (clamped l.self) (take l.level-index l.fn.row) ++ drop l.level-index l.fn.row
