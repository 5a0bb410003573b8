-- A piece's coefficients give the piece, and are of the size asked for. Assumes nothing.
use mathlib.Core.Path.{refl}
use Rattle.element_cell.proofs.Listed.{listed_back}
use Rattle.element_turnings.specs.Joined.{Joined}
use Rattle.element_turnings.proofs.Sizes.{piece_sized}

pub joined : Joined
joined = record { back = listed_back; sized = λ n h k. piece_sized n h k refl }
