-- What the loop of `element_bends::cell_bends` has at each turn: the bends from the pieces before this one are stored. Assumes nothing.
use Rattle.std.proofs.Common.{take}
use Rattle.std.specs.List.{flat_map}
use Rattle.element_cell.specs.Corners.{corners}
use Rattle.element_cell.specs.Pieces.{piece_of}
use Rattle.element_bends.specs.PieceBends.{piece_bends}
use Rattle.element_bends.proofs.Stores.{Stored}
use Rattle.element_bends.proofs.cell_bends.Given as goal

abbrev pub invariant-loop-piece : goal.invariant-loop-piece
invariant-loop-piece l = let a = l.fn in
    Stored a.list a.at (flat_map (λ k. piece_bends (corners a.n) a.p (piece_of k)) (take l.piece-index l.piece-items)) l.list l.end
