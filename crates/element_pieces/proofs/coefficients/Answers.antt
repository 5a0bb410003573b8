-- `element_pieces::coefficients` meets its contract: each piece is composed as in the definition. Assumes nothing.
use Rattle.std.proofs.Common.{◌≡◌, ◌∙◌, List, ℤ}
use Rattle.element_sibson.specs.Piece.{top, left}
use Rattle.element_sibson.specs.Element.{CornerNumbers, transposed, flipped, mirrored, top_down, left_right, on_top, on_left, sibson}
use Rattle.element_cell.specs.Corners.{corners, arrays}
use Rattle.element_cell.specs.Coefficients.{listed, halves}
use Rattle.element_cell.specs.Pieces.{piece_of}
use Rattle.element_cell.proofs.Arrays.{held}
use Rattle.element_corners.proofs.Turned.{top_down_within, left_right_within}
use Rattle.element_turnings.proofs.Sizes.{piece_sized}
use Rattle.element_pieces.proofs.coefficients.Goals as goal
use Rattle.element_pieces.proofs.coefficients.Goals.{Joined-piece, in-Top, in-Right, in-Bottom, in-Left}

-- before the turning: piece 3 of the corner numbers turned left to right, and piece 0 of those turned top down
turned_left : {k : List ℤ} {m : List (List ℤ)} (n : CornerNumbers) → m ≡ arrays (left_right n) → k ≡ listed (on_left (corners m)) → k ≡ listed (on_left (left_right n))
turned_left n e f = f ∙ (λ i. listed (on_left (held (left_right n) e i)))

turned_top : {k : List ℤ} {m : List (List ℤ)} (n : CornerNumbers) → m ≡ arrays (top_down n) → k ≡ listed (on_top (corners m)) → k ≡ listed (on_top (top_down n))
turned_top n e f = f ∙ (λ i. listed (on_top (held (top_down n) e i)))

pub on_left-requires : goal.on_left-requires
on_left-requires c = rw (held _ c.left_right.ensures) (left_right_within c.requires)

pub mirrored-doubled-requires : goal.mirrored-doubled-requires
unfolding sibson
mirrored-doubled-requires c = piece_sized _ (left_right_within c.requires) left (turned_left _ c.left_right.ensures c.on_left.ensures)

pub on_top-requires : goal.on_top-requires
on_top-requires c = rw (held _ c.top_down.ensures) (top_down_within c.requires)

pub flipped-doubled-requires : goal.flipped-doubled-requires
unfolding sibson
flipped-doubled-requires c = piece_sized _ (top_down_within c.requires) top (turned_top _ c.top_down.ensures c.on_top.ensures)

-- the ten, whichever the piece
the_piece : (c : Joined-piece) → c.match-piece.doubled ≡ listed (sibson (corners c.args.n) (piece_of c.args.piece))
unfolding listed transposed flipped mirrored halves sibson piece_of
the_piece c = elim c.match-piece.branch [
  | in-Top w ↦ rw (w.in-Top.is, w.doubled-is) w.on_top-doubled.ensures
  | in-Right w ↦ rw (w.in-Right.is, w.doubled-is)
      (w.mirrored-doubled.ensures ∙ (λ i. listed (mirrored (halves (turned_left (corners c.args.n) w.left_right.ensures w.on_left.ensures i)))))
  | in-Bottom w ↦ rw (w.in-Bottom.is, w.doubled-is)
      (w.flipped-doubled.ensures ∙ (λ i. listed (flipped (halves (turned_top (corners c.args.n) w.top_down.ensures w.on_top.ensures i)))))
  | in-Left w ↦ rw (w.in-Left.is, w.doubled-is) w.on_left-doubled.ensures
]

pub invariant_of-result : goal.invariant_of-result
invariant_of-result c = piece_sized _ c.requires _ (the_piece c)

pub returns : goal.returns
returns c = the_piece c
