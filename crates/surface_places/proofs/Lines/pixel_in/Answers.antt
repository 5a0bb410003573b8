-- `surface_places::Lines::pixel_in` meets its contract. Assumes nothing.
use Rattle.surface_places.proofs.Axes.{pixel_is, pixel_inside}
use Rattle.surface_places.proofs.Lines.pixel_in.Goals as goal

pub invariant_of-result : goal.invariant_of-result
invariant_of-result c =
    let s = c.args.self.bytes.now in
    rw (c.in_cell-across.ensures, c.in_cell-down.ensures, pixel_is s c.args.column c.args.row c.args.x c.args.y) (pixel_inside c.args.self.mesh c.requires.0 c.requires.1)

pub returns : goal.returns
returns c = rw (c.in_cell-across.ensures, c.in_cell-down.ensures) (pixel_is _ _ _ _ _)
