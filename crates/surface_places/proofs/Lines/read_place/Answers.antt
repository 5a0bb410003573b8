-- `surface_places::Lines::read_place` meets its contract. Assumes nothing.
use Rattle.surface_places.proofs.Axes.{place_is, column_holds, row_holds}
use Rattle.surface_places.proofs.Lines.read_place.Goals as goal

pub pixel_in-pixel-requires : goal.pixel_in-pixel-requires
pixel_in-pixel-requires c =
    let m = c.args.self.mesh in rw c.requires.1 (column_holds m c.requires.0, row_holds m c.requires.0)

pub returns : goal.returns
returns c = rw (c.piece_at.ensures, c.pixel_in-pixel.ensures, c.requires.1) (place_is _ _ _)
