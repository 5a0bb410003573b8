-- What joins a piece's coefficients to the readings that take them. Assumes nothing.
use Rattle.std.specs.Prelude.{◌≡◌}
use Rattle.element_sibson.specs.Piece.{Piece}
use Rattle.element_sibson.specs.Element.{CornerNumbers, sibson}
use Rattle.element_cell.specs.Corners.{largest, AllWithin}
use Rattle.element_cell.specs.Coefficients.{listed, halves, Sized}

pub record Joined : Type 0 where
  -- the cubic whose doubled coefficients they are is the piece
  pub back : (n : CornerNumbers) (k : Piece) → halves (listed (sibson n k)) ≡ sibson n k
  -- and they are of the size that the readings ask for
  pub sized : (n : CornerNumbers) → AllWithin largest n → (k : Piece) → Sized (listed (sibson n k))
