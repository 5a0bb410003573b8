-- The conditions are needed: without any one of the four edges, or any two of the half diagonals, unequal sets agree at the corners. Assumes nothing.
use Rattle.std.specs.Prelude.{◌≡◌, ◌↔◌, pos}
use Rattle.element_sibson.specs.Cubic.{Cell, Point, jet, ◌≋◌}
use Rattle.element_sibson.specs.Piece.{Piece, next, FourCubics, HalfDiagonal}
use Rattle.element_sibson.specs.Conditions.{square_term, Meets, SameCorners, Equal}

-- the conditions along some of the half diagonals and some of the edges
pub record MeetsSome (diagonals edges : Piece → Type 0) (C : Cell) (S : FourCubics) : Type 0 where
  pub smooth : (k : Piece) → diagonals k → (P : Point) → HalfDiagonal k P → jet C (S k) P ≋ jet C (S (next k)) P
  pub linear : (k : Piece) → edges k → square_term k (S k) ≡ pos 0

-- two unequal sets that meet those and have the same height and slopes at the corners
pub record Counterexample (diagonals edges : Piece → Type 0) (C : Cell) : Type 0 where
  pub S : FourCubics
  pub S' : FourCubics
  pub meets : MeetsSome diagonals edges C S
  pub meets' : MeetsSome diagonals edges C S'
  pub corners : SameCorners C S S'
  pub unequal : ¬ Equal S S'

pub record Needed : Type 0 where
  -- along all of them they are the conditions
  pub all : (C : Cell) (S : FourCubics) → MeetsSome (λ l. Unit {0}) (λ l. Unit {0}) C S ↔ Meets C S
  pub edge : (C : Cell) (k : Piece) → Counterexample (λ l. Unit {0}) (λ l. ¬ (l ≡ k)) C
  pub half_diagonals : (C : Cell) (j k : Piece) → ¬ (j ≡ k) → Counterexample (λ l. ¬ (l ≡ j) × ¬ (l ≡ k)) (λ l. Unit {0}) C
