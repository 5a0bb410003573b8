-- Tests over all pieces and all corners. Assumes nothing.
use mathlib.Core.Path.{◌≡◌, refl, sym, ◌∙◌, ap}
use mathlib.Core.Bool.{Bool, true, false, not, ◌&&◌}
use Prim.Native.Nat.{ℕ, zero, suc}
use lib.Dec.{T, eqb, eqb→eq}
use Rattle.element_sibson.specs.Piece.{Piece, top, right, bottom, left, number, Corner, left_top, right_top, left_bottom, right_bottom}
use Rattle.integers.proofs.Deduce.{both}

-- ---- tests together

pub and : (a b : Bool) → T a → T b → T (a && b)
and true b s t = t
and false b s t = absurd s

-- a test of four things
abbrev every : {A : Type 0} → A → A → A → A → (A → Bool) → Bool
every a b c d p = p a && (p b && (p c && p d))

each : {A : Type 0} (a b c d : A) (p : A → Bool) → T (every a b c d p) → T (p a) × T (p b) × T (p c) × T (p d)
each a b c d p t =
    let (x, u) = both (p a) (p b && (p c && p d)) t in let (y, v) = both (p b) (p c && p d) u in let (z, w) = both (p c) (p d) v in (x, y, z, w)

abbrev pub every_piece : (Piece → Bool) → Bool
every_piece p = every top right bottom left p

pub every_piece_lem : (p : Piece → Bool) → T (every_piece p) → (k : Piece) → T (p k)
every_piece_lem p t top = (each top right bottom left p t).0
every_piece_lem p t right = (each top right bottom left p t).1
every_piece_lem p t bottom = (each top right bottom left p t).2
every_piece_lem p t left = (each top right bottom left p t).3

abbrev pub every_corner : (Corner → Bool) → Bool
every_corner p = every left_top right_top left_bottom right_bottom p

pub every_corner_lem : (p : Corner → Bool) → T (every_corner p) → (c : Corner) → T (p c)
every_corner_lem p t left_top = (each left_top right_top left_bottom right_bottom p t).0
every_corner_lem p t right_top = (each left_top right_top left_bottom right_bottom p t).1
every_corner_lem p t left_bottom = (each left_top right_top left_bottom right_bottom p t).2
every_corner_lem p t right_bottom = (each left_top right_top left_bottom right_bottom p t).3

-- ---- if one test then another

abbrev pub implies : Bool → Bool → Bool
implies true b = b
implies false b = true

pub implied : (a b : Bool) → T (implies a b) → T a → T b
implied true b t s = t
implied false b t s = absurd s

-- ---- different pieces

abbrev pub differs : Piece → Piece → Bool
differs k l = not (eqb (number k) (number l))

from_number : ℕ → Piece
from_number zero = top
from_number (suc zero) = right
from_number (suc (suc zero)) = bottom
from_number (suc (suc (suc n))) = left

back : (k : Piece) → from_number (number k) ≡ k
unfolding from_number number
back top = refl
back right = refl
back bottom = refl
back left = refl

pub apart : (k l : Piece) → ¬ (l ≡ k) → T (differs k l)
apart k l n = go (eqb (number k) (number l)) (λ t. n (sym (back l) ∙ ap from_number (sym (eqb→eq (number k) (number l) t)) ∙ back k))
  where
    go : (c : Bool) → ¬ (T c) → T (not c)
    go true h = h tt
    go false h = tt
