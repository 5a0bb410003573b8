-- What a cell and a row of cells list: the pieces that touch the pixel, by number, and cells from left to right. Assumes nothing.
use Prim.Native.Nat.{ℕ, ◌-◌, ◌<◌}
use mathlib.Core.Path.{◌≡◌, refl}
use mathlib.Core.Logic.{inl, inr}
use mathlib.Core.List.Memᴰ
use mathlib.Core.List.{List, [], ◌∷◌, Memᴰ}
use mathlib.Core.Bool.{Bool, true, false, cond}
use native.Mathlib.Omega.{arith}
use lib.Dec.{T}
use Rattle.element_sibson.specs.Piece.{Piece, top, right, bottom, left, number}
use Rattle.sheet_layout.specs.Format.{columns}
use Rattle.sheet_calls.specs.Rules.{Each}
use Rattle.surface_of_sheet.specs.Place.{Place, seen, touches}
use Rattle.surface_bends.specs.Bends.{in_turn, if_touching, touching_in}
use Rattle.surface_bends.specs.BendLaws.{Before}
use Rattle.surface_bends.proofs.InTurn.{Ordered, in_turn_lem, ordered_in_turn, from_each, ordered_each}

-- ---- lists of one or none

from_one : {A : Type 0} (b : Bool) (q : A) {p : A} → Memᴰ p (cond b (q ∷ []) []) → (p ≡ q) × T b
from_one true q m = (Memᴰ.eq_of_singleton m, tt)
from_one false q m = absurd (Memᴰ.not-nil m)

pub into_one : {A : Type 0} (b : Bool) (q : A) → T b → Memᴰ q (cond b (q ∷ []) [])
into_one true q t = Memᴰ.head refl
into_one false q t = absurd t

one_ordered : {A : Type 0} (R : A → A → Type 0) (b : Bool) (q : A) → Ordered R (cond b (q ∷ []) [])
one_ordered R true q = ((λ p m. absurd (Memᴰ.not-nil m)), tt)
one_ordered R false q = tt

-- ---- the pieces by number

each_of : {A : Type 0} (P : A → Type 0) {a : A} {l : List A} → Memᴰ a l → Each P l → P a
each_of P (Memᴰ.head e) h = rw e h.0
each_of P (Memᴰ.tail m) h = each_of P m h.1

abbrev pub pieces : List Piece
pieces = top ∷ right ∷ bottom ∷ left ∷ []

pub one_of : (k : Piece) → Memᴰ k pieces
one_of top = Memᴰ.head refl
one_of right = Memᴰ.tail (Memᴰ.head refl)
one_of bottom = Memᴰ.tail (Memᴰ.tail (Memᴰ.head refl))
one_of left = Memᴰ.tail (Memᴰ.tail (Memᴰ.tail (Memᴰ.head refl)))

abbrev Lower : Piece → Piece → Type 0
Lower k l = number k < number l

by_number : Ordered Lower pieces
unfolding number
by_number = (
  λ l m. each_of (Lower top) m (omega arith),
  (λ l m. each_of (Lower right) m (omega arith), (λ l m. each_of (Lower bottom) m (omega arith), (λ l m. each_of (Lower left) m (omega arith), tt))),
)

-- ---- what a cell lists

module _ (s : List ℕ) (x y : ℕ) where
  -- a piece of the cell, the pixel seen from it, which it touches
  pub record Own (j i : ℕ) (p : Place) : Type 0 where
    pub piece : Piece
    pub is : p ≡ seen s i j piece x y
    pub touching : T (touches s (seen s i j piece x y) x y)

  pub own : {j i : ℕ} {p : Place} → Memᴰ p (touching_in s x y j i) → Own j i p
  unfolding touching_in if_touching
  own {j} {i} m =
      let (k, h, n) = from_each _ pieces m in let (e, t) = from_one (touches s (seen s i j k x y) x y) _ n in
      record { piece = k; is = e; touching = t }

  pub cell_ordered : (j i : ℕ) → Ordered Before (touching_in s x y j i)
  unfolding touching_in if_touching Before
  cell_ordered j i = ordered_each _ Lower Before pieces by_number (λ k. one_ordered Before (touches s (seen s i j k x y) x y) (seen s i j k x y))
      (λ k l p q below m n. let e = (from_one (touches s (seen s i j k x y) x y) _ m).0 in let f = (from_one (touches s (seen s i j l x y) x y) _ n).0 in
      rw (e, f) (inr (refl, inr (refl, below))))

  pub row_ordered : (j : ℕ) → Ordered Before (in_turn (columns s - 1) (touching_in s x y j))
  unfolding Before
  row_ordered j = ordered_in_turn Before (columns s - 1) (touching_in s x y j) (cell_ordered j)
      (λ i k p q h m n. rw ((own m).is, (own n).is) (inr (refl, inl h)))

  -- in some cell of the row
  pub in_row : {j : ℕ} {p : Place} → Memᴰ p (in_turn (columns s - 1) (touching_in s x y j)) → (i : ℕ) × Own j i p
  in_row {j} m = let (i, h, n) = (in_turn_lem (columns s - 1) (touching_in s x y j)).0 m in (i, own n)
