-- What is listed: each piece that touches the pixel, and nothing else, cells row by row, in each the pieces by number. Assumes nothing.
use Prim.Native.Nat.{ℕ, ◌-◌, ◌<◌}
use mathlib.Core.Path.{◌≡◌}
use mathlib.Core.Logic.{inl, inr}
use mathlib.Core.List.{List, Memᴰ}
use native.Mathlib.Omega.{arith}
use native.Mathlib.Decide.{dec_lt}
use lib.Dec.{T}
use lib.ListN.{length}
use Rattle.sheet_layout.specs.Format.{columns, rows}
use Rattle.surface_of_sheet.specs.Place.{Place, seen, touches}
use Rattle.surface_of_sheet.proofs.Places.{touched, is_seen}
use Rattle.surface_bends.specs.Bends.{in_turn, if_touching, touching_in, touching_places, nowhere, entry_place}
use Rattle.surface_bends.specs.BendLaws.{Before, Among}
use Rattle.surface_bends.proofs.InTurn.{index_of, at_index, ordered_at, in_turn_lem, into_each}
use Rattle.surface_bends.proofs.CellsListed.{into_one, one_of, in_row}
use Rattle.surface_bends.proofs.RowByRow.{all_ordered}

module _ (s : List ℕ) (x y : ℕ) where
  from_list : {p : Place} → Memᴰ p (touching_places s x y) → T (touches s p x y)
  unfolding touching_places
  from_list m =
      let (j, h, n) = (in_turn_lem (rows s - 1) (λ j. in_turn (columns s - 1) (touching_in s x y j))).0 m in
      let o = (in_row s x y n).1 in rw o.is o.touching

  into_list : {p : Place} → T (touches s p x y) → Memᴰ p (touching_places s x y)
  unfolding touching_places touching_in if_touching
  into_list {p} t =
      let h = touched s p x y t in let e = is_seen h in
      let here : T (touches s (seen s p.column p.row p.piece x y) x y) = rw e t in
      (in_turn_lem (rows s - 1) (λ j. in_turn (columns s - 1) (touching_in s x y j))).1 (
        p.row,
        omega (arith, h.has.row),
        (in_turn_lem (columns s - 1) (touching_in s x y p.row)).1 (
          p.column,
          omega (arith, h.has.column),
          into_each _ (one_of p.piece) (rw e (into_one (touches s p x y) p t)),
        ),
      )

  -- ---- the laws

  pub every : (p : Place) → T (touches s p x y) → Among s x y p
  every p t = let (k, h, e) = index_of (nowhere s x y) (into_list t) in record { index = k; below = h; there = e }

  pub only : (k : ℕ) → k < length (touching_places s x y) → T (touches s (entry_place s x y k) x y)
  only k h = from_list (at_index (touching_places s x y) k (nowhere s x y) h)

  pub ordered : (k m : ℕ) → k < m → m < length (touching_places s x y) → Before (entry_place s x y k) (entry_place s x y m)
  ordered = ordered_at Before (touching_places s x y) (nowhere s x y) (all_ordered s x y)

  irreflexive : (p : Place) → ¬ Before p p
  unfolding Before
  irreflexive p (inl h) = omega arith
  irreflexive p (inr (e, inl h)) = omega arith
  irreflexive p (inr (e, inr (f, h))) = omega arith

  pub once : (k m : ℕ) → k < length (touching_places s x y) → m < length (touching_places s x y) → entry_place s x y k ≡ entry_place s x y m → k ≡ m
  once k m l n e = elim (dec_lt k m) [
    | yes h ↦ absurd (irreflexive _ (rw e at (ordered k m h n)))
    | no d ↦ elim (dec_lt m k) [ yes h ↦ absurd (irreflexive _ (rw e at (ordered m k h l))) | no f ↦ omega arith ]
  ]
