-- A point on the edge that two cells share: where they agree along the edge, every piece that holds it sees the same height and slopes. Assumes nothing.
use Prim.Native.Nat.{ℕ}
use mathlib.Core.Path.{◌≡◌, refl}
use lib.Dec.{T}
use lib.IntN.{pos}
use Rattle.integers.proofs.Polynomial.{#◌, ◌⊗◌}
use Rattle.integers.proofs.Solve.{◌≐◌, solve}
use Rattle.element_sibson.specs.Fraction.{Positive, ℚ, ◌≈◌, ◌≤ℚ◌, whole, ◌÷◌, complement}
use Rattle.element_sibson.specs.Cubic.{Cell, Point, Jet, jet, ◌≋◌}
use Rattle.element_sibson.specs.Piece.{Piece, top, right, bottom, left, FourCubics, InCell, triangle, edge}
use Rattle.element_sibson.specs.Conditions.{Smooth}
use Rattle.element_sibson.proofs.Fractions.{≈_sym, ≈-÷_none, ≤_left, ≤_right, ≤_complement}
use Rattle.element_sibson.proofs.Jets.{◌≈ₚ◌, jet_at_lem, ≋_sym, ≋_trans}
use Rattle.element_sibson.proofs.Covers.{test, covering}

-- ---- a point of a piece's edge is one of the piece

-- 0 ≤ 1 − x where x ≤ 1, and 1 − x ≤ 1 where 0 ≤ x
complement_least : {x : ℚ} → x ≤ℚ whole (pos 1) → whole (pos 0) ≤ℚ complement x
complement_least h = ≤_left (record { crossed = refl }) (≤_complement h)

complement_most : {x : ℚ} → whole (pos 0) ≤ℚ x → complement x ≤ℚ whole (pos 1)
complement_most h = ≤_right (≤_complement h) (record { crossed = refl })

on_edge_lem : (k : Piece) (P : Point) (t : ℚ) → InCell P → P ≈ₚ edge k t → T (triangle k P)
on_edge_lem top P t c e = test top P (≤_left e.ss c.from_left, ≤_left e.ss (complement_least c.to_right))
on_edge_lem right P t c e = test right P (≤_right c.to_bottom (≈_sym e.rs), ≤_right (complement_most c.from_top) (≈_sym e.rs))
on_edge_lem bottom P t c e = test bottom P (≤_right c.to_right (≈_sym e.ss), ≤_right (complement_most c.from_left) (≈_sym e.ss))
on_edge_lem left P t c e = test left P (≤_left e.rs c.from_top, ≤_left e.rs (complement_least c.to_bottom))

-- ---- from both sides

-- a smooth set of four cubics on a cell, a point of it, and a piece that holds the point
pub record View : Type 0 where
  pub C : Cell
  pub S : FourCubics
  pub smooth : Smooth C S
  pub P : Point
  pub in_cell : InCell P
  pub piece : Piece
  pub holds : T (triangle piece P)

abbrev seen_jet : View → Jet ℚ
seen_jet v = jet v.C (v.S v.piece) v.P

-- another piece that holds the point sees the same
pub from_piece : (v : View) (k : Piece) → T (triangle k v.P) → seen_jet v ≋ jet v.C (v.S k) v.P
from_piece v k t = (covering.agree v.C v.S).0 v.smooth v.P v.in_cell v.piece k v.holds t

to_edge : (v : View) (k : Piece) (t : ℚ) → v.P ≈ₚ edge k t → seen_jet v ≋ jet v.C (v.S k) (edge k t)
to_edge v k t e = ≋_trans {j = seen_jet v} {k = jet v.C (v.S k) v.P} {l = jet v.C (v.S k) (edge k t)}
    (from_piece v k (on_edge_lem k v.P t v.in_cell e)) (jet_at_lem v.C (v.S k) e)

-- so does the cell beyond the edge
pub over_edge : (v w : View) (k l : Piece) (t : ℚ) → jet v.C (v.S k) (edge k t) ≋ jet w.C (w.S l) (edge l t) → v.P ≈ₚ edge k t → w.P ≈ₚ edge l t →
    seen_jet v ≋ seen_jet w
over_edge v w k l t agree e f = ≋_trans {j = seen_jet v} {k = jet v.C (v.S k) (edge k t)} {l = seen_jet w} (to_edge v k t e)
    (≋_trans {j = jet v.C (v.S k) (edge k t)} {k = jet w.C (w.S l) (edge l t)} {l = seen_jet w} agree (≋_sym (to_edge w l t f)))

-- ---- where a pixel is on an edge: n/n and 0/n

pub at_end : (n : Positive) {m : ℕ} → m ≡ n.number → whole (pos m) ÷ n ≈ whole (pos 1)
at_end n e = rw e (record { crossed = solve 1 (λ n. n ⊗ # 1 ≐ # 1 ⊗ (# 1 ⊗ n)) tt (pos n.number) })

pub at_start : (n : Positive) {m : ℕ} → m ≡ 0 → whole (pos m) ÷ n ≈ whole (pos 0)
at_start n e = rw e (≈-÷_none n)
