-- `element_bends::piece_bends` meets its contract. Assumes nothing.
use Rattle.std.proofs.Common.{◌≡◌, ℤ, Bool, true, cond, List, [], ◌∷◌, length, refl, sym, ◌∙◌, ap, add-zero, add-one, w64, arith}
use Rattle.std.proofs.Math.ListN.{set, length-set}
use native.Mathlib.Numerals.{add-two}
use Rattle.integers.proofs.Operand.{unchanged}
use Rattle.element_sibson.specs.Cubic.{Cell, Cubic, Point}
use Rattle.element_sibson.specs.Piece.{Piece, triangle}
use Rattle.element_sibson.specs.Element.{CornerNumbers, sibson}
use Rattle.element_cell.specs.Cell.{pixel_cell, pixel_point}
use Rattle.element_cell.specs.Corners.{corners}
use Rattle.element_cell.specs.Coefficients.{halves, listed}
use Rattle.element_cell.specs.declared.Pixel.{Pixel}
use Rattle.element_readings.specs.Reading.{bend_xx_of, bend_xy_of, bend_yy_of, bends_of}
use Rattle.element_turnings.proofs.Joined.{joined}
use Rattle.element_bends.specs.PieceBends.{piece_bends}
use Rattle.element_bends.proofs.piece_bends.Goals as goal

module _ (n : CornerNumbers) (p : Pixel) (k : Piece) where
  abbrev read : (Cell → Cubic → Point → ℤ) → ℤ
  read f = f (pixel_cell p) (sibson n k) (pixel_point p)

  -- three where the piece holds the pixel, else none
  bends_are : {b : Bool} → b ≡ triangle k (pixel_point p) → {held : Bool} → b ≡ held → piece_bends n p k ≡ cond held (read bend_xx_of ∷ read bend_xy_of ∷ read bend_yy_of ∷ []) []
  unfolding piece_bends bends_of
  bends_are is e = ap (λ b. cond b (read bend_xx_of ∷ read bend_xy_of ∷ read bend_yy_of ∷ []) []) (sym is ∙ e)

  three : {b : Bool} → b ≡ triangle k (pixel_point p) → b ≡ true → length (piece_bends n p k) ≡ 3
  three is e = ap length (bends_are is e)

  -- what is read of the coefficients that the code has is that of the piece
  same : {c : List ℤ} → c ≡ listed (sibson n k) → (f : Cell → Cubic → Point → ℤ) → f (pixel_cell p) (halves c) (pixel_point p) ≡ read f
  same e f = ap (λ g. f (pixel_cell p) g (pixel_point p)) (ap halves e ∙ joined.back n k)

pub returns-then-not-holds-clause-answer : goal.returns-then-not-holds-clause-answer
returns-then-not-holds-clause-answer c = rw (bends_are (corners c.args.n) c.args.p _ c.holds.ensures c.if-not-holds.true) (sym (add-zero c.args.at))

pub returns-then-not-holds-clause-list : goal.returns-then-not-holds-clause-list
returns-then-not-holds-clause-list c = rw (bends_are (corners c.args.n) c.args.p _ c.holds.ensures c.if-not-holds.true) refl

pub bounds-list-at : goal.bounds-list-at
bounds-list-at c = omega (arith, c.requires.1, three (corners c.args.n) c.args.p _ c.holds.ensures c.if-not-holds.false)

pub bounds-list-at-2 : goal.bounds-list-at-2
bounds-list-at-2 c = simp length-set (omega (arith, c.requires.1, three (corners c.args.n) c.args.p _ c.holds.ensures c.if-not-holds.false))

pub bounds-list-at-3 : goal.bounds-list-at-3
bounds-list-at-3 c = simp length-set (omega (arith, c.requires.1, three (corners c.args.n) c.args.p _ c.holds.ensures c.if-not-holds.false))

pub returns-clause-answer : goal.returns-clause-answer
returns-clause-answer c = rw (bends_are (corners c.args.n) c.args.p _ c.holds.ensures c.if-not-holds.false) refl

pub returns-clause-list : goal.returns-clause-list
returns-clause-list c = let s = c.args in let k = c.coefficients-k.ensures in
    let xx = unchanged w64 c.bend_xx_of.type_inv ∙ c.bend_xx_of.ensures ∙ same (corners s.n) s.p _ k bend_xx_of in
    let xy = unchanged w64 c.bend_xy_of.type_inv ∙ c.bend_xy_of.ensures ∙ same (corners s.n) s.p _ k bend_xy_of in
    let yy = unchanged w64 c.bend_yy_of.type_inv ∙ c.bend_yy_of.ensures ∙ same (corners s.n) s.p _ k bend_yy_of in
    rw (bends_are (corners s.n) s.p _ c.holds.ensures c.if-not-holds.false)
    (λ t. set (set (set s.list.now s.at (xx t)) (add-one s.at t) (xy t)) (add-two s.at t) (yy t))
