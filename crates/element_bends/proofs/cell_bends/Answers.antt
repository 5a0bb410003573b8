-- `element_bends::cell_bends` meets its contract: each turn stores its piece's behind what is stored so far. Assumes nothing.
use Rattle.std.proofs.Common.{◌≡◌, ℕ, ◌+◌, ◌<◌, List, ◌++◌, length, get_or, take, ℤ, append-nil, refl, ◌∙◌, ap, add-one, arith}
use Rattle.std.specs.List.{flat_map}
use Rattle.std.proofs.Math.Seq.{take-suc}
use Rattle.std.proofs.lemmas.Grind.{flat_map-append}
use Rattle.std.proofs.lemmas.List.Folds.{length-flat_map-take}
use mathlib.Core.List as mathlib
use Rattle.element_sibson.specs.Element.{CornerNumbers}
use Rattle.element_cell.specs.declared.Pixel.{Pixel}
use Rattle.element_cell.specs.declared.Piece.{Piece}
use Rattle.element_cell.specs.declared.Piece.TheVariants.{Top}
use Rattle.element_cell.specs.Corners.{corners}
use Rattle.element_cell.specs.Pieces.{piece_of}
use Rattle.element_bends.specs.PieceBends.{piece_bends, cell_bends}
use Rattle.element_bends.proofs.Sequence.{sequence}
use Rattle.element_bends.proofs.Stores.{none_stored, same_size, goes_on}
use Rattle.element_bends.proofs.cell_bends.Goals as goal

-- those from a piece, and from the four in the order of the code
abbrev bends : CornerNumbers → Pixel → Piece → List ℤ
bends n p k = piece_bends n p (piece_of k)

four : (n : CornerNumbers) (p : Pixel) → flat_map (bends n p) sequence ≡ cell_bends n p
unfolding cell_bends piece_of mathlib.flat_map
four n p = refl

one_more : {X A : Type 0} (f : X → List A) (xs : List X) (k : ℕ) (d : X) → k < length xs → flat_map f (take (k + 1) xs) ≡ flat_map f (take k xs) ++ f (get_or xs k d)
one_more f xs k d h = rw (add-one, take-suc xs k d h, flat_map-append, append-nil) refl

pub loop-piece-init : goal.loop-piece-init
loop-piece-init c = none_stored

pub piece_bends-end-requires : goal.piece_bends-end-requires
piece_bends-end-requires c = let l = c.loop-piece in let f = bends (corners c.args.n) c.args.p in
    (c.requires.0, omega (arith, c.requires.1, same_size l.invariant, l.invariant.behind, ap length (four (corners c.args.n) c.args.p), length-flat_map-take f sequence l.piece-index Top c.loop-piece-test.true))

pub loop-piece-preserved : goal.loop-piece-preserved
loop-piece-preserved c = let l = c.loop-piece in
    rw (one_more (bends (corners c.args.n) c.args.p) sequence l.piece-index Top c.loop-piece-test.true)
    (goes_on l.invariant _ (c.piece_bends-end.ensures.answer, c.piece_bends-end.ensures.list))

pub returns : goal.returns
returns c = let l = c.loop-piece in let all : l.piece-index ≡ 4 = omega arith in
    let e = ap (λ k. flat_map (bends (corners c.args.n) c.args.p) (take k sequence)) all ∙ four (corners c.args.n) c.args.p in
    record { answer = rw (← e) l.invariant.behind; list = rw (← e) l.invariant.holds }
