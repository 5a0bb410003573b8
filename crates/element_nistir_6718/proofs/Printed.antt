-- The source's formulas, put right, are the set we read from: coefficient by coefficient, then at every point. Assumes nothing.
use mathlib.Core.Path.{◌≡◌, refl, sym, ◌∙◌, subst}
use mathlib.Core.Bool.{Bool}
use mathlib.Core.List.{List, ◌∷◌, map}
use lib.Dec.{T}
use lib.IntN.{ℤ, pos}
use Rattle.element_sibson.specs.Fraction.{◌≈◌, positive, complement}
use Rattle.element_sibson.specs.Cubic.{Point, Cubic, Power, one, r¹, s¹, r², rs, s², r³, r²s, rs², s³, cubic_of, value}
use Rattle.element_sibson.specs.Piece.{Piece, top, right, bottom, left, number}
use Rattle.element_sibson.specs.Element.{CornerNumbers, in_order, weights, weighed, halved, transposed, flipped, mirrored, swap, exchanged, sibson}
use Rattle.element_nistir_6718.specs.Formulas.{twice, Formulas, printed}
use Rattle.element_nistir_6718.specs.Corrections.{corrections, replaced, corrected, formula}
use Rattle.element_nistir_6718.specs.Source.{doubled, table, taken_at, cubics, Sources}
use Rattle.integers.proofs.Solve.{same, same_sound}
use Rattle.element_sibson.proofs.Fractions.{≈_refl, ≈_trans}
use Rattle.element_sibson.proofs.Finite.{every_piece_lem}
use Rattle.element_sibson.proofs.Turnings.{turnings}
use Rattle.element_sibson.proofs.Quote.{Cubicₑ, coefficientₑ, transposedₑ, flippedₑ, evaluated}
use Rattle.element_sibson.proofs.QuoteElement.{halvedₑ, numbersₑ, elementₑ, sibson_is}

-- ---- the set that the formulas give, quoted: from variable 4 on the twelve numbers

abbrev given : CornerNumbers → List ℤ
given n = pos 0 ∷ pos 0 ∷ pos 0 ∷ pos 0 ∷ in_order n

abbrev oppositeₑ : Cubicₑ → Cubicₑ
oppositeₑ f = transposedₑ (flippedₑ (transposedₑ (flippedₑ f)))

abbrev formulaₑ : Piece → Cubicₑ
formulaₑ top = halvedₑ (table top) numbersₑ
formulaₑ right = oppositeₑ (halvedₑ (table right) numbersₑ)
formulaₑ bottom = oppositeₑ (halvedₑ (table bottom) numbersₑ)
formulaₑ left = halvedₑ (table left) numbersₑ

cubics_is : (n : CornerNumbers) (k : Piece) → cubics formula n k ≡ evaluated (given n) (formulaₑ k) (positive 2 tt)
unfolding in_order weighed halved transposed flipped mirrored twice printed number corrections replaced corrected formula doubled table cubics
cubics_is n top = refl
cubics_is n right = refl
cubics_is n bottom = refl
cubics_is n left = refl

-- ---- its coefficients are those of the set we read from

abbrev alike : Power → Piece → Bool
alike p k = same (coefficientₑ (formulaₑ k) p) (coefficientₑ (elementₑ k) p)

all_alike : (p : Power) (k : Piece) → T (alike p k)
unfolding in_order weights swap exchanged twice printed number corrections replaced corrected formula doubled table
all_alike one = every_piece_lem (alike one) tt
all_alike r¹ = every_piece_lem (alike r¹) tt
all_alike s¹ = every_piece_lem (alike s¹) tt
all_alike r² = every_piece_lem (alike r²) tt
all_alike rs = every_piece_lem (alike rs) tt
all_alike s² = every_piece_lem (alike s²) tt
all_alike r³ = every_piece_lem (alike r³) tt
all_alike r²s = every_piece_lem (alike r²s) tt
all_alike rs² = every_piece_lem (alike rs²) tt
all_alike s³ = every_piece_lem (alike s³) tt

pub put_right_lem : (n : CornerNumbers) (k : Piece) → cubics formula n k ≡ sibson n k
put_right_lem n k = cubics_is n k
    ∙ (λ i. cubic_of (λ p. same_sound (coefficientₑ (formulaₑ k) p) (coefficientₑ (elementₑ k) p) (all_alike p k) (given n) i) (positive 2 tt))
    ∙ sym (sibson_is (pos 0) (pos 0) (pos 0) (pos 0) n k)

-- ---- and so are its values

-- a cubic at (1 − r, 1 − s)
opposite : (f : Cubic) (P : Point) → value (mirrored (flipped f)) P ≈ value f (record { r = complement P.r; s = complement P.s })
opposite f P = let Q : Point = record { r = complement P.r; s = P.s } in
    ≈_trans {y = value (flipped f) Q} (turnings.mirroring (flipped f) P) (turnings.flipping f Q)

pub values : (F : Formulas) (n : CornerNumbers) (k : Piece) (P : Point) → value (cubics F n k) P ≈ value (halved (map doubled (F k)) n) (taken_at k P)
unfolding taken_at cubics
values F n top P = ≈_refl (value (halved (map doubled (F top)) n) P)
values F n right P = opposite (halved (map doubled (F right)) n) P
values F n bottom P = opposite (halved (map doubled (F bottom)) n) P
values F n left P = ≈_refl (value (halved (map doubled (F left)) n) P)

pieces : (k : Piece) (n : CornerNumbers) (P : Point) → value (sibson n k) P ≈ value (halved (table k) n) (taken_at k P)
unfolding table
pieces k n P = subst (λ f. value f P ≈ value (halved (table k) n) (taken_at k P)) (put_right_lem n k) (values formula n k P)

pub sources : Sources
unfolding weights twice printed number corrections replaced corrected formula doubled table
sources = record { weights_are = refl; pieces = pieces }
