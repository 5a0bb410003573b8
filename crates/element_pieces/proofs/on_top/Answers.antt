-- `element_pieces::on_top` meets its contract: the table is the definition's, and each coefficient is that of its power. Assumes nothing.
use Rattle.std.proofs.Common.{w64, refl, ◌∙◌, [], ◌∷◌}
use Rattle.integers.proofs.Operand.{unchanged}
use Rattle.element_sibson.specs.Cubic.{one, r¹, s¹, r², rs, s², r³, r²s, rs², s³}
use Rattle.element_sibson.specs.Element.{halved, on_top}
use Rattle.element_cell.specs.Coefficients.{listed}
use Rattle.element_pieces.proofs.on_top.Goals as goal

pub returns : goal.returns
unfolding listed on_top halved
returns c i =
    (unchanged w64 c.weighed.type_inv ∙ c.weighed.ensures one refl) i ∷
    (unchanged w64 c.weighed-2.type_inv ∙ c.weighed-2.ensures r¹ refl) i ∷
    (unchanged w64 c.weighed-3.type_inv ∙ c.weighed-3.ensures s¹ refl) i ∷
    (unchanged w64 c.weighed-4.type_inv ∙ c.weighed-4.ensures r² refl) i ∷
    (unchanged w64 c.weighed-5.type_inv ∙ c.weighed-5.ensures rs refl) i ∷
    (unchanged w64 c.weighed-6.type_inv ∙ c.weighed-6.ensures s² refl) i ∷
    (unchanged w64 c.weighed-7.type_inv ∙ c.weighed-7.ensures r³ refl) i ∷
    (unchanged w64 c.weighed-8.type_inv ∙ c.weighed-8.ensures r²s refl) i ∷
    (unchanged w64 c.weighed-9.type_inv ∙ c.weighed-9.ensures rs² refl) i ∷
    (unchanged w64 c.weighed-10.type_inv ∙ c.weighed-10.ensures s³ refl) i ∷ []
