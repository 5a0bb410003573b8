-- `program_text::theorems::text_laws`: the laws hold. Assumes nothing.
use Rattle.std.proofs.Common.{refl}
use Rattle.program_text.specs.Text.{spelled, natural, decimal, field, line, refused_line}
use Rattle.program_text.specs.TextLaws.{TextLaws}
use Rattle.program_text.proofs.Digits.{natural_spells}
use Rattle.program_text.proofs.theorems.text_laws.Goals as goal

laws : TextLaws
unfolding spelled natural decimal field line refused_line
laws = record { spells = natural_spells; negative = λ n h. (refl, natural_spells _ h); none = refl; minus_seven = refl; largest = refl; least = refl; pixel = refl; refusal = refl }

pub returns : goal.returns
returns c = (refl, laws)
