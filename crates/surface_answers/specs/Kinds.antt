-- The kinds of a reading, by 01's numbers: 0 is the level, 1 the tilt, 2 the bend; a number above 2 is refused with 9. Assumes nothing.
use Rattle.std.specs.Prelude.{ℕ, ◌≡◌, ◌<◌, Result, MatchResult}
use Rattle.sheet_calls.specs.declared.refusal.Refusal.{Refusal}
use Rattle.sheet_calls.specs.declared.refusal.Refusal.TheVariants.{OtherKind}
use Rattle.surface_answers.specs.declared.kind.Kind.{Kind}
use Rattle.surface_answers.specs.declared.kind.Kind.TheVariants.{Level, Tilt, Bend}

abbrev pub kind_number : Kind → ℕ
kind_number Level = 0
kind_number Tilt = 1
kind_number Bend = 2

-- the kind with this number, or the refusal of a number that no kind has
abbrev pub Decodes : ℕ → Result Kind Refusal → Type 0
Decodes number r = MatchResult r (λ kind. kind_number kind ≡ number) (λ e. (e ≡ OtherKind) × (2 < number))
