-- `integers::round` meets its contract: floor division leaves 0 ≤ n − q d < d, and `nearest` decides from there. Assumes nothing.
use mathlib.Core.Path.{◌∙◌}
use lib.IntN.{nat_abs}
use mir.Syntax.{w64}
use Rattle.integers.specs.Floor.{floor_div}
use Rattle.integers.proofs.Rest.{floor_within, multiple_within, rest_low, rest_high, rest_within, rounded}
use Rattle.integers.proofs.Operand.{Operand, known, stored, returned, rebound, ◌⊟◌, ◌⊠◌, asks, gives, unchanged}
use Rattle.integers.proofs.round.Goals as goal

abbrev n : goal.After-floor_div-q → Operand
n c = known w64 c.requires.numerator tt

abbrev d : goal.After-floor_div-q → Operand
d c = known w64 c.requires.denominator.small tt

-- the quotient, its multiple of d, and the rest
abbrev q : goal.After-floor_div-q → Operand
q c =
    returned w64 (c.floor_div-q.ensures ∙ (λ i. floor_div ((n c).reads i) (nat_abs ((d c).reads i)))) (floor_within _ c.requires.numerator) tt

abbrev multiple : goal.After-floor_div-q → Operand
multiple c = let r = c.requires in rebound (q c ⊠ d c) (multiple_within r.denominator.positive r.numerator r.denominator.small)

abbrev rest : goal.After-floor_div-q → Operand
rest c = let r = c.requires in
    rebound (n c ⊟ stored w64 (multiple c) tt) (rest_within c.args.n r.denominator.positive r.denominator.small)

pub overflow_mul-q : goal.overflow_mul-q
overflow_mul-q c = asks w64 (multiple c) tt

pub overflow_sub-n : goal.overflow_sub-n
overflow_sub-n c = asks w64 (rest c) tt

pub nearest-requires : goal.nearest-requires
nearest-requires c = let positive = c.requires.denominator.positive in
    rw (gives w64 (rest c) tt, (q c).reads, (d c).reads)
    ((q c).bounded, c.requires.denominator, rest_low c.args.n positive, rest_high c.args.n positive)

pub returns : goal.returns
returns c = let f = c.before in
    unchanged w64 c.nearest.type_inv ∙ rounded c.args.n (q f) (d f) (gives w64 (rest f) tt) c.nearest.ensures
