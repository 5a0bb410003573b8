-- `test_integers::results` meets its contract: the two tests say that the quotient is in the guess's reach. Assumes nothing.
use Rattle.std.proofs.Common.{◌*◌, ◌^◌, w64, nat_abs, arith}
use Rattle.std.proofs.lemmas.Int.{ints, to_z-of_z}
use Rattle.integers.specs.Within.{◌within◌}
use Rattle.integers.proofs.Prepared.{in_reach}
use Rattle.test_integers.proofs.results.Goals as goal

pub round_small-small-requires : goal.round_small-small-requires
round_small-small-requires g c =
    let n = to_z-of_z w64 c.args.n c.ranges.n in
    let d = to_z-of_z w64 c.args.d c.ranges.d in
    let near : c.args.n within (2 ^ 24 * nat_abs c.args.d) = record { bound = omega (arith, ints) } in
    rw (n, c.new.ensures, d) (in_reach c.requires.denominator near)
