-- `integers::Denominator::round_small` meets its contract. Whatever the guessed quotient is, it is right where 0 ≤ n − q d < d; the constants
-- only keep the guess within 64 bits. Assumes nothing.
use mathlib.Core.Path.{◌∙◌}
use Prim.Native.Nat.{◌^◌}
use lib.Dec.{lit≤}
use lib.IntN.{ℤ, pos}
use mir.Syntax.{w64}
use Rattle.integers.specs.declared.Denominator.{Denominator}
use Rattle.integers.specs.Constants.{InReach}
use Rattle.integers.proofs.Bounds.{within_mono}
use Rattle.integers.proofs.Rest.{rounded}
use Rattle.integers.proofs.Prepared.{numerator_within}
use Rattle.integers.proofs.Constants.{scale_within, inverse_within, product_within}
use Rattle.integers.proofs.Operand.{Operand, literal, known, stored, rebound, shifted, ◌⊟◌, ◌⊠◌, asks, gives, unchanged, less, at_most}
use Rattle.integers.proofs.Denominator.round_small.Goals as goal

abbrev n : {n : ℤ} {k : Denominator} → InReach n k → Operand
n r = known w64 (numerator_within r.prepared.denominator r.quotient) tt

abbrev d : {n : ℤ} {k : Denominator} → InReach n k → Operand
d r = known w64 r.prepared.denominator.small tt

-- n · scale, that over 2²⁷ times the inverse, and the guess
abbrev scaled : {n : ℤ} {k : Denominator} → InReach n k → Operand
scaled r = rebound (n r ⊠ known w64 (scale_within r.prepared) tt) (product_within r.prepared r.quotient)

abbrev inverted : {n : ℤ} {k : Denominator} → InReach n k → Operand
inverted r = stored w64 (shifted (stored w64 (scaled r) tt) (2 ^ 27) tt) tt ⊠ known w64 (inverse_within r.prepared) tt

abbrev q : {n : ℤ} {k : Denominator} → InReach n k → Operand
q r = stored w64 (shifted (stored w64 (inverted r) tt) (2 ^ 37) tt) tt

abbrev rest : {n : ℤ} {k : Denominator} → InReach n k → Operand
rest r = n r ⊟ stored w64 (q r ⊠ d r) tt

pub overflow_mul-q : goal.overflow_mul-q
overflow_mul-q c = asks w64 (scaled c.requires) tt

pub overflow_mul-q-2 : goal.overflow_mul-q-2
overflow_mul-q-2 c = asks w64 (inverted c.requires) tt

pub overflow_mul-rest : goal.overflow_mul-rest
overflow_mul-rest c = asks w64 (q c.requires ⊠ d c.requires) tt

pub overflow_sub-rest : goal.overflow_sub-rest
overflow_sub-rest c = asks w64 (rest c.requires) tt

pub nearest-requires : goal.nearest-requires
nearest-requires c = let r = c.requires in
    rw (gives w64 (rest r) tt, (q r).reads, (d r).reads) (
      within_mono (q r).bounded (lit≤ tt),
      r.prepared.denominator,
      at_most (literal (pos 0)) (stored w64 (rest r) tt) c.if-rest-ge0.true,
      less (stored w64 (rest r) tt) (d r) c.if-rest-d.true,
    )

pub returns-then-rest-d : goal.returns-then-rest-d
returns-then-rest-d c = let r = c.requires in
    unchanged w64 c.nearest.type_inv ∙ rounded c.args.n (q r) (d r) (gives w64 (rest r) tt) c.nearest.ensures
