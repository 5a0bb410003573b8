-- `integers::Denominator::new` meets its contract. Assumes nothing.
use mathlib.Core.Path.{◌≡◌, refl, sym, ◌∙◌}
use Prim.Native.Nat.{◌^◌}
use lib.IntN.{ℤ, pos, negsuc, ◌*ℤ◌}
use lib.Signed.{quot_z, ◌<ℤ◌}
use mir.Syntax.{w64}
use Rattle.integers.specs.Constants.{constants}
use Rattle.integers.specs.Ratio.{Denominates}
use Rattle.integers.proofs.Constants.{raised_within, quarter_positive}
use Rattle.integers.proofs.Operand.{Operand, literal, known, stored, rebound, ◌⊠◌, ◌⊘◌, asks, gives, unchanged, bits_positive}
use Rattle.integers.proofs.Denominator.new.Goals as goal

computed : {d : ℤ} → pos 0 <ℤ d → constants d ≡ record {
  value = d;
  scale = quot_z (pos (2 ^ 37)) d;
  inverse = quot_z (pos (2 ^ 62)) (quot_z (d *ℤ quot_z (pos (2 ^ 37)) d) (pos 4));
}
unfolding constants
computed {d = pos d} p = refl
computed {d = negsuc d} p = absurd p.lt

abbrev d : {d : ℤ} → Denominates d → Operand
d r = known w64 r.small tt

abbrev scale : {d : ℤ} → Denominates d → Operand
scale r = literal (pos (2 ^ 37)) ⊘ d r

abbrev raised : {d : ℤ} → Denominates d → Operand
raised r = rebound (d r ⊠ stored w64 (scale r) tt) (raised_within r.positive)

abbrev quarter : {d : ℤ} → Denominates d → Operand
quarter r = stored w64 (raised r) tt ⊘ literal (pos 4)

abbrev inverse : {d : ℤ} → Denominates d → Operand
inverse r = literal (pos (2 ^ 62)) ⊘ stored w64 (quarter r) tt

pub nonzero_div-result-2 : goal.nonzero_div-result-2
nonzero_div-result-2 c = let r = c.requires in
    (rw (quarter r).reads (bits_positive w64 (quarter_positive r)), asks w64 (inverse r) tt)

pub returns : goal.returns
returns c = let r = c.requires in
    (λ i. record { value = (unchanged w64 c.below_38_bits-value.type_inv ∙ c.below_38_bits-value.ensures ∙ (d r).reads) i; scale = gives w64 (scale r) tt i; inverse = gives w64 (inverse r) tt i })
    ∙ sym (computed r.positive)
