-- The distance over two gaps of an axis, or one at its ends, as the code has it: a and b are the positions after and before. Assumes nothing.
use Rattle.std.proofs.Common.{◌≡◌, ℕ, ◌*◌, ◌-◌, ◌≤◌, ◌<◌, ℤ, pos, nat_abs, ◌*ℤ◌, refl, arith, w64}
use Rattle.integers.specs.Within.{◌within◌}
use Rattle.integers.specs.Ratio.{Denominates}
use Rattle.integers.proofs.Order.{<→<ℤ}
use Rattle.integers.proofs.Bounds.{is_within}
use Rattle.integers.proofs.Operand.{Operand, literal, returned, ◌⊠◌}
use Rattle.sheet_layout.specs.Format.{grains_per_step}
use Rattle.sheet_calls.specs.WellFormed.{Rising}
use Rattle.sheet_layout.specs.Neighbours.{previous, next}
use Rattle.sheet_slopes.specs.Slopes.{distance}
use Rattle.sheet_slopes.proofs.Neighbours.{lines_apart, lines_near}

module _ (line : ℕ → ℕ) (n k : ℕ) (r : Rising line n) (two : 2 ≤ n) (l : k < n) where
  -- a denominator, and a small one
  pub denominates : Denominates (pos (nat_abs grains_per_step * distance n line k)) × (pos (nat_abs grains_per_step * distance n line k) within 8192)
  unfolding distance
  denominates =
      let up = lines_apart n two r k l in
      let near = lines_near n r k l in
      (record { positive = <→<ℤ (omega arith); small = is_within _ (omega arith) }, is_within _ (omega arith))

  module _ {a b : ℕ} (e : a ≡ line (next n k)) (f : b ≡ line (previous k)) where
    pub rising : b ≤ a
    rising = let up = lines_apart n two r k l in omega (arith, e, f, up)

    pub near : a - b ≤ 128
    near = let up = lines_near n r k l in omega (arith, e, f, up)

    pub gap_is : pos 64 *ℤ pos (a - b) ≡ pos (nat_abs grains_per_step * distance n line k)
    unfolding distance
    gap_is = rw (e, f) refl

    -- as the machine has it
    abbrev pub grains : {r : ℤ} → r ≡ pos (a - b) → Operand
    grains g = literal (pos 64) ⊠ returned w64 g (is_within (pos (a - b)) near) tt
