-- A stiffened rise over its divisor as the code rounds it; and a quotient from −4,095 to 4,095, which is in range when it is rounded. Assumes nothing.
use Rattle.std.proofs.Common.{◌≡◌, ℕ, ◌^◌, ◌<◌, true, true≢false, ℤ, pos, negsuc, nat_abs, ◌*ℤ◌, ◌≤ℤ◌, ◌<ℤ◌, sym, ◌∙◌, ap, subst, w64, to_z, of_z, is_le, int_cmp}
use Rattle.std.proofs.Math.Path.{subst₂}
use Rattle.std.specs.Cmp.{int_ranks}
use Rattle.std.proofs.lemmas.Cmp.{by_ranked}
use lib.Dec.{ltb→lt}
use Rattle.integers.specs.Within.{◌within◌}
use Rattle.integers.specs.Round.{round}
use Rattle.integers.specs.Ratio.{Denominates}
use Rattle.integers.proofs.Bounds.{within_of_range}
use Rattle.integers.proofs.Operand.{known}
use Rattle.integers.proofs.Order.{<ℤ→≤ℤ, ≤ℤ_of_eq}
use Rattle.integers.proofs.Rounding.{rounding_laws}
use Rattle.sheet_layout.specs.Format.{slope_in}
use Rattle.sheet_layout.proofs.NodeRange.{slope_in_lem}

gentle : (n : ℤ) (d : ℕ) → 0 < d → (negsuc 4094 *ℤ pos d) ≤ℤ n → n ≤ℤ (pos 4095 *ℤ pos d) → slope_in (round n d) ≡ true
gentle n d p low high = (slope_in_lem (round n d)).1 (within_of_range 4095
    (subst (λ z. z ≤ℤ round n d) (rounding_laws.whole (negsuc 4094) d p) (rounding_laws.monotone (negsuc 4094 *ℤ pos d) n d p low))
    (subst (λ z. round n d ≤ℤ z) (rounding_laws.whole (pos 4095) d p) (rounding_laws.monotone n (pos 4095 *ℤ pos d) d p high)))

pub in_range_rounded : (n d : ℤ) → pos 0 <ℤ d → (negsuc 4094 *ℤ d) ≤ℤ n → n ≤ℤ (pos 4095 *ℤ d) → slope_in (round n (nat_abs d)) ≡ true
in_range_rounded n (pos d) p low high = gentle n d (ltb→lt 0 d p.lt) low high
in_range_rounded n (negsuc d) p low high = absurd p.lt

-- what a test of two numbers says that the code has as a and b
pub at_most : {a b x y : ℤ} → a ≡ x → b ≡ y → is_le (int_cmp a b) ≡ true → x ≤ℤ y
at_most {a} {b} e f h = subst₂ ◌≤ℤ◌ e f
    (by_ranked (a <ℤ b) (a ≡ b) (b <ℤ a) (int_cmp a b) (int_ranks a b) (λ _ l. <ℤ→≤ℤ l) (λ _ q. ≤ℤ_of_eq q) (λ g _. absurd (true≢false (sym h ∙ ap is_le g))))

-- r and g are a stiffened rise and its divisor as the code has them, z and d what its contracts say that they are
pub quotient_is : {r z g d : ℤ} → (r ≡ z) × (r within (2 ^ 28)) → (g ≡ d) × Denominates g × (g within 8192)
    → round (to_z w64 (of_z w64 r)) (nat_abs (to_z w64 (of_z w64 g))) ≡ round z (nat_abs d)
quotient_is x y = λ i. round (((known w64 x.1 tt).reads ∙ x.0) i) (nat_abs (((known w64 y.2 tt).reads ∙ y.0) i))
