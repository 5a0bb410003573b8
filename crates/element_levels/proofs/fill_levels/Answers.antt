-- `element_levels::fill_levels` meets its contract. Assumes nothing.
use Rattle.std.proofs.Common.{◌≡◌, ℕ, ◌+◌, List, get_or, ℤ, pos, nat_abs, to_z, of_z, sym, ◌∙◌, ap, subst, add-zero, add_assoc, w32, w64, arith}
use Rattle.integers.specs.Round.{round}
use Rattle.integers.specs.declared.Denominator.{Denominator}
use Rattle.integers.proofs.Operand.{known, unchanged}
use Rattle.integers.proofs.Stepwise.{starting_at_lem, begins, goes_on, all_made}
use Rattle.element_row_cubic.specs.Row.{at_offset}
use Rattle.element_differences.specs.Differences.{differences, stepped, SumsFit}
use Rattle.element_differences.proofs.Rises.{steps_on, may_step}
use Rattle.element_levels.specs.Needs.{FitsAt}
use Rattle.element_levels.proofs.fill_levels.Goals as goal

-- the differences of an offset that fits may step, and the first of them is what is rounded
module _ {p : List ℤ} {a : ℕ} {d : Denominator} {z : List ℤ} (e : z ≡ differences p a) (fits : FitsAt p a d) where
  may : SumsFit z
  may = subst SumsFit (sym e) (may_step p fits.reached fits.near)

  numerator : to_z w64 (of_z w64 (get_or z 0 (pos 0))) ≡ at_offset p a
  unfolding differences
  numerator = (known w64 may.value tt).reads ∙ ap (λ z. get_or z 0 (pos 0)) e

pub returns-then-count-eq0 : goal.returns-then-count-eq0
returns-then-count-eq0 c = all_made begins (omega arith)

pub loop-k-init : goal.loop-k-init
loop-k-init c = (begins, c.differences-z.ensures ∙ ap (λ n. differences c.args.cubic n) (sym (add-zero c.args.offset)))

pub rounded_level-requires : goal.rounded_level-requires
rounded_level-requires c = let fits = c.requires.0 c.loop-k.k c.loop-k-test.true in rw (numerator c.loop-k.invariant.1 fits) fits.level

pub stepped-z-requires : goal.stepped-z-requires
stepped-z-requires c = may c.loop-k.invariant.1 (c.requires.0 c.loop-k.k c.loop-k-test.true)

pub loop-k-preserved : goal.loop-k-preserved
loop-k-preserved c = let a = c.args in let l = c.loop-k in let fits = c.requires.0 l.k c.loop-k-test.true in (
  goes_on l.invariant.0 c.loop-k-test.true (unchanged w32 c.rounded_level.type_inv ∙ c.rounded_level.ensures ∙ ap (λ z. round z (nat_abs a.d.value)) (numerator l.invariant.1 fits) ∙ sym (starting_at_lem a.at _ l.k)),
  c.stepped-z.ensures ∙ ap stepped l.invariant.1 ∙ steps_on a.cubic (a.offset + l.k) ∙ ap (λ n. differences a.cubic n) (add_assoc a.offset l.k 1),
)
