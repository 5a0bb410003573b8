-- `element_pieces::weighed` meets its contract: after i turns the first i products are added. Assumes nothing.
use Rattle.std.proofs.Common.{◌≡◌, ℕ, ◌<◌, List, [], ℤ, pos, ◌*◌, get_or, w64, refl, ◌∙◌, subst, sym, arith}
use Rattle.integers.specs.Within.{◌within◌}
use Rattle.integers.proofs.Operand.{Operand, known, stored, ◌⊞◌, ◌⊠◌, asks, gives}
use Rattle.element_sibson.specs.Element.{weights}
use Rattle.element_cell.specs.Corners.{corners, largest, AllWithin}
use Rattle.element_pieces.proofs.Sums.{weight_within, number_within, sum_of, one_more_lem, all_twelve, sum_within}
use Rattle.element_pieces.proofs.weighed.Goals as goal

-- a turn: entry i of the lent table's column, which is the definition's, and corner number i
module _ (n : List (List ℤ)) (power : ℕ) {table : List (List ℤ)} (same : table ≡ weights) (h : AllWithin largest (corners n)) {i : ℕ} (below : i < 12) where
  weight_bound : get_or (get_or table i []) power (pos 0) within 6
  weight_bound = subst (λ t. get_or (get_or t i []) power (pos 0) within 6) (sym same) (weight_within i power)

  sum_bound : sum_of n table power i within (72 * largest)
  sum_bound = subst (λ t. sum_of n t power i within (72 * largest)) (sym same) (sum_within n h power i (omega (arith, below)))

  abbrev product : Operand
  product = known w64 weight_bound tt ⊠ known w64 (number_within n h i below) tt

  -- added to the sum as the machine reads it
  abbrev after : {sum : ℤ} → sum ≡ sum_of n table power i → Operand
  after {sum} e = record { read = sum; number = sum_of n table power i; bound = 72 * largest; reads = e; bounded = sum_bound } ⊞ stored w64 product tt

pub loop-i-init : goal.loop-i-init
unfolding sum_of
loop-i-init c = refl

pub overflow_mul-sum : goal.overflow_mul-sum
overflow_mul-sum c = asks w64 (product c.args.n c.args.power c.requires.0 c.requires.2 c.loop-i-test.true) tt

pub overflow_add-sum : goal.overflow_add-sum
overflow_add-sum c = asks w64 (after c.args.n c.args.power c.requires.0 c.requires.2 c.loop-i-test.true c.loop-i.invariant) tt

pub loop-i-preserved : goal.loop-i-preserved
loop-i-preserved c =
    gives w64 (after c.args.n c.args.power c.requires.0 c.requires.2 c.loop-i-test.true c.loop-i.invariant) tt ∙ one_more_lem _ _ _ c.loop-i.i

pub returns : goal.returns
returns c p e =
    let ended : c.loop-i.i ≡ 12 = omega (arith, c.loop-i-test.false, c.loop-i.auto.i-end) in
    c.loop-i.invariant ∙ (λ j. sum_of c.args.n (c.requires.0 j) (e j) (ended j)) ∙ all_twelve c.args.n p
