-- `element_spans::fill_cell` meets its contract: before and after each span, the row and what is asked. Assumes nothing.
use Rattle.std.proofs.Common.{ap, arith}
use Rattle.element_cell.specs.Pieces.{piece_of}
use Rattle.element_row_cubic.proofs.Denominators.{denominates}
use Rattle.element_spans.specs.Ends.{ends_of}
use Rattle.element_spans.proofs.Filled.{divisor, known, in_order_lem, same_size, left_fits, middle_fits, right_fits, left_filled, middle_filled, right_filled}
use Rattle.element_spans.proofs.fill_cell.Goals as goal

pub new-d-requires : goal.new-d-requires
new-d-requires c = let i = c.first.invariant in rw (divisor i c.denominator.ensures).reads (denominates i.width i.height)

pub overflow_sub-both : goal.overflow_sub-both
overflow_sub-both c = (in_order_lem (known c.requires.0 c.requires.1 c.first.view_is c.denominator.ensures c.new-d.ensures c.span_ends-ends.ensures c.before-left.ensures c.before-both.ensures)).0

pub middle_cubic-requires : goal.middle_cubic-requires
unfolding ends_of
middle_cubic-requires c = (c.requires.0, ap (λ e. e.upper) c.span_ends-ends.ensures)

pub fill_levels-requires : goal.fill_levels-requires
unfolding piece_of
fill_levels-requires c =
    let w = known c.requires.0 c.requires.1 c.first.view_is c.denominator.ensures c.new-d.ensures c.span_ends-ends.ensures c.before-left.ensures c.before-both.ensures in
    (left_fits w c.cubic.ensures, omega (arith, in_order_lem w))

pub fill_levels-requires-2 : goal.fill_levels-requires-2
unfolding piece_of
fill_levels-requires-2 c =
    let w = known c.requires.0 c.requires.1 c.first.view_is c.denominator.ensures c.new-d.ensures c.span_ends-ends.ensures c.before-left.ensures c.before-both.ensures in
    let one = left_filled w c.cubic.ensures c.fill_levels.ensures in
    (middle_fits w c.middle_cubic.ensures, omega (arith, in_order_lem w, same_size one))

pub fill_levels-requires-3 : goal.fill_levels-requires-3
unfolding piece_of
fill_levels-requires-3 c =
    let w = known c.requires.0 c.requires.1 c.first.view_is c.denominator.ensures c.new-d.ensures c.span_ends-ends.ensures c.before-left.ensures c.before-both.ensures in
    let one = left_filled w c.cubic.ensures c.fill_levels.ensures in
    let two = middle_filled w c.middle_cubic.ensures one c.fill_levels-2.ensures in
    (right_fits w c.cubic-2.ensures, omega (arith, in_order_lem w, same_size two))

pub returns : goal.returns
unfolding piece_of
returns c =
    let w = known c.requires.0 c.requires.1 c.first.view_is c.denominator.ensures c.new-d.ensures c.span_ends-ends.ensures c.before-left.ensures c.before-both.ensures in
    let one = left_filled w c.cubic.ensures c.fill_levels.ensures in
    let two = middle_filled w c.middle_cubic.ensures one c.fill_levels-2.ensures in
    (right_filled w c.cubic-2.ensures two c.fill_levels-3.ensures).holds
