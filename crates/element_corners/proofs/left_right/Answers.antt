-- `element_corners::left_right` meets its contract: the definition's corners, one by one. Assumes nothing.
use Rattle.std.proofs.Common.{ap, ◌∙◌}
use Rattle.element_sibson.specs.Element.{swap, negate_x, negate_y, exchanged, top_down, left_right}
use Rattle.element_cell.specs.Corners.{corners, three, arrays}
use Rattle.element_cell.proofs.Arrays.{held}
use Rattle.element_corners.proofs.Turned.{exchanged_within}
use Rattle.element_corners.proofs.left_right.Goals as goal

pub top_down-turned-requires : goal.top_down-turned-requires
top_down-turned-requires c = rw (held _ c.exchanged.ensures) (exchanged_within c.requires)

pub returns : goal.returns
unfolding arrays three swap negate_x negate_y exchanged top_down left_right
returns c =
    let e = held (exchanged (corners c.args.n)) c.exchanged.ensures in
    let t = held (top_down (corners c.exchanged.result)) c.top_down-turned.ensures in
    c.exchanged-2.ensures ∙ ap (λ n. arrays (exchanged n)) (t ∙ ap top_down e)
