-- `sheet_filling::fill_node` meets its contract. Assumes nothing.
use Rattle.std.proofs.Common.{◌≡◌, ◌+◌, ◌∙◌, true}
use Rattle.sheet_words.specs.Word.{replaced}
use Rattle.sheet_layout.specs.Format.{height_size, slope_bytes, slope_in}
use Rattle.sheet_slopes.specs.Slopes.{filled_x, filled_y}
use Rattle.sheet_slopes.specs.InPlace.{node_filled}
use Rattle.sheet_filling.proofs.Casts.{narrow_fits, narrow_is, narrow_in}
use Rattle.sheet_filling.proofs.fill_node.Goals.{After-node_offset-at}
use Rattle.sheet_filling.proofs.fill_node.Goals as goal

-- the slopes are in range
module _ (c : After-node_offset-at) where
  x_in : slope_in (filled_x c.args.sheet.now c.args.stiffness c.args.column c.args.row) ≡ true
  x_in = c.requires.0.slopes_x c.args.column c.args.row c.requires.1 c.requires.2

  y_in : slope_in (filled_y c.args.sheet.now c.args.stiffness c.args.column c.args.row) ≡ true
  y_in = c.requires.0.slopes_y c.args.column c.args.row c.requires.1 c.requires.2

pub overflow_cast-along_x : goal.overflow_cast-along_x
overflow_cast-along_x c = narrow_fits c.slope-along_x.ensures (x_in (goal.at.overflow_cast-along_x c).After-node_offset-at)

pub overflow_cast-along_y : goal.overflow_cast-along_y
overflow_cast-along_y c = narrow_fits c.slope-along_y.ensures (y_in (goal.at.overflow_cast-along_y c).After-node_offset-at)

pub put_slopes-requires : goal.put_slopes-requires
put_slopes-requires c =
    let d = (goal.at.put_slopes-requires c).After-node_offset-at in
    (c.node_offset-at.ensures.1, narrow_in c.slope-along_x.ensures (x_in d), narrow_in c.slope-along_y.ensures (y_in d))

pub returns : goal.returns
unfolding node_filled
returns c =
    let d = (goal.at.returns c).After-node_offset-at in
    let x = narrow_is c.slope-along_x.ensures (x_in d) in
    let y = narrow_is c.slope-along_y.ensures (y_in d) in
    let at = c.node_offset-at.ensures.0 in
    c.put_slopes.ensures ∙ (λ i. replaced c.args.sheet.now (at i + height_size) (slope_bytes (x i) (y i)))
