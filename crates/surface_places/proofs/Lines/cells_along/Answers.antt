-- `surface_places::Lines::cells_along` meets its contract. Assumes nothing.
use Rattle.std.proofs.Common.{arith}
use Rattle.surface_places.proofs.Axes.{lines_read, along}
use Rattle.surface_places.proofs.Touching.{highest_holds, two_cells, one_cell}
use Rattle.surface_places.proofs.Lines.cells_along.Goals as goal
use Rattle.surface_places.proofs.Lines.cells_along.Goals.{else-highest-gt0-via-then-highest-gt0+else-position-line, else-highest-gt0-via-else-highest-gt0}

-- the cell that is found touches the position
pub line-requires : goal.line-requires
line-requires c =
    let a = along c.args.self.mesh c.args.axis in let touches = highest_holds _ _ _ a.few a.rising c.requires in
    (lines_read c.args.self.mesh, omega (arith, touches.has, c.highest_along-highest.ensures))

pub returns-then-position-line : goal.returns-then-position-line
returns-then-position-line c =
    let a = along c.args.self.mesh c.args.axis in
    rw c.highest_along-highest.ensures
    (two_cells _ _ _ a.few a.rising c.requires (rw (← c.highest_along-highest.ensures) c.if-highest-gt0.true)
    (rw (← c.highest_along-highest.ensures, ← c.line.ensures.0) c.if-position-line.true))

pub returns : goal.returns
returns c =
    let a = along c.args.self.mesh c.args.axis in
    rw c.highest_along-highest.ensures
    (one_cell _ _ _ a.few a.rising c.requires (λ some. elim c.else-highest-gt0.branch [
      | else-highest-gt0-via-then-highest-gt0+else-position-line w ↦ rw (← c.highest_along-highest.ensures, ← w.line.ensures.0) w.if-position-line.false
      | else-highest-gt0-via-else-highest-gt0 w ↦ absurd (omega (arith, w.if-highest-gt0.false, c.highest_along-highest.ensures))
    ]))
