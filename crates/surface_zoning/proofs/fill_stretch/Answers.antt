-- `surface_zoning::fill_stretch` meets its contract. Assumes nothing.
use Rattle.std.proofs.Common.{sym, ◌∙◌}
use Rattle.surface_zoning.proofs.Stretches.{clamped_row, left_row, run_filled}
use Rattle.surface_zoning.proofs.fill_stretch.Goals as goal

pub returns-then-not-leaves_all : goal.returns-then-not-leaves_all
returns-then-not-leaves_all c =
    c.clamp_row.ensures ∙ clamped_row _ _ _ _ _ c.requires.0 c.requires.1 (run_filled _ _ _ _ c.run.ensures) c.clamp_at-clamp.ensures

pub returns-else-not-leaves_all : goal.returns-else-not-leaves_all
returns-else-not-leaves_all c =
    left_row _ _ _ _ _ c.requires.0 c.requires.1 (run_filled _ _ _ _ c.run.ensures) c.clamp_at-clamp.ensures
    (sym c.leaves_all.ensures ∙ c.if-not-leaves_all.false)
