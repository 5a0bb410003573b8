-- `surface_zoning::zoned_level` meets its contract. Assumes nothing.
use Rattle.std.proofs.Common.{sym, ◌∙◌, lit<, w32, w64, rules}
use Rattle.std.proofs.lemmas.Int.{to_z-of_z}
use Rattle.integers.proofs.Operand.{fits, unchanged}
use Rattle.sheet_zones.specs.Zones.{zones_at, limited}
use Rattle.sheet_zoning.specs.Clamps.{clamped}
use Rattle.sheet_zoning.proofs.Clamped.{as_clamp}
use Rattle.surface_of_sheet.specs.Surface.{level}
use Rattle.surface_zones.specs.Zoned.{zoned_level}
use Rattle.surface_zoning.proofs.Refusal.{spot_refused, zones_refused, taken}
use Rattle.surface_zoning.proofs.Stretches.{level_near}
use Rattle.surface_zoning.proofs.zoned_level.Goals as goal

pub returns-in_err-spot : goal.returns-in_err-spot
returns-in_err-spot c = let h = spot_refused c.args.sheet.now c.args.zones.now c.args.x c.args.y _ c.in_err-spot.ensures.refusal in search rules

pub returns-in_err-zones_refusal : goal.returns-in_err-zones_refusal
returns-in_err-zones_refusal c =
    let h = zones_refused c.args.sheet.now c.args.zones.now c.args.x c.args.y c.in_ok-spot.ensures.refusal _ c.in_err-zones_refusal.ensures in search rules

pub overflow_cast-level : goal.overflow_cast-level
overflow_cast-level c =
    let spot = c.in_ok-spot.spot in
    rw (unchanged w64 c.level.type_inv ∙ c.level.ensures) (fits (level_near _ _ _ spot.sheet.accepted spot.inside) (lit< tt))

pub returns : goal.returns
unfolding zoned_level
returns c =
    let p = c.in_ok-spot.spot in let near = level_near _ _ _ p.sheet.accepted p.inside in
    let level_is = unchanged w64 c.level.type_inv ∙ c.level.ensures in
    let number = to_z-of_z w32 _ (rw level_is (fits near (lit< tt))) ∙ level_is in
    let spot = c.in_ok-spot.ensures.spot in
    taken _ _ _ _ c.in_ok-spot.ensures.refusal c.in_ok-zones_refusal.ensures
    (unchanged w32 c.clamp_level.type_inv ∙ c.clamp_level.ensures ∙ (λ t. clamped (c.clamp_at-clamp.ensures t) (number t)) ∙ sym (as_clamp _ _ _ near)
    ∙ (λ t. limited (zones_at c.args.zones.now c.args.x c.args.y) (level (spot.0 t).now (spot.1 t) (spot.2 t))))
