-- `sheet_zoning::zone::Zone::same_until` meets its contract. Assumes nothing.
use Rattle.std.proofs.Common.{sym, ◌∙◌, subst, arith}
use Rattle.sheet_zones.specs.Zones.{Zone}
use Rattle.sheet_zoning.specs.Clamps.{Alike}
use Rattle.sheet_zoning.proofs.Pixels.{alike_across, alike_left, alike_right, alike_inside}
use Rattle.sheet_zoning.proofs.zone.Zone.same_until.Goals as goal

pub returns-then-not-crosses : goal.returns-then-not-crosses
returns-then-not-crosses c = (omega arith, omega arith, alike_across _ _ _ _ (sym c.crosses.ensures ∙ c.if-not-crosses.true))

pub returns-then-x-self : goal.returns-then-x-self
returns-then-x-self c = let P : Zone → Type 0 = λ z. Alike z c.args.x c.args.y c.min.result in
    (omega arith, omega arith, subst P c.self.view_is (alike_left _ _ _ _ c.if-x-self.true (omega arith)))

pub returns-then-x-self-2 : goal.returns-then-x-self-2
returns-then-x-self-2 c = let P : Zone → Type 0 = λ z. Alike z c.args.x c.args.y c.min-then-x-self-2.result in
    (omega arith, omega arith, subst P c.self.view_is (alike_inside _ _ _ _ c.if-x-self.false c.if-x-self-2.true (omega arith)))

pub returns : goal.returns
returns c = let P : Zone → Type 0 = λ z. Alike z c.args.x c.args.y c.args.most in
    (omega arith, omega arith, subst P c.self.view_is (alike_right _ _ _ _ c.if-x-self-2.false))
