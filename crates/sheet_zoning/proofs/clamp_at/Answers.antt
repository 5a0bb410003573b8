-- `sheet_zoning::clamp_at` meets its contract. Assumes nothing.
use Rattle.std.proofs.Common.{refl, sym, ◌∙◌, arith, w32}
use Rattle.integers.proofs.Operand.{unchanged}
use Rattle.sheet_zoning.specs.Clamps.{clamp_at}
use Rattle.sheet_zoning.proofs.Turns.{all_behind, none_behind, does_part, passes}
use Rattle.sheet_zoning.proofs.clamp_at.Goals as goal
use Rattle.sheet_zoning.proofs.clamp_at.Goals.{then-holds, else-holds}

pub loop-k-init : goal.loop-k-init
loop-k-init c = rw (all_behind c.args.zones.now c.args.x c.args.y) (refl, refl)

pub loop-k-preserved : goal.loop-k-preserved
loop-k-preserved c =
    let (i, j) = c.loop-k.invariant in
    let z = c.zone_at-zone.ensures in
    elim c.if-holds.branch [
      | then-holds w ↦
          let h = sym c.holds.ensures ∙ w.if-holds.true in (
            does_part _ _ _ _ (omega arith) z h _ _ (w.least-is ∙ unchanged w32 w.limited_by-least.type_inv ∙ w.limited_by-least.ensures) ∙ i,
            does_part _ _ _ _ (omega arith) z h _ _ (w.greatest-is ∙ unchanged w32 w.limited_by-greatest.type_inv ∙ w.limited_by-greatest.ensures) ∙ j,
          )
      | else-holds w ↦
          let h = sym c.holds.ensures ∙ w.if-holds.false in
          (passes _ _ _ _ (omega arith) z h _ _ w.least-is ∙ i, passes _ _ _ _ (omega arith) z h _ _ w.greatest-is ∙ j)
    ]

pub returns : goal.returns
unfolding clamp_at
returns c =
    let none = none_behind c.args.zones.now c.args.x c.args.y c.loop-k.k (omega arith) in
    let low = none c.loop-k.least in
    let high = none c.loop-k.greatest in
    cc
