-- `sheet_steepness::looking::steep` meets its contract. Assumes nothing.
use Rattle.std.proofs.Common.{◌≡◌, not, pos, negsuc, nat_abs, sym, ◌∙◌, ap, rules, w64, to_z, of_z}
use Rattle.integers.specs.Round.{round}
use Rattle.integers.proofs.Operand.{literal, known, unchanged, ◌⊠◌, gives}
use Rattle.sheet_layout.specs.Format.{slope_in}
use Rattle.sheet_calls.proofs.WellFormed.{nodes_there}
use Rattle.sheet_steepness.proofs.Along.{accepted_lines, slope_is}
use Rattle.sheet_steepness.proofs.Quotients.{at_most, in_range_rounded, quotient_is}
use Rattle.sheet_steepness.proofs.looking.steep.Goals as goal

pub stiffened-stiffened-requires : goal.stiffened-stiffened-requires
stiffened-stiffened-requires c = let p = c.requires in (nodes_there _ c.args.sheet.accepted, p.0, p.1, p.2)

pub divisor-divisor-requires : goal.divisor-divisor-requires
divisor-divisor-requires c = let l = accepted_lines c.args.axis c.args.sheet.accepted in (l.whole, l.rising, l.few, c.requires.1)

pub returns-then-contains : goal.returns-then-contains
returns-then-contains c =
    let (rise_is, rise_small) = c.stiffened-stiffened.ensures in
    let (gap_is, gap_denominates, gap_small) = c.divisor-divisor.ensures in
    let lowest = c.new.ensures.start ∙ gives w64 (literal (negsuc 4094) ⊠ known w64 gap_small tt) tt in
    let highest = c.new.ensures.end ∙ gives w64 (literal (pos 4095) ⊠ known w64 gap_small tt) tt in
    let risen = (known w64 rise_small tt).reads in
    let t = c.if-contains.ensures.cases in
    let inside = in_range_rounded _ _ gap_denominates.positive (at_most lowest risen t.0) (at_most risen highest t.1) in
    ap not (sym inside ∙ ap slope_in ((λ i. round (rise_is i) (nat_abs (gap_is i))) ∙ slope_is c.args.axis _ _ _ _))

pub returns : goal.returns
unfolding slope_in
returns c =
    let answer : c.contains-2.result ≡ slope_in (to_z w64 (of_z w64 c.round-slope.result)) = search rules in
    let slope = unchanged w64 c.round-slope.type_inv ∙ c.round-slope.ensures ∙ quotient_is c.stiffened-stiffened.ensures c.divisor-divisor.ensures in
    ap not (answer ∙ ap slope_in (slope ∙ slope_is c.args.axis _ _ _ _))
