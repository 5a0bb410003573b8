-- `program_listing::row_text` meets its contract. Assumes nothing.
use Rattle.std.proofs.Common.{◌≤◌, ◌<◌, arith, rules}
use Rattle.surface_of_sheet.proofs.Cells.{last_x_near}
use Rattle.program_text.proofs.Written.{at_start}
use Rattle.program_listing.specs.Listing.{last_x, row_text}
use Rattle.program_listing.proofs.Begun.{starts, line_room_lem, goes_on, done}
use Rattle.program_listing.proofs.row_text.Goals as goal

pub overflow_add-x-end : goal.overflow_add-x-end
overflow_add-x-end c = let near : c.last_line-x-end.result ≤ 4096 = omega (arith, c.last_line-x-end.ensures, last_x_near _ c.args.sheet.accepted) in search rules

pub loop-x-init : goal.loop-x-init
loop-x-init c = rw c.first_line-x.ensures (starts _ _ c.requires.0 _)

pub pixel_line-end-requires : goal.pixel_line-end-requires
pixel_line-end-requires c =
    let on : c.loop-x.x ≤ last_x c.args.sheet.bytes.now = omega (arith, c.last_line-x-end.ensures, c.loop-x-test.true) in
    line_room_lem _ _ c.requires.0 _ c.requires.1 c.loop-x.invariant on

pub loop-x-preserved : goal.loop-x-preserved
loop-x-preserved c =
    let on : c.loop-x.x ≤ last_x c.args.sheet.bytes.now = omega (arith, c.last_line-x-end.ensures, c.loop-x-test.true) in
    let w = c.pixel_line-end.ensures in
    goes_on _ _ c.requires.0 _ c.requires.1 c.loop-x.invariant on (w.end, w.text)

-- behind the loop the last pixel is done
pub returns-clause-count : goal.returns-clause-count
returns-clause-count c =
    let a = c.args in
    let past : last_x a.sheet.bytes.now < c.loop-x.x = omega (arith, c.last_line-x-end.ensures, c.loop-x-test.false) in
    (at_start a.out.now (row_text a.sheet.bytes.now a.y) (done c.loop-x.invariant past)).0

pub returns-clause-text : goal.returns-clause-text
returns-clause-text c =
    let a = c.args in
    let past : last_x a.sheet.bytes.now < c.loop-x.x = omega (arith, c.last_line-x-end.ensures, c.loop-x-test.false) in
    (at_start a.out.now (row_text a.sheet.bytes.now a.y) (done c.loop-x.invariant past)).1
