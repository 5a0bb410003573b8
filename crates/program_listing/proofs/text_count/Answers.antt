-- `program_listing::text_count` meets its contract. Assumes nothing.
use Rattle.std.proofs.Common.{◌+◌, ◌-◌, ◌≡◌, ◌≤◌, ◌∙◌, sym, ap, arith, rules}
use Rattle.sheet_calls.specs.Refusals.{sheet_refusal}
use Rattle.surface_of_sheet.proofs.Cells.{last_y_near}
use Rattle.program_listing.specs.Listing.{text_count}
use Rattle.program_listing.proofs.Checked.{unrefused, refused}
use Rattle.program_listing.proofs.Lengths.{first_inside}
use Rattle.program_listing.proofs.RowCount.{row_count_lem}
use Rattle.program_listing.proofs.Texts.{line_count}
use Rattle.program_listing.proofs.text_count.Goals as goal

pub overflow_add-result : goal.overflow_add-result
overflow_add-result c = let near : c.last_line.result ≤ 4096 = omega (arith, c.last_line.ensures, last_y_near _ c.in-Ok.sheet.accepted) in search rules

pub overflow_sub-result : goal.overflow_sub-result
overflow_sub-result c = omega (arith, c.first_line.ensures, c.last_line.ensures, (first_inside _ c.in-Ok.sheet.accepted).bottom)

-- a text for each row
pub returns-in-Ok : goal.returns-in-Ok
returns-in-Ok c =
    let s = c.args.listing in let t = c.in-Ok.sheet in let same = s.sheet _ c.in-Ok.is in
    let there : sheet_refusal t.bytes.now ≡ 0 = ap sheet_refusal same ∙ unrefused _ s.refusal c.in-Ok.is in
    let counted : c.last_line.result + 1 - c.first_line.result ≡ text_count t.bytes.now = omega (arith, c.first_line.ensures, c.last_line.ensures, row_count_lem _ there) in
    counted ∙ ap text_count same

pub returns-in-Err : goal.returns-in-Err
returns-in-Err c = sym (line_count _ (refused _ c.args.listing.refusal c.in-Err.is))
