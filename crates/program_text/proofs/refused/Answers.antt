-- `program_text::refused` meets its contract: the word, and the number behind it. Assumes nothing.
use Rattle.std.proofs.Common.{ℕ, ℤ, ◌≡◌, ◌+◌, ◌≤◌, List, ◌++◌, length, pos, Fits, w32, w64, to_z, of_z, zero-add, arith, length-append}
use Rattle.std.proofs.lemmas.Int.{to_z_pos}
use Rattle.program_text.specs.Text.{newline, field, refused_word, refused_line}
use Rattle.program_text.proofs.Written.{second_fits, both_written, at_start}
use Rattle.program_text.proofs.refused.Goals as goal

-- the number as it is handed on
handed : {n : ℕ} → Fits w32 n → {z : ℤ} → z ≡ pos n → to_z w64 (of_z w64 z) ≡ pos n
handed {n} f e = rw e (to_z_pos w64 n (omega (arith, f.fits)))

-- there is room for the word and the number
room : (s : List ℕ) (n : ℕ) → length (refused_line n) ≤ length s → 0 + length (refused_word ++ field (pos n) newline) ≤ length s
unfolding refused_line
room s n h = rw (zero-add (length (refused_line n))) h

pub text-end-requires : goal.text-end-requires
text-end-requires c = omega (arith, room _ _ c.requires, length-append refused_word (field (pos c.args.n) newline))

pub field-requires : goal.field-requires
field-requires c = rw (handed c.ranges.n c.from.ensures) (second_fits _ _ refused_word _ (room _ _ c.requires) (c.text-end.ensures.end, c.text-end.ensures.text))

pub returns : goal.returns
unfolding refused_line
returns c =
    let w = at_start _ (refused_line c.args.n) (both_written _ _ refused_word (field (pos c.args.n) newline) (room _ _ c.requires) (c.text-end.ensures.end, c.text-end.ensures.text)
    (rw (← handed c.ranges.n c.from.ensures) (c.field.ensures.end, c.field.ensures.text))) in
    record { end = w.0; text = w.1 }
