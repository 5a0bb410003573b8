-- What is printed for an answer that the code has, and that it fits. Assumes nothing.
use Rattle.std.proofs.Common.{◌≡◌, ℕ, ◌≤◌, pos, List, [], ◌∷◌, length, Ok, Err, refl, arith, lit≤, lit<, length-append}
use native.Mathlib.Nat.{lt_of_le_of_lt}
use borrow.Author.Tests.{ne_eqb}
use Rattle.sheet_calls.specs.declared.refusal.Refusal.{Refusal}
use Rattle.sheet_calls.specs.Refused.{number}
use Rattle.sheet_calls.proofs.Refused.{number-not_zero}
use Rattle.sheet_reach.specs.declared.OuterLines.{OuterLines}
use Rattle.sheet_reach.specs.Reach.{told, reach_answer}
use Rattle.program_text.specs.Text.{blank, newline, field, line, refused_line}
use Rattle.program_text.proofs.Lengths.{field_length}
use Rattle.program_reach_line.specs.ReachLine.{printed, line_room}

-- ---- four positions

pub lines_printed : (l : OuterLines) (input : List ℕ) → told (Ok l) ≡ reach_answer input
    → printed input ≡ line (pos l.left ∷ pos l.top ∷ pos l.right ∷ pos l.bottom ∷ [])
unfolding told printed
lines_printed l input e = rw (← e) refl

-- each of 32 bits
abbrev Position : ℕ → Type 0
Position n = n ≤ 4294967295

position_length : (n behind : ℕ) → Position n → length (field (pos n) behind) ≤ 12
position_length n behind h = field_length 10 (lit≤ tt) (lit≤ tt) (pos n) behind (lt_of_le_of_lt h (lit< tt))

pub lines_fit : (a b c d : ℕ) → Position a → Position b → Position c → Position d → length (line (pos a ∷ pos b ∷ pos c ∷ pos d ∷ [])) ≤ line_room
unfolding line
lines_fit a b c d e f g h =
    simp length-append (omega (arith, position_length a blank e, position_length b blank f, position_length c blank g, position_length d newline h))

-- ---- a refusal

pub refused_printed : (e : Refusal) (input : List ℕ) → told (Err e) ≡ reach_answer input → printed input ≡ refused_line (number e)
unfolding told printed
refused_printed e input h = rw (← h, ne_eqb (number e) 0 (number-not_zero e)) refl
