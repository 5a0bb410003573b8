-- What the program `reach` prints for the bytes that it has read (02, #105): one line. Assumes nothing.
use Rattle.std.specs.Prelude.{ℕ, List, map, cond, eqb, pos}
use Rattle.sheet_reach.specs.Reach.{reach_answer}
use Rattle.program_text.specs.Text.{line, refused_line}

-- all that is printed: "one line, decimal with one blank between", of the four positions, or the refusal's line
unfoldable pub printed : List ℕ → List ℕ
printed input = let a = reach_answer input in cond (eqb a.number 0) (line (map pos a.positions)) (refused_line a.number)

-- how many bytes of the input are read at most: two more than the longest sheet has, and one more, which tells a longer input
abbrev pub input_room : ℕ
input_room = 25621

-- room for the line
abbrev pub line_room : ℕ
line_room = 64
