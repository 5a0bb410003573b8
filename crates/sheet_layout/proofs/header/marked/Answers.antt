-- `sheet_layout::header::marked` meets its contract. Assumes nothing.
use Rattle.std.proofs.Common.{rules, arith, ◌≡◌, ◌≤◌, length, ℕ, List, [], ◌∷◌, ◌∙◌}
use Rattle.std.specs.List.{starts_with}
use lib.Dec.{eqb}
use Rattle.sheet_layout.specs.Format.{marked}
use Rattle.sheet_layout.proofs.header.marked.Goals as goal

starts_marked : (s : List ℕ) → 8 ≤ length s → starts_with eqb s (76 ∷ 86 ∷ 83 ∷ []) ≡ marked s
unfolding marked
starts_marked [] h = absurd (omega (arith, h))
starts_marked (a ∷ []) h = absurd (omega (arith, h))
starts_marked (a ∷ b ∷ []) h = absurd (omega (arith, h))
starts_marked (a ∷ b ∷ c ∷ rest) h = search rules

pub returns : goal.returns
returns c = c.starts_with.ensures.value ∙ starts_marked _ c.requires
