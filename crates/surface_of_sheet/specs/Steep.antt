-- Small sheets of one cell that is flat but for the slope of one node. Assumes nothing.
use Rattle.std.specs.Prelude.{ℕ, List, [], ◌∷◌, ◌++◌}

-- a node of height 0 with slopes 0
abbrev pub flat_node : List ℕ
flat_node = 0 ∷ 0 ∷ 0 ∷ 0 ∷ 0 ∷ 0 ∷ []

-- lines 0 and w both ways, all numbers 0 but the x-slope of node 00, the low byte first
abbrev pub steep : ℕ → ℕ → ℕ → List ℕ
steep w low high =
    (0x4C ∷ 0x56 ∷ 0x53 ∷ 1 ∷ 0 ∷ 2 ∷ 2 ∷ 0 ∷ []) ++ (0 ∷ 0 ∷ w ∷ 0 ∷ 0 ∷ 0 ∷ w ∷ 0 ∷ []) ++ (0 ∷ 0 ∷ low ∷ high ∷ 0 ∷ 0 ∷ []) ++
    flat_node ++ flat_node ++ flat_node
