-- A sheet from the outside vectors, with cells of four sizes. Assumes nothing.
use Rattle.std.specs.Prelude.{ℕ, List, [], ◌∷◌, ◌++◌}

-- vertical lines 3, 7 and 15, horizontal lines 0, 6 and 8: four cells of four sizes
abbrev pub uneven_mesh : List ℕ
uneven_mesh =
    (0x4C ∷ 0x56 ∷ 0x53 ∷ 1 ∷ 0 ∷ 3 ∷ 3 ∷ 0 ∷ []) ++ (3 ∷ 0 ∷ 7 ∷ 0 ∷ 15 ∷ 0 ∷ 0 ∷ 0 ∷ 6 ∷ 0 ∷ 8 ∷ 0 ∷ []) ++
    (3 ∷ 0 ∷ 5 ∷ 0 ∷ 255 ∷ 255 ∷ 10 ∷ 0 ∷ 5 ∷ 0 ∷ 249 ∷ 255 ∷ 17 ∷ 0 ∷ 5 ∷ 0 ∷ 243 ∷ 255 ∷ []) ++
    (248 ∷ 255 ∷ 5 ∷ 0 ∷ 12 ∷ 0 ∷ 255 ∷ 255 ∷ 252 ∷ 255 ∷ 6 ∷ 0 ∷ 6 ∷ 0 ∷ 243 ∷ 255 ∷ 0 ∷ 0 ∷ []) ++
    (237 ∷ 255 ∷ 5 ∷ 0 ∷ 25 ∷ 0 ∷ 244 ∷ 255 ∷ 243 ∷ 255 ∷ 19 ∷ 0 ∷ 251 ∷ 255 ∷ 225 ∷ 255 ∷ 13 ∷ 0 ∷ [])
