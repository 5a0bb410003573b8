-- Pools of small sheets, computed on the definitions. Assumes nothing.
use Rattle.std.specs.Prelude.{ℕ, ◌≡◌, List, [], ◌∷◌, ◌++◌, map, set, take}
use Rattle.sheet_layout.specs.Examples.{square, header, flat, sheet_a, oblong}
use Rattle.sheet_pool.specs.Pool.{pooled, pool_refusal, with_pool}

-- sheet A with another height at node 00
abbrev pub high : ℕ → ℕ → List ℕ
high low top = square header 2 (flat low top)

-- the vertical lines at 0 and 1, the horizontal ones at 2, 3 and 4; and the vertical ones at 0, 1 and 2, the horizontal ones at 3 and 4: all line bytes alike
abbrev pub on_lines : ℕ → ℕ → List ℕ
on_lines m n =
    (0x4C ∷ 0x56 ∷ 0x53 ∷ 1 ∷ 0 ∷ m ∷ n ∷ 0 ∷ []) ++ (0 ∷ 0 ∷ 1 ∷ 0 ∷ 2 ∷ 0 ∷ 3 ∷ 0 ∷ 4 ∷ 0 ∷ []) ++
    flat 0 0 ++ flat 0 0 ++ flat 0 0 ++ flat 0 0 ++ flat 0 0 ++ flat 0 0

-- two sheets, the target's size, and the number that the call gives
pub record Asked : Type 0 where
  pub first : List ℕ
  pub second : List ℕ
  pub size : ℕ
  pub gives : ℕ

abbrev pub asked : List ℕ → List ℕ → ℕ → ℕ → Asked
asked a b n r = record { first = a; second = b; size = n; gives = r }

abbrev pub refusals : List Asked
refusals =
    asked sheet_a sheet_a 40 0 ∷
    -- 1 to 6 of the first sheet, whatever the second and the target
    asked [] [] 0 1 ∷
    asked (set sheet_a 3 2) [] 0 2 ∷
    asked (set sheet_a 7 1) [] 0 3 ∷
    asked (take 39 sheet_a) [] 0 4 ∷
    asked (square header 65 (flat 0 16)) [] 0 5 ∷
    asked (high 0 16) [] 0 6 ∷
    -- 15 for each of them in the second, whatever the lines and the target
    asked sheet_a [] 0 15 ∷
    asked sheet_a (set oblong 3 2) 0 15 ∷
    asked sheet_a (set oblong 7 1) 0 15 ∷
    asked sheet_a (take 53 oblong) 0 15 ∷
    asked sheet_a (square header 65 (flat 1 0)) 0 15 ∷
    asked sheet_a (high 0 16) 0 15 ∷
    -- 16 where the lines differ in number, at one position along x, or along y; and where only the counts tell them apart
    asked sheet_a oblong 0 16 ∷
    asked oblong sheet_a 0 16 ∷
    asked sheet_a (set sheet_a 10 3) 0 16 ∷
    asked sheet_a (set sheet_a 14 3) 0 16 ∷
    asked (on_lines 2 3) (on_lines 2 3) 54 0 ∷
    asked (on_lines 2 3) (on_lines 3 2) 54 16 ∷
    asked (on_lines 3 2) (on_lines 2 3) 54 16 ∷
    -- 17 for a target that is one byte too short or too long, also where a sum is out of range
    asked sheet_a sheet_a 39 17 ∷
    asked sheet_a sheet_a 41 17 ∷
    asked (high 255 15) (high 1 0) 41 17 ∷
    -- 4,095 + 0, 4,095 + 1, 2,048 + 2,047 and 2,048 + 2,048 steps; the same below 0
    asked (high 255 15) (high 0 0) 40 0 ∷
    asked (high 255 15) (high 1 0) 40 11 ∷
    asked (high 0 8) (high 255 7) 40 0 ∷
    asked (high 0 8) (high 0 8) 40 11 ∷
    asked (high 1 240) (high 0 0) 40 0 ∷
    asked (high 1 240) (high 255 255) 40 11 ∷
    asked (high 0 248) (high 1 248) 40 0 ∷
    asked (high 0 248) (high 0 248) 40 11 ∷
    -- (4,095 + 1) − 1 is refused, 4,095 + (1 − 1) is not
    asked (high 1 0) (high 255 255) 40 0 ∷
    -- the slopes of the last node: 4,095 and 1 along x, along y
    asked (set (set oblong 50 255) 51 15) (set oblong 50 1) 54 11 ∷
    asked (set (set oblong 52 255) 53 15) (set oblong 52 1) 54 11 ∷
    []

pub record Examples : Type 0 where
  pub numbers : map (λ e. pool_refusal e.first e.second e.size) refusals ≡ map (λ e. e.gives) refusals
  -- 1 + 1 step, −1 + −1, −1 + 3, 255 + 1, which carries over, and 4,095 − 4,095
  pub twice : pooled sheet_a sheet_a ≡ high 2 0
  pub below : pooled (high 255 255) (high 255 255) ≡ high 254 255
  pub across : pooled (high 255 255) (high 3 0) ≡ high 2 0
  pub carried : pooled (high 255 0) (high 1 0) ≡ high 0 1
  pub nothing : pooled (high 255 15) (high 1 240) ≡ high 0 0
  -- every number of every node, in its place
  pub each : pooled oblong oblong ≡
      (0x4C ∷ 0x56 ∷ 0x53 ∷ 1 ∷ 0 ∷ 3 ∷ 2 ∷ 0 ∷ []) ++ (160 ∷ 15 ∷ 210 ∷ 15 ∷ 0 ∷ 16 ∷ 5 ∷ 0 ∷ 9 ∷ 0 ∷ []) ++
      (2 ∷ 0 ∷ 4 ∷ 0 ∷ 6 ∷ 0 ∷ 8 ∷ 0 ∷ 10 ∷ 0 ∷ 12 ∷ 0 ∷ 14 ∷ 0 ∷ 16 ∷ 0 ∷ 18 ∷ 0 ∷ []) ++
      (20 ∷ 0 ∷ 22 ∷ 0 ∷ 24 ∷ 0 ∷ 26 ∷ 0 ∷ 28 ∷ 0 ∷ 30 ∷ 0 ∷ 32 ∷ 0 ∷ 34 ∷ 0 ∷ 36 ∷ 0 ∷ [])
  -- what the target held does not matter; refused, it keeps it
  pub left : with_pool sheet_a sheet_a oblong ≡ oblong
  pub over : with_pool sheet_a sheet_a (take 40 oblong) ≡ high 2 0
