-- The limits of a piece's weights. Assumes nothing.
use Prim.Native.Nat.{ℕ}

-- the absolute weights of all twelve corner numbers, in all coefficients, add up to no more
abbrev pub weights_limit : ℕ
weights_limit = 256

-- at a point of a piece they add up to no more than so many halves
abbrev pub halves_limit : ℕ
halves_limit = 3
