-- The limit of what Horner's rule may reach along a row. Assumes nothing.
use Prim.Native.Nat.{ℕ, ◌^◌}

abbrev pub reach_limit : ℕ
reach_limit = 2 ^ 62
