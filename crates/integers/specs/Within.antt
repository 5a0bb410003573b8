-- An absolute bound: z within N says that |z| ≤ N. A record, so that z and N are read off a hypothesis. Assumes nothing.
use Rattle.std.specs.Prelude.{ℕ, ◌≤◌, ℤ, nat_abs}

infix 50 ◌within◌
pub record ◌within◌ (z : ℤ) (N : ℕ) : Type 0 where
  pub bound : nat_abs z ≤ N
