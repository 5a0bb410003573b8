-- A row that is filled step by step, one slot each: the row after so many steps, its laws, and a loop that makes them. Assumes nothing.
use Rattle.std.specs.Prelude.{ℕ, zero, suc, ◌+◌, ◌-◌, ◌≤◌, ◌<◌, ◌≡◌, List, ℤ, length, get_or, set}

-- a step of filling, 02's word (not a step of light): slot k is set to f k, what it is to hold, and no other slot is touched
unfoldable pub step : (ℕ → ℤ) → ℕ → List ℤ → List ℤ
step f k row = set row k (f k)

-- the row after `count` steps, from slot `from` on
unfoldable pub steps : (ℕ → ℤ) → ℕ → ℕ → List ℤ → List ℤ
steps f from zero row = row
steps f from (suc k) row = step f (from + k) (steps f from k row)

-- f, moved to start at a slot: slot + k is to hold f k
unfoldable pub starting_at : ℕ → (ℕ → ℤ) → ℕ → ℤ
starting_at slot f k = f (k - slot)

-- a loop of `count` steps from slot `from` on, at the start of a turn: it has made k of them, and its row, row₀ when it started, is the one after k steps now
pub record Underway (f : ℕ → ℤ) (from count : ℕ) (row₀ row : List ℤ) (k : ℕ) : Type 0 where
  pub most : k ≤ count
  pub grown : row ≡ steps f from k row₀

pub record StepwiseLaws : Type 0 where
  -- a row keeps its length
  pub size : (f : ℕ → ℤ) (from count : ℕ) (row : List ℤ) → length (steps f from count row) ≡ length row
  -- before the first step it is as it was, and one step more is one slot more
  pub none : (f : ℕ → ℤ) (from : ℕ) (row : List ℤ) → steps f from 0 row ≡ row
  pub one_more : (f : ℕ → ℤ) (from k : ℕ) (row : List ℤ) → steps f from (suc k) row ≡ set (steps f from k row) (from + k) (f (from + k))
  -- n + m steps are n, and m from there on
  pub through : (f : ℕ → ℤ) (from n m : ℕ) (row : List ℤ) → steps f from (n + m) row ≡ steps f (from + n) m (steps f from n row)
  -- the slots that have had their step hold what they are to hold, those before and behind them what they held
  pub done : (f : ℕ → ℤ) (from count : ℕ) (row : List ℤ) (k : ℕ) → from ≤ k → k < from + count → k < length row → (z : ℤ) → get_or (steps f from count row) k z ≡ f k
  pub before : (f : ℕ → ℤ) (from count : ℕ) (row : List ℤ) (k : ℕ) → k < from → (z : ℤ) → get_or (steps f from count row) k z ≡ get_or row k z
  pub behind : (f : ℕ → ℤ) (from count : ℕ) (row : List ℤ) (k : ℕ) → from + count ≤ k → (z : ℤ) → get_or (steps f from count row) k z ≡ get_or row k z
