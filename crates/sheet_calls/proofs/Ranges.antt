-- The tests of lines and of nodes are the ranges that 01 states. Assumes nothing.
use Prim.Native.Nat.{ℕ, zero, suc, ◌+◌, ◌≤◌, ◌<◌}
use mathlib.Core.Path.{◌≡◌}
use mathlib.Core.Logic.Iff
use mathlib.Core.Logic.{◌↔◌}
use mathlib.Core.Bool.{true, false}
use Rattle.sheet_layout.specs.Format.{furthest, widest, Node, node_in}
use Rattle.sheet_layout.specs.Some.{some}
use Rattle.sheet_calls.specs.Refusals.{wrong_step, wrong_line}
use Rattle.sheet_calls.specs.WellFormed.{Rising, InRange}
use Rattle.sheet_layout.proofs.Meaning.{ltb_fails, leb_fails, or_fails}
use Rattle.sheet_layout.proofs.NodeRange.{node_in_lem}
use Rattle.sheet_layout.proofs.Some.{some_fails}

-- ---- lines

-- what 01 says of line k
abbrev Placed : (ℕ → ℕ) → ℕ → Type 0
Placed line zero = line zero ≤ furthest
Placed line (suc k) = ((line (suc k) ≤ furthest) × (line k < line (suc k))) × (line (suc k) ≤ line k + widest)

module _ (line : ℕ → ℕ) where
  placed : (k : ℕ) → (wrong_line line k ≡ false) ↔ Placed line k
  unfolding wrong_line wrong_step
  placed zero = ltb_fails furthest (line zero)
  placed (suc k) =
      or_fails (or_fails (ltb_fails furthest (line (suc k))) (leb_fails (line (suc k)) (line k))) (ltb_fails (line k + widest) (line (suc k)))

  placed_near : (k : ℕ) → Placed line k → line k ≤ furthest
  placed_near zero h = h
  placed_near (suc k) h = h.0.0

  all_rising : (n : ℕ) → ((k : ℕ) → k < n → Placed line k) → Rising line n
  all_rising n h = record {
    near = λ k l. placed_near k (h k l);
    rises = λ k l. (h (suc k) l).0.1;
    narrow = λ k l. (h (suc k) l).1;
  }

  rising_all : (n : ℕ) → Rising line n → (k : ℕ) → k < n → Placed line k
  rising_all n r zero l = r.near zero l
  rising_all n r (suc k) l = ((r.near (suc k) l, r.rises k l), r.narrow k l)

  pub lines_rise : (n : ℕ) → (some (wrong_line line) n ≡ false) ↔ Rising line n
  lines_rise n = Iff.trans (some_fails n placed) (all_rising n, rising_all n)

-- ---- nodes

pub node_in_range : (v : Node) → (node_in v ≡ true) ↔ InRange v
node_in_range v =
    let h = node_in_lem v in
    (λ e. let ((a, b), c) = h.0 e in record { stored_height = a; slope_x = b; slope_y = c }, λ r. h.1 ((r.stored_height, r.slope_x), r.slope_y))
