-- The pool, from the lines that are copied and the sums behind them. Assumes nothing.
use Prim.Native.Nat.{ℕ, ◌+◌, ◌≤◌}
use mathlib.Core.Path.{◌≡◌, ◌∙◌, ap}
use mathlib.Core.List.{List, ◌++◌, append-nil}
use native.Mathlib.Omega.{arith}
use lib.ListN.{length, take, drop, take-append-drop}
use lib.Seq.{length-take-le, drop-length}
use Rattle.sheet_words.specs.Word.{replaced}
use Rattle.sheet_words.proofs.Replaced.{replaced_length, replaced_on}
use Rattle.sheet_layout.specs.Format.{nodes_offset}
use Rattle.sheet_calls.proofs.WellFormed.{lines_there}
use Rattle.sheet_pool.specs.Pool.{pooled}
use Rattle.sheet_pool.proofs.Chain.{Held}
use Rattle.sheet_pool.proofs.Pooled.{is_pool, pooled_front}
use Rattle.sheet_sums.specs.Sums.{with_sums}

module _ {a b : List ℕ} (target : List ℕ) (held : Held a b (length target)) where
  lines : nodes_offset a ≤ length a
  lines = lines_there a held.pair.first_accepted

  lines_size : length (take (nodes_offset a) a) ≡ nodes_offset a
  lines_size = length-take-le (nodes_offset a) a lines

  fits : 0 + length (take (nodes_offset a) a) ≤ length target
  fits = omega (arith, lines, lines_size, held.size)

  pub copied_size : length (replaced target 0 (take (nodes_offset a) a)) ≡ length a
  copied_size = replaced_length target 0 (take (nodes_offset a) a) fits ∙ held.size

  front : take (nodes_offset a) a ++ drop (nodes_offset a) (pooled a b) ≡ pooled a b
  front = rw (← pooled_front a b lines) (take-append-drop (nodes_offset a) (pooled a b))

  -- the pool is as long as the target, so it replaces it whole
  whole : replaced target 0 (pooled a b) ≡ pooled a b
  whole =
      let all : 0 + length (pooled a b) ≡ length target = omega (arith, held.size, (is_pool held).size) in
      rw (all, drop-length target) (append-nil (pooled a b))

  pub joined : with_sums a b (replaced target 0 (take (nodes_offset a) a)) ≡ pooled a b
  unfolding with_sums
  joined =
      let o = nodes_offset a in
      let from : o ≡ 0 + length (take o a) = omega (arith, lines_size) in
      ap (λ n. replaced (replaced target 0 (take o a)) n (drop o (pooled a b))) from
      ∙ replaced_on target 0 (take o a) fits (drop o (pooled a b))
      ∙ ap (replaced target 0) front
      ∙ whole
