-- The order of two sheets does not matter, nor the order and the grouping of three; and a sheet of zeros changes nothing. Assumes nothing.
use Prim.Native.Nat.{ℕ, ◌<◌}
use mathlib.Core.Path.{◌≡◌, refl, sym, ◌∙◌, ap}
use mathlib.Core.Logic.{⊎_elim}
use mathlib.Core.List.{List}
use lib.ListN.{length}
use lib.IntN.{pos, +ℤ_comm, +ℤ_assoc, +ℤ_idr}
use Rattle.sheet_words.specs.Word.{Bytes}
use Rattle.sheet_layout.specs.Format.{columns, rows, Node, node, node_at}
use Rattle.sheet_layout.specs.SameLines.{SameLines}
use Rattle.sheet_layout.proofs.SameLines.{same_refl, same_sym, same_trans}
use Rattle.sheet_calls.specs.Refusals.{Accepted}
use Rattle.sheet_calls.proofs.WellFormed.{accepted_laws}
use Rattle.sheet_pool.specs.Pool.{added, pooled_node, pool_refusal}
use Rattle.sheet_calls.specs.OnSameLines.{OnSameLines}
use Rattle.sheet_pool.specs.PoolLaws.{IsPool, FirstTwo, LastTwo, Grouped, InAnyOrder, AllZero}
use Rattle.sheet_pool.proofs.Chain.{pool_taken}
use Rattle.sheet_pool.proofs.Pooled.{pools}
use Rattle.sheet_pool.proofs.SameBytes.{same_bytes_lem}

-- ---- sums of nodes

added_comm : (v w : Node) → added v w ≡ added w v
unfolding added
added_comm v w = λ t.
    node (+ℤ_comm v.stored_height w.stored_height t) (+ℤ_comm v.slope_x w.slope_x t) (+ℤ_comm v.slope_y w.slope_y t)

added_assoc : (u v w : Node) → added (added u v) w ≡ added u (added v w)
unfolding added
added_assoc u v w = λ t.
    node (+ℤ_assoc u.stored_height v.stored_height w.stored_height t) (+ℤ_assoc u.slope_x v.slope_x w.slope_x t)
    (+ℤ_assoc u.slope_y v.slope_y w.slope_y t)

added_zeros : (v : Node) → added v (node (pos 0) (pos 0) (pos 0)) ≡ v
unfolding added
added_zeros v = λ t. node (+ℤ_idr v.stored_height t) (+ℤ_idr v.slope_x t) (+ℤ_idr v.slope_y t)

-- ---- one sheet from its lines and its nodes

-- p is a sheet on the lines of a, with these nodes
record HasNodes (a : List ℕ) (f : ℕ → ℕ → Node) (p : List ℕ) : Type 0 where
  accepted : Accepted p
  lines : SameLines a p
  nodes : (i j : ℕ) → i < columns a → j < rows a → node_at p i j ≡ f i j
  bytes : Bytes p

unique : {a p q : List ℕ} {f : ℕ → ℕ → Node} → HasNodes a f p → HasNodes a f q → q ≡ p
unique {p = p} {q} x y =
    let lines = same_trans (same_sym x.lines) y.lines in
    same_bytes_lem p q (record { first_accepted = x.accepted; second_accepted = y.accepted; lines = lines }) x.bytes y.bytes
    (λ i j h k. let h' = rw x.lines.same_columns at h in let k' = rw x.lines.same_rows at k in y.nodes i j h' k' ∙ sym (x.nodes i j h' k'))

-- the same, seen from another sheet on these lines, its nodes said in another way
seen_from_lem : {a b p : List ℕ} {f g : ℕ → ℕ → Node} → SameLines b a → ((i j : ℕ) → i < columns b → j < rows b → f i j ≡ g i j) → HasNodes a f p → HasNodes b g p
seen_from_lem l e x = record {
  accepted = x.accepted;
  lines = same_trans l x.lines;
  nodes = λ i j h k. x.nodes i j (rw l.same_columns h) (rw l.same_rows k) ∙ e i j h k;
  bytes = x.bytes;
}

-- ---- two sheets

of_two : {a b p : List ℕ} → Bytes a → IsPool a b p → HasNodes a (λ i j. added (node_at a i j) (node_at b i j)) p
of_two ba x = record { accepted = x.accepted; lines = x.lines; nodes = x.nodes; bytes = x.bytes ba }

pub either_order_lem : (a b p q : List ℕ) → Bytes a → Bytes b → IsPool a b p → IsPool b a q → q ≡ p
either_order_lem a b p q ba bb x y = unique (of_two ba x) (seen_from_lem x.pair.lines (λ i j h k. added_comm _ _) (of_two bb y))

-- ---- three

-- what the pool of three has: their lines, and the sums of all three
record OfThree (a b c p : List ℕ) : Type 0 where
  to_second : SameLines a b
  to_third : SameLines a c
  sums : HasNodes a (λ i j. added (added (node_at a i j) (node_at b i j)) (node_at c i j)) p

module _ {a b c p : List ℕ} (ba : Bytes a) where
  from_first : FirstTwo IsPool a b c p → OfThree a b c p
  from_first t =
      let x = t.inner in
      let y = t.outer in
      record {
        to_second = x.pair.lines;
        to_third = same_trans x.lines y.pair.lines;
        sums = seen_from_lem x.lines (λ i j h k. ap (λ v. added v (node_at c i j)) (x.nodes i j h k)) (of_two (x.bytes ba) y);
      }

  from_last : LastTwo IsPool a b c p → OfThree a b c p
  from_last t =
      let x = t.inner in
      let y = t.outer in
      let to : SameLines a b = same_trans y.pair.lines (same_sym x.lines) in
      record {
        to_second = to;
        to_third = same_trans to x.pair.lines;
        sums = seen_from_lem same_refl
            (λ i j h k. ap (added (node_at a i j)) (x.nodes i j (rw to.same_columns h) (rw to.same_rows k)) ∙ sym (added_assoc _ _ _)) (of_two ba y);
      }

  of_three : Grouped IsPool a b c p → OfThree a b c p
  of_three = ⊎_elim from_first from_last

module _ {a b c p : List ℕ} (w : OfThree a b c p) where
  swap_first : OfThree b a c p
  swap_first =
      let back = same_sym w.to_second in
      record {
        to_second = back;
        to_third = same_trans back w.to_third;
        sums = seen_from_lem back (λ i j h k. ap (λ v. added v (node_at c i j)) (added_comm _ _)) w.sums;
      }

  swap_last : OfThree a c b p
  swap_last = record {
    to_second = w.to_third;
    to_third = w.to_second;
    sums = seen_from_lem same_refl (λ i j h k. added_assoc _ _ _ ∙ ap (added (node_at a i j)) (added_comm _ _) ∙ sym (added_assoc _ _ _)) w.sums;
  }

pub any_order_lem : (a b c p q : List ℕ) → Bytes a → Bytes b → Bytes c → Grouped IsPool a b c p → InAnyOrder (λ a' b' c'. Grouped IsPool a' b' c' q → q ≡ p) a b c
any_order_lem a b c p q ba bb bc t =
    let w = of_three ba t in (
      λ u. unique w.sums (of_three ba u).sums,
      λ u. unique (swap_last w).sums (of_three ba u).sums,
      λ u. unique (swap_first w).sums (of_three bb u).sums,
      λ u. unique (swap_last (swap_first w)).sums (of_three bb u).sums,
      λ u. unique (swap_first (swap_last w)).sums (of_three bc u).sums,
      λ u. unique (swap_last (swap_first (swap_last w))).sums (of_three bc u).sums,
    )

-- ---- zeros

module _ {a b : List ℕ} (lines : SameLines a b) (zeros : AllZero b) (i j : ℕ) (h : i < columns a) (k : j < rows a) where
  zeros_added : added (node_at a i j) (node_at b i j) ≡ node_at a i j
  zeros_added = ap (added (node_at a i j)) (zeros.zeros i j (rw lines.same_columns h) (rw lines.same_rows k)) ∙ added_zeros (node_at a i j)

pub with_zeros_lem : (a b p : List ℕ) → Bytes a → AllZero b → IsPool a b p → p ≡ a
with_zeros_lem a b p ba zeros x = unique
    (record { accepted = x.pair.first_accepted; lines = same_refl; nodes = λ i j h k. refl; bytes = ba })
    (seen_from_lem same_refl (zeros_added x.pair.lines zeros) (of_two ba x))

pub zeros_taken_lem : (a b : List ℕ) → OnSameLines a b → AllZero b → pool_refusal a b (length a) ≡ 0
unfolding pooled_node
zeros_taken_lem a b p zeros = pool_taken a b _ (record {
  pair = p;
  size = refl;
  sums = λ i j h k. rw (zeros_added p.lines zeros i j h k) ((accepted_laws.sound a p.first_accepted).ranges i j h k);
})

-- the sheet of zeros first: pooled the other way it would leave a
pub zeros_before_lem : (a b p : List ℕ) → Bytes a → Bytes b → AllZero b → IsPool b a p → p ≡ a
zeros_before_lem a b p ba bb zeros x =
    let lines = same_sym x.pair.lines in
    let pair : OnSameLines a b = record { first_accepted = x.pair.second_accepted; second_accepted = x.pair.first_accepted; lines = lines } in
    let back = pools a b a (zeros_taken_lem a b pair zeros) in
    either_order_lem a b _ p ba bb back x ∙ with_zeros_lem a b _ ba zeros back
