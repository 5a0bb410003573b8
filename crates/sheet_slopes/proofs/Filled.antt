-- What filling leaves: each node has its height and its slopes; the old slopes do not matter; and filling again changes nothing. Assumes nothing.
use Prim.Native.Nat.{ℕ, suc, ◌+◌, ◌≤◌, ◌<◌}
use mathlib.Core.Path.{◌≡◌, refl, sym, ◌∙◌, ap}
use mathlib.Core.List.{List, [], ◌∷◌}
use mathlib.Core.Bool.{true}
use native.Mathlib.Nat.{le_refl}
use native.Mathlib.Decide.{ℕ_discrete}
use native.Mathlib.Numerals.{add-one}
use native.Mathlib.Omega.{arith}
use lib.ListN.{length, take, drop}
use lib.Seq.{drop-cons}
use Rattle.integers.specs.Within.{◌within◌}
use Rattle.sheet_words.specs.Word.{byte_at, bytes_of}
use Rattle.sheet_layout.specs.Format.{columns, rows, node, decoded, slope_bytes, height_size, steepest, node_in, node_offset, node_at}
use Rattle.sheet_layout.proofs.Encoding.{number_back}
use Rattle.sheet_layout.proofs.NodeRange.{slope_in_lem}
use Rattle.sheet_layout.proofs.SameFront.{same_columns_lem, same_rows_lem, same_offset}
use Rattle.sheet_layout.proofs.SameLines.{front_lines}
use Rattle.sheet_calls.specs.Refusals.{Accepted}
use Rattle.sheet_calls.proofs.Ranges.{node_in_range}
use Rattle.sheet_calls.proofs.Conditions.{condition_laws}
use Rattle.sheet_calls.proofs.WellFormed.{accepted_laws}
use Rattle.sheet_calls.proofs.Chains.{sheet_taken}
use Rattle.sheet_assembly.proofs.Assembled.{assembly_laws, same_assembled}
use Rattle.sheet_slopes.specs.Slopes.{SameHeights, filled_x, filled_y, filled_bytes, slope_refusal, with_slopes}
use Rattle.sheet_slopes.specs.InPlace.{Fillable, rows_filled}
use Rattle.sheet_slopes.specs.SlopeLaws.{Filled}
use Rattle.sheet_slopes.proofs.Chain.{slope_is, slope_held, set_is, refused_is}
use Rattle.sheet_slopes.proofs.Fillable.{fillable}
use Rattle.sheet_slopes.proofs.Same.{heights_front, same_filled_x, same_filled_y, same_steep, same_fillable}
use Rattle.sheet_slopes.proofs.InPlace.{fits, rows_same}
use Rattle.sheet_slopes.proofs.NodeByNode.{full, filled_whole, in_place_lem}

-- ---- a node filled

height_bytes_lem : (s : List ℕ) (k : ℕ) → k + height_size ≤ length s → take height_size (drop k s) ≡ byte_at s k ∷ byte_at s (k + 1) ∷ []
height_bytes_lem s k h = rw (drop-cons s k 0 (omega arith), drop-cons s (suc k) 0 (omega arith), add-one k) refl

module _ {s : List ℕ} {t : ℕ} (f : Fillable s t) (i j : ℕ) (h : i < columns s) (k : j < rows s) where
  bytes_are : filled_bytes s t i j ≡ byte_at s (node_offset s i j) ∷ byte_at s (node_offset s i j + 1) ∷ slope_bytes (filled_x s t i j) (filled_y s t i j)
  unfolding filled_bytes
  bytes_are = rw (height_bytes_lem s (node_offset s i j) (omega (arith, fits f i j h k))) refl

  within_x : filled_x s t i j within steepest
  within_x = (slope_in_lem _).0 (f.slopes_x i j h k)

  within_y : filled_y s t i j within steepest
  within_y = (slope_in_lem _).0 (f.slopes_y i j h k)

  numbers : decoded (filled_bytes s t i j) ≡ node (node_at s i j).stored_height (filled_x s t i j) (filled_y s t i j)
  unfolding decoded slope_bytes bytes_of
  numbers =
      rw (bytes_are, number_back _ within_x (omega arith), number_back _ within_y (omega arith), (condition_laws.node_numbers s i j _ refl).0) refl

  in_range : Accepted s → node_in (decoded (filled_bytes s t i j)) ≡ true
  in_range a =
      rw numbers
      ((node_in_range _).1 (record { stored_height = ((accepted_laws.sound s a).ranges i j h k).stored_height; slope_x = within_x; slope_y = within_y }))

-- ---- the sheet filled

full_same : {s : List ℕ} {t : ℕ} → Fillable s t → SameHeights s (full s t)
full_same {s} f = rw (← in_place_lem f) (rows_same f (rows s) (le_refl (rows s)))

full_filled : {s : List ℕ} {t : ℕ} → Fillable s t → Accepted s → Filled s t (full s t)
full_filled {s} {t} f a =
    let whole = filled_whole f in
    let same = full_same f in
    let front = heights_front same in
    record {
      accepted = assembly_laws.accepted s _ whole a (λ i j h k. in_range f i j h k a);
      same = same;
      lines = front_lines front;
      nodes = λ i j h k. assembly_laws.numbers s _ whole i j h k ∙ numbers f i j h k;
    }

pub filled : (s : List ℕ) (t : ℕ) → slope_refusal s t ≡ 0 → Filled s t (with_slopes s t)
filled s t e = rw (set_is s t e) (full_filled (fillable s t e) (slope_held s t e).0)

pub in_place_is : (s : List ℕ) (t : ℕ) → slope_refusal s t ≡ 0 → with_slopes s t ≡ rows_filled s t (rows s)
in_place_is s t e = set_is s t e ∙ sym (in_place_lem (fillable s t e))

-- ---- from other slopes

same_bytes_lem : {s r : List ℕ} {t : ℕ} → SameHeights s r → Fillable s t → (i j : ℕ) → i < columns s → j < rows s → filled_bytes r t i j ≡ filled_bytes s t i j
same_bytes_lem {s} {r} {t} same f i j h k =
    let front = heights_front same in
    let (low, high) = same.heights i j h k in
    bytes_are (same_fillable same f) i j (rw (same_columns_lem front) h) (rw (same_rows_lem front) k)
    ∙ rw (same_offset front i j, low, high, same_filled_x same t i j h k, same_filled_y same t i j h k) (sym (bytes_are f i j h k))

same_full : {s r : List ℕ} {t : ℕ} → SameHeights s r → Fillable s t → full r t ≡ full s t
same_full same f =
    let lines = (filled_whole f).lines in same_assembled (heights_front same) lines (rw same.size lines) (same_bytes_lem same f)

same_refusal : {s r : List ℕ} (t : ℕ) → SameHeights s r → Accepted s → Accepted r → slope_refusal r t ≡ slope_refusal s t
same_refusal {s} {r} t same a b = slope_is r t ∙ sheet_taken b ∙ rw (same_steep same t) (sym (slope_is s t ∙ sheet_taken a))

pub old_slopes_lem : (s s' : List ℕ) (t : ℕ) → Accepted s → Accepted s' → SameHeights s s' →
    (slope_refusal s' t ≡ slope_refusal s t) × (slope_refusal s t ≡ 0 → with_slopes s' t ≡ with_slopes s t)
old_slopes_lem s s' t a b same =
    let refusal = same_refusal t same a b in
    (refusal, λ e. set_is s' t (refusal ∙ e) ∙ same_full same (fillable s t e) ∙ sym (set_is s t e))

-- ---- again

module _ (s : List ℕ) (t : ℕ) where
  -- what filling leaves, where it is not refused, is s with other slopes
  with_slopes_lem : slope_refusal s t ≡ 0 → (slope_refusal (with_slopes s t) t ≡ slope_refusal s t) × (with_slopes (with_slopes s t) t ≡ with_slopes s t)
  with_slopes_lem e =
      let left = filled s t e in
      let like = old_slopes_lem s (with_slopes s t) t (slope_held s t e).0 left.accepted left.same in
      (like.0, like.1 e)

  pub again : slope_refusal (with_slopes s t) t ≡ slope_refusal s t
  again = elim (ℕ_discrete (slope_refusal s t) 0) [ yes e ↦ (with_slopes_lem e).0 | no h ↦ ap (λ r. slope_refusal r t) (refused_is s t h) ]

  pub twice : with_slopes (with_slopes s t) t ≡ with_slopes s t
  twice = elim (ℕ_discrete (slope_refusal s t) 0) [ yes e ↦ (with_slopes_lem e).1 | no h ↦ ap (λ r. with_slopes r t) (refused_is s t h) ]
