-- Stretches of lists: of two lists joined, of a stretch, and of two lists with the same bytes. Assumes nothing.
use Prim.Native.Nat.{ℕ, ◌+◌, ◌≤◌, ◌<◌}
use mathlib.Core.Path.{◌≡◌, sym, ◌∙◌, ap}
use mathlib.Core.List.{List, ◌++◌}
use native.Mathlib.Omega.{arith}
use lib.ListN.{length, take, drop, length-drop, take-append-drop}
use lib.Seq.{ext_get_or, length-take-le, get_or-take, take-append-le, drop-append-le, take-append-add, drop-append-add}
use Rattle.sheet_words.specs.Word.{byte_at}

-- a stretch of the front of two lists is one of the first
pub front_stretch : (l r : List ℕ) (i n : ℕ) → i + n ≤ length l → take n (drop i (l ++ r)) ≡ take n (drop i l)
front_stretch l r i n h = rw (drop-append-le i l r (omega arith)) (take-append-le n (drop i l) r (omega (arith, length-drop i l)))

-- so a stretch of a stretch is one of the whole
pub inner_stretch : (l : List ℕ) (m i n : ℕ) → m ≤ length l → i + n ≤ m → take n (drop i (take m l)) ≡ take n (drop i l)
inner_stretch l m i n h k =
    sym (front_stretch (take m l) (drop m l) i n (omega (arith, length-take-le m l h))) ∙ ap (λ a. take n (drop i a)) (take-append-drop m l)

-- behind a first list of length n
module _ (p q : List ℕ) (n m : ℕ) (size : length p ≡ n) where
  pub take_past : take (n + m) (p ++ q) ≡ p ++ take m q
  take_past = ap (λ k. take (k + m) (p ++ q)) (sym size) ∙ take-append-add p q m

  pub drop_past : drop (n + m) (p ++ q) ≡ drop m q
  drop_past = ap (λ k. drop (k + m) (p ++ q)) (sym size) ∙ drop-append-add p q m

pub same_take : (l r : List ℕ) (n : ℕ) → n ≤ length l → n ≤ length r → ((k : ℕ) → k < n → byte_at r k ≡ byte_at l k) → take n r ≡ take n l
same_take l r n h h' same =
    let size = length-take-le n r h' in
    ext_get_or 0 _ _ (size ∙ sym (length-take-le n l h))
    (λ k i. let below : k < n = omega (arith, size) in get_or-take n r k 0 below ∙ same k below ∙ sym (get_or-take n l k 0 below))
