-- Lists one after the other, `in_turn`: where they are empty, what they start with, how long they are, what is in them, and in which order. Assumes nothing.
use Prim.Native.Nat.{ℕ, zero, suc, ◌+◌, ◌*◌, ◌-◌, ◌≤◌, ◌<◌}
use mathlib.Core.Path.{◌≡◌, refl, sym, ◌∙◌}
use mathlib.Core.Logic.{◌↔◌, inl, inr}
use mathlib.Core.List.Memᴰ
use mathlib.Core.List.{List, [], ◌∷◌, ◌++◌, flat_map, append-nil, append_assoc, Memᴰ}
use native.Mathlib.Omega.{arith}
use native.Mathlib.Decide.{ℕ_discrete}
use native.Mathlib.Nat.{add-zero, add-suc}
use lib.ListN.{length, get_or, length-append}
use Rattle.surface_bends.specs.Bends.{in_turn}

-- ---- an element, by its index

module _ {A : Type 0} where
  pub index_of : {a : A} {l : List A} (d : A) → Memᴰ a l → (k : ℕ) × (k < length l) × (get_or l k d ≡ a)
  index_of d (Memᴰ.head e) = (0, omega arith, sym e)
  index_of d (Memᴰ.tail m) = let (k, h, e) = index_of d m in (suc k, omega arith, e)

  pub at_index : (l : List A) (k : ℕ) (d : A) → k < length l → Memᴰ (get_or l k d) l
  at_index [] k d h = absurd (omega arith)
  at_index (a ∷ l) zero d h = Memᴰ.head refl
  at_index (a ∷ l) (suc k) d h = Memᴰ.tail (at_index l k d (omega (arith, h)))

  -- ---- an order: each element before all behind it

  abbrev pub Ordered : (A → A → Type 0) → List A → Type 0
  Ordered R [] = Unit {0}
  Ordered R (a ∷ l) = ((b : A) → Memᴰ b l → R a b) × Ordered R l

  pub ordered_at : (R : A → A → Type 0) (l : List A) (d : A) → Ordered R l → (k m : ℕ) → k < m → m < length l → R (get_or l k d) (get_or l m d)
  ordered_at R [] d o k m h below = absurd (omega arith)
  ordered_at R (a ∷ l) d o k zero h below = absurd (omega arith)
  ordered_at R (a ∷ l) d o zero (suc m) h below = o.0 _ (at_index l m d (omega (arith, below)))
  ordered_at R (a ∷ l) d o (suc k) (suc m) h below = ordered_at R l d o.1 k m (omega (arith, h)) (omega (arith, below))

  ordered_append : (R : A → A → Type 0) (l r : List A) → Ordered R l → Ordered R r → ((a b : A) → Memᴰ a l → Memᴰ b r → R a b) → Ordered R (l ++ r)
  ordered_append R [] r o p across = p
  ordered_append R (a ∷ l) r o p across = (
    λ b m. elim (Memᴰ.append_cases l m) [ inl h ↦ o.0 b h | inr h ↦ across a b (Memᴰ.head refl) h ],
    ordered_append R l r o.1 p (λ c b h. across c b (Memᴰ.tail h)),
  )

  -- ---- where the lists are empty

  pub none_in_turn : (n : ℕ) (f : ℕ → List A) → ((i : ℕ) → i < n → f i ≡ []) → in_turn n f ≡ []
  unfolding in_turn
  none_in_turn zero f none = refl
  none_in_turn (suc n) f none = rw (none n (omega arith), none_in_turn n f (λ i h. none i (omega arith))) refl

  -- those behind add nothing
  pub no_more_in_turn : (m n : ℕ) (f : ℕ → List A) → m ≤ n → ((i : ℕ) → m ≤ i → i < n → f i ≡ []) → in_turn n f ≡ in_turn m f
  unfolding in_turn
  no_more_in_turn m zero f h none = let same : m ≡ 0 = omega arith in rw same refl
  no_more_in_turn m (suc n) f h none = elim (ℕ_discrete m (suc n)) [
    | yes e ↦ rw e refl
    | no d ↦ rw (none n (omega arith) (omega arith)) (append-nil (in_turn n f) ∙ no_more_in_turn m n f (omega arith) (λ i l k. none i l (omega arith)))
  ]

  -- ---- what they start with: the first m

  pub first_in_turn : (m n : ℕ) (f : ℕ → List A) → m ≤ n → (rest : List A) × (in_turn n f ≡ in_turn m f ++ rest)
  unfolding in_turn
  first_in_turn m zero f h = let same : m ≡ 0 = omega arith in ([], rw same refl)
  first_in_turn m (suc n) f h = elim (ℕ_discrete m (suc n)) [
    | yes e ↦ ([], rw e (sym (append-nil (in_turn (suc n) f))))
    | no d ↦ let (rest, e) = first_in_turn m n f (omega arith) in (rest ++ f n, rw (e, append_assoc) refl)
  ]

  -- ---- how long they are

  module _ (c lo : ℕ) (f : ℕ → List A) (each : (i : ℕ) → length (f i) ≤ c) (before : (i : ℕ) → i < lo → f i ≡ []) where
    most_from : (k : ℕ) → length (in_turn (lo + k) f) ≤ c * k
    unfolding in_turn
    most_from zero = rw (add-zero lo, none_in_turn lo f before) (omega arith)
    most_from (suc k) = let first = most_from k in let more = each (lo + k) in rw (add-suc lo k, length-append) (omega arith)

    -- from lo to hi at most c each, and the others empty
    pub most_in_turn : (hi n : ℕ) → lo ≤ hi → hi < n → ((i : ℕ) → hi < i → f i ≡ []) → length (in_turn n f) ≤ c * (suc hi - lo)
    most_in_turn hi n l h behind =
        let all : lo + (suc hi - lo) ≡ suc hi = omega arith in
        rw (no_more_in_turn (suc hi) n f h (λ i k _. behind i k)) (rw all at (most_from (suc hi - lo)))

  -- ---- what is in them

  from_turn : {a : A} (n : ℕ) (f : ℕ → List A) → Memᴰ a (in_turn n f) → (i : ℕ) × (i < n) × Memᴰ a (f i)
  unfolding in_turn
  from_turn zero f m = absurd (Memᴰ.not-nil m)
  from_turn (suc n) f m = elim (Memᴰ.append_cases (in_turn n f) m) [
    | inl h ↦ let (i, l, k) = from_turn n f h in (i, omega arith, k)
    | inr h ↦ (n, omega arith, h)
  ]

  into_turn : {a : A} (n : ℕ) (f : ℕ → List A) (i : ℕ) → i < n → Memᴰ a (f i) → Memᴰ a (in_turn n f)
  unfolding in_turn
  into_turn zero f i h m = absurd (omega arith)
  into_turn (suc n) f i h m = elim (ℕ_discrete i n) [
    | yes e ↦ Memᴰ.append_right (in_turn n f) (rw e at m)
    | no d ↦ Memᴰ.append_left (f n) (into_turn n f i (omega arith) m)
  ]

  pub in_turn_lem : {a : A} (n : ℕ) (f : ℕ → List A) → Memᴰ a (in_turn n f) ↔ ((i : ℕ) × (i < n) × Memᴰ a (f i))
  in_turn_lem n f = (from_turn n f, λ h. into_turn n f h.0 h.1 h.2)

  -- the same from lists that are the same
  pub same_in_turn : (n : ℕ) (f g : ℕ → List A) → ((i : ℕ) → i < n → f i ≡ g i) → in_turn n f ≡ in_turn n g
  unfolding in_turn
  same_in_turn zero f g same = refl
  same_in_turn (suc n) f g same = rw (same n (omega arith), same_in_turn n f g (λ i h. same i (omega arith))) refl

  -- in order, where each is, and what is in an earlier one comes before what is in a later one
  pub ordered_in_turn : (R : A → A → Type 0) (n : ℕ) (f : ℕ → List A) → ((i : ℕ) → Ordered R (f i)) →
      ((i k : ℕ) (a b : A) → i < k → Memᴰ a (f i) → Memᴰ b (f k) → R a b) → Ordered R (in_turn n f)
  unfolding in_turn
  ordered_in_turn R zero f each across = tt
  ordered_in_turn R (suc n) f each across = ordered_append R (in_turn n f) (f n) (ordered_in_turn R n f each across) (each n)
      (λ a b m k. let (i, h, l) = (in_turn_lem n f).0 m in across i n a b h l k)

-- ---- a list for each element

module _ {A B : Type 0} (f : A → List B) where
  pub flat_map_append : (l r : List A) → flat_map f (l ++ r) ≡ flat_map f l ++ flat_map f r
  unfolding flat_map
  flat_map_append [] r = refl
  flat_map_append (a ∷ l) r = rw (flat_map_append l r) (sym (append_assoc (f a) (flat_map f l) (flat_map f r)))

  pub from_each : {b : B} (l : List A) → Memᴰ b (flat_map f l) → (a : A) × Memᴰ a l × Memᴰ b (f a)
  unfolding flat_map
  from_each [] m = absurd (Memᴰ.not-nil m)
  from_each (a ∷ l) m = elim (Memᴰ.append_cases (f a) m) [
    | inl h ↦ (a, Memᴰ.head refl, h)
    | inr h ↦ let (c, k, n) = from_each l h in (c, Memᴰ.tail k, n)
  ]

  pub into_each : {a : A} {b : B} {l : List A} → Memᴰ a l → Memᴰ b (f a) → Memᴰ b (flat_map f l)
  unfolding flat_map
  into_each (Memᴰ.head {xs = l} e) m = Memᴰ.append_left (flat_map f l) (rw e at m)
  into_each (Memᴰ.tail {x = c} h) m = Memᴰ.append_right (f c) (into_each h m)

  -- in order, where the elements are, and each list is
  pub ordered_each : (S : A → A → Type 0) (R : B → B → Type 0) (l : List A) → Ordered S l → ((a : A) → Ordered R (f a)) →
      ((a c : A) (p q : B) → S a c → Memᴰ p (f a) → Memᴰ q (f c) → R p q) → Ordered R (flat_map f l)
  unfolding flat_map
  ordered_each S R [] o each across = tt
  ordered_each S R (a ∷ l) o each across = ordered_append R (f a) (flat_map f l) (each a) (ordered_each S R l o.1 each across)
      (λ p q m n. let (c, h, k) = from_each l n in across a c p q (o.0 c h) m k)
