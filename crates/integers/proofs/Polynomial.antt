-- Expressions over ℤ and their normal form, a polynomial in sparse Horner form. Two expressions with one normal form have one value;
-- the normal form is computed, so a claim about it is proved by `tt`. Assumes nothing.
use mathlib.Core.Path.{◌≡◌, refl, sym, ◌∙◌, ap, ap₂}
use mathlib.Core.Bool.{Bool, true, false, not}
use mathlib.Core.List.{List}
use Prim.Native.Nat.{ℕ, zero, suc, compare, Ordering}
use lib.Dec.{T, eqb, leb, eqb→eq, compare_is_eq}
use lib.ListN.{get_or}
use lib.IntN.{ℤ, pos, negsuc, neg_ℤ, ◌+ℤ◌, ◌*ℤ◌, +ℤ_idl, +ℤ_idr, +ℤ_assoc, zero-*ℤ, *ℤ_comm}
use Rattle.integers.proofs.RingLaws.{+ℤ_left_comm, +ℤ_interchange, *ℤ_distrib_r, *ℤ_distrib_l, *ℤ_assoc, *ℤ_one_l, neg-*ℤ}

-- ---- expressions

infixl 60 ◌⊕◌ ◌⊝◌
infixl 70 ◌⊗◌
infix 90 #◌ ⊖◌
pub data Expr : Type 0 where
  var : ℕ → Expr
  con : ℤ → Expr
  ◌⊕◌ : Expr → Expr → Expr
  ◌⊗◌ : Expr → Expr → Expr
  ⊖◌ : Expr → Expr

abbrev pub ◌⊝◌ : Expr → Expr → Expr
a ⊝ b = a ⊕ ⊖ b

-- a literal
abbrev pub #◌ : ℕ → Expr
# n = con (pos n)

abbrev pub look : List ℤ → ℕ → ℤ
look ρ i = get_or ρ i (pos zero)

-- the value where variable i is entry i of ρ
abbrev pub eval : List ℤ → Expr → ℤ
eval ρ (var i) = look ρ i
eval ρ (con c) = c
eval ρ (a ⊕ b) = eval ρ a +ℤ eval ρ b
eval ρ (a ⊗ b) = eval ρ a *ℤ eval ρ b
eval ρ (⊖ a) = neg_ℤ (eval ρ a)

-- ---- normal forms

-- `horner i P Q` is P · xᵢ + Q. In a normal form P has variables from i on and Q has variables after i; soundness does not need that
pub data Poly : Type 0 where
  constant : ℤ → Poly
  horner : ℕ → Poly → Poly → Poly

abbrev pub eval_poly : List ℤ → Poly → ℤ
eval_poly ρ (constant c) = c
eval_poly ρ (horner i P Q) = eval_poly ρ P *ℤ look ρ i +ℤ eval_poly ρ Q

-- choices whose branches wait until they are taken
abbrev pub choose : Bool → (Unit {0} → Poly) → (Unit {0} → Poly) → Poly
choose true a b = a tt
choose false a b = b tt

abbrev pub choose_by : Ordering → (Unit {0} → Poly) → (Unit {0} → Poly) → (Unit {0} → Poly) → Poly
choose_by Ordering.lt a b c = a tt
choose_by Ordering.eq a b c = b tt
choose_by Ordering.gt a b c = c tt

abbrev pub is_zero : Poly → Bool
is_zero (constant (pos n)) = eqb n zero
is_zero (constant (negsuc n)) = false
is_zero (horner i P Q) = false

-- P · xᵢ + Q, with no term where P is 0
abbrev pub trimmed : ℕ → Poly → Poly → Poly
trimmed i P Q = choose (is_zero P) (λ u. Q) (λ u. horner i P Q)

abbrev pub add_constant : ℤ → Poly → Poly
add_constant a (constant b) = constant (a +ℤ b)
add_constant a (horner i P Q) = horner i P (add_constant a Q)

-- P · xᵢ + Q and a polynomial, added power by power; addP and addQ add P and Q
abbrev pub merge : ℕ → Poly → (Poly → Poly) → (Poly → Poly) → Poly → Poly
merge i P addP addQ (constant b) = horner i P (addQ (constant b))
merge i P addP addQ (horner j P' Q') = choose_by (compare i j)
    (λ u. horner i P (addQ (horner j P' Q')))
    (λ u. trimmed i (addP P') (addQ Q'))
    (λ u. horner j P' (merge i P addP addQ Q'))

abbrev pub add : Poly → Poly → Poly
add (constant a) q = add_constant a q
add (horner i P Q) q = merge i P (λ r. add P r) (λ r. add Q r) q

abbrev pub scale : ℤ → Poly → Poly
scale a (constant b) = constant (a *ℤ b)
scale a (horner i P Q) = trimmed i (scale a P) (scale a Q)

abbrev pub times_var : ℕ → Poly → Poly
times_var i (constant b) = trimmed i (constant b) (constant (pos zero))
times_var i (horner j P Q) = choose (leb i j)
    (λ u. horner i (horner j P Q) (constant (pos zero)))
    (λ u. trimmed j (times_var i P) (times_var i Q))

abbrev pub times : Poly → Poly → Poly
times (constant a) q = scale a q
times (horner i P Q) q = add (times_var i (times P q)) (times Q q)

abbrev pub normal : Expr → Poly
normal (var i) = horner i (constant (pos (suc zero))) (constant (pos zero))
normal (con c) = constant c
normal (a ⊕ b) = add (normal a) (normal b)
normal (a ⊗ b) = times (normal a) (normal b)
normal (⊖ a) = scale (negsuc zero) (normal a)

-- ---- a normal form has the value of its expression

choose_ind : (c : Bool) (a b : Unit {0} → Poly) (P : Poly → Type 0) → (T c → P (a tt)) → (T (not c) → P (b tt)) → P (choose c a b)
choose_ind true a b P f g = f tt
choose_ind false a b P f g = g tt

choose_by_ind : (o : Ordering) (a b c : Unit {0} → Poly) (P : Poly → Type 0) → P (a tt) → (T (compare_is_eq o) → P (b tt)) → P (c tt) → P (choose_by o a b c)
choose_by_ind Ordering.lt a b c P f g h = f
choose_by_ind Ordering.eq a b c P f g h = g tt
choose_by_ind Ordering.gt a b c P f g h = h

module _ (ρ : List ℤ) where
  pub zero_sound : (p : Poly) → T (is_zero p) → eval_poly ρ p ≡ pos zero
  zero_sound (constant (pos n)) t = ap pos (eqb→eq n zero t)
  zero_sound (constant (negsuc n)) t = absurd t
  zero_sound (horner i P Q) t = absurd t

  trimmed_sound : (i : ℕ) (P Q : Poly) → eval_poly ρ (trimmed i P Q) ≡ eval_poly ρ P *ℤ look ρ i +ℤ eval_poly ρ Q
  trimmed_sound i P Q = choose_ind (is_zero P) (λ u. Q) (λ u. horner i P Q) (λ r. eval_poly ρ r ≡ eval_poly ρ P *ℤ look ρ i +ℤ eval_poly ρ Q)
      (λ t. sym (ap (λ x. x *ℤ look ρ i +ℤ eval_poly ρ Q) (zero_sound P t) ∙ ap (λ x. x +ℤ eval_poly ρ Q) (zero-*ℤ (look ρ i)) ∙ +ℤ_idl (eval_poly ρ Q)))
      (λ t. refl)

  add_constant_sound : (a : ℤ) (q : Poly) → eval_poly ρ (add_constant a q) ≡ a +ℤ eval_poly ρ q
  add_constant_sound a (constant b) = refl
  add_constant_sound a (horner i P Q) = ap (λ x. eval_poly ρ P *ℤ look ρ i +ℤ x) (add_constant_sound a Q) ∙ +ℤ_left_comm (eval_poly ρ P *ℤ look ρ i) a (eval_poly ρ Q)

  -- (p + p') x + (q + q') = (p x + q) + (p' x + q')
  same_power : (p p' q q' x : ℤ) → (p +ℤ p') *ℤ x +ℤ (q +ℤ q') ≡ (p *ℤ x +ℤ q) +ℤ (p' *ℤ x +ℤ q')
  same_power p p' q q' x = ap (λ y. y +ℤ (q +ℤ q')) (*ℤ_distrib_r p p' x) ∙ +ℤ_interchange (p *ℤ x) (p' *ℤ x) q q'

  merge_sound : (i : ℕ) (P Q : Poly) (addP addQ : Poly → Poly)
      → ((r : Poly) → eval_poly ρ (addP r) ≡ eval_poly ρ P +ℤ eval_poly ρ r)
      → ((r : Poly) → eval_poly ρ (addQ r) ≡ eval_poly ρ Q +ℤ eval_poly ρ r)
      → (q : Poly) → eval_poly ρ (merge i P addP addQ q) ≡ (eval_poly ρ P *ℤ look ρ i +ℤ eval_poly ρ Q) +ℤ eval_poly ρ q
  merge_sound i P Q addP addQ hP hQ (constant b) =
      ap (λ x. eval_poly ρ P *ℤ look ρ i +ℤ x) (hQ (constant b)) ∙ sym (+ℤ_assoc (eval_poly ρ P *ℤ look ρ i) (eval_poly ρ Q) b)
  merge_sound i P Q addP addQ hP hQ (horner j P' Q') =
      choose_by_ind (compare i j) (λ u. horner i P (addQ (horner j P' Q'))) (λ u. trimmed i (addP P') (addQ Q')) (λ u. horner j P' (merge i P addP addQ Q'))
      (λ r. eval_poly ρ r ≡ (eval_poly ρ P *ℤ look ρ i +ℤ eval_poly ρ Q) +ℤ (eval_poly ρ P' *ℤ look ρ j +ℤ eval_poly ρ Q'))
      (ap (λ x. eval_poly ρ P *ℤ look ρ i +ℤ x) (hQ (horner j P' Q')) ∙ sym (+ℤ_assoc (eval_poly ρ P *ℤ look ρ i) (eval_poly ρ Q) (eval_poly ρ P' *ℤ look ρ j +ℤ eval_poly ρ Q')))
      (λ t. trimmed_sound i (addP P') (addQ Q')
      ∙ ap₂ (λ x y. x *ℤ look ρ i +ℤ y) (hP P') (hQ Q')
      ∙ same_power (eval_poly ρ P) (eval_poly ρ P') (eval_poly ρ Q) (eval_poly ρ Q') (look ρ i)
      ∙ ap (λ k. (eval_poly ρ P *ℤ look ρ i +ℤ eval_poly ρ Q) +ℤ (eval_poly ρ P' *ℤ look ρ k +ℤ eval_poly ρ Q')) (eqb→eq i j t))
      (ap (λ x. eval_poly ρ P' *ℤ look ρ j +ℤ x) (merge_sound i P Q addP addQ hP hQ Q')
      ∙ +ℤ_left_comm (eval_poly ρ P' *ℤ look ρ j) (eval_poly ρ P *ℤ look ρ i +ℤ eval_poly ρ Q) (eval_poly ρ Q'))

  add_sound : (p q : Poly) → eval_poly ρ (add p q) ≡ eval_poly ρ p +ℤ eval_poly ρ q
  add_sound (constant a) q = add_constant_sound a q
  add_sound (horner i P Q) q = merge_sound i P Q (λ r. add P r) (λ r. add Q r) (λ r. add_sound P r) (λ r. add_sound Q r) q

  scale_sound : (a : ℤ) (q : Poly) → eval_poly ρ (scale a q) ≡ a *ℤ eval_poly ρ q
  scale_sound a (constant b) = refl
  scale_sound a (horner i P Q) =
      trimmed_sound i (scale a P) (scale a Q)
      ∙ ap₂ (λ x y. x *ℤ look ρ i +ℤ y) (scale_sound a P) (scale_sound a Q)
      ∙ ap (λ x. x +ℤ a *ℤ eval_poly ρ Q) (*ℤ_assoc a (eval_poly ρ P) (look ρ i))
      ∙ sym (*ℤ_distrib_l a (eval_poly ρ P *ℤ look ρ i) (eval_poly ρ Q))

  -- (a y) x + b y = (a x + b) y
  factored : (a b x y : ℤ) → (a *ℤ y) *ℤ x +ℤ b *ℤ y ≡ (a *ℤ x +ℤ b) *ℤ y
  factored a b x y =
      ap (λ z. z +ℤ b *ℤ y) (*ℤ_assoc a y x ∙ ap (λ z. a *ℤ z) (*ℤ_comm y x) ∙ sym (*ℤ_assoc a x y))
      ∙ sym (*ℤ_distrib_r (a *ℤ x) b y)

  times_var_sound : (i : ℕ) (p : Poly) → eval_poly ρ (times_var i p) ≡ eval_poly ρ p *ℤ look ρ i
  times_var_sound i (constant b) = trimmed_sound i (constant b) (constant (pos zero)) ∙ +ℤ_idr (b *ℤ look ρ i)
  times_var_sound i (horner j P Q) =
      choose_ind (leb i j) (λ u. horner i (horner j P Q) (constant (pos zero))) (λ u. trimmed j (times_var i P) (times_var i Q))
      (λ r. eval_poly ρ r ≡ (eval_poly ρ P *ℤ look ρ j +ℤ eval_poly ρ Q) *ℤ look ρ i)
      (λ t. +ℤ_idr ((eval_poly ρ P *ℤ look ρ j +ℤ eval_poly ρ Q) *ℤ look ρ i))
      (λ t. trimmed_sound j (times_var i P) (times_var i Q)
      ∙ ap₂ (λ x y. x *ℤ look ρ j +ℤ y) (times_var_sound i P) (times_var_sound i Q)
      ∙ factored (eval_poly ρ P) (eval_poly ρ Q) (look ρ j) (look ρ i))

  times_sound : (p q : Poly) → eval_poly ρ (times p q) ≡ eval_poly ρ p *ℤ eval_poly ρ q
  times_sound (constant a) q = scale_sound a q
  times_sound (horner i P Q) q =
      add_sound (times_var i (times P q)) (times Q q)
      ∙ ap₂ (λ x y. x +ℤ y) (times_var_sound i (times P q) ∙ ap (λ x. x *ℤ look ρ i) (times_sound P q)) (times_sound Q q)
      ∙ factored (eval_poly ρ P) (eval_poly ρ Q) (look ρ i) (eval_poly ρ q)

  pub normal_sound : (e : Expr) → eval_poly ρ (normal e) ≡ eval ρ e
  normal_sound (var i) = +ℤ_idr (pos (suc zero) *ℤ look ρ i) ∙ *ℤ_one_l (look ρ i)
  normal_sound (con c) = refl
  normal_sound (a ⊕ b) = add_sound (normal a) (normal b) ∙ ap₂ (λ x y. x +ℤ y) (normal_sound a) (normal_sound b)
  normal_sound (a ⊗ b) = times_sound (normal a) (normal b) ∙ ap₂ (λ x y. x *ℤ y) (normal_sound a) (normal_sound b)
  normal_sound (⊖ a) = scale_sound (negsuc zero) (normal a) ∙ ap (λ x. negsuc zero *ℤ x) (normal_sound a)
      ∙ neg-*ℤ (pos (suc zero)) (eval ρ a) ∙ ap neg_ℤ (*ℤ_one_l (eval ρ a))
