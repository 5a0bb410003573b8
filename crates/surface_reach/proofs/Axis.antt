-- Along one axis: a cell at the node's line, and a position in it. Assumes nothing.
use Prim.Native.Nat.{ℕ, zero, suc, ◌≤◌, ◌<◌}
use mathlib.Core.Path.{◌≡◌, refl, sym, ◌∙◌, ap, subst⁻¹}
use mathlib.Core.Logic.{◌⊎◌, inl, inr}
use native.Mathlib.Decide.{ℕ_discrete, dec_lt}
use native.Mathlib.Omega.{arith}
use Rattle.sheet_layout.specs.Neighbours.{previous, next}
use Rattle.sheet_layout.proofs.NeighbourLaws.{neighbour_laws, last_is, previous-≤}
use Rattle.sheet_calls.specs.WellFormed.{Rising}
use Rattle.sheet_calls.proofs.Rising.{rise}
use Rattle.sheet_reach.specs.Reach.{AtLine}
use Rattle.surface_reach.specs.Nudged.{FarLine}

module _ {line : ℕ → ℕ} {n : ℕ} (r : Rising line n) where
  -- where a position is on the far line of one cell at line k, it is on that of every cell at line k that holds it
  pub own_line : {a c k position : ℕ} → suc a < n → suc c < n → FarLine line a k position → AtLine c k → line c ≤ position → position ≤ line (suc c) →
      FarLine line c k position
  own_line {a} {c} m l (inl (e, f)) (inl g) from to =
      let up = r.rises a m in let same : c ≡ suc a = sym g ∙ e in
      absurd (let near : line (suc a) ≤ line a = rw (← same, ← f) from in omega arith)
  own_line {a} {c} m l (inl (e, f)) (inr g) from to = let same : a ≡ c = omega (arith, e, g) in inl (g, f ∙ ap line same)
  own_line {a} {c} m l (inr (e, f)) (inl g) from to = let same : suc a ≡ suc c = omega (arith, e, g) in inr (g, f ∙ ap line same)
  own_line {a} {c} m l (inr (e, f)) (inr g) from to =
      let up = r.rises a m in let same : suc c ≡ a = sym g ∙ e in
      absurd (let near : line (suc a) ≤ line a = rw (← f, ← same) to in omega arith)

  -- elsewhere in a cell at line k it is strictly between the outermost lines, or on line k
  module _ {c k position : ℕ} (l : suc c < n) (from : line c ≤ position) (to : position ≤ line (suc c)) (off : ¬ FarLine line c k position) where
    pub after_left : AtLine c k → (line (previous k) < position) ⊎ (position ≡ line k)
    after_left (inl e) = elim (ℕ_discrete position (line c)) [
      | yes p ↦ inr (p ∙ ap line (sym e))
      | no p ↦ inl (rw e (let low = rise r (previous c) c (previous-≤ c) (omega arith) in omega arith))
    ]
    after_left (inr e) =
        let far : ¬ (position ≡ line c) = λ p. off (inl (e, p)) in inl (rw (e, neighbour_laws.before c) (omega arith))

    pub before_right : AtLine c k → (position < line (next n k)) ⊎ (position ≡ line k)
    before_right (inl e) = inl (rw (e, neighbour_laws.after n c l) (let far : ¬ (position ≡ line (suc c)) = λ p. off (inr (e, p)) in omega arith))
    before_right (inr e) = elim (ℕ_discrete position (line (suc c))) [
      | yes p ↦ inr (p ∙ ap line (sym e))
      | no p ↦ inl (elim (dec_lt (suc (suc c)) n) [
        | yes m ↦ rw (e, neighbour_laws.after n (suc c) m) (let up = r.rises (suc c) m in omega arith)
        | no m ↦ rw (e, last_is n (suc c) (omega arith)) (omega arith)
      ])
    ]

  -- ---- strictly between the outermost lines of the cells at line k, or on line k

  abbrev pub Strictly : ℕ → ℕ → Type 0
  Strictly k position = ((line (previous k) < position) ⊎ (position ≡ line k)) × ((position < line (next n k)) ⊎ (position ≡ line k))

  -- not so on a far line
  pub far_outside : {c k position : ℕ} → suc c < n → FarLine line c k position → ¬ Strictly k position
  far_outside {c} l (inl (e, f)) (after, _) =
      let up = r.rises c l in
      elim (rw (e, f, neighbour_laws.before c) at after) [ inl g ↦ omega (arith, g) | inr g ↦ omega (arith, g) ]
  far_outside {c} l (inr (e, f)) (_, before) =
      let up = r.rises c l in
      elim (rw (e, f, neighbour_laws.after n c l) at before) [ inl g ↦ omega (arith, g) | inr g ↦ omega (arith, g) ]

  -- a cell at line k that holds the position
  pub record Held (k position : ℕ) : Type 0 where
    pub cell : ℕ
    pub there : suc cell < n
    pub at : AtLine cell k
    pub from : line cell ≤ position
    pub to : position ≤ line (suc cell)

  -- line k itself is held by the cell behind it, or by the one before it where it is the last
  own_held : (k : ℕ) → 2 ≤ n → k < n → Held k (line k)
  own_held k two h = elim (dec_lt (suc k) n) [
    | yes m ↦ let up = r.rises k m in record { cell = k; there = m; at = inl refl; from = omega arith; to = omega arith }
    | no m ↦ last k (omega arith) h
  ]
    where
      last : (k : ℕ) → 1 ≤ k → k < n → Held k (line k)
      last zero some h = absurd (omega arith)
      last (suc c) some h = let up = r.rises c h in record { cell = c; there = h; at = inr refl; from = omega arith; to = omega arith }

  -- strictly between, or on line k, there is such a cell
  pub strictly_held : (k position : ℕ) → 2 ≤ n → k < n → Strictly k position → Held k position
  strictly_held k position two h (inr e, _) = subst⁻¹ (Held k) e (own_held k two h)
  strictly_held k position two h (inl g, inr e) = subst⁻¹ (Held k) e (own_held k two h)
  strictly_held k position two h (inl after, inl before) = between k h after before
    where
      between : (k : ℕ) → k < n → line (previous k) < position → position < line (next n k) → Held k position
      between k h after before = elim (dec_lt (suc k) n) [
        | yes m ↦ elim (dec_lt position (line k)) [
          | yes low ↦ below k h after low
          | no high ↦ let near : position < line (suc k) = rw (neighbour_laws.after n k m) at before in
              record { cell = k; there = m; at = inl refl; from = omega arith; to = omega arith }
        ]
        | no m ↦ let near : position < line k = rw (last_is n k (omega arith)) at before in below k h after near
      ]
        where
          below : (k : ℕ) → k < n → line (previous k) < position → position < line k → Held k position
          below zero h after low = let near : line 0 < position = rw neighbour_laws.first at after in absurd (omega arith)
          below (suc c) h after low = let near : line c < position = rw (neighbour_laws.before c) at after in
              record { cell = c; there = h; at = inr refl; from = omega arith; to = omega arith }

  -- is there one?
  pub held? : (k position : ℕ) → Held k position ⊎ ((c : ℕ) → suc c < n → AtLine c k → line c ≤ position → position ≤ line (suc c) → ⊥)
  held? k position = elim (holds k) [
    | inl h ↦ inl (record { cell = k; there = h.0; at = inl refl; from = h.1; to = h.2 })
    | inr none ↦ before k (λ c e l from to. none (rw (← e) at l, rw (← e) at from, rw (← e) at to))
  ]
    where
      holds : (c : ℕ) → ((suc c < n) × (line c ≤ position) × (position ≤ line (suc c))) ⊎ (¬ ((suc c < n) × (line c ≤ position) × (position ≤ line (suc c))))
      holds c = elim (dec_lt (suc c) n) [
        | no m ↦ inr (λ h. m h.0)
        | yes m ↦ elim (dec_lt position (line c)) [
          | yes low ↦ inr (λ h. omega (arith, h.1))
          | no from ↦ elim (dec_lt (line (suc c)) position) [ yes high ↦ inr (λ h. omega (arith, h.2)) | no to ↦ inl (m, omega arith, omega arith) ]
        ]
      ]

      before : (k : ℕ) → ((c : ℕ) → k ≡ c → suc c < n → line c ≤ position → position ≤ line (suc c) → ⊥) →
          Held k position ⊎ ((c : ℕ) → suc c < n → AtLine c k → line c ≤ position → position ≤ line (suc c) → ⊥)
      before zero own = inr (λ c l at from to. elim at [ inl e ↦ own c e l from to | inr e ↦ omega (arith, e) ])
      before (suc b) own = elim (holds b) [
        | inl h ↦ inl (record { cell = b; there = h.0; at = inr refl; from = h.1; to = h.2 })
        | inr none ↦ inr (λ c l at from to. elim at [
          | inl e ↦ own c e l from to
          | inr e ↦ let same : c ≡ b = omega (arith, e) in none (rw same at l, rw same at from, rw same at to)
        ])
      ]

  pub far? : (c k position : ℕ) → AtLine c k → FarLine line c k position ⊎ (¬ FarLine line c k position)
  far? c k position (inl e) = elim (ℕ_discrete position (line (suc c))) [
    | yes f ↦ inl (inr (e, f))
    | no f ↦ inr (λ h. elim h [ inl g ↦ omega (arith, e, g.0) | inr g ↦ f g.1 ])
  ]
  far? c k position (inr e) = elim (ℕ_discrete position (line c)) [
    | yes f ↦ inl (inl (e, f))
    | no f ↦ inr (λ h. elim h [ inl g ↦ f g.1 | inr g ↦ omega (arith, e, g.0) ])
  ]
