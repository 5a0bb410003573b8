-- The cell along an axis that a position belongs to: it is the last that starts at or before it, and lines that rise have only one such. Assumes nothing.
use Prim.Native.Nat.{ℕ, zero, suc, ◌-◌, ◌≤◌, ◌<◌}
use mathlib.Core.Path.{◌≡◌, subst, subst⁻¹}
use native.Mathlib.Omega.{arith}
use native.Mathlib.Nat.{le_antisymm}
use native.Mathlib.Decide.{ℕ_discrete, dec_lt}
use Rattle.sheet_calls.specs.WellFormed.{Rising}
use Rattle.sheet_calls.proofs.Rising.{rise}
use Rattle.surface_of_sheet.specs.Place.{highest_along}
use Rattle.surface_of_sheet.proofs.AlongStep.{along_step}

module _ (line : ℕ → ℕ) (position : ℕ) where
  pub along_least : (k : ℕ) → highest_along line k position ≤ k
  unfolding highest_along
  along_least zero = omega arith
  along_least (suc k) = along_step line position k (λ c. c ≤ suc k) (λ h. omega arith) (λ h. let least = along_least k in omega arith)

  -- it starts at or before the position
  pub along_starts : (k : ℕ) → line 0 ≤ position → line (highest_along line k position) ≤ position
  unfolding highest_along
  along_starts zero h = h
  along_starts (suc k) h = along_step line position k (λ c. line c ≤ position) (λ l. l) (λ l. along_starts k h)

  -- no later cell does
  pub along_last : (k j : ℕ) → j ≤ k → line j ≤ position → j ≤ highest_along line k position
  unfolding highest_along
  along_last zero j l h = l
  along_last (suc k) j l h = along_step line position k (λ c. j ≤ c) (λ m. l) (λ m. elim (ℕ_discrete j (suc k)) [
    | yes e ↦ absurd (let early : line (suc k) ≤ position = rw (← e) h in omega arith)
    | no d ↦ along_last k j (omega arith) h
  ])

  -- it ends at or after the position
  along_ends : (k : ℕ) → position ≤ line (suc k) → position ≤ line (suc (highest_along line k position))
  along_ends k h = let c = highest_along line k position in let least = along_least k in
      elim (dec_lt position (line (suc c))) [
        | yes m ↦ omega arith
        | no m ↦ elim (ℕ_discrete c k) [
          | yes e ↦ rw e h
          | no d ↦ absurd (let last = along_last k (suc c) (omega arith) (omega arith) in omega arith)
        ]
      ]

  -- the last cell holds what lies after its start
  pub along_end : (k : ℕ) → line k ≤ position → highest_along line k position ≡ k
  along_end k h = le_antisymm (along_least k) (along_last k k (omega arith) h)

module _ {line : ℕ → ℕ} {n : ℕ} (r : Rising line n) where
  -- the cell that holds a position, its end not counted
  pub along_in : (position k i : ℕ) → suc k < n → i ≤ k → line i ≤ position → position < line (suc i) → highest_along line k position ≡ i
  along_in position k i m l starts ends = le_antisymm at_most (along_last line position k i l starts)
    where
      first : line 0 ≤ position
      first = let up = rise r 0 i (omega arith) (omega arith) in omega arith

      at_most : highest_along line k position ≤ i
      at_most = let c = highest_along line k position in let least = along_least line position k in let before = along_starts line position k first in
          elim (dec_lt i c) [
            | yes late ↦ absurd (let beyond = rise r (suc i) c (omega arith) (omega arith) in omega arith)
            | no early ↦ omega arith
          ]

  -- its end counted: that cell or, at the end, the next; what holds of both holds of the cell that the position belongs to
  pub along_at : (position k i : ℕ) → suc k < n → i ≤ k → line i ≤ position → position ≤ line (suc i) →
      (Q : ℕ → Type 0) → Q i → (position ≡ line (suc i) → Q (suc i)) → Q (highest_along line k position)
  along_at position k i m l starts ends Q here next = elim (dec_lt position (line (suc i))) [
    | yes h ↦ subst⁻¹ Q (along_in position k i m l starts h) here
    | no h ↦ elim (dec_lt i k) [
      | yes more ↦ let up = r.rises (suc i) (omega arith) in subst⁻¹ Q (along_in position k (suc i) m more (omega arith) (omega arith)) (next (omega arith))
      | no last ↦ let same : i ≡ k = omega arith in subst⁻¹ Q (along_end line position k (rw (← same) starts)) (subst Q same here)
    ]
  ]

-- ---- of an axis with n lines, which has one cell fewer

module _ (line : ℕ → ℕ) {n : ℕ} (few : 2 ≤ n) (position : ℕ) where
  pub axis_cell : suc (highest_along line (n - 2) position) < n
  axis_cell = let least = along_least line position (n - 2) in omega arith

  pub axis_ends : position ≤ line (n - 1) → position ≤ line (suc (highest_along line (n - 2) position))
  axis_ends h = let last : suc (n - 2) ≡ n - 1 = omega arith in along_ends line position (n - 2) (rw last h)

module _ {line : ℕ → ℕ} {n : ℕ} (r : Rising line n) where
  -- every cell lies between the outer lines
  pub axis_inside : (position i : ℕ) → suc i < n → line i ≤ position → position ≤ line (suc i) → (line 0 ≤ position) × (position ≤ line (n - 1))
  axis_inside position i m starts ends =
      let first = rise r 0 i (omega arith) (omega arith) in let last = rise r (suc i) (n - 1) (omega arith) (omega arith) in (omega arith, omega arith)

  -- the last line belongs to the last cell
  pub axis_end : 2 ≤ n → suc (suc (highest_along line (n - 2) (line (n - 1)))) ≡ n
  axis_end few = let same = along_end line (line (n - 1)) (n - 2) (rise r (n - 2) (n - 1) (omega arith) (omega arith)) in omega arith
