-- Along one axis of n lines that rise: the cells that touch a line, and the lines before and after it. Assumes nothing.
use Prim.Native.Nat.{ℕ, suc, ◌-◌, ◌≤◌, ◌<◌}
use mathlib.Core.Path.{◌≡◌, refl}
use mathlib.Core.Logic.{◌↔◌, ◌⊎◌, inl, inr, ⊎_elim}
use native.Mathlib.Decide.{ℕ_discrete}
use native.Mathlib.Omega.{arith}
use Rattle.sheet_layout.specs.Neighbours.{previous, next}
use Rattle.sheet_layout.proofs.NeighbourLaws.{next_ind, neighbour_laws, one_less, previous-≤, next-<}
use Rattle.sheet_calls.specs.WellFormed.{Rising}
use Rattle.sheet_calls.proofs.Rising.{rise, rise_back}
use Rattle.sheet_reach.specs.Reach.{AtLine}

module _ (n k : ℕ) where
  -- the line after is the next, or, from the last line, that line
  after : k < n → ((next n k ≡ suc k) × (suc k < n)) ⊎ ((next n k ≡ k) × (suc k ≡ n))
  after l = next_ind n k (λ m. ((m ≡ suc k) × (suc k < n)) ⊎ ((m ≡ k) × (suc k ≡ n))) (λ h. inl (refl, h)) (λ h. inr (refl, omega arith))

  -- a cell touches the line exactly when it lies between the lines before and after it
  near : (a : ℕ) → k < n → suc a < n → AtLine a k ↔ ((previous k ≤ a) × (suc a ≤ next n k))
  near a l m = (
    ⊎_elim (λ e. (omega (arith, one_less k), by_next e)) (λ e. (omega (arith, one_less k), by_same e)),
    λ (b, h). elim (ℕ_discrete k a) [ yes e ↦ inl e | no d ↦ inr (back b h d) ],
  )
    where
      by_next : k ≡ a → suc a ≤ next n k
      by_next e = omega (arith, neighbour_laws.after n k (omega arith), e)

      by_same : k ≡ suc a → suc a ≤ next n k
      by_same e = ⊎_elim (λ h. omega (arith, h.0, e)) (λ h. omega (arith, h.0, e)) (after l)

      back : previous k ≤ a → suc a ≤ next n k → ¬ (k ≡ a) → k ≡ suc a
      back b h d = let less = one_less k in ⊎_elim (λ q. omega (arith, q.0)) (λ q. omega (arith, q.0)) (after l)

  -- the cells at the two ends: the first starts at the line before, the last ends at the line after
  pub first_cell : 2 ≤ n → k < n → (suc (previous k) < n) × AtLine (previous k) k
  first_cell few l = let less = one_less k in elim (ℕ_discrete k 0) [ yes e ↦ (omega arith, inl (omega arith)) | no d ↦ (omega arith, inr (omega arith)) ]

  abbrev pub last_cell : ℕ
  last_cell = next n k - 1

  pub last_cell_lem : 2 ≤ n → k < n → (suc last_cell ≡ next n k) × (suc last_cell < n) × AtLine last_cell k
  last_cell_lem few l = ⊎_elim
      (λ h. (omega (arith, h.0), omega (arith, h.0, h.1), inl (omega (arith, h.0))))
      (λ h. (omega (arith, h.0, h.1), omega (arith, h.0, h.1), inr (omega (arith, h.0, h.1))))
      (after l)

-- by their positions
pub touching : {line : ℕ → ℕ} {n : ℕ} → Rising line n → (k a : ℕ) → k < n → suc a < n →
    AtLine a k ↔ ((line (previous k) ≤ line a) × (line (suc a) ≤ line (next n k)))
touching {line} {n} r k a l m =
    let cell = near n k a l m in (
      λ t. let (b, h) = cell.0 t in (rise r _ _ b (omega arith), rise r _ _ h (next-< n k l)),
      λ (b, h). cell.1 (rise_back r _ _ (omega (arith, previous-≤ k)) b, rise_back r _ _ m h),
    )
