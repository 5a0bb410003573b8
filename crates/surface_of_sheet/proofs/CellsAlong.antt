-- The lowest and the highest cell along an axis that touch a position: those between them do, and no others; they differ on inner lines alone. Assumes nothing.
use Prim.Native.Nat.{ℕ, zero, suc, ◌-◌, ◌≤◌, ◌<◌}
use mathlib.Core.Path.{◌≡◌, refl, ◌∙◌, ap}
use mathlib.Core.Logic.{◌⊎◌, inl, inr}
use mathlib.Core.Bool.{cond}
use native.Mathlib.Omega.{arith}
use native.Mathlib.Decide.{ℕ_discrete, dec_lt}
use lib.Dec.{ltb}
use Rattle.sheet_calls.specs.WellFormed.{Rising}
use Rattle.sheet_calls.proofs.Rising.{rise}
use Rattle.surface_of_sheet.specs.Place.{highest_along, lowest_along, cells_along}
use Rattle.surface_of_sheet.specs.Touching.{CellLaws}
use Rattle.surface_of_sheet.proofs.AlongStep.{along_step}
use Rattle.surface_of_sheet.proofs.Along.{along_least, along_starts, along_last, along_in, along_end}

-- the highest starts at or before the position, unless it is the first
starts_or_first : (line : ℕ → ℕ) (position k : ℕ) → (highest_along line k position ≡ 0) ⊎ (line (highest_along line k position) ≤ position)
unfolding highest_along
starts_or_first line position zero = inl refl
starts_or_first line position (suc k) = along_step line position k (λ c. (c ≡ 0) ⊎ (line c ≤ position)) (λ h. inr h) (λ h. starts_or_first line position k)

module _ (line : ℕ → ℕ) (position : ℕ) where
  -- the lowest is the highest of lines one pixel further on
  low_is : (k : ℕ) → highest_along (λ i. suc (line i)) k position ≡ lowest_along line k position
  unfolding highest_along lowest_along
  low_is zero = refl
  low_is (suc k) = ap (cond (ltb (line (suc k)) position) (suc k)) (low_is k)

  low_least : (k : ℕ) → lowest_along line k position ≤ k
  low_least k = rw (← low_is k) (along_least (λ i. suc (line i)) position k)

  -- no later cell starts before the position
  pub low_last : (k j : ℕ) → j ≤ k → line j < position → j ≤ lowest_along line k position
  low_last k j l h = rw (← low_is k) (along_last (λ i. suc (line i)) position k j l h)

  -- it starts before the position, unless it is the first
  low_starts : (k : ℕ) → (lowest_along line k position ≡ 0) ⊎ (line (lowest_along line k position) < position)
  low_starts k = rw (← low_is k) (starts_or_first (λ i. suc (line i)) position k)

  pub low_below : (k : ℕ) → lowest_along line k position ≤ highest_along line k position
  low_below k = elim (low_starts k) [
    | inl e ↦ omega arith
    | inr h ↦ along_last line position k _ (low_least k) (omega arith)
  ]

module _ {line : ℕ → ℕ} {n : ℕ} (r : Rising line n) where
  -- a cell that starts before a line lies before it
  earlier : (i k : ℕ) → k < n → line i < line k → i < n → i < k
  earlier i k m h l = elim (dec_lt i k) [
    | yes e ↦ e
    | no d ↦ absurd (let up = rise r k i (omega arith) l in omega arith)
  ]

  module _ (position : ℕ) (few : 2 ≤ n) where
    abbrev low : ℕ
    low = lowest_along line (n - 2) position

    abbrev high : ℕ
    high = highest_along line (n - 2) position

    low_ends : (i : ℕ) → suc i < n → position ≤ line (suc i) → low ≤ i
    low_ends i l h = elim (low_starts line position (n - 2)) [
      | inl e ↦ omega arith
      | inr starts ↦ let before = earlier low (suc i) l (omega arith) (let least = low_least line position (n - 2) in omega arith) in omega arith
    ]

    from_low : (i : ℕ) → suc i < n → position ≤ line (n - 1) → low ≤ i → position ≤ line (suc i)
    from_low i l h m = elim (dec_lt (line (suc i)) position) [
      | no d ↦ omega arith
      | yes past ↦ elim (ℕ_discrete (suc i) (n - 1)) [
        | yes e ↦ rw e h
        | no inner ↦ absurd (let late = low_last line position (n - 2) (suc i) (omega arith) past in omega arith)
      ]
    ]

    to_high : (i : ℕ) → suc i < n → line 0 ≤ position → i ≤ high → line i ≤ position
    to_high i l h m =
        let least = along_least line position (n - 2) in
        let starts = along_starts line position (n - 2) h in let up = rise r i high m (omega arith) in omega arith

    same_elsewhere : ((k : ℕ) → suc (suc k) < n → ¬ (position ≡ line (suc k))) → low ≡ high
    same_elsewhere off =
        let below = low_below line position (n - 2) in let least = along_least line position (n - 2) in
        elim (dec_lt low high) [
          | no d ↦ omega arith
          | yes h ↦ absurd (elim (starts_or_first line position (n - 2)) [
            | inl e ↦ omega arith
            | inr starts ↦ elim (dec_lt (line high) position) [
              | yes past ↦ let late = low_last line position (n - 2) high least past in omega arith
              | no d ↦
                  let back : suc (high - 1) ≡ high = omega arith in
                  off (high - 1) (omega arith) (rw back (omega arith))
            ]
          ])
        ]

  on_inner : (k : ℕ) → suc (suc k) < n → cells_along line (n - 2) (line (suc k)) ≡ record { lowest = k; highest = suc k }
  on_inner k l =
      let up = r.rises (suc k) l in let down = r.rises k (omega arith) in
      let at = line (suc k) in
      let highest = along_in r at (n - 2) (suc k) (omega arith) (omega arith) (omega arith) up in
      let most = low_ends at (omega arith) k (omega arith) (omega arith) in
      let least = low_last line at (n - 2) k (omega arith) down in
      let lowest : lowest_along line (n - 2) at ≡ k = omega arith in
      λ t. record { lowest = lowest t; highest = highest t }

  off_inner : (i k : ℕ) → ¬ (i ≡ suc k) → i < n → suc k < n → ¬ (line i ≡ line (suc k))
  off_inner i k d l m e = elim (dec_lt i (suc k)) [
    | yes h ↦ let up = rise r (suc i) (suc k) (omega arith) m in let more = r.rises i (omega arith) in omega arith
    | no h ↦ let up = rise r (suc (suc k)) i (omega arith) l in let more = r.rises (suc k) (omega arith) in omega arith
  ]

  -- on an outermost line, of which the cell is i
  on_outer : 2 ≤ n → (j i : ℕ) → j < n → ((k : ℕ) → suc (suc k) < n → ¬ (j ≡ suc k)) → highest_along line (n - 2) (line j) ≡ i →
      cells_along line (n - 2) (line j) ≡ record { lowest = i; highest = i }
  on_outer few j i l outer e =
      let same = same_elsewhere (line j) few (λ k m. off_inner j k (outer k m) l (omega arith)) in
      λ t. record { lowest = (same ∙ e) t; highest = e t }

pub cell_laws : CellLaws
cell_laws = record {
  between = λ line n position i r first last m. (
    λ h. (low_ends r position (omega arith) i m h.1, along_last line position (n - 2) i (omega arith) h.0),
    λ h. (to_high r position (omega arith) i m first h.1, from_low r position (omega arith) i m last h.0),
  );
  inner = λ line n k r. on_inner r k;
  first = λ line n r few. on_outer r few 0 0 (omega arith) (λ k m e. omega arith)
      (along_in r (line 0) (n - 2) 0 (omega arith) (omega arith) (omega arith) (r.rises 0 (omega arith)));
  last = λ line n r few. on_outer r few (n - 1) (n - 2) (omega arith) (λ k m e. omega arith)
      (along_end line (line (n - 1)) (n - 2) (rise r (n - 2) (n - 1) (omega arith) (omega arith)));
  elsewhere = λ line n position r few. same_elsewhere r position few;
}
