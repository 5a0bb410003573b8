-- The turns of a zoned run: the slots that are done hold their zoned levels, the others what they held; a stretch further they do too. Assumes nothing.
use Rattle.std.proofs.Common.{ℕ, ◌+◌, ◌-◌, ◌≤◌, ◌<◌, ◌≡◌, refl, sym, ◌∙◌, ap, subst, List, ◌++◌, append_assoc, ℤ, length, take, drop, length-drop, arith}
use Rattle.std.proofs.Math.Nat.{add_assoc}
use Rattle.std.proofs.lemmas.List.{length-take-le, take_at, drop_at, drop-drop}
use Rattle.sheet_calls.specs.WellFormed.{Inside, OnMesh}
use Rattle.sheet_zoning.specs.Clamps.{Stretch}
use Rattle.surface_zones.specs.Zoned.{zoned_along}
use Rattle.surface_zones.proofs.Along.{along_length, along_append}

-- from a pixel of a run on, as far as it goes
further_on : (s : List ℕ) (x y count k n : ℕ) → OnMesh s x y count → k < count → k + n ≤ count → OnMesh s (x + k) y n
further_on s x y count k n mesh h l = record {
  accepted = mesh.accepted;
  first = mesh.each k h;
  each = λ j m. subst (λ i. Inside s i y) (sym (add_assoc x k j)) (mesh.each (k + j) (omega (arith, l, m)));
}

module _ (s b : List ℕ) (x y : ℕ) (row₀ : List ℤ) where
  pub record Turn (row : List ℤ) (done : ℕ) : Type 0 where
    pub most : done ≤ length row₀
    pub grown : row ≡ zoned_along s b x y done ++ drop done row₀

  pub first_turn : Turn row₀ 0
  unfolding zoned_along
  first_turn = record { most = omega arith; grown = refl }

  module _ {row : List ℤ} {done : ℕ} (u : Turn row done) where
    -- what lies behind the slots that are done
    behind : drop done row ≡ drop done row₀
    behind = ap (drop done) u.grown ∙ drop_at (zoned_along s b x y done) (drop done row₀) done (along_length s b x y done)

    -- a stretch of n pixels further
    module _ (n : ℕ) (more : done < length row₀) (fits : n ≤ length row₀ - done) where
      size : done + n - done ≡ n
      size = omega arith

      ends : done + n ≤ length row₀
      ends = omega (arith, more, fits)

      -- its slots
      part_length : length (take (done + n - done) (drop done row)) ≡ n
      part_length = rw (size, behind) (length-take-le n (drop done row₀) (rw (length-drop done row₀) fits))

      pub lent : OnMesh s x y (length row₀) → Stretch b (x + done) y n →
          let m = length (take (done + n - done) (drop done row)) in OnMesh s (x + done) y m × Stretch b (x + done) y m
      lent mesh stretch = rw part_length (further_on s x y (length row₀) done n mesh more ends, stretch)

      pub next_turn : {part : List ℤ} → part ≡ zoned_along s b (x + done) y (length (take (done + n - done) (drop done row)))
          → Turn (take done row ++ (part ++ drop (done + n - done) (drop done row))) (done + n)
      next_turn e =
          let filled = e ∙ ap (zoned_along s b (x + done) y) part_length in
          let front = ap (take done) u.grown ∙ take_at (zoned_along s b x y done) (drop done row₀) done (along_length s b x y done) in
          let rest = (λ t. drop (size t) (behind t)) ∙ drop-drop n done row₀ in record {
            most = ends;
            grown = (λ t. front t ++ (filled t ++ rest t)) ∙ sym (append_assoc (zoned_along s b x y done) (zoned_along s b (x + done) y n) (drop (done + n) row₀))
                ∙ ap (λ l. l ++ drop (done + n) row₀) (sym (along_append s b x y done n));
          }
