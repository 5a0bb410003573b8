-- What a node's neighbours rise by, from their heights a and b as the code has them. Assumes nothing.
use Rattle.std.proofs.Common.{◌≡◌, ℕ, ℤ, pos, ◌-ℤ◌, ◌*ℤ◌, ◌∙◌, ap}
use Rattle.sheet_layout.specs.Neighbours.{previous, next}
use Rattle.sheet_slopes.specs.Slopes.{rise}

-- m and p are the lines after and before, as the code has them
pub rise_is : (t n : ℕ) (height : ℕ → ℤ) (k : ℕ) {m p : ℕ} {a b : ℤ} → a ≡ height m → m ≡ next n k → b ≡ height p → p ≡ previous k
    → pos t *ℤ (a -ℤ b) ≡ pos t *ℤ rise n height k
unfolding rise
rise_is t n height k x e y f = λ i. pos t *ℤ ((x ∙ ap height e) i -ℤ (y ∙ ap height f) i)
