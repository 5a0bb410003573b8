-- A pixel of the mesh of an accepted sheet: the refusals, 1 to 6 of the sheet and then 7. Assumes nothing.
use Rattle.std.specs.Prelude.{ℕ, List, [], ◌∷◌, ◌++◌}
use Rattle.sheet_calls.specs.Rules.{Rule, rule, first_refusal}
use Rattle.sheet_calls.specs.Refusals.{outside, sheet_rules}

pub record SpotInput : Type 0 where
  pub sheet : List ℕ
  pub x : ℕ
  pub y : ℕ

unfoldable pub spot_rules : List (Rule SpotInput)
spot_rules = sheet_rules (λ u. u.sheet) ++ rule 7 (λ u. outside u.sheet u.x u.y) ∷ []

unfoldable pub spot_refusal : List ℕ → ℕ → ℕ → ℕ
spot_refusal s x y = first_refusal spot_rules (record { sheet = s; x = x; y = y })
