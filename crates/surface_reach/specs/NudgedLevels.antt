-- What a nudged height does to the surface and its levels: outside the cells that touch the node nothing changes, in them the level follows. Assumes nothing.
use Rattle.std.specs.Prelude.{ℕ, ◌<◌, ◌≡◌, ◌↔◌, List, T, ℤ, ◌+ℤ◌, ◌-ℤ◌, ◌*ℤ◌}
use Rattle.element_sibson.specs.Cubic.{◌≋◌}
use Rattle.element_reach.specs.Follows.{Follows}
use Rattle.sheet_layout.specs.Format.{columns, rows, line_x, line_y, Node, grains_per_step, node_at}
use Rattle.sheet_calls.specs.Refusals.{setting_refusal, Accepted}
use Rattle.sheet_calls.specs.WellFormed.{Inside}
use Rattle.sheet_calls.specs.Calls.{with_node}
use Rattle.sheet_reach.specs.Reach.{TouchesNode}
use Rattle.surface_of_sheet.specs.Place.{HasCell, Place, touches}
use Rattle.surface_of_sheet.specs.Surface.{set_of, jet_at, level}
use Rattle.surface_reach.specs.Nudged.{NudgedSheet, Beside, WithinReach}

pub record NudgedLevels : Type 0 where
  -- a cell that does not touch the node has the same four cubics
  pub cells : (s t : List ℕ) (i j : ℕ) (δ : ℤ) → NudgedSheet s i j δ t → (a b : ℕ) → HasCell s a b → ¬ TouchesNode a b i j → set_of t a b ≡ set_of s a b
  -- outside the cells that touch it, and on their sides that do not run through it, height and slopes are the same from every piece and cell that touches the
  -- pixel
  pub same : (s t : List ℕ) (i j : ℕ) (δ : ℤ) → NudgedSheet s i j δ t → (x y : ℕ) → Beside s i j x y →
      (p : Place) → T (touches s p x y) → jet_at t p ≋ jet_at s p
  -- no pixel is left out: it lies there or within the node's reach, and never both
  pub either : (s : List ℕ) (i j : ℕ) → Accepted s → i < columns s → j < rows s → (x y : ℕ) → Beside s i j x y ↔ (¬ WithinReach s i j x y)
  -- so a level that changes is one of a pixel within the node's reach
  pub changed : (s t : List ℕ) (i j : ℕ) (δ : ℤ) → NudgedSheet s i j δ t → (x y : ℕ) → Inside s x y → ¬ (level t x y ≡ level s x y) → WithinReach s i j x y
  -- every level follows the height, and at the node by all of it
  pub levels : (s t : List ℕ) (i j : ℕ) (δ : ℤ) → NudgedSheet s i j δ t → (x y : ℕ) → Inside s x y → Follows δ (level s x y) (level t x y)
  pub at_node : (s t : List ℕ) (i j : ℕ) (δ : ℤ) → NudgedSheet s i j δ t →
      level t (line_x s i) (line_y s j) ≡ level s (line_x s i) (line_y s j) +ℤ δ
  -- setting a node to a height, with the slopes that it had, gives such a pair
  pub setting : (s : List ℕ) (i j : ℕ) (v : Node) → setting_refusal s i j v ≡ 0 → v.slope_x ≡ (node_at s i j).slope_x → v.slope_y ≡ (node_at s i j).slope_y →
      NudgedSheet s i j (grains_per_step *ℤ (v.stored_height -ℤ (node_at s i j).stored_height)) (with_node s i j v)
