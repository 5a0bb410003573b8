-- Pools of which a level is a whole grain from the sum of the levels, computed on the definitions. Assumes nothing.
use Rattle.std.specs.Prelude.{◌≡◌, pos}
use Rattle.sheet_calls.specs.Refusals.{run_refusal}
use Rattle.sheet_pool.specs.Pool.{pooled, pool_refusal}
use Rattle.surface_of_sheet.specs.Surface.{level}
use Rattle.surface_of_sheet.specs.Steep.{steep}

pub record Examples : Type 0 where
  -- with the x-slope 2 the height at the pixel (1, 0) is half a grain, which is read as 1; two of them are 1, so the level is 1 where the levels' sum is 2
  pub half : level (steep 2 2 0) 1 0 ≡ pos 1
  pub twice : pooled (steep 2 2 0) (steep 2 2 0) ≡ steep 2 4 0
  pub one : level (steep 2 4 0) 1 0 ≡ pos 1
  -- three are 1½, which is read as 2, where the levels' sum is 3
  pub thrice : pooled (steep 2 4 0) (steep 2 2 0) ≡ steep 2 6 0
  pub two : level (steep 2 6 0) 1 0 ≡ pos 2
  -- none of the calls is refused
  pub pools : (pool_refusal (steep 2 2 0) (steep 2 2 0) 40 ≡ 0) × (pool_refusal (steep 2 4 0) (steep 2 2 0) 40 ≡ 0)
  pub runs : (run_refusal (steep 2 2 0) 1 0 1 ≡ 0) × (run_refusal (steep 2 4 0) 1 0 1 ≡ 0) × (run_refusal (steep 2 6 0) 1 0 1 ≡ 0)
