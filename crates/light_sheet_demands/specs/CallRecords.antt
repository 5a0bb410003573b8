-- What the public calls of crates/light_sheet and crates/light_sheet_c, and the workers of a run and of the program `reach`, give and leave, in records that
-- the demands speak of; crates/light_sheet_ties shows that each meets its own. In a record s is the sheet, or the slice, that is lent, and t what the sheet
-- holds at the call's end. Assumes nothing.
use Rattle.std.specs.Prelude.{ℕ, ◌≡◌, List, ℤ, length, Result}
use Rattle.std.specs.Borrow.{Bor}
use Rattle.sheet_layout.specs.Format.{Node}
use Rattle.sheet_calls.specs.Refusals.{check_refusal, lookup_refusal, setting_refusal, reading_refusal, run_refusal}
use Rattle.sheet_calls.specs.Calls.{Part, looked_up, with_node}
use Rattle.sheet_slopes.specs.Slopes.{slope_refusal, with_slopes}
use Rattle.sheet_pool.specs.Pool.{pool_refusal, with_pool}
use Rattle.sheet_reach.specs.Reach.{reach_refusal, told, reach_answer}
use Rattle.sheet_reach.specs.declared.OuterLines.{OuterLines}
use Rattle.surface_answers.specs.Answers.{outcome}
use Rattle.surface_answers.specs.declared.Answer.{Answer}
use Rattle.surface_of_sheet.specs.Read.{read}
use Rattle.surface_of_sheet.specs.Run.{after_steps, filled}
use Rattle.surface_bends.specs.Bends.{bends_refusal, tally, counted, with_bends}
use Rattle.sheet_calls.specs.declared.refusal.Refusal.{Refusal}
use Rattle.surface_zones.specs.Zoned.{zoned_refusal, zoned_outcome, zoned_answer, zoned_run_refusal, zoned_filled}
use Rattle.light_sheet_c.specs.Values.{bits, over, count_over, level_over}

-- `check` gives n
pub record Check (s : List ℕ) (n : ℕ) (t : List ℕ) : Type 0 where
  pub answer : n ≡ check_refusal s
  pub sheet : t ≡ s

-- `node_refusal` gives n
pub record NodeRefusal (s : List ℕ) (i j n : ℕ) (t : List ℕ) : Type 0 where
  pub answer : n ≡ lookup_refusal s i j
  pub sheet : t ≡ s

-- `node` on the slice s hands back r
pub record NodeCall (s : Bor (List ℕ)) (i j : ℕ) (r : Bor (List ℕ)) (t : List ℕ) : Type 0 where
  pub part : Part s r (looked_up s.now i j)
  pub sheet : t ≡ s.now

-- `set_node` gives n
pub record SetNode (s : List ℕ) (i j : ℕ) (v : Node) (n : ℕ) (t : List ℕ) : Type 0 where
  pub answer : n ≡ setting_refusal s i j v
  pub sheet : t ≡ with_node s i j v

-- `fill_slopes` with stiffness k gives n
pub record FillSlopes (s : List ℕ) (k n : ℕ) (t : List ℕ) : Type 0 where
  pub answer : n ≡ slope_refusal s k
  pub sheet : t ≡ with_slopes s k

-- `pool` of the sheets a and b gives n and leaves target'; a' and b' are what the two hold at the call's end
pub record Pool (a b target : List ℕ) (n : ℕ) (target' a' b' : List ℕ) : Type 0 where
  pub answer : n ≡ pool_refusal a b (length target)
  pub pool : target' ≡ with_pool a b target
  pub first : a' ≡ a
  pub second : b' ≡ b

-- `read` gives r: by the answer's definition its number and its values
pub record Read (s : List ℕ) (x y kind : ℕ) (r : Answer) (t : List ℕ) : Type 0 where
  pub answer : (outcome r).number ≡ reading_refusal s x y kind
  pub values : (outcome r).values ≡ (read s x y kind).values
  pub sheet : t ≡ s

-- `bends` on the buffer gives r, by the answer's definition its number and its count of pieces, and leaves buffer'
pub record ListBends (s : List ℕ) (x y : ℕ) (buffer : List ℤ) (r : Result ℕ Refusal) (buffer' : List ℤ) (t : List ℕ) : Type 0 where
  pub answer : (tally r).number ≡ bends_refusal s x y (length buffer)
  pub pieces : (tally r).pieces ≡ (counted s x y (length buffer)).pieces
  pub list : buffer' ≡ with_bends s x y buffer
  pub sheet : t ≡ s

-- `fill_run` on the row gives n and leaves row'
pub record FillRun (s : List ℕ) (x y : ℕ) (row : List ℤ) (n : ℕ) (row' : List ℤ) (t : List ℕ) : Type 0 where
  pub answer : n ≡ run_refusal s x y (length row)
  pub levels : row' ≡ filled s x y row
  pub sheet : t ≡ s

-- `zoned_level` with the zones b gives r, by the answer's definition its number and its levels, one or none; b' is what the list of zones holds at the call's
-- end
pub record ZonedLevel (s b : List ℕ) (x y : ℕ) (r : Result ℤ Refusal) (t b' : List ℕ) : Type 0 where
  pub answer : (zoned_outcome r).number ≡ zoned_refusal s b x y
  pub levels : (zoned_outcome r).levels ≡ (zoned_answer s b x y).levels
  pub sheet : t ≡ s
  pub zones : b' ≡ b

-- `fill_zoned_run` with the zones b on the row gives n and leaves row'
pub record FillZonedRun (s b : List ℕ) (x y : ℕ) (row : List ℤ) (n : ℕ) (row' : List ℤ) (t b' : List ℕ) : Type 0 where
  pub answer : n ≡ zoned_run_refusal s b x y (length row)
  pub levels : row' ≡ zoned_filled s b x y row
  pub sheet : t ≡ s
  pub zones : b' ≡ b

-- the worker of a run, `surface_runs::run`, with a budget of so many steps leaves row'
pub record RunSteps (s : List ℕ) (x y : ℕ) (row : List ℤ) (budget : ℕ) (row' : List ℤ) (t : List ℕ) : Type 0 where
  pub levels : row' ≡ after_steps s x y budget row
  pub sheet : t ≡ s

-- the worker of the program `reach`, `sheet_reaching::reach`, on all bytes that are read gives r: by the answer's definition its number and its positions
pub record ReachOf (input : List ℕ) (r : Result OuterLines Refusal) (t : List ℕ) : Type 0 where
  pub answer : (told r).number ≡ reach_refusal input
  pub positions : (told r).positions ≡ (reach_answer input).positions
  pub bytes : t ≡ input

-- the calls for C: seven meet the records above, and the four below are theirs alone

-- `lvs_node_offset` gives k
pub record NodeOffset (s : List ℕ) (i j k : ℕ) (t : List ℕ) : Type 0 where
  pub answer : k ≡ (looked_up s i j).start
  pub sheet : t ≡ s

-- `lvs_read` on a lent array of words of 64 bits gives n and leaves array': the number and the values of a reading, the bits of these in the first slots
pub record ReadInto (s : List ℕ) (x y kind : ℕ) (array : List ℕ) (n : ℕ) (array' : List ℕ) (t : List ℕ) : Type 0 where
  pub reading : Answer
  pub is_read : Read s x y kind reading t
  pub answer : n ≡ (outcome reading).number
  pub values : array' ≡ over (bits (outcome reading).values) array

-- `lvs_bends` on a lent buffer and a lent count gives n and leaves buffer' and count': what `bends` leaves, its refusal's number or 0, and, where 0, its count
-- of pieces
pub record BendsInto (s : List ℕ) (x y : ℕ) (buffer : List ℤ) (count n : ℕ) (buffer' : List ℤ) (count' : ℕ) (t : List ℕ) : Type 0 where
  pub listed : Result ℕ Refusal
  pub is_listed : ListBends s x y buffer listed buffer' t
  pub answer : n ≡ (tally listed).number
  pub pieces : count' ≡ count_over (tally listed) count

-- `lvs_zoned_level` with the zones b, on a lent place that holds `held`, gives n and leaves held' there: the refusal's number or 0, and, where 0, the zoned
-- level
pub record ZonedLevelInto (s b : List ℕ) (x y : ℕ) (held : ℤ) (n : ℕ) (held' : ℤ) (t b' : List ℕ) : Type 0 where
  pub zoned : Result ℤ Refusal
  pub is_zoned : ZonedLevel s b x y zoned t b'
  pub answer : n ≡ (zoned_outcome zoned).number
  pub level : held' ≡ level_over (zoned_outcome zoned) held
