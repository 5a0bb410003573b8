-- 02's request #104, "Screen, lens and port glass", sentence by sentence, of whatever `pool` may give and leave, and `lvs_pool`; when it is refused, and that
-- both inputs come back as they were, demand 1 says too. Assumes nothing.
use Rattle.std.specs.Prelude.{ℕ, ◌<◌, ◌≡◌, ◌↔◌, List, [], ◌∷◌, false, ℤ, pos, ◌+ℤ◌, ◌-ℤ◌, length, get_or}
use Rattle.integers.specs.Within.{◌within◌}
use Rattle.element_sibson.specs.Fraction.{◌≈◌, ◌+ℚ◌}
use Rattle.element_sibson.specs.Cubic.{Point, Bend, bend, ◌≋◌}
use Rattle.element_sibson.specs.Piece.{Piece}
use Rattle.element_sums.specs.Sums.{◌+ⱼ◌, SumOf}
use Rattle.sheet_words.specs.Word.{byte_at, Bytes}
use Rattle.sheet_layout.specs.Format.{columns, rows, node_at}
use Rattle.sheet_layout.specs.SameLines.{SameLines}
use Rattle.sheet_calls.specs.Refusals.{Accepted}
use Rattle.sheet_calls.specs.WellFormed.{Inside}
use Rattle.sheet_pool.specs.Pool.{second_refused, other_lines, other_target, some_sum_out}
use Rattle.sheet_pool.specs.PoolLaws.{Grouped, InAnyOrder, AllZero}
use Rattle.surface_answers.specs.declared.Answer.{Answer}
use Rattle.surface_of_sheet.specs.Place.{cell_of, HasCell, place}
use Rattle.surface_of_sheet.specs.Surface.{set_of}
use Rattle.surface_of_sheet.specs.Steep.{steep}
use Rattle.light_sheet_demands.specs.CallRecords.{Pool, Read, FillRun}
use Rattle.light_sheet_demands.specs.Demands.{node_start, cell_jet, GivesLevel}

-- ---- the words

-- p is what a call of `pool` with a and b leaves in the target, where it is not refused
pub record Pooled (a b p : List ℕ) : Type 0 where
  pub target : List ℕ
  pub first_after : List ℕ
  pub second_after : List ℕ
  pub call : Pool a b target 0 p first_after second_after

-- at every node the sums of the heights and of the slopes are in range
pub record SumsInRange (a b : List ℕ) : Type 0 where
  pub heights : (i j : ℕ) → i < columns a → j < rows a → ((node_at a i j).stored_height +ℤ (node_at b i j).stored_height) within 4095
  pub slopes_x : (i j : ℕ) → i < columns a → j < rows a → ((node_at a i j).slope_x +ℤ (node_at b i j).slope_x) within 4095
  pub slopes_y : (i j : ℕ) → i < columns a → j < rows a → ((node_at a i j).slope_y +ℤ (node_at b i j).slope_y) within 4095

-- the second derivatives of the cubic on a piece of the cell in column i and row j, at a point
abbrev pub cell_bend : List ℕ → ℕ → ℕ → Piece → Point → Bend
cell_bend s i j k P = bend (cell_of s i j) (set_of s i j k) P

-- every run of the one pixel (x, y) is taken, and leaves z there
pub record OnePixel (s : List ℕ) (x y : ℕ) (z : ℤ) : Type 0 where
  pub run : {t : List ℕ} {n : ℕ} {row row' : List ℤ} → length row ≡ 1 → FillRun s x y row n row' t → (n ≡ 0) × (row' ≡ z ∷ [])

-- a sheet whose height at the pixel (1, 0) is half a grain: lines 0 and 2 both ways, and the x-slope 2 at node 00
abbrev pub half_grain : List ℕ
half_grain = steep 2 2 0

-- ---- two sheets

-- what is shown of the pool p of a and b
pub record PoolOfTwo (a b p : List ℕ) : Type 0 where
  -- "Pool two sheets on the same lines into a third buffer: header and lines are copied,"
  pub on_lines : SameLines a b
  pub size : length p ≡ length a
  pub front : (k : ℕ) → k < node_start a 0 0 → byte_at p k ≡ byte_at a k
  pub lines : SameLines a p
  -- "and each height and slope is the sum of the two."
  pub heights : (i j : ℕ) → i < columns a → j < rows a → (node_at p i j).stored_height ≡ (node_at a i j).stored_height +ℤ (node_at b i j).stored_height
  pub slopes_x : (i j : ℕ) → i < columns a → j < rows a → (node_at p i j).slope_x ≡ (node_at a i j).slope_x +ℤ (node_at b i j).slope_x
  pub slopes_y : (i j : ℕ) → i < columns a → j < rows a → (node_at p i j).slope_y ≡ (node_at a i j).slope_y +ℤ (node_at b i j).slope_y
  -- "Show that the exact surface of the pool is the sum of the two exact surfaces." The three have the same cells. On each, and on each piece, the cubic's ten
  -- coefficients are the sums of the two, as fractions; hence height, both slopes and the second derivatives at every point
  pub cells : (i j : ℕ) → (HasCell b i j ↔ HasCell a i j) × (HasCell p i j ↔ HasCell a i j)
  pub cell_sizes : (i j : ℕ) → HasCell a i j → (cell_of b i j ≡ cell_of a i j) × (cell_of p i j ≡ cell_of a i j)
  pub surfaces : (i j : ℕ) → HasCell a i j → (k : Piece) → SumOf (set_of a i j k) (set_of b i j k) (set_of p i j k)
  pub jets : (i j : ℕ) → HasCell a i j → (k : Piece) (P : Point) → cell_jet p i j k P ≋ cell_jet a i j k P +ⱼ cell_jet b i j k P
  pub bends_xx : (i j : ℕ) → HasCell a i j → (k : Piece) (P : Point) → (cell_bend p i j k P).xx ≈ (cell_bend a i j k P).xx +ℚ (cell_bend b i j k P).xx
  pub bends_xy : (i j : ℕ) → HasCell a i j → (k : Piece) (P : Point) → (cell_bend p i j k P).xy ≈ (cell_bend a i j k P).xy +ℚ (cell_bend b i j k P).xy
  pub bends_yy : (i j : ℕ) → HasCell a i j → (k : Piece) (P : Point) → (cell_bend p i j k P).yy ≈ (cell_bend a i j k P).yy +ℚ (cell_bend b i j k P).yy
  -- a pixel of the mesh is one of all three, in the same cell, at the same point, on the same piece
  pub pixels : (x y : ℕ) → (Inside b x y ↔ Inside a x y) × (Inside p x y ↔ Inside a x y)
  pub places : (x y : ℕ) → (place b x y ≡ place a x y) × (place p x y ≡ place a x y)
  -- "Show also that its level differs from the sum of the two levels by at most 1 grain." Of what readings give, and at every pixel of the mesh all three give
  -- a level
  pub read_levels : {s t v : List ℕ} {x y : ℕ} {q r z : Answer} {k m l : ℤ} → Read a x y 0 q s → Read b x y 0 r t → Read p x y 0 z v →
      GivesLevel q k → GivesLevel r m → GivesLevel z l → (l -ℤ (k +ℤ m)) within 1
  pub levels_given : {s t v : List ℕ} {x y : ℕ} {q r z : Answer} → Inside a x y → Read a x y 0 q s → Read b x y 0 r t → Read p x y 0 z v →
      ((k : ℤ) × GivesLevel q k) × ((m : ℤ) × GivesLevel r m) × ((l : ℤ) × GivesLevel z l)
  -- and of what runs leave; that none along the mesh is refused, `DemandThree.reached` says
  pub run_levels : {s t v : List ℕ} {x y : ℕ} {q q' r r' z z' : List ℤ} → FillRun a x y q 0 q' s → FillRun b x y r 0 r' t → FillRun p x y z 0 z' v →
      (i : ℕ) → i < length q → i < length r → i < length z → (get_or z' i (pos 0) -ℤ (get_or q' i (pos 0) +ℤ get_or r' i (pos 0))) within 1

-- ---- three

-- what is shown of the pool p of a, b and c: its level too differs from the sum of the three levels by at most 1 grain
pub record PoolOfThree (a b c p : List ℕ) : Type 0 where
  pub read_levels : {s t u v : List ℕ} {x y : ℕ} {q r w z : Answer} {k m n l : ℤ} → Read a x y 0 q s → Read b x y 0 r t → Read c x y 0 w u → Read p x y 0 z v →
      GivesLevel q k → GivesLevel r m → GivesLevel w n → GivesLevel z l → (l -ℤ (k +ℤ m +ℤ n)) within 1
  pub levels_given : {s t u v : List ℕ} {x y : ℕ} {q r w z : Answer} → Inside a x y →
      Read a x y 0 q s → Read b x y 0 r t → Read c x y 0 w u → Read p x y 0 z v →
      ((k : ℤ) × GivesLevel q k) × ((m : ℤ) × GivesLevel r m) × ((n : ℤ) × GivesLevel w n) × ((l : ℤ) × GivesLevel z l)
  pub run_levels : {s t u v : List ℕ} {x y : ℕ} {q q' r r' w w' z z' : List ℤ} →
      FillRun a x y q 0 q' s → FillRun b x y r 0 r' t → FillRun c x y w 0 w' u → FillRun p x y z 0 z' v →
      (i : ℕ) → i < length q → i < length r → i < length w → i < length z →
      (get_or z' i (pos 0) -ℤ (get_or q' i (pos 0) +ℤ get_or r' i (pos 0) +ℤ get_or w' i (pos 0))) within 1

-- ---- the request

pub record SheetsPooled : Type 0 where
  pub two : {a b p : List ℕ} → Pooled a b p → PoolOfTwo a b p
  -- the grain is needed: this sheet's level at the pixel (1, 0) is 1, and so is that of its pool with itself, where the sum is 2
  pub attained : {target p a' b' : List ℕ} {n : ℕ} → length target ≡ 40 → Pool half_grain half_grain target n p a' b' →
      (n ≡ 0) × OnePixel half_grain 1 0 (pos 1) × OnePixel p 1 0 (pos 1)
  -- "A pool can be pooled again.": it is an accepted sheet; with any accepted sheet on these lines and a target of their length only a sum can refuse it, first
  -- or second
  pub accepted : {a b p : List ℕ} → Pooled a b p → Accepted p
  pub again : {a b c p target q p' c' : List ℕ} {n : ℕ} → Pooled a b p → Accepted c → SameLines a c → length target ≡ length a →
      Pool p c target n q p' c' → (n ≡ 0) ↔ SumsInRange p c
  pub again_second : {a b c p target q c' p' : List ℕ} {n : ℕ} → Pooled a b p → Accepted c → SameLines a c → length target ≡ length a →
      Pool c p target n q c' p' → (n ≡ 0) ↔ SumsInRange c p
  -- three sheets, in this order, grouped either way: the level too is at most 1 grain from the sum; three times half a grain give 2 where the sum is 3
  pub three : {a b c p : List ℕ} → Grouped Pooled a b c p → PoolOfThree a b c p
  pub attained_by_three : {target target' p q a' b' p' c' : List ℕ} {n m : ℕ} → length target ≡ 40 → length target' ≡ 40 →
      Pool half_grain half_grain target n p a' b' → Pool p half_grain target' m q p' c' → (m ≡ 0) × OnePixel q 1 0 (pos 2)
  -- the same bytes in either order, and refused in both or in none; of three, the same in whatever order and grouping. `Bytes a`: every element is below 256,
  -- as in all that is lent; of larger ones two could spell one number in two ways
  pub either_order : {a b p q : List ℕ} → Bytes a → Bytes b → Pooled a b p → Pooled b a q → q ≡ p
  pub either_taken : {a b target target' p q a' b' a'' b'' : List ℕ} {n m : ℕ} → length target ≡ length target' →
      Pool a b target n p a' b' → Pool b a target' m q b'' a'' → (n ≡ 0) ↔ (m ≡ 0)
  pub any_order : {a b c p q : List ℕ} → Bytes a → Bytes b → Bytes c → Grouped Pooled a b c p →
      InAnyOrder (λ a' b' c'. Grouped Pooled a' b' c' q → q ≡ p) a b c
  -- a sheet pooled with one of zeros on its lines is itself, whichever is first; with a target of its length it is never refused (with the zeros first, by
  -- `either_taken`)
  pub zeros : {a b p : List ℕ} → Bytes a → AllZero b → Pooled a b p → p ≡ a
  pub zeros_first : {a b p : List ℕ} → Bytes a → Bytes b → AllZero b → Pooled b a p → p ≡ a
  pub zeros_taken : {a b target p a' b' : List ℕ} {n : ℕ} → Accepted a → Accepted b → SameLines a b → AllZero b → length target ≡ length a →
      Pool a b target n p a' b' → n ≡ 0
  -- what the target held does not matter; refused, it keeps it (`DemandOne.pool_refused`). That all sums are looked at before the first byte is written, no
  -- contract can say: a caller sees that a refused target is as it was
  pub any_target : {a b target target' p p' a' b' a'' b'' : List ℕ} {n n' : ℕ} → length target ≡ length target' →
      Pool a b target n p a' b' → Pool a b target' n' p' a'' b'' → (n ≡ n') × (n ≡ 0 → p ≡ p')
  -- "The setter's promise of bytes left untouched now covers both inputs."
  pub untouched : {a b target p a' b' : List ℕ} {n : ℕ} → Pool a b target n p a' b' → (a' ≡ a) × (b' ≡ b)
  -- "A sum out of range is refused with 11, last. Errors: 15 when the second sheet would be refused by 1 to 6, after the first sheet's 6;"
  pub gives_fifteen : {a b target p a' b' : List ℕ} {n : ℕ} → Pool a b target n p a' b' → (n ≡ 15) ↔ (Accepted a × ¬ Accepted b)
  -- "16 when the lines differ, after 15;"
  pub gives_sixteen : {a b target p a' b' : List ℕ} {n : ℕ} → Pool a b target n p a' b' → (n ≡ 16) ↔ (Accepted a × Accepted b × ¬ SameLines a b)
  -- "17 when the target's length is not the first sheet's, after 16."
  pub gives_seventeen : {a b target p a' b' : List ℕ} {n : ℕ} → Pool a b target n p a' b' →
      (n ≡ 17) ↔ (Accepted a × Accepted b × SameLines a b × ¬ (length target ≡ length a))
  pub gives_eleven : {a b target p a' b' : List ℕ} {n : ℕ} → Pool a b target n p a' b' →
      (n ≡ 11) ↔ (Accepted a × Accepted b × SameLines a b × (length target ≡ length a) × ¬ SumsInRange a b)
  pub taken : {a b target p a' b' : List ℕ} {n : ℕ} → Pool a b target n p a' b' →
      (n ≡ 0) ↔ (Accepted a × Accepted b × SameLines a b × (length target ≡ length a) × SumsInRange a b)
  -- what each condition of `of_pool` says
  pub fifteen : (b : List ℕ) → (second_refused b ≡ false) ↔ Accepted b
  pub sixteen : (a b : List ℕ) → (other_lines a b ≡ false) ↔ SameLines a b
  pub seventeen : (a : List ℕ) (n : ℕ) → (other_target a n ≡ false) ↔ (n ≡ length a)
  pub eleven : (a b : List ℕ) → (some_sum_out a b ≡ false) ↔ SumsInRange a b
