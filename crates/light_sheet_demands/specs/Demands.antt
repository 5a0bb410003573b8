-- The customer's three demands, sentence by sentence. They speak of whatever the calls of crates/light_sheet, and those for C, may give and leave; the records
-- of CallRecords say what that is. Assumes nothing.
use Rattle.std.specs.Prelude.{ℕ, suc, ◌+◌, ◌*◌, ◌^◌, ◌≤◌, ◌<◌, ◌≡◌, ◌↔◌, ◌⊎◌, List, [], ◌∷◌, ◌++◌, map, true, false, T, ℤ, pos, neg_ℤ, ◌+ℤ◌, ◌*ℤ◌, ◌<ℤ◌, length, get_or, take, Float, Result, Ok}
use Rattle.std.specs.Borrow.{Bor}
use Rattle.std.specs.Float.{fin, binary64}
use Rattle.std.specs.Float.Ieee.{of_bits, to_bits}
use Rattle.element_sibson.specs.Fraction.{Positive, positive, ℚ, ◌≈◌, ◌≤ℚ◌, ◌<ℚ◌, ◌+ℚ◌, ◌-ℚ◌, ◌·ℚ◌, ◌÷◌, whole, half}
use Rattle.element_sibson.specs.Cubic.{Cell, Point, Jet, Bend, value, jet, bend, ◌≋◌}
use Rattle.element_sibson.specs.Piece.{Piece, top, right, bottom, left, next, FourCubics, triangle, HalfDiagonal, edge, Corner, at, left_top, right_top, left_bottom, right_bottom}
use Rattle.element_sibson.specs.Conditions.{Meets, SameCorners, Equal}
use Rattle.element_sibson.specs.Element.{corner_numbers, halved, sibson}
use Rattle.element_sibson.specs.Sense.{FractionLaws, SameValues, Derivatives, Turnings, Straight, Linearity, Covering}
use Rattle.element_sibson.specs.Theorems.{Has, wholes}
use Rattle.element_nistir_6718.specs.Source as nistir
use Rattle.element_nistir_6718.specs.Misprints.{Misprints}
use Rattle.element_readings.specs.Reading.{rounded, ◌withinℚ◌}
use Rattle.sheet_words.specs.Word.{byte_at, WordLaws}
use Rattle.sheet_layout.specs.Format.{columns, rows, line_x, line_y, Node, node, decoded, node_at}
use Rattle.sheet_calls.specs.Rules.{Rule, rule}
use Rattle.sheet_calls.specs.Refusals.{other_mark, other_version, other_counts, other_length, wrong_lines, wrong_nodes, outside, off_mesh, empty_run, other_kind, no_node, wrong_numbers, Accepted, LookupInput, SettingInput, ReadingInput, RunInput}
use Rattle.sheet_calls.specs.WellFormed.{Inside, ConditionLaws}
use Rattle.sheet_calls.specs.NodeLaws.{ReadsBack}
use Rattle.sheet_slopes.specs.Slopes.{too_stiff, some_too_steep, SlopeInput}
use Rattle.sheet_pool.specs.Pool.{second_refused, other_lines, other_target, some_sum_out, PoolInput}
use Rattle.sheet_zones.specs.Zones.{other_zones_length, wrong_zones}
use Rattle.surface_answers.specs.Answers.{Outcome, outcome, Every, divisor, quotient}
use Rattle.surface_answers.specs.AnswerLaws.{AnswerLaws, QuotientLaws, ◌is◌}
use Rattle.surface_answers.specs.declared.Answer.{Answer}
use Rattle.surface_answers.specs.declared.Answer.TheVariants as answer
use Rattle.surface_of_sheet.specs.Place.{cell_of, HasCell, Place, point_at, place}
use Rattle.surface_of_sheet.specs.Surface.{nodes_of, set_of}
use Rattle.surface_of_sheet.specs.Touching.{PlaceLaws}
use Rattle.surface_of_sheet.specs.Theorems.{HalfUnitsFrom}
use Rattle.surface_bends.specs.Bends.{too_few, BendsInput, tally}
use Rattle.sheet_calls.specs.declared.refusal.Refusal.{Refusal}
use Rattle.sheet_calls.specs.Refused.{RefusedWith}
use Rattle.surface_zones.specs.Zoned.{ZonedInput, ZonedRunInput, zoned_outcome}
use Rattle.light_sheet_demands.specs.CallRecords.{Check, NodeRefusal, NodeCall, SetNode, FillSlopes, Pool, Read, ListBends, FillRun, ZonedLevel, FillZonedRun, NodeOffset, ReadInto, BendsInto, ZonedLevelInto}

-- ---- demand 1

-- the first of these rules to hold of the input u has the number n: the rule in front holds and has it, or does not hold, and so for those behind
abbrev pub FirstHolds : {Input : Type 0} → List (Rule Input) → Input → ℕ → Type 0
FirstHolds [] u n = ⊥
FirstHolds (r ∷ rules) u n = ((r.condition u ≡ true) × (r.number ≡ n)) ⊎ ((r.condition u ≡ false) × FirstHolds rules u n)

-- none of them holds
abbrev pub NoneHolds : {Input : Type 0} → List (Rule Input) → Input → Type 0
NoneHolds [] u = Unit {0}
NoneHolds (r ∷ rules) u = (r.condition u ≡ false) × NoneHolds rules u

-- n is the number that a call gives which looks at these rules on its input u: a refusal's exactly when its condition is the first of them in order to hold, 0
-- exactly when none holds
pub record Gives {Input : Type 0} (rules : List (Rule Input)) (u : Input) (n : ℕ) : Type 0 where
  pub refused : (k : ℕ) → ¬ (k ≡ 0) → (n ≡ k) ↔ FirstHolds rules u k
  pub taken : (n ≡ 0) ↔ NoneHolds rules u

-- 01's conditions that each call looks at, by their numbers, in the order of looking: those of the sheet in its input, then its own
abbrev pub of_sheet : {Input : Type 0} → (Input → List ℕ) → List (Rule Input)
of_sheet sheet =
    rule 1 (λ u. other_mark (sheet u)) ∷ rule 2 (λ u. other_version (sheet u)) ∷ rule 3 (λ u. other_counts (sheet u)) ∷
    rule 4 (λ u. other_length (sheet u)) ∷ rule 5 (λ u. wrong_lines (sheet u)) ∷ rule 6 (λ u. wrong_nodes (sheet u)) ∷ []

abbrev pub of_check : List (Rule (List ℕ))
of_check = of_sheet (λ s. s)

abbrev pub of_lookup : List (Rule LookupInput)
of_lookup = of_sheet (λ u. u.sheet) ++ rule 10 (λ u. no_node u.sheet u.column u.row) ∷ []

abbrev pub of_setting : List (Rule SettingInput)
of_setting = of_sheet (λ u. u.sheet) ++ rule 10 (λ u. no_node u.sheet u.column u.row) ∷ rule 11 (λ u. wrong_numbers u.numbers) ∷ []

-- 02's, of #101
abbrev pub of_slopes : List (Rule SlopeInput)
of_slopes = of_sheet (λ u. u.sheet) ++ rule 12 (λ u. too_stiff u.stiffness) ∷ rule 13 (λ u. some_too_steep u.sheet u.stiffness) ∷ []

-- 02's, of #104
abbrev pub of_pool : List (Rule PoolInput)
of_pool =
    of_sheet (λ u. u.first) ++ rule 15 (λ u. second_refused u.second) ∷ rule 16 (λ u. other_lines u.first u.second) ∷
    rule 17 (λ u. other_target u.first u.size) ∷ rule 11 (λ u. some_sum_out u.first u.second) ∷ []

abbrev pub of_reading : List (Rule ReadingInput)
of_reading = of_sheet (λ u. u.sheet) ++ rule 7 (λ u. outside u.sheet u.x u.y) ∷ rule 9 (λ u. other_kind u.kind) ∷ []

abbrev pub of_run : List (Rule RunInput)
of_run = of_sheet (λ u. u.sheet) ++ rule 7 (λ u. off_mesh u.sheet u.x u.y u.count) ∷ rule 8 (λ u. empty_run u.count) ∷ []

-- 02's, of #102
abbrev pub of_bends : List (Rule BendsInput)
of_bends = of_sheet (λ u. u.sheet) ++ rule 7 (λ u. outside u.sheet u.x u.y) ∷ rule 14 (λ u. too_few u.places) ∷ []

-- 02's, of #106
abbrev pub of_zoned_level : List (Rule ZonedInput)
of_zoned_level =
    of_sheet (λ u. u.sheet) ++ rule 7 (λ u. outside u.sheet u.x u.y) ∷ rule 18 (λ u. other_zones_length u.zones) ∷
    rule 19 (λ u. wrong_zones u.zones) ∷ []

abbrev pub of_zoned_run : List (Rule ZonedRunInput)
of_zoned_run =
    of_sheet (λ u. u.sheet) ++ rule 7 (λ u. off_mesh u.sheet u.x u.y u.count) ∷ rule 8 (λ u. empty_run u.count) ∷
    rule 18 (λ u. other_zones_length u.zones) ∷ rule 19 (λ u. wrong_zones u.zones) ∷ []

-- where the node at column i and row j starts, by 01's layout; it has six bytes
abbrev pub node_start : List ℕ → ℕ → ℕ → ℕ
node_start s i j = 8 + 2 * columns s + 2 * rows s + 6 * (j * columns s + i)

pub record DemandOne : Type 0 where
  -- "The memory a caller lends, sheet or row, comes back with only those places altered that the call is there to write, and after a refusal with none
  -- altered." What is lent to be read comes back as it was, whatever the call gives
  pub kept_by_check : {s t : List ℕ} {n : ℕ} → Check s n t → t ≡ s
  pub kept_by_node_refusal : {s t : List ℕ} {i j n : ℕ} → NodeRefusal s i j n t → t ≡ s
  pub kept_by_node : {s r : Bor (List ℕ)} {t : List ℕ} {i j : ℕ} → NodeCall s i j r t → t ≡ s.now
  pub kept_by_read : {s t : List ℕ} {x y kind : ℕ} {r : Answer} → Read s x y kind r t → t ≡ s
  pub kept_by_fill_run : {s t : List ℕ} {x y n : ℕ} {row row' : List ℤ} → FillRun s x y row n row' t → t ≡ s
  pub kept_by_bends : {s t : List ℕ} {x y : ℕ} {buffer buffer' : List ℤ} {r : Result ℕ Refusal} → ListBends s x y buffer r buffer' t → t ≡ s
  pub kept_by_pool : {a b target p a' b' : List ℕ} {n : ℕ} → Pool a b target n p a' b' → (a' ≡ a) × (b' ≡ b)
  pub kept_by_node_offset : {s t : List ℕ} {i j k : ℕ} → NodeOffset s i j k t → t ≡ s
  pub kept_by_read_into : {s t : List ℕ} {x y kind n : ℕ} {array array' : List ℕ} → ReadInto s x y kind array n array' t → t ≡ s
  pub kept_by_bends_into : {s t : List ℕ} {x y count n count' : ℕ} {buffer buffer' : List ℤ} → BendsInto s x y buffer count n buffer' count' t → t ≡ s
  pub kept_by_zoned_level : {s b t b' : List ℕ} {x y : ℕ} {r : Result ℤ Refusal} → ZonedLevel s b x y r t b' → (t ≡ s) × (b' ≡ b)
  pub kept_by_zoned_run : {s b t b' : List ℕ} {x y n : ℕ} {row row' : List ℤ} → FillZonedRun s b x y row n row' t b' → (t ≡ s) × (b' ≡ b)
  pub kept_by_zoned_into : {s b t b' : List ℕ} {x y n : ℕ} {held held' : ℤ} → ZonedLevelInto s b x y held n held' t b' → (t ≡ s) × (b' ≡ b)
  -- `set_node` is there to write the six bytes of a node, `fill_slopes` the last four bytes of each, `pool` all of the target, `fill_run` and `fill_zoned_run`
  -- all slots of the row, `bends` three places for each piece that it counts, `lvs_bends` these and the count, `lvs_zoned_level` the level, and `lvs_read` as
  -- many of the array as the kind has values: one, two or three; refused, none writes. The array is stated as words of 64 bits, so a kept slot keeps every bit,
  -- whatever it holds, a NaN too
  pub sheet_size : {s t : List ℕ} {i j n : ℕ} {v : Node} → SetNode s i j v n t → length t ≡ length s
  pub before_node : {s t : List ℕ} {i j n : ℕ} {v : Node} → SetNode s i j v n t → (k : ℕ) → k < node_start s i j → byte_at t k ≡ byte_at s k
  pub after_node : {s t : List ℕ} {i j n : ℕ} {v : Node} → SetNode s i j v n t → (k : ℕ) → node_start s i j + 6 ≤ k → byte_at t k ≡ byte_at s k
  pub sheet_refused : {s t : List ℕ} {i j n : ℕ} {v : Node} → SetNode s i j v n t → ¬ (n ≡ 0) → t ≡ s
  pub slopes_size : {s t : List ℕ} {k n : ℕ} → FillSlopes s k n t → length t ≡ length s
  pub beside_slopes : {s t : List ℕ} {k n : ℕ} → FillSlopes s k n t → (b : ℕ) →
      ((i j c : ℕ) → i < columns s → j < rows s → c < 4 → ¬ (b ≡ node_start s i j + 2 + c)) → byte_at t b ≡ byte_at s b
  pub slopes_refused : {s t : List ℕ} {k n : ℕ} → FillSlopes s k n t → ¬ (n ≡ 0) → t ≡ s
  pub pool_size : {a b target p a' b' : List ℕ} {n : ℕ} → Pool a b target n p a' b' → length p ≡ length target
  pub pool_refused : {a b target p a' b' : List ℕ} {n : ℕ} → Pool a b target n p a' b' → ¬ (n ≡ 0) → p ≡ target
  pub row_size : {s t : List ℕ} {x y n : ℕ} {row row' : List ℤ} → FillRun s x y row n row' t → length row' ≡ length row
  pub row_refused : {s t : List ℕ} {x y n : ℕ} {row row' : List ℤ} → FillRun s x y row n row' t → ¬ (n ≡ 0) → row' ≡ row
  pub zoned_row_size : {s b t b' : List ℕ} {x y n : ℕ} {row row' : List ℤ} → FillZonedRun s b x y row n row' t b' → length row' ≡ length row
  pub zoned_row_refused : {s b t b' : List ℕ} {x y n : ℕ} {row row' : List ℤ} → FillZonedRun s b x y row n row' t b' → ¬ (n ≡ 0) → row' ≡ row
  pub zoned_into_level : {s b t b' : List ℕ} {x y : ℕ} {held held' : ℤ} (c : ZonedLevelInto s b x y held 0 held' t b') → c.zoned ≡ Ok held'
  pub zoned_into_refused : {s b t b' : List ℕ} {x y n : ℕ} {held held' : ℤ} → ZonedLevelInto s b x y held n held' t b' → ¬ (n ≡ 0) → held' ≡ held
  pub buffer_size : {s t : List ℕ} {x y : ℕ} {buffer buffer' : List ℤ} {r : Result ℕ Refusal} → ListBends s x y buffer r buffer' t → length buffer' ≡ length buffer
  pub buffer_behind : {s t : List ℕ} {x y : ℕ} {buffer buffer' : List ℤ} {r : Result ℕ Refusal} → ListBends s x y buffer r buffer' t → (k : ℕ) →
      3 * (tally r).pieces ≤ k → (z : ℤ) → get_or buffer' k z ≡ get_or buffer k z
  pub buffer_refused : {s t : List ℕ} {x y : ℕ} {buffer buffer' : List ℤ} {r : Result ℕ Refusal} → ListBends s x y buffer r buffer' t → ¬ ((tally r).number ≡ 0) →
      buffer' ≡ buffer
  pub into_buffer : {s t : List ℕ} {x y count n count' : ℕ} {buffer buffer' : List ℤ} (c : BendsInto s x y buffer count n buffer' count' t) →
      ListBends s x y buffer c.listed buffer' t
  pub into_count : {s t : List ℕ} {x y count count' : ℕ} {buffer buffer' : List ℤ} (c : BendsInto s x y buffer count 0 buffer' count' t) →
      count' ≡ (tally c.listed).pieces
  pub into_refused : {s t : List ℕ} {x y count n count' : ℕ} {buffer buffer' : List ℤ} → BendsInto s x y buffer count n buffer' count' t → ¬ (n ≡ 0) →
      (buffer' ≡ buffer) × (count' ≡ count)
  pub array_size : {s t : List ℕ} {x y kind n : ℕ} {array array' : List ℕ} → ReadInto s x y kind array n array' t → length array' ≡ length array
  pub array_behind : {s t : List ℕ} {x y kind n : ℕ} {array array' : List ℕ} → ReadInto s x y kind array n array' t → (k : ℕ) → kind < k → (w : ℕ) →
      get_or array' k w ≡ get_or array k w
  pub array_refused : {s t : List ℕ} {x y kind n : ℕ} {array array' : List ℕ} → ReadInto s x y kind array n array' t → ¬ (n ≡ 0) → array' ≡ array
  -- "This holds for all input, with no reading past the lent part, no wrapped sum and no call that fails to end." No public call has a `requires`, and of
  -- every function the gate shows that it reads and writes within bounds, that no sum or product wraps and no cast loses a bit, and that it ends

  -- "Each refusal is given when its listed condition is the first in order to hold, and then only."
  pub check : {s t : List ℕ} {n : ℕ} → Check s n t → Gives of_check s n
  pub lookup : {s t : List ℕ} {i j n : ℕ} → NodeRefusal s i j n t → Gives of_lookup (record { sheet = s; column = i; row = j }) n
  pub setting : {s t : List ℕ} {i j n : ℕ} {v : Node} → SetNode s i j v n t → Gives of_setting (record { sheet = s; column = i; row = j; numbers = v }) n
  pub slopes : {s t : List ℕ} {k n : ℕ} → FillSlopes s k n t → Gives of_slopes (record { sheet = s; stiffness = k }) n
  pub pool : {a b target p a' b' : List ℕ} {n : ℕ} → Pool a b target n p a' b' → Gives of_pool (record { first = a; second = b; size = length target }) n
  pub reading : {s t : List ℕ} {x y kind : ℕ} {r : Answer} → Read s x y kind r t →
      Gives of_reading (record { sheet = s; x = x; y = y; kind = kind }) (outcome r).number
  pub array_reading : {s t : List ℕ} {x y kind n : ℕ} {array array' : List ℕ} → ReadInto s x y kind array n array' t →
      Gives of_reading (record { sheet = s; x = x; y = y; kind = kind }) n
  pub bends : {s t : List ℕ} {x y : ℕ} {buffer buffer' : List ℤ} {r : Result ℕ Refusal} → ListBends s x y buffer r buffer' t →
      Gives of_bends (record { sheet = s; x = x; y = y; places = length buffer }) (tally r).number
  pub bends_into : {s t : List ℕ} {x y count n count' : ℕ} {buffer buffer' : List ℤ} → BendsInto s x y buffer count n buffer' count' t →
      Gives of_bends (record { sheet = s; x = x; y = y; places = length buffer }) n
  pub run : {s t : List ℕ} {x y n : ℕ} {row row' : List ℤ} → FillRun s x y row n row' t →
      Gives of_run (record { sheet = s; x = x; y = y; count = length row }) n
  pub zoned_level : {s b t b' : List ℕ} {x y : ℕ} {r : Result ℤ Refusal} → ZonedLevel s b x y r t b' →
      Gives of_zoned_level (record { sheet = s; zones = b; x = x; y = y }) (zoned_outcome r).number
  pub zoned_into : {s b t b' : List ℕ} {x y n : ℕ} {held held' : ℤ} → ZonedLevelInto s b x y held n held' t b' →
      Gives of_zoned_level (record { sheet = s; zones = b; x = x; y = y }) n
  pub zoned_run : {s b t b' : List ℕ} {x y n : ℕ} {row row' : List ℤ} → FillZonedRun s b x y row n row' t b' →
      Gives of_zoned_run (record { sheet = s; zones = b; x = x; y = y; count = length row }) n
  -- a reading that is refused is `Refused` with its number: it has no values
  pub refused_reading : {s t : List ℕ} {x y kind n : ℕ} {r : Answer} → Read s x y kind r t → (outcome r).number ≡ n → ¬ (n ≡ 0) → r ≡ answer.Refused n
  pub no_values : {s t : List ℕ} {x y kind : ℕ} {r : Answer} → Read s x y kind r t → ¬ ((outcome r).number ≡ 0) → (outcome r).values ≡ []
  -- and `bends` and `zoned_level`, refused, are an `Err` with their numbers
  pub refused_bends : {s t : List ℕ} {x y n : ℕ} {buffer buffer' : List ℤ} {r : Result ℕ Refusal} → ListBends s x y buffer r buffer' t → (tally r).number ≡ n → ¬ (n ≡ 0) →
      RefusedWith r n
  pub refused_zoned : {s b t b' : List ℕ} {x y n : ℕ} {r : Result ℤ Refusal} → ZonedLevel s b x y r t b' → (zoned_outcome r).number ≡ n → ¬ (n ≡ 0) → RefusedWith r n
  -- a lookup that its companion says is refused hands back a part that holds nothing, at the sheet's start; else the node's six bytes, where they lie: in the
  -- sheet's block of memory, at the node's address there
  pub empty_part : {s r : Bor (List ℕ)} {t t' : List ℕ} {i j n : ℕ} → NodeCall s i j r t → NodeRefusal s.now i j n t' → ¬ (n ≡ 0) →
      (r.now ≡ []) × (r.ref_ptr.0 ≡ s.ref_ptr.0) × (r.ref_ptr.1 ≡ s.ref_ptr.1)
  pub node_part : {s r : Bor (List ℕ)} {t t' : List ℕ} {i j n : ℕ} → NodeCall s i j r t → NodeRefusal s.now i j n t' → n ≡ 0 →
      (length r.now ≡ 6) × (r.ref_ptr.0 ≡ s.ref_ptr.0) × (r.ref_ptr.1 ≡ node_start s.now i j + s.ref_ptr.1)
  pub each_byte : {s r : Bor (List ℕ)} {t t' : List ℕ} {i j n : ℕ} → NodeCall s i j r t → NodeRefusal s.now i j n t' → n ≡ 0 → (k : ℕ) → k < 6 →
      byte_at r.now k ≡ byte_at s.now (node_start s.now i j + k)
  -- in C the part is known by where it starts: 0 exactly where the lookup is refused, for no node starts there
  pub offset : {s t t' : List ℕ} {i j k n : ℕ} → NodeOffset s i j k t → NodeRefusal s i j n t' → n ≡ 0 → k ≡ node_start s i j
  pub no_offset : {s t t' : List ℕ} {i j k n : ℕ} → NodeOffset s i j k t → NodeRefusal s i j n t' → (k ≡ 0) ↔ ¬ (n ≡ 0)
  -- what each of 01's conditions says, of the bytes; and which signed number 16 bits are
  pub conditions : ConditionLaws
  pub words : WordLaws

-- ---- the surface that demands 2 and 3 speak of: `set_of s i j` is the set we read from in the cell in column i and row j

-- height and slopes of its cubic on a piece, at a point
abbrev pub cell_jet : List ℕ → ℕ → ℕ → Piece → Point → Jet ℚ
cell_jet s i j k P = jet (cell_of s i j) (set_of s i j k) P

-- the same at a place, which is a piece of a cell with a pixel's offsets there: height in grains, slopes in grains per pixel
abbrev pub place_jet : List ℕ → Place → Jet ℚ
place_jet s p = cell_jet s p.column p.row p.piece (point_at s p)

-- the second derivatives there, in grains per pixel per pixel
abbrev pub place_bend : List ℕ → Place → Bend
place_bend s p = bend (cell_of s p.column p.row) (set_of s p.column p.row p.piece) (point_at s p)

-- both at a pixel: in the pixel's cell, on the pixel's piece
abbrev pub pixel_jet : List ℕ → ℕ → ℕ → Jet ℚ
pixel_jet s x y = place_jet s (place s x y)

abbrev pub pixel_bend : List ℕ → ℕ → ℕ → Bend
pixel_bend s x y = place_bend s (place s x y)

-- the sheets that demands 2 and 3 speak of, "accepted when none of the conditions 1 to 6 holds"
abbrev pub AcceptedMeans : Type 0
AcceptedMeans = (s : List ℕ) → Accepted s ↔ NoneHolds of_check s

-- ---- demand 2

-- what a reading that is not refused gives, by the answer's definition: the number 0, and whole numbers over a divisor, as 64-bit floats
abbrev pub given : Positive → List ℤ → Outcome
given d zs = record { number = 0; values = map (quotient d) zs }

-- the float is exactly a whole number over d; where that is 0, it is +0
pub record Lossless (d : Positive) (v : Float) : Type 0 where
  pub number : ℤ
  pub exact : v is whole number ÷ d
  pub zero : number ≡ pos 0 → v ≡ fin false 0 (pos 0)

-- the reading gives a level of z grains: its one value is the float that is exactly z / 64
pub record GivesLevel (r : Answer) (z : ℤ) : Type 0 where
  pub float : Float
  pub value : (outcome r).values ≡ float ∷ []
  pub exact : float is whole z ÷ positive 64 tt

-- strictly between −2²⁰ and 2²⁰
abbrev pub LevelSized : ℤ → Type 0
LevelSized z = (neg_ℤ (pos (2 ^ 20)) <ℤ z) × (z <ℤ pos (2 ^ 20))

pub record DemandTwo : Type 0 where
  -- which sheets are accepted
  pub accepted : AcceptedMeans
  -- "Level, tilt and bend at a pixel are the height and the first and second derivatives of the Sibson element of NISTIR 6718 on that pixel's cell and piece,
  -- rounded to the nearest unit by our tie rule." What a reading gives at a pixel of the mesh, over 64, 64 and 4,096, and what a run leaves
  pub levels : {s t : List ℕ} {x y : ℕ} {r : Answer} → Accepted s → Inside s x y → Read s x y 0 r t →
      outcome r ≡ given (positive 64 tt) (rounded (pixel_jet s x y).height ∷ [])
  pub tilts : {s t : List ℕ} {x y : ℕ} {r : Answer} → Accepted s → Inside s x y → Read s x y 1 r t →
      outcome r ≡ given (positive 64 tt) (rounded (pixel_jet s x y).x_slope ∷ rounded (pixel_jet s x y).y_slope ∷ [])
  pub bends : {s t : List ℕ} {x y : ℕ} {r : Answer} → Accepted s → Inside s x y → Read s x y 2 r t →
      outcome r ≡ given (positive 4096 tt)
      (rounded (pos 64 ·ℚ (pixel_bend s x y).xx) ∷ rounded (pos 64 ·ℚ (pixel_bend s x y).xy) ∷ rounded (pos 64 ·ℚ (pixel_bend s x y).yy) ∷ [])
  pub runs : {s t : List ℕ} {x y : ℕ} {row row' : List ℤ} → FillRun s x y row 0 row' t → (k : ℕ) → k < length row →
      get_or row' k (pos 0) ≡ rounded (pixel_jet s (x + k) y).height
  -- what a reading gives in C: the bits of its values, in the first slots of the array, one, two or three; read as floats, they are the values
  pub arrays : {s t : List ℕ} {x y kind : ℕ} {array array' : List ℕ} (c : ReadInto s x y kind array 0 array' t) → length array ≡ 3 →
      take (suc kind) array' ≡ map (to_bits binary64) (outcome c.reading).values
  pub patterns : {s t : List ℕ} {x y kind : ℕ} {r : Answer} → Read s x y kind r t → Every (λ v. of_bits binary64 (to_bits binary64 v) ≡ v) (outcome r).values
  -- which case of the answer has which number and values
  pub answers : AnswerLaws
  -- the division by 64, 64 and 4,096 "loses nothing", and 0 is +0
  pub divisors : ((divisor 0).number ≡ 64) × ((divisor 1).number ≡ 64) × ((divisor 2).number ≡ 4096)
  pub quotients : QuotientLaws
  pub floats : {s t : List ℕ} {x y kind : ℕ} {r : Answer} → Read s x y kind r t → Every (Lossless (divisor kind)) (outcome r).values
  -- "A level lies strictly between −2²⁰ and 2²⁰." That of a reading is 64 times its float
  pub read_levels : {s t : List ℕ} {x y : ℕ} {r : Answer} → Read s x y 0 r t →
      Every (λ v. (z : ℤ) → v is whole z ÷ positive 64 tt → LevelSized z) (outcome r).values
  pub run_levels : {s t : List ℕ} {x y : ℕ} {row row' : List ℤ} → FillRun s x y row 0 row' t → (k : ℕ) → k < length row → LevelSized (get_or row' k (pos 0))
  -- the element of NISTIR 6718: its formulas 105 to 108, put right where 01 says, for the corner numbers of each cell
  pub source : (s : List ℕ) (i j : ℕ) (k : Piece) (P : Point) →
      value (set_of s i j k) P ≈ value (halved (nistir.table k) (corner_numbers (cell_of s i j) (nodes_of s i j))) (nistir.taken_at k P)
  -- "The set we read from is what the weights above, halved, and the turnings give for the cell's twelve corner numbers in grains."
  pub set : (s : List ℕ) (i j : ℕ) (k : Piece) → set_of s i j k ≡ sibson (corner_numbers (cell_of s i j) (nodes_of s i j)) k
  pub turnings : Turnings
  -- the print breaks its own conditions in the four terms that are put right
  pub misprints : Misprints
  -- slopes and bends are first and second derivatives
  pub derivatives : Derivatives
  -- that pixel's cell and piece
  pub places : PlaceLaws
  -- to the nearest unit
  pub nearest : (x : ℚ) → whole (rounded x) -ℚ x withinℚ half
  -- "Each is the exact value plus one half, rounded down: a tie goes up." A rounded fraction is the whole number q with q ≤ x + ½ < q + 1
  pub rounded_down : (x : ℚ) → (whole (rounded x) ≤ℚ x +ℚ half) × (x +ℚ half <ℚ whole (rounded x +ℤ pos 1))
  pub only_one : (x : ℚ) (q : ℤ) → whole q ≤ℚ x +ℚ half → x +ℚ half <ℚ whole (q +ℤ pos 1) → rounded x ≡ q
  pub tie : (x : ℚ) (z : ℤ) → x ≈ whole z +ℚ half → rounded x ≡ z +ℤ pos 1
  -- equal fractions round alike; equality, order and sums of fractions are what they are called
  pub alike : (x y : ℚ) → x ≈ y → rounded x ≡ rounded y
  pub fractions : FractionLaws
  -- "A node set to new numbers reads back as those numbers." Looked up, and read at its pixel, where a height of h steps is 64 h grains; p and q are the slopes
  pub reads_back : {s t : List ℕ} {i j : ℕ} {v : Node} → SetNode s i j v 0 t → ReadsBack i j v t
  pub node_back : {s t t' : List ℕ} {i j : ℕ} {h p q : ℤ} {u r : Bor (List ℕ)} → SetNode s i j (node h p q) 0 t → u.now ≡ t → NodeCall u i j r t' →
      ((decoded r.now).stored_height ≡ h) × ((decoded r.now).slope_x ≡ p) × ((decoded r.now).slope_y ≡ q)
  pub level_back : {s t t' : List ℕ} {i j : ℕ} {h p q : ℤ} {r : Answer} → SetNode s i j (node h p q) 0 t → Read t (line_x s i) (line_y s j) 0 r t' →
      outcome r ≡ given (positive 64 tt) ((pos 64 *ℤ h) ∷ [])
  pub tilt_back : {s t t' : List ℕ} {i j : ℕ} {h p q : ℤ} {r : Answer} → SetNode s i j (node h p q) 0 t → Read t (line_x s i) (line_y s j) 1 r t' →
      outcome r ≡ given (positive 64 tt) (p ∷ q ∷ [])

-- ---- demand 3

-- the numbers of the node at column i and row j: its height in grains, 64 to a step, and its slopes
abbrev pub numbers_at : List ℕ → ℕ → ℕ → Jet ℤ
numbers_at s i j = record { height = pos 64 *ℤ (node_at s i j).stored_height; x_slope = (node_at s i j).slope_x; y_slope = (node_at s i j).slope_y }

pub record DemandThree : Type 0 where
  -- "Take any cell, whatever its width and height, and any two sets of four cubics over it, whatever their coefficients, each set meeting along the diagonals
  -- in height and both slopes, and each with a cross-edge slope that is linear along all four edges. The two are equal, cubic by cubic, exactly when they have
  -- the same height and slopes at the four corners."
  pub unique : (C : Cell) (S S' : FourCubics) → Meets C S → Meets C S' → (Equal S S' ↔ SameCorners C S S')
  -- these words: sums, quotients and order of fractions; the pieces and the half diagonals where they meet; slopes, which are derivatives; linear, which is a
  -- straight line at all points of the edge; equal cubics, which have the same value at every point
  pub fractions : FractionLaws
  pub covering : Covering
  pub derivatives : Derivatives
  pub linear : Linearity
  pub same_values : SameValues
  -- and of sets: the conditions, equal sets, the same corners, and the numbers that a set has at its corners
  pub conditions : (C : Cell) (S : FourCubics) → Meets C S ↔
      (((k : Piece) (P : Point) → HalfDiagonal k P → jet C (S k) P ≋ jet C (S (next k)) P) × ((k : Piece) → Straight C k (S k)))
  pub equal : (S S' : FourCubics) → Equal S S' ↔ ((k : Piece) (P : Point) → value (S k) P ≈ value (S' k) P)
  pub same_corners : (C : Cell) (S S' : FourCubics) → SameCorners C S S' ↔
      ((k : Piece) (c : Corner) → T (triangle k (at c)) → jet C (S k) (at c) ≋ jet C (S' k) (at c))
  pub has : (C : Cell) (S : FourCubics) (j : Corner → Jet ℚ) → Has C S j ↔ ((k : Piece) (c : Corner) → T (triangle k (at c)) → jet C (S k) (at c) ≋ j c)
  -- "On every accepted sheet the set we read from in each cell is the one such set that has the nodes' numbers at the corners;" The cell is as wide and high as
  -- its lines are apart, and its nodes are the four where they cross
  pub accepted : AcceptedMeans
  pub cell_widths : (s : List ℕ) → Accepted s → (i j : ℕ) → HasCell s i j → line_x s i + (cell_of s i j).W.number ≡ line_x s (suc i)
  pub cell_heights : (s : List ℕ) → Accepted s → (i j : ℕ) → HasCell s i j → line_y s j + (cell_of s i j).H.number ≡ line_y s (suc j)
  pub corners : (s : List ℕ) (i j : ℕ) → (nodes_of s i j left_top ≡ numbers_at s i j) × (nodes_of s i j right_top ≡ numbers_at s (suc i) j)
      × (nodes_of s i j left_bottom ≡ numbers_at s i (suc j)) × (nodes_of s i j right_bottom ≡ numbers_at s (suc i) (suc j))
  pub meets : (s : List ℕ) → Accepted s → (i j : ℕ) → HasCell s i j → Meets (cell_of s i j) (set_of s i j)
  pub nodes : (s : List ℕ) → Accepted s → (i j : ℕ) → HasCell s i j → Has (cell_of s i j) (set_of s i j) (λ c. wholes (nodes_of s i j c))
  pub only : (s : List ℕ) → Accepted s → (i j : ℕ) → HasCell s i j → (S : FourCubics) → Meets (cell_of s i j) S →
      Has (cell_of s i j) S (λ c. wholes (nodes_of s i j c)) → Equal S (set_of s i j)
  -- "any two cells that share an edge agree at every point of it in height and both slopes;" at t of the way from the top, or from the left
  pub side_by_side : (s : List ℕ) → Accepted s → (i j : ℕ) → HasCell s i j → HasCell s (suc i) j → (t : ℚ) →
      cell_jet s i j right (edge right t) ≋ cell_jet s (suc i) j left (edge left t)
  pub one_above_the_other : (s : List ℕ) → Accepted s → (i j : ℕ) → HasCell s i j → HasCell s i (suc j) → (t : ℚ) →
      cell_jet s i j bottom (edge bottom t) ≋ cell_jet s i (suc j) top (edge top t)
  -- "and at every pixel of the mesh each level, tilt and bend lies within half a unit of the exact value of the cubic we read from on the pixel's piece." Of a
  -- reading, and of a run; from every pixel of the mesh to every one to its right, or itself, a run is not refused
  pub levels : {s t : List ℕ} {x y : ℕ} {r : Answer} → Accepted s → Inside s x y → Read s x y 0 r t →
      HalfUnitsFrom (positive 64 tt) r ((pixel_jet s x y).height ∷ [])
  pub tilts : {s t : List ℕ} {x y : ℕ} {r : Answer} → Accepted s → Inside s x y → Read s x y 1 r t →
      HalfUnitsFrom (positive 64 tt) r ((pixel_jet s x y).x_slope ∷ (pixel_jet s x y).y_slope ∷ [])
  pub bends : {s t : List ℕ} {x y : ℕ} {r : Answer} → Accepted s → Inside s x y → Read s x y 2 r t →
      HalfUnitsFrom (positive 4096 tt) r (pos 64 ·ℚ (pixel_bend s x y).xx ∷ pos 64 ·ℚ (pixel_bend s x y).xy ∷ pos 64 ·ℚ (pixel_bend s x y).yy ∷ [])
  pub runs : {s t : List ℕ} {x y : ℕ} {row row' : List ℤ} → FillRun s x y row 0 row' t → (k : ℕ) → k < length row →
      whole (get_or row' k (pos 0)) -ℚ (pixel_jet s (x + k) y).height withinℚ half
  pub reached : {s t : List ℕ} {x y n : ℕ} {row row' : List ℤ} (k : ℕ) → Accepted s → Inside s x y → Inside s (x + k) y → length row ≡ suc k →
      FillRun s x y row n row' t → n ≡ 0
  -- the pixel's cell and piece
  pub places : PlaceLaws
