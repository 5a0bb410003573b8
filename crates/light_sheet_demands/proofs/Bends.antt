-- 02's #102, from the laws of the pieces that touch a pixel and of the list of their bends. Assumes nothing.
use Rattle.std.proofs.Common.{Result, Ok}
use Prim.Native.Nat.{ℕ, ◌+◌, ◌*◌, ◌-◌, ◌≤◌, ◌<◌}
use mathlib.Core.Path.{◌≡◌, refl, sym, ◌∙◌, ap}
use mathlib.Core.Logic.{inl, inr}
use mathlib.Core.List.{List, [], ◌∷◌, map}
use native.Mathlib.Nat.{add-zero}
use native.Mathlib.Omega.{arith}
use lib.IntN.{ℤ, pos}
use lib.ListN.{length, get_or}
use Rattle.element_sibson.specs.Fraction.{positive, ◌·ℚ◌}
use Rattle.element_sibson.specs.Element.{+◌, −◌}
use Rattle.element_sibson.specs.Cubic.{◌≋◌}
use Rattle.element_readings.specs.Reading.{bend_xx_of, bend_xy_of, bend_yy_of, rounded}
use Rattle.element_readings.proofs.Rounded.{half_unit, rounded-≈}
use Rattle.sheet_layout.specs.UnevenMesh.{uneven_mesh}
use Rattle.sheet_calls.specs.Refusals.{Accepted}
use Rattle.sheet_calls.specs.WellFormed.{Inside}
use Rattle.surface_answers.specs.Answers.{outcome}
use Rattle.surface_answers.specs.declared.Answer.{Answer}
use Rattle.surface_of_sheet.specs.Place.{columns_at, rows_at, column_at, row_at, place}
use Rattle.surface_of_sheet.specs.Surface.{jet_at, bend_xx_at, bend_xy_at, bend_yy_at}
use Rattle.surface_of_sheet.proofs.Cells.{x_rising, y_rising}
use Rattle.surface_of_sheet.proofs.CellsAlong.{cell_laws}
use Rattle.surface_of_sheet.proofs.Places.{place_laws, touch, touched}
use Rattle.surface_of_sheet.proofs.Touching.{touching as touching-jets}
use Rattle.surface_bends.specs.Bends.{touching_places, entry_place, bends, bends_refusal, Tally, tally}
use Rattle.surface_bends.specs.BendLaws.{Before, Among}
use Rattle.surface_of_sheet.specs.Examples.{sevens}
use Rattle.surface_bends.specs.Examples.{examples as table}
use Rattle.sheet_calls.specs.declared.refusal.Refusal.{Refusal}
use Rattle.surface_bends.proofs.Examples.{examples}
use Rattle.surface_bends.proofs.Laws.{touching_laws, bend_laws}
use Rattle.light_sheet_demands.specs.CallRecords.{Read, ListBends}
use Rattle.light_sheet_demands.specs.Demands.{place_jet, place_bend, pixel_jet, given}
use Rattle.light_sheet_demands.specs.Bends.{Entry, IsRead, BendList, BothSides}
use Rattle.light_sheet_demands.proofs.Values.{levels_are, tilts_are, bends_are}
use Rattle.light_sheet_demands.proofs.Lists.{counted_number, taken, pieces_are, listed_is, behind_list, count_written}

-- ---- the place that is read, among those listed

module _ {s : List ℕ} {x y : ℕ} (a : Accepted s) (i : Inside s x y) where
  abbrev count : ℕ
  count = length (touching_places s x y)

  -- it is one of them
  read_index : Among s x y (place s x y)
  read_index = touching_laws.every s x y (place s x y) (place_laws.there s x y a i)

  is_read_lem : IsRead s x y count read_index.index
  is_read_lem = record {
    below = read_index.below;
    rightmost = λ m h. rw read_index.there (place_laws.rightmost s _ x y a (touching_laws.only s x y m h));
    lowermost = λ m h. rw read_index.there (place_laws.lowermost s _ x y a (touching_laws.only s x y m h));
    lowest = λ m h. rw read_index.there (place_laws.lowest s _ x y a (touching_laws.only s x y m h));
  }

  -- two that are furthest to the right and below, with the lowest number, do not come one before the other
  not_before : {k m : ℕ} → IsRead s x y count k → IsRead s x y count m → ¬ (k < m)
  unfolding Before
  not_before {k} {m} f g l = elim (touching_laws.ordered s x y k m l g.below) [
    | inl above ↦ omega (arith, above, f.lowermost m g.below)
    | inr (row, inl before) ↦ omega (arith, before, f.rightmost m g.below)
    | inr (row, inr (column, lower)) ↦ omega (arith, lower, g.lowest k f.below column row)
  ]

  read_is : (k : ℕ) → IsRead s x y count k → entry_place s x y k ≡ place s x y
  read_is k f =
      let same : k ≡ read_index.index = omega (arith, not_before f is_read_lem, not_before is_read_lem f) in
      ap (entry_place s x y) same ∙ read_index.there

-- ---- a call that is not refused

module _ {s t : List ℕ} {x y : ℕ} {buffer buffer' : List ℤ} {r : Result ℕ Refusal} (c : ListBends s x y buffer r buffer' t) (z : (tally r).number ≡ 0) where
  held : Accepted s × Inside s x y × (24 ≤ length buffer)
  held = (bend_laws.taken s x y (length buffer)).0 (taken c z)

  module _ (k : ℕ) (h : k < length (touching_places s x y)) where
    slot : (b : ℕ) → b < 3 → get_or buffer' (3 * k + b) (pos 0) ≡ get_or (bends s x y) (3 * k + b) (pos 0)
    slot b l = rw c.list (bend_laws.front s x y buffer (taken c z) (3 * k + b) (omega (arith, bend_laws.size s x y)) (pos 0))

    entry : Entry s (entry_place s x y k) (get_or buffer' (3 * k) (pos 0)) (get_or buffer' (3 * k + 1) (pos 0)) (get_or buffer' (3 * k + 2) (pos 0))
    unfolding bend_xx_at bend_xy_at bend_yy_at bend_xx_of bend_xy_of bend_yy_of
    entry =
        let xx = rw (add-zero (3 * k)) at (slot 0 (omega arith)) ∙ bend_laws.xx s x y k h in
        let xy = slot 1 (omega arith) ∙ bend_laws.xy s x y k h in
        let yy = slot 2 (omega arith) ∙ bend_laws.yy s x y k h in
        record {
          is_xx = xx;
          is_xy = xy;
          is_yy = yy;
          near_xx = rw xx (half_unit.distances _);
          near_xy = rw xy (half_unit.distances _);
          near_yy = rw yy (half_unit.distances _);
        }

    jets_are : place_jet s (entry_place s x y k) ≋ pixel_jet s x y
    unfolding jet_at
    jets_are = touching-jets.jets s (entry_place s x y k) x y held.0 (touching_laws.only s x y k h)

  reading_is : {t : List ℕ} {a : Answer} → Read s x y 2 a t → (k : ℕ) → IsRead s x y (length (touching_places s x y)) k → outcome a
      ≡ given (positive 4096 tt) (get_or buffer' (3 * k) (pos 0) ∷ get_or buffer' (3 * k + 1) (pos 0) ∷ get_or buffer' (3 * k + 2) (pos 0) ∷ [])
  reading_is d k f =
      let e = entry k f.below in let p = sym (read_is held.0 held.1 k f) in
      bends_are held.0 held.1 d
      ∙ ap (λ q. given (positive 4096 tt) (rounded (pos 64 ·ℚ (place_bend s q).xx) ∷ rounded (pos 64 ·ℚ (place_bend s q).xy) ∷ rounded (pos 64 ·ℚ (place_bend s q).yy) ∷ [])) p
      ∙ rw (e.is_xx, e.is_xy, e.is_yy) refl

  lists_are : BendList s x y buffer (length (touching_places s x y)) buffer'
  lists_are = record {
    touches = λ k h. touched s _ x y (touching_laws.only s x y k h);
    every = λ p h. let m = touching_laws.every s x y p (touch s p x y h) in (m.index, m.below, m.there);
    once = touching_laws.once s x y;
    order = touching_laws.ordered s x y;
    entry = entry;
    third = bend_laws.size s x y;
    least = touching_laws.least s x y held.0 held.1;
    most = touching_laws.most s x y held.0;
    enough = (omega (arith, touching_laws.most s x y held.0), held.2);
    alone = touching_laws.alone s x y held.0 held.1;
    beyond = λ k l. behind_list c k (rw (pieces_are c z) l);
    jets = jets_are;
    levels = λ d k h. levels_are held.0 held.1 d ∙ ap (λ v. given (positive 64 tt) (v ∷ [])) (sym (rounded-≈ (jets_are k h).heights));
    tilts = λ d k h.
        let x = sym (rounded-≈ (jets_are k h).x_slopes) in let y = sym (rounded-≈ (jets_are k h).y_slopes) in
        tilts_are held.0 held.1 d ∙ (λ i. given (positive 64 tt) (x i ∷ y i ∷ []));
    read = ((read_index held.0 held.1).index, is_read_lem held.0 held.1);
    reading = reading_is;
  }

-- ---- eight pieces

-- the sheet of four cells is taken where its inner lines cross
no_refusal : bends_refusal uneven_mesh 7 6 24 ≡ 0
no_refusal = sym (counted_number uneven_mesh 7 6 24) ∙ ap (λ (l : List Tally). (get_or l 8 (record { number = 1; pieces = 0 })).number) examples.answers

crossing : Accepted uneven_mesh × Inside uneven_mesh 7 6 × (24 ≤ 24)
crossing = (bend_laws.taken uneven_mesh 7 6 24).0 no_refusal

-- a call there is taken
at_crossing : {t : List ℕ} {buffer buffer' : List ℤ} {r : Result ℕ Refusal} → 24 ≤ length buffer → ListBends uneven_mesh 7 6 buffer r buffer' t → (tally r).number ≡ 0
at_crossing l c = c.answer ∙ (bend_laws.taken uneven_mesh 7 6 _).1 (crossing.0, crossing.1, l)

-- its places hold the example's numbers
at_slot : {t : List ℕ} {buffer buffer' : List ℤ} {r : Result ℕ Refusal} → 24 ≤ length buffer → ListBends uneven_mesh 7 6 buffer r buffer' t → (k : ℕ) → k < 24 →
    get_or buffer' k (pos 0) ≡ get_or (get_or (map (λ e. e.leaves) table) 8 []) k (pos 0)
at_slot {buffer = buffer} l c k h =
    let in_list : k < length (bends uneven_mesh 7 6) = omega (arith, bend_laws.size uneven_mesh 7 6, ap length examples.eight) in
    rw c.list (bend_laws.front uneven_mesh 7 6 buffer (taken c (at_crossing l c)) k in_list (pos 0))
    ∙ sym (bend_laws.front uneven_mesh 7 6 (sevens 24) no_refusal k in_list (pos 0))
    ∙ ap (λ (b : List (List ℤ)). get_or (get_or b 8 []) k (pos 0)) examples.buffers

read_from_lem : (s : List ℕ) (x y : ℕ) → ((place s x y).column ≡ (columns_at s x).highest) × ((place s x y).row ≡ (rows_at s y).highest)
unfolding place column_at row_at
read_from_lem s x y = (refl, refl)

pub both_sides : BothSides
both_sides = record {
  lists = λ c z. rw (pieces_are c z) (lists_are c z);
  in_c = λ c. let z = sym c.answer in rw (count_written c, pieces_are c.is_listed z) (lists_are c.is_listed z);
  taken = λ c. rw c.answer (bend_laws.taken _ _ _ _);
  count = λ c z. rw (pieces_are c z) (listed_is c z);
  answers = (bend_laws.of_pieces, bend_laws.of_refused);
  eight = λ l c. listed_is c (at_crossing l c) ∙ ap (λ l. Ok (length l)) examples.eight;
  jump = λ l c e.
      let same : − 10848 ≡ + 3024 = sym (at_slot l c 0 (omega arith)) ∙ e ∙ at_slot l c 6 (omega arith) in
      absurd (let no : ◌≡◌ {A = ℕ} 0 1 = cc in omega arith);
  cells = λ a i h.
      let c = cell_laws.between _ _ _ _ (x_rising _ a) i.left i.right h.column in
      let r = cell_laws.between _ _ _ _ (y_rising _ a) i.top i.bottom h.row in (
        λ p. let (f, l) = c.0 (p.0, p.1) in let (g, m) = r.0 (p.2, p.3) in (f, l, g, m),
        λ q. let (f, l) = c.1 (q.0, q.1) in let (g, m) = r.1 (q.2, q.3) in (f, l, g, m),
      );
  along = cell_laws;
  read_from = read_from_lem;
  places = place_laws;
  fourteen = bend_laws.fourteen;
}
