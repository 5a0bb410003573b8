-- 02's #104, from the laws of pools and of their surfaces. Assumes nothing.
use Prim.Native.Nat.{ℕ}
use mathlib.Core.Path.{◌≡◌, sym, ◌∙◌, ap, subst}
use mathlib.Core.Logic.{◌↔◌, inl, inr, ⊎_elim}
use mathlib.Core.List.{List}
use native.Mathlib.Omega.{arith}
use lib.IntN.{pos}
use lib.ListN.{length}
use Rattle.element_sums.proofs.Sums.{sum_laws}
use Rattle.sheet_layout.specs.SameLines.{SameLines}
use Rattle.sheet_layout.proofs.SameLines.{same_sym, same_trans}
use Rattle.sheet_calls.specs.Refusals.{Accepted}
use Rattle.sheet_calls.specs.WellFormed.{Inside}
use Rattle.sheet_pool.specs.Pool.{added, pool_refusal}
use Rattle.sheet_pool.specs.PoolLaws.{IsPool, Grouped}
use Rattle.sheet_pool.proofs.Laws.{pool_laws}
use Rattle.surface_of_sheet.specs.Place.{cell_of}
use Rattle.surface_of_sheet.specs.Steep.{steep}
use Rattle.surface_of_sheet.proofs.SameCells.{same_cells}
use Rattle.surface_pool.proofs.Cells.{pool_cells}
use Rattle.surface_pool.proofs.Levels.{pool_surface}
use Rattle.surface_pool.proofs.Examples.{examples}
use Rattle.light_sheet_demands.specs.CallRecords.{Pool}
use Rattle.light_sheet_demands.specs.Pooling.{Pooled, SumsInRange, OnePixel, half_grain, PoolOfTwo, PoolOfThree, SheetsPooled}
use Rattle.light_sheet_demands.proofs.PoolRefusals.{is_taken, left, eleven, same_length, other_way, gives_fifteen_lem, gives_sixteen_lem, gives_seventeen_lem, gives_eleven_lem}
use Rattle.light_sheet_demands.proofs.Levels.{level_given, gives_level, run_level, one_pixel}

-- ---- a call that is not refused

is_pool : {a b p : List ℕ} → Pooled a b p → IsPool a b p
is_pool c = rw c.call.pool (pool_laws.pools _ _ _ (sym c.call.answer))

pool_of_two : {a b p : List ℕ} → Pooled a b p → PoolOfTwo a b p
unfolding added
pool_of_two {a} {b} {p} c =
    let x = is_pool c in
    let to-b = same_cells x.pair in
    let to-p = pool_cells x in
    let sets = pool_surface.sets a b p x in
    record {
      on_lines = x.pair.lines;
      size = x.size;
      front = λ k h. x.front k (omega (arith, h));
      lines = x.lines;
      heights = λ i j h k. ap (λ v. v.stored_height) (x.nodes i j h k);
      slopes_x = λ i j h k. ap (λ v. v.slope_x) (x.nodes i j h k);
      slopes_y = λ i j h k. ap (λ v. v.slope_y) (x.nodes i j h k);
      cells = λ i j. (to-b.has i j, to-p.has i j);
      cell_sizes = λ i j h. (to-b.cells i j h, to-p.cells i j h);
      surfaces = sets;
      jets = λ i j h k P. rw (to-b.cells i j h, to-p.cells i j h) (sum_laws.jets (sets i j h k) (cell_of a i j) P);
      bends_xx = λ i j h k P. rw (to-b.cells i j h, to-p.cells i j h) (sum_laws.bends_xx (sets i j h k) (cell_of a i j) P);
      bends_xy = λ i j h k P. rw (to-b.cells i j h, to-p.cells i j h) (sum_laws.bends_xy (sets i j h k) (cell_of a i j) P);
      bends_yy = λ i j h k P. rw (to-b.cells i j h, to-p.cells i j h) (sum_laws.bends_yy (sets i j h k) (cell_of a i j) P);
      pixels = λ x y. (to-b.inside x y, to-p.inside x y);
      places = λ x y. (to-b.places x y, to-p.places x y);
      read_levels = λ q r w k m n. rw (← level_given q k, ← level_given r m, ← level_given w n) (pool_surface.levels a b p x _ _);
      levels_given = λ i q r z. (
        gives_level q x.pair.first_accepted i,
        gives_level r x.pair.second_accepted ((to-b.inside _ _).1 i),
        gives_level z x.accepted ((to-p.inside _ _).1 i),
      );
      run_levels = λ q r w i k m n. rw (run_level q i k, run_level r i m, run_level w i n) (pool_surface.levels a b p x _ _);
    }

-- ---- three

three_of : {a b c p : List ℕ} → Grouped Pooled a b c p → Grouped IsPool a b c p
three_of = ⊎_elim
    (λ t. inl (record { between = t.between; inner = is_pool t.inner; outer = is_pool t.outer }))
    (λ t. inr (record { between = t.between; inner = is_pool t.inner; outer = is_pool t.outer }))

-- a pixel of the first sheet's mesh, on each of the others
record Pixel (a b c p : List ℕ) (x y : ℕ) : Type 0 where
  first : Accepted a
  second : Accepted b × Inside b x y
  third : Accepted c × Inside c x y
  pool : Accepted p × Inside p x y

pixel_of_three : {a b c p : List ℕ} {x y : ℕ} → Inside a x y → Grouped Pooled a b c p → Pixel a b c p x y
pixel_of_three {x = x} {y} i = ⊎_elim
    (λ t. let m = is_pool t.inner in let n = is_pool t.outer in
    let b = (pool_of_two t.inner).pixels x y in let c = (pool_of_two t.outer).pixels x y in record {
      first = m.pair.first_accepted;
      second = (m.pair.second_accepted, b.0.1 i);
      third = (n.pair.second_accepted, c.0.1 (b.1.1 i));
      pool = (n.accepted, c.1.1 (b.1.1 i));
    })
    (λ t. let m = is_pool t.inner in let n = is_pool t.outer in
    let b = (pool_of_two t.inner).pixels x y in let q = (pool_of_two t.outer).pixels x y in let j = b.1.0 (q.0.1 i) in record {
      first = n.pair.first_accepted;
      second = (m.pair.first_accepted, j);
      third = (m.pair.second_accepted, b.0.1 j);
      pool = (n.accepted, q.1.1 i);
    })

pool_of_three : {a b c p : List ℕ} → Grouped Pooled a b c p → PoolOfThree a b c p
pool_of_three {a} {b} {c} {p} t = record {
  read_levels = λ q r w z k m n l.
      rw (← level_given q k, ← level_given r m, ← level_given w n, ← level_given z l) (pool_surface.three_levels a b c p (three_of t) _ _);
  levels_given = λ i q r w z. let at = pixel_of_three i t in (
    gives_level q at.first i,
    gives_level r at.second.0 at.second.1,
    gives_level w at.third.0 at.third.1,
    gives_level z at.pool.0 at.pool.1,
  );
  run_levels = λ q r w z i k m n l. rw (run_level q i k, run_level r i m, run_level w i n, run_level z i l) (pool_surface.three_levels a b c p (three_of t) _ _);
}

-- ---- the sheet of half a grain

module _ {target p a' b' : List ℕ} {n : ℕ} (l : length target ≡ 40) (c : Pool half_grain half_grain target n p a' b') where
  half_taken : n ≡ 0
  half_taken = c.answer ∙ ap (pool_refusal half_grain half_grain) l ∙ examples.pools.0

  twice_is : p ≡ steep 2 4 0
  twice_is = left c half_taken ∙ examples.twice

  attained : (n ≡ 0) × OnePixel half_grain 1 0 (pos 1) × OnePixel p 1 0 (pos 1)
  attained = (
    half_taken,
    subst (OnePixel half_grain 1 0) examples.half (one_pixel half_grain 1 0 examples.runs.0),
    rw twice_is (subst (OnePixel (steep 2 4 0) 1 0) examples.one (one_pixel (steep 2 4 0) 1 0 examples.runs.1)),
  )

  module _ {target' q p' c' : List ℕ} {m : ℕ} (l' : length target' ≡ 40) (d : Pool p half_grain target' m q p' c') where
    three_taken : m ≡ 0
    three_taken = d.answer ∙ rw (l', twice_is) examples.pools.1

    attained_by_three_lem : (m ≡ 0) × OnePixel q 1 0 (pos 2)
    attained_by_three_lem =
        let thrice : q ≡ steep 2 6 0 = left d three_taken ∙ rw twice_is examples.thrice in
        (three_taken, rw thrice (subst (OnePixel (steep 2 6 0) 1 0) examples.two (one_pixel (steep 2 6 0) 1 0 examples.runs.2)))

-- ---- again

on_lines_lem : {a b c p : List ℕ} → Pooled a b p → SameLines a c → SameLines p c
on_lines_lem x lines = same_trans (same_sym (is_pool x).lines) lines

module _ {a b c p target q r t : List ℕ} {n : ℕ} (x : Pooled a b p) (accepted : Accepted c) (lines : SameLines a c) (l : length target ≡ length a) where
  again : Pool p c target n q r t → (n ≡ 0) ↔ SumsInRange p c
  again d = (
    λ e. ((is_taken d).0 e).4,
    λ s. (is_taken d).1 ((is_pool x).accepted, accepted, on_lines_lem x lines, l ∙ sym (is_pool x).size, s),
  )

  again_second_lem : Pool c p target n q r t → (n ≡ 0) ↔ SumsInRange c p
  again_second_lem d = (
    λ e. ((is_taken d).0 e).4,
    λ s. (is_taken d).1 (accepted, (is_pool x).accepted, same_sym (on_lines_lem x lines), l ∙ same_length (is_pool x).pair.first_accepted accepted lines, s),
  )

pub sheets_pooled : SheetsPooled
sheets_pooled = record {
  two = pool_of_two;
  attained = attained;
  accepted = λ c. (is_pool c).accepted;
  again = again;
  again_second = again_second_lem;
  three = pool_of_three;
  attained_by_three = λ l l' c d. attained_by_three_lem l c l' d;
  either_order = λ ba bb x y. pool_laws.either_order _ _ _ _ ba bb (is_pool x) (is_pool y);
  either_taken = λ l c d. (other_way l c d, other_way (sym l) d c);
  any_order = λ ba bb bc t.
      let (u, v, w, x, y, z) = pool_laws.any_order _ _ _ _ _ ba bb bc (three_of t) in
      (λ s. u (three_of s), λ s. v (three_of s), λ s. w (three_of s), λ s. x (three_of s), λ s. y (three_of s), λ s. z (three_of s));
  zeros = λ ba zero x. pool_laws.with_zeros _ _ _ ba zero (is_pool x);
  zeros_first = λ ba bb zero x. pool_laws.zeros_before _ _ _ ba bb zero (is_pool x);
  zeros_taken = λ a b lines zero l c.
      c.answer ∙ rw l (pool_laws.zeros_taken _ _ (record { first_accepted = a; second_accepted = b; lines = lines }) zero);
  any_target = λ l c d.
      let same = c.answer ∙ ap (pool_refusal _ _) l ∙ sym d.answer in (same, λ e. left c e ∙ sym (left d (sym same ∙ e)));
  untouched = λ c. (c.first, c.second);
  gives_fifteen = gives_fifteen_lem;
  gives_sixteen = gives_sixteen_lem;
  gives_seventeen = gives_seventeen_lem;
  gives_eleven = gives_eleven_lem;
  taken = is_taken;
  fifteen = pool_laws.fifteen;
  sixteen = pool_laws.sixteen;
  seventeen = pool_laws.seventeen;
  eleven = eleven;
}
