-- `surface_runs::run` meets its contract. Assumes nothing.
use Rattle.std.proofs.Common.{ℕ, ◌+◌, ◌-◌, ◌≡◌, ◌∙◌, List, ap, arith, rules}
use mathlib.Core.Path.{subst⁻¹}
use Rattle.integers.specs.Stepwise.{steps}
use Rattle.integers.proofs.Stepwise.{same_length, all_made}
use Rattle.element_cell.specs.declared.Pixel.{Pixel}
use Rattle.surface_of_sheet.specs.Place.{column_at, place}
use Rattle.surface_places.specs.Found.{holding}
use Rattle.surface_places.specs.declared.Place.{Place}
use Rattle.surface_runs.specs.Strips.{strip_at, strip_level, OnStrip}
use Rattle.surface_runs.specs.declared.Strip.{Strip}
use Rattle.surface_runs.proofs.Turns.{in_strip, first_turn, column_near, further, next_turn}
use Rattle.surface_runs.proofs.run.Goals as goal

-- ---- where the run starts

abbrev strip_of : Place → Pixel → Strip
strip_of g p = record { row = g.row; offset = p.b; height = p.height }

starts : (s : List ℕ) (x y : ℕ) {g : Place} → g ≡ holding s (place s x y) → g.column ≡ column_at s x
unfolding place holding
starts s x y e = ap (λ (g : Place). g.column) e

strip_is : (s : List ℕ) (x y : ℕ) {g : Place} {p : Pixel} → g ≡ holding s (place s x y) → p ≡ g.pixel → strip_of g p ≡ strip_at s y
unfolding place holding strip_at
strip_is s x y {g = g} e v = ap (strip_of g) v ∙ ap (λ (g : Place). strip_of g g.pixel) e

pub loop-done-init : goal.loop-done-init
loop-done-init c = λ mesh. rw (starts _ _ _ c.place-place.ensures) (first_turn _ _ _ _ mesh _)

-- ---- a turn of the loop

pub fill_column-done-requires : goal.fill_column-done-requires
fill_column-done-requires c =
    let a = c.args in let turn = c.loop-done.invariant c.requires.0 in (
      record {
        on = subst⁻¹ (λ (t : Strip). OnStrip a.sheet.now t a.x a.budget) (strip_is _ _ _ c.place-place.ensures c.pixel.view_is) (in_strip _ _ _ _ c.requires.0);
        more = c.loop-done-test.true;
        here = turn.here c.loop-done-test.true;
      },
      rw (same_length turn.underway) c.requires.1,
    )

pub overflow_add-column : goal.overflow_add-column
overflow_add-column c =
    let near = column_near _ _ _ _ _ _ (c.loop-done.invariant c.requires.0) c.loop-done-test.true c.fill_column-done.ensures.answer in search rules

pub loop-done-smaller : goal.loop-done-smaller
loop-done-smaller c =
    omega (arith, further _ _ _ _ _ _ (c.loop-done.invariant c.requires.0) c.loop-done-test.true c.fill_column-done.ensures.answer, c.loop-done-test.true)

-- what is stored is of the run's strip
pub loop-done-preserved : goal.loop-done-preserved
loop-done-preserved c = λ mesh.
    let a = c.args in let l = c.loop-done in let f = c.fill_column-done in
    next_turn _ _ _ _ mesh _ (l.invariant mesh) c.loop-done-test.true f.ensures.answer
    (f.ensures.row ∙ ap (λ (t : Strip). steps (λ k. strip_level a.sheet.now t (a.x + k)) l.done (f.result - l.done) l.row) (strip_is _ _ _ c.place-place.ensures c.pixel.view_is))

pub returns : goal.returns
returns c = all_made (c.loop-done.invariant c.requires.0).underway c.loop-done-test.false
