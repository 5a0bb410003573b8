-- Demand 3, from the theorems on one cell and on the surface of a sheet. Assumes nothing.
use mathlib.Core.Path.{refl, sym, ◌∙◌}
use lib.Dec.{lit≤}
use Rattle.element_sibson.specs.Conditions.{Smooth, SameCorners, Equal}
use Rattle.element_sibson.specs.Theorems.{Has}
use Rattle.element_sibson.proofs.Fractions.{fraction_laws}
use Rattle.element_sibson.proofs.Covers.{covering}
use Rattle.element_sibson.proofs.Derivatives.{derivatives}
use Rattle.element_sibson.proofs.Linearity.{linearity}
use Rattle.element_sibson.proofs.SameValues.{same_values_lem}
use Rattle.element_sibson.proofs.Unique.{uniqueness}
use Rattle.sheet_layout.specs.Format.{height_at, slope_x_at, slope_y_at}
use Rattle.surface_of_sheet.specs.Surface.{node_numbers, nodes_of, jet_at}
use Rattle.surface_of_sheet.specs.Read.{exact}
use Rattle.surface_of_sheet.proofs.Sets.{the_set, shared_edges}
use Rattle.surface_of_sheet.proofs.Places.{place_laws}
use Rattle.surface_of_sheet.proofs.Runs.{run_laws}
use Rattle.surface_of_sheet.proofs.HalfUnits.{half_units}
use Rattle.light_sheet_demands.specs.Demands.{DemandThree}
use Rattle.light_sheet_demands.proofs.Refusals.{accepted_means}
use Rattle.light_sheet_demands.proofs.Values.{both_are}

pub demand_three : DemandThree
unfolding Smooth SameCorners Equal Has height_at slope_x_at slope_y_at nodes_of jet_at exact node_numbers
demand_three = record {
  unique = uniqueness.exactly;
  fractions = fraction_laws;
  covering = covering;
  derivatives = derivatives;
  linear = linearity;
  same_values = same_values_lem;
  conditions = λ C S. (
    λ m. (λ k P. m.smooth k P, λ k. (linearity.straight C k (S k)).0 (m.linear k)),
    λ h. record { smooth = h.0; linear = λ k. (linearity.straight C k (S k)).1 (h.1 k) },
  );
  equal = λ S S'. (λ e k. (same_values_lem.everywhere (S k) (S' k)).0 (e k), λ v k. (same_values_lem.everywhere (S k) (S' k)).1 (v k));
  same_corners = λ C S S'. (λ h. h, λ h. h);
  has = λ C S j. (λ h. h, λ h. h);
  accepted = accepted_means;
  cell_widths = the_set.widths;
  cell_heights = the_set.heights;
  corners = λ s i j. (refl, refl, refl, refl);
  meets = λ s a i j h. (the_set.fits s a i j h).meets;
  nodes = λ s a i j h. (the_set.fits s a i j h).nodes;
  only = λ s a i j h S m n. the_set.only s a i j h S (record { meets = m; nodes = n });
  side_by_side = shared_edges.side_by_side;
  one_above_the_other = shared_edges.one_above_the_other;
  levels = λ a i c. half_units.returned _ _ _ 0 a i (lit≤ tt) _ (both_are _ _ _ _ c.answer c.values);
  tilts = λ a i c. half_units.returned _ _ _ 1 a i (lit≤ tt) _ (both_are _ _ _ _ c.answer c.values);
  bends = λ a i c. half_units.returned _ _ _ 2 a i (lit≤ tt) _ (both_are _ _ _ _ c.answer c.values);
  places = place_laws;
  runs = λ c k l. rw c.levels (half_units.runs _ _ _ _ (sym c.answer) k l);
  reached = λ k a i j e c. c.answer ∙ rw e (run_laws.taken _ _ _ k a i j);
}
