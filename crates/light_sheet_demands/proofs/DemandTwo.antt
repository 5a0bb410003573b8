-- Demand 2, from the laws of readings and runs, of the element and of the rounding rule. Assumes nothing.
use Prim.Native.Nat.{ℕ, suc}
use mathlib.Core.Path.{◌≡◌, refl, sym, ◌∙◌, ap}
use mathlib.Core.List.{List, map}
use native.Mathlib.Omega.{arith}
use denote.Ref.{Bor}
use lib.ListN.{length, take}
use lib.Ieee.{binary64, to_bits}
use Rattle.element_sibson.specs.Element.{element}
use Rattle.element_sibson.proofs.Fractions.{fraction_laws}
use Rattle.element_sibson.proofs.Derivatives.{derivatives}
use Rattle.element_sibson.proofs.Turnings.{turnings}
use Rattle.element_nistir_6718.proofs.Printed.{sources}
use Rattle.element_nistir_6718.proofs.Misprinted.{misprints}
use Rattle.element_readings.proofs.Rounded.{half_unit, rounded-≈}
use Rattle.sheet_layout.specs.Format.{Node, decoded}
use Rattle.sheet_calls.proofs.Setting.{setting_laws}
use Rattle.surface_answers.specs.Answers.{outcome, answered}
use Rattle.surface_answers.proofs.Told.{answer_laws}
use Rattle.surface_answers.proofs.Quotients.{quotient_laws}
use Rattle.surface_of_sheet.specs.Surface.{set_of}
use Rattle.surface_of_sheet.proofs.Places.{place_laws}
use Rattle.surface_of_sheet.proofs.AtNodes.{at_nodes}
use Rattle.light_sheet_c.proofs.Stored.{over_first}
use Rattle.light_sheet_demands.specs.CallRecords.{NodeCall, SetNode, ReadInto}
use Rattle.light_sheet_demands.specs.Demands.{DemandTwo}
use Rattle.light_sheet_demands.proofs.Refusals.{accepted_means}
use Rattle.light_sheet_demands.proofs.Values.{outcome_is, levels_are, tilts_are, bends_are, runs_are}
use Rattle.light_sheet_demands.proofs.Readings.{all_words, pixel_held}
use Rattle.light_sheet_demands.proofs.Sizes.{floats_are, patterns_are, read_level_sized, run_level_sized}
use Rattle.light_sheet_demands.proofs.Rounding.{rounded_down_lem, only_one_lem, tie}

-- an array of three slots has room for the values of any kind
stored_first : {s t : List ℕ} {x y kind : ℕ} {array array' : List ℕ} (c : ReadInto s x y kind array 0 array' t) → length array ≡ 3 →
    take (suc kind) array' ≡ map (to_bits binary64) (outcome c.reading).values
stored_first {array} c e = let z = sym c.answer in let n = all_words c.is_read z in
    rw (c.values, ← n) (over_first _ array (omega (arith, e, n, (pixel_held c.is_read z).kind)))

-- a node that was set, looked up
node_back_lem : {s t t' : List ℕ} {i j : ℕ} {v : Node} {u r : Bor (List ℕ)} → SetNode s i j v 0 t → u.now ≡ t → NodeCall u i j r t' → decoded r.now ≡ v
node_back_lem c e d = rw (d.part.bytes, e, c.sheet) (setting_laws.reads_back _ _ _ _ (sym c.answer)).decodes

pub demand_two : DemandTwo
unfolding answered element set_of
demand_two = record {
  accepted = accepted_means;
  levels = levels_are;
  tilts = tilts_are;
  bends = bends_are;
  runs = runs_are;
  arrays = stored_first;
  patterns = patterns_are;
  answers = answer_laws;
  divisors = (refl, refl, refl);
  quotients = quotient_laws;
  floats = floats_are;
  read_levels = read_level_sized;
  run_levels = run_level_sized;
  source = λ s i j k P. sources.pieces k _ P;
  set = λ s i j k. refl;
  turnings = turnings;
  misprints = misprints;
  derivatives = derivatives;
  places = place_laws;
  nearest = half_unit.distances;
  rounded_down = rounded_down_lem;
  only_one = only_one_lem;
  tie = tie;
  alike = λ x y. rounded-≈;
  fractions = fraction_laws;
  reads_back = λ c. rw c.sheet (setting_laws.reads_back _ _ _ _ (sym c.answer));
  node_back = λ c e d. (ap (λ v. v.stored_height) (node_back_lem c e d), ap (λ v. v.slope_x) (node_back_lem c e d), ap (λ v. v.slope_y) (node_back_lem c e d));
  level_back = λ c d. outcome_is d ∙ rw c.sheet (at_nodes.set_levels _ _ _ _ (sym c.answer));
  tilt_back = λ c d. outcome_is d ∙ rw c.sheet (at_nodes.set_tilts _ _ _ _ (sym c.answer));
}
