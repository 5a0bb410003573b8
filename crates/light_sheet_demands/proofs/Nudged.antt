-- A nudged node, by what readings give and runs leave on both sheets. Assumes nothing.
use Prim.Native.Nat.{ℕ, zero, suc, ◌+◌, ◌≤◌, ◌<◌}
use mathlib.Core.Path.{◌≡◌, refl, sym, ◌∙◌, ap, ap₂, subst, subst₂}
use mathlib.Core.Logic.{◌↔◌}
use mathlib.Core.List.{List, [], ◌∷◌}
use mathlib.Core.Bool.{Bool, true, false}
use native.Mathlib.Decide.{ℕ_discrete}
use native.Mathlib.Omega.{arith}
use lib.IntN.{ℤ, pos, ◌+ℤ◌, ◌-ℤ◌, ◌*ℤ◌}
use lib.ListN.{length}
use Rattle.integers.specs.Within.{◌within◌}
use Rattle.integers.proofs.Polynomial.{#◌, ◌⊗◌}
use Rattle.integers.proofs.Solve.{◌≼◌}
use Rattle.integers.proofs.Deduce.{◌·◌, ◌⊨◌, deduce}
use Rattle.integers.proofs.Bounds.{nat_abs-*}
use Rattle.element_sibson.specs.Fraction.{positive}
use Rattle.element_sibson.specs.Cubic.{◌≋◌}
use Rattle.element_readings.proofs.Rounded.{rounded-≈}
use Rattle.element_reach.specs.Follows.{Follows}
use Rattle.sheet_calls.specs.Refusals.{outside, reading_refusal}
use Rattle.sheet_calls.specs.WellFormed.{Inside}
use Rattle.sheet_calls.proofs.Conditions.{condition_laws}
use Rattle.sheet_calls.proofs.Chains.{reading_is, sheet_taken, reading_held}
use Rattle.surface_answers.specs.Answers.{outcome, refused}
use Rattle.surface_answers.specs.declared.Answer.{Answer}
use Rattle.surface_of_sheet.specs.Place.{Place, place}
use Rattle.surface_of_sheet.specs.Surface.{jet_at}
use Rattle.surface_of_sheet.specs.Touching.{Touches}
use Rattle.surface_of_sheet.specs.SameCells.{SameCells}
use Rattle.surface_of_sheet.proofs.Answered.{refused_is}
use Rattle.surface_of_sheet.proofs.Places.{touch, there, node_inside}
use Rattle.surface_of_sheet.proofs.Runs.{run_laws}
use Rattle.surface_of_sheet.proofs.SameCells.{same_cells}
use Rattle.surface_reach.specs.Nudged.{NudgedSheet, Beside}
use Rattle.surface_reach.proofs.Laws.{nudged_levels}
use Rattle.light_sheet_demands.specs.CallRecords.{Read, FillRun}
use Rattle.light_sheet_demands.specs.Demands.{place_jet, pixel_jet, given, GivesLevel}
use Rattle.light_sheet_demands.specs.Reach.{FollowsSteps, NudgedNode}
use Rattle.light_sheet_demands.proofs.Values.{levels_are, tilts_are, runs_are, outcome_is}
use Rattle.light_sheet_demands.proofs.Levels.{level_given, gives_level, level_inside, run_level}

-- a run that is not refused has all its pixels on the mesh
inside_run : {s t : List ℕ} {x y : ℕ} {row row' : List ℤ} → FillRun s x y row 0 row' t → (k : ℕ) → k < length row → Inside s (x + k) y
inside_run c = run_laws.inside _ _ _ _ (sym c.answer)

-- two tests that fail alike are the same
same_test : (b c : Bool) {A B : Type 0} → (b ≡ false) ↔ A → (c ≡ false) ↔ B → A ↔ B → b ≡ c
same_test true true h k e = refl
same_test true false h k e = h.1 (e.1 (k.0 refl))
same_test false true h k e = sym (k.1 (e.0 (h.0 refl)))
same_test false false h k e = refl

module _ {s t : List ℕ} {i j : ℕ} {δ : ℤ} (n : NudgedSheet s i j δ t) where
  cells : SameCells s t
  cells = same_cells n.sheets

  exact : {x y : ℕ} → Beside s i j x y → (p : Place) → Touches s p x y → place_jet t p ≋ place_jet s p
  unfolding jet_at
  exact {x} {y} w p h = nudged_levels.same s t i j δ n x y w p (touch s p x y h)

  -- at a pixel beside the cells that touch the node both sheets are read at one place, and from the same height and slopes
  same_jet : {x y : ℕ} → Beside s i j x y → Inside s x y → pixel_jet t x y ≋ pixel_jet s x y
  same_jet {x} {y} w inside = rw (cells.places x y) (exact w (place s x y) (there s n.sheets.first_accepted x y inside))

  same_answer : {u v : List ℕ} {x y kind : ℕ} {q r : Answer} → Beside s i j x y → Inside s x y → kind ≤ 1 → Read s x y kind q u → Read t x y kind r v →
      outcome r ≡ outcome q
  same_answer {x = x} {y} {kind = zero} w inside l c d =
      let j = same_jet w inside in
      levels_are n.sheets.second_accepted ((cells.inside x y).1 inside) d ∙ ap (λ z. given (positive 64 tt) (z ∷ [])) (rounded-≈ j.heights)
      ∙ sym (levels_are n.sheets.first_accepted inside c)
  same_answer {x = x} {y} {kind = suc zero} w inside l c d =
      let j = same_jet w inside in
      tilts_are n.sheets.second_accepted ((cells.inside x y).1 inside) d
      ∙ ap₂ (λ z v. given (positive 64 tt) (z ∷ v ∷ [])) (rounded-≈ j.x_slopes) (rounded-≈ j.y_slopes) ∙ sym (tilts_are n.sheets.first_accepted inside c)
  same_answer {kind = suc (suc kind)} w inside l c d = absurd (omega (arith, l))

  -- off the mesh a reading of either sheet is refused with the same number
  same_refusal : (x y kind : ℕ) → reading_refusal t x y kind ≡ reading_refusal s x y kind
  same_refusal x y kind =
      reading_is t x y kind ∙ sheet_taken n.sheets.second_accepted
      ∙ rw (same_test (outside t x y) (outside s x y) (condition_laws.seven t x y) (condition_laws.seven s x y) (cells.inside x y)) (sym (sheet_taken n.sheets.first_accepted))
      ∙ sym (reading_is s x y kind)

  readings : {u v : List ℕ} {x y kind : ℕ} {q r : Answer} → Beside s i j x y → kind ≤ 1 → Read s x y kind q u → Read t x y kind r v → outcome r ≡ outcome q
  readings {x = x} {y} {kind} w l c d = elim (ℕ_discrete (reading_refusal s x y kind) 0) [
    | yes e ↦ same_answer w (reading_held s x y kind e).inside l c d
    | no h ↦
        outcome_is d ∙ refused_is t x y kind (λ e. h (sym (same_refusal x y kind) ∙ e)) ∙ ap refused (same_refusal x y kind)
        ∙ sym (outcome_is c ∙ refused_is s x y kind h)
  ]

  pub nudged_node : NudgedNode s i j δ t
  nudged_node = record {
    other_cells = nudged_levels.cells s t i j δ n;
    exact = exact;
    readings = readings;
    runs = λ c d k l m w. runs_are d k m ∙ rounded-≈ (same_jet w (inside_run c k l)).heights ∙ sym (runs_are c k l);
    read_changed = λ c d g h differs.
        nudged_levels.changed s t i j δ n _ _ (level_inside c g) (λ e. differs (sym (level_given d h) ∙ e ∙ level_given c g));
    run_changed = λ c d k l m differs.
        nudged_levels.changed s t i j δ n _ _ (inside_run c k l) (λ e. differs (run_level d k m ∙ e ∙ sym (run_level c k l)));
    read_levels = λ c d g h. subst₂ (Follows δ) (level_given c g) (level_given d h) (nudged_levels.levels s t i j δ n _ _ (level_inside c g));
    levels_given = λ {u} {v} {x} {y} inside c d.
        (gives_level c n.sheets.first_accepted inside, gives_level d n.sheets.second_accepted ((cells.inside x y).1 inside));
    run_levels = λ c d k l m. rw (run_level c k l, run_level d k m) (nudged_levels.levels s t i j δ n _ _ (inside_run c k l));
    read_node = λ c d.
        let inside = node_inside s n.sheets.first_accepted i j n.column n.row in
        let (k, g) = gives_level c n.sheets.first_accepted inside in
        let (l, h) = gives_level d n.sheets.second_accepted ((cells.inside _ _).1 inside) in
        (k, g, subst (GivesLevel _) (sym (level_given d h) ∙ nudged_levels.at_node s t i j δ n ∙ ap (λ z. z +ℤ δ) (level_given c g)) h);
    run_node = λ c d k l m e. rw (run_level c k l, run_level d k m, e) (nudged_levels.at_node s t i j δ n);
  }

-- ---- by steps

pub follows_steps : {d k l : ℤ} → Follows (pos 64 *ℤ d) k l → FollowsSteps d k l
follows_steps {d} {k} {l} f = record {
  up = λ h. f.up (deduce 1 (λ d. (# 64 · (# 0 ≼ d)) ∷ [] ⊨ # 0 ≼ # 64 ⊗ d) tt d h);
  down = λ h. f.down (deduce 1 (λ d. (# 64 · (d ≼ # 0)) ∷ [] ⊨ # 64 ⊗ d ≼ # 0) tt d h);
  most = subst (λ m. (l -ℤ k) within m) (nat_abs-* (pos 64) d) f.most;
}
