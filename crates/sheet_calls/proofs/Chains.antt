-- What the refusals compute to: that of a sheet is a chain of six tests, and a call's is that of its sheet, then its own tests. And what a call that is not
-- refused says of its input. Assumes nothing.
use Prim.Native.Nat.{ℕ, suc, ◌+◌, ◌-◌, ◌≤◌, ◌<◌}
use mathlib.Core.Path.{◌≡◌, refl, sym, ◌∙◌, ap}
use mathlib.Core.Logic.{◌↔◌}
use mathlib.Core.List.{List, ◌++◌}
use mathlib.Core.Bool.{Bool, true, false, cond}
use native.Mathlib.Omega.{arith}
use native.Mathlib.Decide.{ℕ_discrete}
use borrow.Author.Tests.{ne_eqb, not-false}
use Rattle.sheet_layout.specs.Format.{columns, rows, Node, node_in}
use Rattle.sheet_calls.specs.Rules.{Rule, first_refusal}
use Rattle.sheet_calls.specs.Refusals.{other_mark, other_version, other_counts, other_length, wrong_lines, wrong_nodes, outside, off_mesh, empty_run, other_kind, no_node, wrong_numbers, Accepted, sheet_rules, sheet_refusal, check_rules, check_refusal, lookup_rules, lookup_refusal, setting_rules, setting_refusal, reading_rules, reading_refusal, run_rules, run_refusal, CallNumbers}
use Rattle.sheet_calls.specs.WellFormed.{Inside, OnMesh}
use Rattle.sheet_calls.proofs.Rules.{rule_laws, nonzero, numbered, or_else, first_append, zero_or, or_zero}
use Rattle.sheet_calls.proofs.Conditions.{condition_laws}

-- ---- a sheet

pub sheet_is : (s : List ℕ)
    → sheet_refusal s ≡ cond (other_mark s) 1 (cond (other_version s) 2 (cond (other_counts s) 3 (cond (other_length s) 4 (cond (wrong_lines s) 5 (cond (wrong_nodes s) 6 0)))))
unfolding sheet_refusal sheet_rules first_refusal
sheet_is s = refl

-- it is accepted exactly where the number is 0
pub accepted_is : (s : List ℕ) → (sheet_refusal s ≡ 0) ↔ Accepted s
unfolding sheet_refusal sheet_rules nonzero
accepted_is s = (
  λ e. let (a, (b, (c, (d, (f, (g, _)))))) = rule_laws.zero_only (sheet_rules (λ t. t)) s (numbered (sheet_rules (λ t. t)) tt) e in
      record { one = a; two = b; three = c; four = d; five = f; six = g },
  λ a. rule_laws.zero (sheet_rules (λ t. t)) s (a.one, (a.two, (a.three, (a.four, (a.five, (a.six, tt)))))),
)

pub accepts : {s : List ℕ} → sheet_refusal s ≡ 0 → Accepted s
accepts {s} e = (accepted_is s).0 e

-- ---- each call

pub call_numbers : CallNumbers
unfolding sheet_rules check_rules lookup_rules setting_rules reading_rules run_rules
call_numbers = record { check = refl; lookup = refl; setting = refl; reading = refl; run = refl }

pub check_is : (s : List ℕ) → check_refusal s ≡ sheet_refusal s
unfolding check_refusal check_rules sheet_refusal
check_is s = refl

-- rules behind those of the sheet
pub sheet_append : {Input : Type 0} (sheet : Input → List ℕ) (more : List (Rule Input)) (u : Input)
    → first_refusal (sheet_rules sheet ++ more) u ≡ or_else (sheet_refusal (sheet u)) (first_refusal more u)
unfolding sheet_refusal sheet_rules first_refusal nonzero
sheet_append sheet more u = first_append (sheet_rules sheet) more u (numbered (sheet_rules sheet) tt)

pub lookup_is : (s : List ℕ) (i j : ℕ) → lookup_refusal s i j ≡ or_else (sheet_refusal s) (cond (no_node s i j) 10 0)
unfolding lookup_refusal lookup_rules first_refusal
lookup_is s i j = sheet_append _ _ _

-- a last test behind those of n and 10
behind_ten : (n : ℕ) (b : Bool) (k : ℕ) → or_else n (cond b 10 k) ≡ or_else (or_else n (cond b 10 0)) k
behind_ten n b k = elim (ℕ_discrete n 0) [ yes e ↦ rw e (by b) | no h ↦ rw (ne_eqb n 0 h, ne_eqb n 0 h) refl ]
  where
    by : (b : Bool) → cond b 10 k ≡ or_else (cond b 10 0) k
    by true = refl
    by false = refl

-- setting is refused as looking up is, then by 11
pub setting_is : (s : List ℕ) (i j : ℕ) (v : Node) → setting_refusal s i j v ≡ or_else (lookup_refusal s i j) (cond (wrong_numbers v) 11 0)
unfolding setting_refusal setting_rules first_refusal
setting_is s i j v =
    sheet_append _ _ _ ∙ behind_ten (sheet_refusal s) (no_node s i j) _ ∙ ap (λ n. or_else n (cond (wrong_numbers v) 11 0)) (sym (lookup_is s i j))

pub reading_is : (s : List ℕ) (x y kind : ℕ) → reading_refusal s x y kind ≡ or_else (sheet_refusal s) (cond (outside s x y) 7 (cond (other_kind kind) 9 0))
unfolding reading_refusal reading_rules first_refusal
reading_is s x y kind = sheet_append _ _ _

pub run_is : (s : List ℕ) (x y count : ℕ) → run_refusal s x y count ≡ or_else (sheet_refusal s) (cond (off_mesh s x y count) 7 (cond (empty_run count) 8 0))
unfolding run_refusal run_rules first_refusal
run_is s x y count = sheet_append _ _ _

-- ---- what a call that is not refused says of its input, and the other way round

pub cond_zero : (b : Bool) (n k : ℕ) → cond b (suc n) k ≡ 0 → (b ≡ false) × (k ≡ 0)
cond_zero true n k e = absurd (omega arith)
cond_zero false n k e = (refl, e)

pub not_given : (b : Bool) (n : ℕ) → cond b (suc n) 0 ≡ 0 → b ≡ false
not_given b n e = (cond_zero b n 0 e).0

-- the sheet is accepted, and further rules give 0
pub behind_sheet : {s : List ℕ} {rest : ℕ} → or_else (sheet_refusal s) rest ≡ 0 → Accepted s × (rest ≡ 0)
behind_sheet e = let h = or_zero _ _ e in (accepts h.0, h.1)

pub sheet_taken : {s : List ℕ} {rest : ℕ} → Accepted s → or_else (sheet_refusal s) rest ≡ rest
sheet_taken {s} a = zero_or (sheet_refusal s) _ ((accepted_is s).1 a)

pub record HasNode (s : List ℕ) (i j : ℕ) : Type 0 where
  pub accepted : Accepted s
  pub column : i < columns s
  pub row : j < rows s

pub lookup_held : (s : List ℕ) (i j : ℕ) → lookup_refusal s i j ≡ 0 → HasNode s i j
lookup_held s i j e =
    let h = behind_sheet (sym (lookup_is s i j) ∙ e) in
    let n = (condition_laws.ten s i j).0 (not_given (no_node s i j) 9 h.1) in
    record { accepted = h.0; column = n.0; row = n.1 }

pub lookup_taken : {s : List ℕ} {i j : ℕ} → HasNode s i j → lookup_refusal s i j ≡ 0
lookup_taken {s} {i} {j} h =
    lookup_is s i j ∙ sheet_taken h.accepted ∙ rw ((condition_laws.ten s i j).1 (h.column, h.row)) refl

pub setting_held : (s : List ℕ) (i j : ℕ) (v : Node) → setting_refusal s i j v ≡ 0 → HasNode s i j × (node_in v ≡ true)
unfolding wrong_numbers
setting_held s i j v e =
    let h = or_zero _ _ (sym (setting_is s i j v) ∙ e) in (lookup_held s i j h.0, not-false _ (not_given (wrong_numbers v) 10 h.1))

pub setting_taken : {s : List ℕ} {i j : ℕ} (v : Node) → HasNode s i j → node_in v ≡ true → setting_refusal s i j v ≡ 0
unfolding wrong_numbers
setting_taken {s} {i} {j} v h e = setting_is s i j v ∙ zero_or (lookup_refusal s i j) _ (lookup_taken h) ∙ rw e refl

pub record HasPixel (s : List ℕ) (x y k : ℕ) : Type 0 where
  pub accepted : Accepted s
  pub inside : Inside s x y
  pub kind : k ≤ 2

pub reading_held : (s : List ℕ) (x y kind : ℕ) → reading_refusal s x y kind ≡ 0 → HasPixel s x y kind
reading_held s x y kind e =
    let h = behind_sheet (sym (reading_is s x y kind) ∙ e) in
    let p = cond_zero (outside s x y) 6 _ h.1 in
    record { accepted = h.0; inside = (condition_laws.seven s x y).0 p.0; kind = (condition_laws.nine kind).0 (not_given (other_kind kind) 8 p.1) }

pub reading_taken : {s : List ℕ} {x y kind : ℕ} → HasPixel s x y kind → reading_refusal s x y kind ≡ 0
reading_taken {s} {x} {y} {kind} h =
    reading_is s x y kind ∙ sheet_taken h.accepted ∙ rw ((condition_laws.seven s x y).1 h.inside, (condition_laws.nine kind).1 h.kind) refl

-- the mesh holds what lies between two of its pixels in a row
between : {s : List ℕ} {x y n : ℕ} → Inside s x y → Inside s (x + n) y → (k : ℕ) → k ≤ n → Inside s (x + k) y
between first last k l =
    record { left = omega (arith, first.left); right = omega (arith, last.right); top = first.top; bottom = first.bottom }

-- a run that is not refused has a last pixel, so all its pixels are of the mesh
pub run_held : (s : List ℕ) (x y count : ℕ) → run_refusal s x y count ≡ 0 → OnMesh s x y count
run_held s x y count e =
    let h = behind_sheet (sym (run_is s x y count) ∙ e) in
    let p = cond_zero (off_mesh s x y count) 6 _ h.1 in
    let ends = (condition_laws.seven_of_run s x y count).0 p.0 in
    let some = (condition_laws.eight count).0 (not_given (empty_run count) 7 p.1) in
    record { accepted = h.0; first = ends.0; each = λ k l. between ends.0 (ends.1 (count - 1) (omega arith)) k (omega arith) }

pub run_taken_lem : (s : List ℕ) (x y k : ℕ) → Accepted s → Inside s x y → Inside s (x + k) y → run_refusal s x y (suc k) ≡ 0
run_taken_lem s x y k accepted first last =
    let pixels = (condition_laws.seven_of_run s x y (suc k)).1 (first, λ n q. let same : n ≡ k = omega (arith, q) in rw same last) in
    run_is s x y (suc k) ∙ sheet_taken accepted ∙ rw (pixels, (condition_laws.eight (suc k)).1 (omega arith)) refl
