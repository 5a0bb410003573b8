-- `surface_filling::off_mesh` meets its contract. Assumes nothing.
use Rattle.std.proofs.Common.{ℕ, ◌+◌, ◌-◌, ◌≡◌, ◌∙◌, List, Bool, sym, ap, refl, arith, rules, Bor}
use Rattle.sheet_calls.specs.Refusals.{outside}
use Rattle.surface_filling.proofs.OffMesh.{first_off, no_last, last_off, far_off, not_far}
use Rattle.surface_filling.proofs.off_mesh.Goals as goal

-- what is said of the lines is said of the sheet
of_sheet : {l s : Bor (List ℕ)} (x y : ℕ) {a b : Bool} → a ≡ outside l.now x y → l ≡ s → a ≡ b → outside s.now x y ≡ b
of_sheet x y e l t = ap (λ (k : Bor (List ℕ)). outside k.now x y) (sym l) ∙ sym e ∙ t

pub returns-then-outside : goal.returns-then-outside
returns-then-outside c = first_off _ _ _ _ (of_sheet _ _ c.outside.ensures c.of-lines.ensures c.if-outside.true)

pub returns-then-count-eq0 : goal.returns-then-count-eq0
returns-then-count-eq0 c = no_last _ _ _ _ (of_sheet _ _ c.outside.ensures c.of-lines.ensures c.if-outside.false) c.if-count-eq0.true

-- one beyond a row's pixels lies outside
pub returns-then-count-gt-LONGEST_ROW : goal.returns-then-count-gt-LONGEST_ROW
returns-then-count-gt-LONGEST_ROW c =
    let a = c.args in
    sym (far_off a.sheet.bytes.now a.sheet.accepted (a.x + (a.count - 1)) a.y (omega (arith, c.if-count-gt-LONGEST_ROW.true)))
    ∙ last_off _ _ _ _ (of_sheet _ _ c.outside.ensures c.of-lines.ensures c.if-outside.false) c.if-count-eq0.false

-- the last pixel fits 32 bits
pub overflow_add-x : goal.overflow_add-x
overflow_add-x c =
    let a = c.args in
    let near = not_far a.sheet.bytes.now a.sheet.accepted a.x a.y (of_sheet _ _ c.outside.ensures c.of-lines.ensures c.if-outside.false) in search rules

pub returns : goal.returns
returns c =
    let a = c.args in
    sym (of_sheet _ _ c.outside-2.ensures c.of-lines.ensures refl) ∙ last_off a.sheet.bytes.now a.x a.y a.count (of_sheet _ _ c.outside.ensures c.of-lines.ensures c.if-outside.false) c.if-count-eq0.false
