-- `surface_filling::run_refusal` meets its contract. Assumes nothing.
use Rattle.std.proofs.Common.{ℕ, ◌≡◌, ◌∙◌, List, Bool, sym, ap, refl, rules, Bor}
use borrow.Author.Tests.{eq-eqb, ne_eqb}
use Rattle.sheet_calls.specs.Refusals.{off_mesh}
use Rattle.sheet_calls.proofs.Chains.{run_is}
use Rattle.sheet_calls.proofs.Refused.{refused_first}
use Rattle.surface_filling.proofs.Refusal.{run_answer}
use Rattle.surface_filling.proofs.run_refusal.Goals as goal

-- what is said of the accepted sheet is said of the one that is lent
of_lent : {t s : Bor (List ℕ)} (x y n : ℕ) {a b : Bool} → a ≡ off_mesh t.now x y n → t ≡ s → a ≡ b → b ≡ off_mesh s.now x y n
of_lent x y n e l t = sym t ∙ e ∙ ap (λ (k : Bor (List ℕ)). off_mesh k.now x y n) l

pub returns-in_err-sheet : goal.returns-in_err-sheet
returns-in_err-sheet c =
    let a = c.args in let h = refused_first _ _ (run_is a.sheet.now a.x a.y a.count) _ c.in_err-sheet.ensures.refusal in search rules

pub returns-then-off_mesh : goal.returns-then-off_mesh
returns-then-off_mesh c =
    run_answer _ _ _ _ (sym c.in_ok-sheet.ensures.refusal) (of_lent _ _ _ c.off_mesh.ensures c.in_ok-sheet.ensures.bytes c.if-off_mesh.true) refl

-- the first and the last pixel are of the mesh
pub returns-then-count-eq0 : goal.returns-then-count-eq0
returns-then-count-eq0 c =
    run_answer _ _ _ _ (sym c.in_ok-sheet.ensures.refusal) (of_lent _ _ _ c.off_mesh.ensures c.in_ok-sheet.ensures.bytes c.if-off_mesh.false) (sym (eq-eqb _ 0 c.if-count-eq0.true))

pub returns : goal.returns
returns c =
    run_answer _ _ _ _ (sym c.in_ok-sheet.ensures.refusal) (of_lent _ _ _ c.off_mesh.ensures c.in_ok-sheet.ensures.bytes c.if-off_mesh.false) (sym (ne_eqb _ 0 c.if-count-eq0.false))
