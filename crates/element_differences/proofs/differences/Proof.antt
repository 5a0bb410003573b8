-- `element_differences::differences` meets its contract. Assumes nothing.
use mathlib.Core.Path.{◌∙◌}
use mathlib.Core.List.{[], ◌∷◌}
use borrow.Author.Rules.{rules}
use lib.IntN.{pos}
use mir.Syntax.{w64}
use Rattle.integers.proofs.Operand.{Operand, literal, known, returned, stored, ◌⊞◌, ◌⊠◌, asks, gives}
use Rattle.element_cell.proofs.Sides.{length_within}
use Rattle.element_differences.specs.Differences.{differences}
use Rattle.element_row_cubic.proofs.Horner.{at_offset_within}
use Rattle.element_differences.proofs.Rises.{linear, quadratic, leading, first_is, second_is, third_is}
use Rattle.element_differences.proofs.differences.Statement.{statement}
use Rattle.element_differences.proofs.differences.Tie as tie

-- from what has been returned as the offset's length
module _ (l : tie.After-length-a) where
  abbrev a : Operand
  a = returned w64 l.length-a.ensures (length_within l.before.requires.0) tt

  abbrev next : Operand
  next = stored w64 (a ⊞ literal (pos 1)) tt

  abbrev c₁ : Operand
  c₁ = known w64 (linear l.before.args.row l.before.requires.1) tt

  abbrev c₂ : Operand
  c₂ = known w64 (quadratic l.before.args.row l.before.requires.1) tt

  abbrev c₃ : Operand
  c₃ = known w64 (leading l.before.args.row l.before.requires.1) tt

  -- c₁ + c₂ (a + next) + c₃ (3 a next + 1)
  abbrev twice : Operand
  twice = stored w64 (a ⊞ next) tt

  abbrev partly : Operand
  partly = stored w64 (c₁ ⊞ stored w64 (c₂ ⊠ twice) tt) tt

  abbrev thrice : Operand
  thrice = stored w64 (literal (pos 3) ⊠ a) tt

  abbrev product : Operand
  product = thrice ⊠ next

  abbrev factor : Operand
  factor = stored w64 product tt ⊞ literal (pos 1)

  abbrev first : Operand
  first = partly ⊞ stored w64 (c₃ ⊠ stored w64 factor tt) tt

  -- 2 c₂ + 6 c₃ next
  abbrev third : Operand
  third = literal (pos 6) ⊠ c₃

  abbrev second : Operand
  second = stored w64 (literal (pos 2) ⊠ c₂) tt ⊞ stored w64 (stored w64 third tt ⊠ next) tt

-- the state after the length, from further on
abbrev early : tie.After-result-2-1 → tie.After-length-a
early c = c.before.before.before

abbrev later : tie.After-result-3-1 → tie.After-length-a
later c = early c.before

abbrev latest : tie.After-result-5-1 → tie.After-length-a
latest c = later c.before.before

pub differences_spec : {M : Type 1} → statement M
unfolding differences
differences_spec =
    tie.close
    (tie.spec
    (λ c κs. search rules)
    (λ c. asks w64 (a c ⊞ literal (pos 1)) tt)
    (λ c κs. search rules)
    (λ c. search rules)
    (λ c. search rules)
    (λ c. asks w64 (a (early c) ⊞ next (early c)) tt)
    (λ c. asks w64 (c₂ (early c) ⊠ twice (early c)) tt)
    (λ c. asks w64 (c₁ (early c) ⊞ stored w64 (c₂ (early c) ⊠ twice (early c)) tt) tt)
    (λ c. search rules)
    (λ c. asks w64 (literal (pos 3) ⊠ a (later c)) tt)
    (λ c. asks w64 (product (later c)) tt)
    (λ c. asks w64 (factor (later c)) tt)
    (λ c. asks w64 (c₃ (later c) ⊠ stored w64 (factor (later c)) tt) tt)
    (λ c. asks w64 (first (later c)) tt)
    (λ c. search rules)
    (λ c. asks w64 (literal (pos 2) ⊠ c₂ (later c.before)) tt)
    (λ c. search rules)
    (λ c. asks w64 (third (latest c)) tt)
    (λ c. asks w64 (stored w64 (third (latest c)) tt ⊠ next (latest c)) tt)
    (λ c. asks w64 (second (latest c)) tt)
    (λ c. search rules)
    (λ c. asks w64 (third (latest c.before)) tt)
    (λ c. let v = c.before.before.before.before.before.before in let l = v.before in let row = l.before.args.row in let o = l.before.args.offset in λ i.
    (returned w64 v.at_offset.ensures (at_offset_within row l.before.requires.1 l.before.requires.0) tt).reads i ∷
    (gives w64 (first l) tt ∙ first_is row o) i ∷
    (gives w64 (second l) tt ∙ second_is row o) i ∷
    (gives w64 (third l) tt ∙ third_is row o) i ∷ []))
