-- `program_text::line` meets its contract: number by number, and then the last. Assumes nothing.
use Rattle.std.proofs.Common.{ℕ, ℤ, ◌≡◌, ◌-◌, ◌≤◌, ◌<◌, List, length, pos, FitsSigned, w64, to_z, of_z, arith, rules, get_or, take, length-take, ◌∙◌, suc, add-one}
use Rattle.std.proofs.lemmas.Int.{to_z-of_z}
use Rattle.std.proofs.lemmas.List.{get_or-take}
use Rattle.program_text.proofs.Fields.{starts, next_room, next_written, last_room, line_written}
use Rattle.program_text.proofs.line.Goals as goal

-- which number is handed on: one before the last, or the last
module _ (zs : List ℤ) (k : ℕ) where
  more : k < length (take (length zs - 1) zs) → suc k < length zs
  more h = omega (arith, length-take (length zs - 1) zs)

  number : k < length (take (length zs - 1) zs) → let z = get_or (take (length zs - 1) zs) k (pos 0) in FitsSigned w64 z → to_z w64 (of_z w64 z) ≡ get_or zs k (pos 0)
  number h f = to_z-of_z w64 _ f ∙ get_or-take _ zs k (pos 0) (omega (arith, more h))

  ends : 1 ≤ length zs → length (take (length zs - 1) zs) ≤ k → k ≤ length (take (length zs - 1) zs) → suc k ≡ length zs
  ends some low high = omega (arith, length-take (length zs - 1) zs)

  last : suc k ≡ length zs → let z = get_or zs (length zs - 1) (pos 0) in FitsSigned w64 z → to_z w64 (of_z w64 z) ≡ get_or zs k (pos 0)
  last e f = let l : length zs - 1 ≡ k = omega arith in rw (← l) (to_z-of_z w64 _ f)

pub loop-z-init : goal.loop-z-init
loop-z-init c = starts _ _ _

pub field-end-requires : goal.field-end-requires
field-end-requires c =
    rw (number c.args.numbers.now _ c.loop-z-test.true (search rules)) (next_room _ _ _ c.requires.1 _ c.loop-z.invariant (more _ _ c.loop-z-test.true))

pub loop-z-preserved : goal.loop-z-preserved
loop-z-preserved c =
    rw add-one
    (next_written _ _ _ c.requires.1 _ c.loop-z.invariant (more _ _ c.loop-z-test.true)
    (rw (← number c.args.numbers.now _ c.loop-z-test.true (search rules)) (c.field-end.ensures.end, c.field-end.ensures.text)))

pub field-requires : goal.field-requires
field-requires c =
    let e = ends c.args.numbers.now _ c.requires.0 c.loop-z-test.false c.loop-z.auto.z-index-end in
    rw (last c.args.numbers.now _ e (search rules)) (last_room _ _ _ c.requires.1 _ c.loop-z.invariant e)

pub returns : goal.returns
returns c =
    let e = ends c.args.numbers.now _ c.requires.0 c.loop-z-test.false c.loop-z.auto.z-index-end in
    let w = line_written _ _ _ c.requires.1 _ c.loop-z.invariant e (rw (← last c.args.numbers.now _ e (search rules)) (c.field.ensures.end, c.field.ensures.text)) in
    record { end = w.0; text = w.1 }
