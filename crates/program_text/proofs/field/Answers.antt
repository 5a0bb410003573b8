-- `program_text::field` meets its contract: the library spells the number, and one more character stands behind it. Assumes nothing.
use Rattle.std.proofs.Common.{ℕ, ℤ, ◌≡◌, ◌+◌, ◌≤◌, List, [], ◌∷◌, ◌++◌, length, FitsSigned, w64, to_z, of_z, sym, ◌∙◌}
use Rattle.std.specs.Fmt.{signed_decimal}
use Rattle.program_text.specs.Text.{decimal, field}
use Rattle.program_text.proofs.Digits.{decimal_is}
use Rattle.program_text.proofs.Written.{first_fits, last_inside, last_written}
use Rattle.program_text.proofs.field.Goals as goal

-- what the library gives is the number's text
spelled : (z : ℤ) → FitsSigned w64 z → {a b : List ℕ} → a ≡ b → b ≡ signed_decimal (to_z w64 (of_z w64 z)) → decimal z ≡ a
spelled z f p q = decimal_is z f ∙ sym (p ∙ q)

room : (s : List ℕ) (i : ℕ) (z : ℤ) (behind : ℕ) → i + length (field z behind) ≤ length s → i + length (decimal z ++ behind ∷ []) ≤ length s
unfolding field
room s i z behind h = h

pub text-end-requires : goal.text-end-requires
text-end-requires c =
    rw (← spelled _ c.ranges.z c.as_bytes.ensures.value c.format.ensures.text) (first_fits _ _ (decimal c.args.z) (c.args.behind ∷ []) (room _ _ _ _ c.requires))

pub bounds-out-end : goal.bounds-out-end
bounds-out-end c =
    last_inside _ _ (decimal c.args.z) _ (room _ _ _ _ c.requires)
    (rw (spelled _ c.ranges.z c.as_bytes.ensures.value c.format.ensures.text) (c.text-end.ensures.end, c.text-end.ensures.text))

pub returns : goal.returns
unfolding field
returns c =
    let w =
    last_written _ _ (decimal c.args.z) c.args.behind (room _ _ _ _ c.requires)
    (rw (spelled _ c.ranges.z c.as_bytes.ensures.value c.format.ensures.text) (c.text-end.ensures.end, c.text-end.ensures.text)) in
    record { end = w.0; text = w.1 }
