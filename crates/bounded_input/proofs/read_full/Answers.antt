-- `bounded_input::read_full`: what a read gives stands behind what stood there, and the input has lost both. Assumes nothing.
use Rattle.std.proofs.Common.{◌≡◌, ◌+◌, ◌≤◌, ℕ, List, ◌++◌, Option, None, Some, length, take, ◌∙◌, ap, sym, subst, append_assoc, length-take-le, take_at, drop_at, rules}
use Rattle.std.proofs.lemmas.List.{take-append-le}
use Rattle.std.proofs.Math.Seq.{take-add}
use Rattle.std.specs.Io.KnownBytes.{Consumes}
use borrow.Rule.Slice.PartMut.{put_mid}
use Rattle.bounded_input.proofs.read_full.Goals as goal

-- bytes that the input has lost, and then others
both_lost : (a b c : Option (List ℕ)) (x y : List ℕ) → Consumes a b x → Consumes b c y → Consumes a c (x ++ y)
both_lost None b c x y p q = tt
both_lost (Some s) None c x y p q = absurd p
both_lost (Some s) (Some t) None x y p q = absurd q
both_lost (Some s) (Some t) (Some u) x y p q = p ∙ ap (λ r. x ++ r) q ∙ sym (append_assoc x y u)

-- n bytes more behind the first i
behind : (s : List ℕ) (i k : ℕ) (t : List ℕ) (n : ℕ) → i ≤ length s → n ≤ length t → take (i + n) (put_mid i k s t) ≡ take i s ++ take n t
behind s i k t n h l =
    let e = length-take-le i s h in
    take-add i n (put_mid i k s t) ∙ rw (take_at (take i s) _ i e, drop_at (take i s) _ i e) (ap (λ r. take i s ++ r) (take-append-le n t _ l))

pub loop-done-preserved : goal.loop-done-preserved
loop-done-preserved g c = record {
  inside = search rules;
  bytes =
      subst (Consumes _ _) (sym (behind _ _ _ _ _ c.loop-done.invariant.inside c.in-Ok.ensures.bound.0))
      (both_lost _ _ _ _ _ c.loop-done.invariant.bytes c.in-Ok.ensures.bytes.0);
}
