-- What listing bends gives and leaves, by its record: how many pieces, or the refusal, and the buffer. Assumes nothing.
use Rattle.std.proofs.Common.{Result, Ok, subst}
use Prim.Native.Nat.{ℕ, ◌*◌, ◌≤◌}
use mathlib.Core.Path.{◌≡◌, refl, sym, ◌∙◌, ap}
use mathlib.Core.List.{List}
use native.Mathlib.Decide.{ℕ_discrete}
use borrow.Author.Tests.{eq-eqb, ne_eqb}
use lib.IntN.{ℤ}
use lib.ListN.{length, get_or}
use Rattle.surface_bends.specs.Bends.{touching_places, bends_refusal, Tally, tally, counted}
use Rattle.sheet_calls.specs.declared.refusal.Refusal.{Refusal}
use Rattle.sheet_calls.specs.Refused.{RefusedWith}
use Rattle.surface_bends.proofs.Laws.{bend_laws}
use Rattle.surface_bends.proofs.Call.{counted_is, refused_is}
use Rattle.light_sheet_c.specs.Values.{count_over}
use Rattle.light_sheet_demands.specs.CallRecords.{ListBends, BendsInto}

-- the number that the call is refused with, or 0
pub counted_number : (s : List ℕ) (x y places : ℕ) → (counted s x y places).number ≡ bends_refusal s x y places
counted_number s x y places = elim (ℕ_discrete (bends_refusal s x y places) 0) [
  | yes e ↦ rw (counted_is s x y places e, e) refl
  | no h ↦ rw (refused_is s x y places h) refl
]

module _ {s t : List ℕ} {x y : ℕ} {buffer buffer' : List ℤ} {r : Result ℕ Refusal} (c : ListBends s x y buffer r buffer' t) where
  tally_is : tally r ≡ counted s x y (length buffer)
  tally_is = λ i. record { number = (c.answer ∙ sym (counted_number s x y (length buffer))) i; pieces = c.pieces i }

  -- refused
  module _ (h : ¬ ((tally r).number ≡ 0)) where
    declined : ¬ (bends_refusal s x y (length buffer) ≡ 0)
    declined e = h (c.answer ∙ e)

    pub refused_list : RefusedWith r (tally r).number
    refused_list = subst (RefusedWith r) (sym c.answer) (bend_laws.refused s x y (length buffer) declined r tally_is)

    pub buffer_kept : buffer' ≡ buffer
    buffer_kept = c.list ∙ bend_laws.untouched s x y buffer declined

  -- not refused
  module _ (z : (tally r).number ≡ 0) where
    pub taken : bends_refusal s x y (length buffer) ≡ 0
    taken = sym c.answer ∙ z

    pub pieces_are : (tally r).pieces ≡ length (touching_places s x y)
    pieces_are = ap (λ (t : Tally). t.pieces) (tally_is ∙ counted_is s x y (length buffer) taken)

    pub listed_is : r ≡ Ok (length (touching_places s x y))
    listed_is = bend_laws.pieces s x y (length buffer) taken r tally_is

  pub behind_list : (k : ℕ) → 3 * (tally r).pieces ≤ k → (z : ℤ) → get_or buffer' k z ≡ get_or buffer k z
  behind_list k l z = elim (ℕ_discrete (tally r).number 0) [
    | yes e ↦ rw c.list (bend_laws.behind s x y buffer k (rw (pieces_are e) at l) z)
    | no h ↦ rw (buffer_kept h) refl
  ]

-- ---- in C

module _ {s t : List ℕ} {x y count n count' : ℕ} {buffer buffer' : List ℤ} (c : BendsInto s x y buffer count n buffer' count' t) where
  pub count_kept : ¬ (n ≡ 0) → count' ≡ count
  unfolding count_over
  count_kept h = c.pieces ∙ rw (ne_eqb (tally c.listed).number 0 (λ e. h (c.answer ∙ e))) refl

pub count_written : {s t : List ℕ} {x y count count' : ℕ} {buffer buffer' : List ℤ} (c : BendsInto s x y buffer count 0 buffer' count' t) →
    count' ≡ (tally c.listed).pieces
unfolding count_over
count_written c = c.pieces ∙ rw (eq-eqb (tally c.listed).number 0 (sym c.answer)) refl
