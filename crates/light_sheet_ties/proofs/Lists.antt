-- What `bends` gives and leaves, and what `lvs_bends` does, is a list's number, its count of pieces and the buffer with it. Assumes nothing.
use Rattle.std.proofs.Common.{Result, Ok, Err}
use Prim.Native.Nat.{ℕ}
use mathlib.Core.Path.{◌≡◌, sym, ◌∙◌, ap}
use mathlib.Core.List.{List}
use native.Mathlib.Decide.{ℕ_discrete}
use lib.IntN.{ℤ}
use lib.ListN.{length}
use Rattle.surface_bends.specs.Bends.{touching_places, bends_refusal, tally, counted, with_bends}
use Rattle.sheet_calls.specs.declared.refusal.Refusal.{Refusal}
use Rattle.surface_bends.proofs.Call.{counted_is, refused_is, bends_named}
use Rattle.light_sheet_c.specs.Values.{count_over}
use Rattle.light_sheet_demands.specs.CallRecords.{ListBends, BendsInto}
use Rattle.light_sheet_demands.proofs.Lists.{counted_number}

pub is_listed_lem : {s t : List ℕ} {x y : ℕ} {buffer buffer' : List ℤ} {r : Result ℕ Refusal} → tally r ≡ counted s x y (length buffer) → buffer' ≡ with_bends s x y buffer → t ≡ s →
    ListBends s x y buffer r buffer' t
is_listed_lem e l k = record { answer = ap (λ o. o.number) e ∙ counted_number _ _ _ _; pieces = ap (λ o. o.pieces) e; list = l; sheet = k }

-- some answer has that number and count
answering : (s : List ℕ) (x y places : ℕ) → (r : Result ℕ Refusal) × (tally r ≡ counted s x y places)
unfolding tally
answering s x y places = elim (ℕ_discrete (bends_refusal s x y places) 0) [
  | yes e ↦ (Ok (length (touching_places s x y)), sym (counted_is s x y places e))
  | no h ↦ let m = bends_named s x y places h in (Err m.refusal, rw m.numbered (sym (refused_is s x y places h)))
]

pub bends_into_lem : (s t : List ℕ) (x y : ℕ) (buffer : List ℤ) (count : ℕ) {n count' : ℕ} {buffer' : List ℤ} →
    n ≡ (counted s x y (length buffer)).number → buffer' ≡ with_bends s x y buffer → count' ≡ count_over (counted s x y (length buffer)) count → t ≡ s →
    BendsInto s x y buffer count n buffer' count' t
bends_into_lem s t x y buffer count d l e k = let a = answering s x y (length buffer) in let o = sym a.1 in record {
  listed = a.0;
  is_listed = is_listed_lem a.1 l k;
  answer = d ∙ ap (λ q. q.number) o;
  pieces = e ∙ ap (λ q. count_over q count) o;
}
