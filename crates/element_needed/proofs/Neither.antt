-- Pieces that are neither of two, and quarter turns of them. Assumes nothing.
use mathlib.Core.Path.{◌≡◌, refl, sym, ◌∙◌, ap}
use mathlib.Core.Bool.{Bool, ◌&&◌}
use lib.Dec.{T}
use Rattle.element_sibson.specs.Piece.{Piece, top, right, bottom, left, next}
use Rattle.element_sibson.proofs.Finite.{differs, apart, and}

pub four_turns : (k : Piece) → next (next (next (next k))) ≡ k
unfolding next
four_turns top = refl
four_turns right = refl
four_turns bottom = refl
four_turns left = refl

pub next_apart : {k l : Piece} → ¬ (k ≡ l) → ¬ (next k ≡ next l)
next_apart {k} {l} n e = n (sym (four_turns k) ∙ ap (λ j. next (next (next j))) e ∙ four_turns l)

abbrev pub Neither : Piece → Piece → Piece → Type 0
Neither j k l = ¬ (l ≡ j) × ¬ (l ≡ k)

abbrev pub neither : Piece → Piece → Piece → Bool
neither j k l = differs j l && differs k l

pub apart_both : (j k l : Piece) → Neither j k l → T (neither j k l)
apart_both j k l (a, b) = and (differs j l) (differs k l) (apart j l a) (apart k l b)

pub next_neither : (j k l : Piece) → Neither j k l → Neither (next j) (next k) (next l)
next_neither j k l (a, b) = (next_apart a, next_apart b)
