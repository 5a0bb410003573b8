-- Two sets that meet the conditions are equal exactly when they agree at the corners. Assumes nothing.
use Rattle.element_sibson.specs.Cubic.{Cell, jet}
use Rattle.element_sibson.specs.Piece.{next, FourCubics, at}
use Rattle.element_sibson.specs.Conditions.{Smooth, Meets, SameCorners, Equal}
use Rattle.element_sibson.specs.Theorems.{Uniqueness}
use Rattle.element_sibson.proofs.Jets.{≋_sym, ≋_trans, ◌⊟◌, none, ≋-⊟, ≋_minus}
use Rattle.element_sibson.proofs.Rotation.{NothingAtCorners}
use Rattle.element_sibson.proofs.Difference.{difference, jet_difference, square_difference, equal_of_zero, same_everywhere}
use Rattle.element_sibson.proofs.Blank.{Blank, all_zero}

module _ (C : Cell) (S S' : FourCubics) where
  D : FourCubics
  D k = difference (S k) (S' k)

  -- the difference of two sets that meet the conditions and agree at the corners
  blank : Meets C S → Meets C S' → SameCorners C S S' → Blank C D
  unfolding D Smooth SameCorners NothingAtCorners
  blank m m' e = record {
    meets = record {
      smooth = λ k P h.
          ≋_trans {j = jet C (D k) P} {k = jet C (S k) P ⊟ jet C (S' k) P} {l = jet C (D (next k)) P} (jet_difference C (S k) (S' k) P)
          (≋_trans {j = jet C (S k) P ⊟ jet C (S' k) P} {k = jet C (S (next k)) P ⊟ jet C (S' (next k)) P} {l = jet C (D (next k)) P}
          (≋-⊟ (m.smooth k P h) (m'.smooth k P h)) (≋_sym (jet_difference C (S (next k)) (S' (next k)) P)));
      linear = λ k. square_difference k (S k) (S' k) (m.linear k) (m'.linear k);
    };
    corners = λ k c t.
        ≋_trans {j = jet C (D k) (at c)} {k = jet C (S k) (at c) ⊟ jet C (S' k) (at c)} {l = none} (jet_difference C (S k) (S' k) (at c)) (≋_minus (e k c t));
  }

  equal : Meets C S → Meets C S' → SameCorners C S S' → Equal S S'
  unfolding D Equal
  equal m m' e k = equal_of_zero (S k) (S' k) (all_zero C D (blank m m' e) k)

  same_corners_lem : Equal S S' → SameCorners C S S'
  unfolding Equal SameCorners
  same_corners_lem e k c t = same_everywhere C (S k) (S' k) (e k) (at c)

pub agreement : Uniqueness
agreement = record { exactly = λ C S S' m m'. (same_corners_lem C S S', equal C S S' m m') }
