-- Two sets that meet the conditions are equal exactly when they agree at the corners; so the set we read from is the one. Assumes nothing.
use Rattle.element_sibson.specs.Fraction.{ℚ}
use Rattle.element_sibson.specs.Cubic.{Cell, Jet, jet}
use Rattle.element_sibson.specs.Piece.{FourCubics, Corner, at}
use Rattle.element_sibson.specs.Conditions.{Meets, SameCorners, Equal}
use Rattle.element_sibson.specs.Element.{corner_numbers, sibson, element}
use Rattle.element_sibson.specs.Theorems.{Uniqueness, Has, per_pixel, wholes, Existence}
use Rattle.element_sibson.proofs.Jets.{≋_sym, ≋_trans}
use Rattle.element_sibson.proofs.Agreement.{agreement}
use Rattle.element_sibson.proofs.Exists.{meets, numbers, nodes}

pub uniqueness : Uniqueness
uniqueness = agreement

-- two sets with the same numbers at the corners
same_numbers : (C : Cell) (S S' : FourCubics) (j : Corner → Jet ℚ) → Has C S j → Has C S' j → SameCorners C S S'
unfolding Has SameCorners
same_numbers C S S' j a b k c t = ≋_trans {j = jet C (S k) (at c)} {k = j c} {l = jet C (S' k) (at c)} (a k c t) (≋_sym (b k c t))

the_one : (C : Cell) (S S' : FourCubics) (j : Corner → Jet ℚ) → Meets C S → Meets C S' → Has C S j → Has C S' j → Equal S S'
the_one C S S' j m m' h h' = (uniqueness.exactly C S S' m m').1 (same_numbers C S S' j h h')

pub existence : Existence
unfolding element
existence = record {
  meets = meets;
  numbers = numbers;
  only = λ C n S m h. the_one C S (sibson n) (λ c. per_pixel C (n c)) m (meets C n) h (numbers C n);
  meets_nodes = λ C m. meets C (corner_numbers C m);
  nodes = nodes;
  only_nodes = λ C m S s h. the_one C S (element C m) (λ c. wholes (m c)) s (meets C (corner_numbers C m)) h (nodes C m);
}
