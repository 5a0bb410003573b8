-- Which pixels a zone holds, and which of some zones hold a pixel. Assumes nothing.
use Prim.Native.Nat.{ℕ}
use mathlib.Core.Path.{◌≡◌, refl}
use mathlib.Core.Logic.Iff
use mathlib.Core.Logic.{◌↔◌}
use mathlib.Core.List.{List, [], ◌∷◌}
use mathlib.Core.Bool.{Bool, true, false, cond}
use Rattle.sheet_layout.proofs.Meaning.{leb_holds, and_holds}
use Rattle.sheet_calls.specs.Rules.{Each}
use Rattle.sheet_zones.specs.Zones.{Zone, crosses, holds, holding}
use Rattle.sheet_zones.specs.ZoneLaws.{Holds}

pub pixels : (z : Zone) (x y : ℕ) → (holds z x y ≡ true) ↔ Holds z x y
unfolding holds crosses
pixels z x y =
    Iff.trans (and_holds (and_holds (leb_holds z.left x) (leb_holds x z.right)) (and_holds (leb_holds z.top y) (leb_holds y z.bottom))) (
      λ h. let ((l, r), (t, b)) = h in record { left = l; right = r; top = t; bottom = b },
      λ h. ((h.left, h.right), (h.top, h.bottom)),
    )

pub none : (x y : ℕ) → holding x y [] ≡ []
unfolding holding
none x y = refl

pub taken : (x y : ℕ) (z : Zone) (zs : List Zone) → Holds z x y → holding x y (z ∷ zs) ≡ z ∷ holding x y zs
unfolding holding
taken x y z zs h = rw ((pixels z x y).1 h)

pub passed : (x y : ℕ) (z : Zone) (zs : List Zone) → ¬ Holds z x y → holding x y (z ∷ zs) ≡ holding x y zs
unfolding holding
passed x y z zs h = by (holds z x y) refl
  where
    by : (b : Bool) → holds z x y ≡ b → cond b (z ∷ holding x y zs) (holding x y zs) ≡ holding x y zs
    by true e = absurd (h ((pixels z x y).0 e))
    by false e = refl

-- what is so of every zone is so of those that hold the pixel
pub each_holding : (P : Zone → Type 0) (x y : ℕ) (zs : List Zone) → Each P zs → Each P (holding x y zs)
unfolding holding
each_holding P x y [] h = tt
each_holding P x y (z ∷ zs) h = by (holds z x y) (each_holding P x y zs h.1)
  where
    by : (b : Bool) → Each P (holding x y zs) → Each P (cond b (z ∷ holding x y zs) (holding x y zs))
    by true rest = (h.0, rest)
    by false rest = rest
