-- What a test says where it fails, or where it holds, in both directions. Assumes nothing.
use Prim.Native.Nat.{ℕ, ◌≤◌, ◌<◌}
use mathlib.Core.Path.{◌≡◌, refl}
use mathlib.Core.Logic.{◌↔◌}
use mathlib.Core.Bool.{Bool, true, false, not, ◌&&◌, ◌||◌, and-eq-true_iff}
use mathlib.Mathlib.Data.Bool.Basic.{or-eq-false-eq-eq-false-and-eq-false}
use lib.Dec.{ltb, leb, eqb}
use lib.IntN.{ℤ}
use lib.Signed.{◌≤ℤ◌, lt_z, lt_z_yes, lt_z_no, clash_ℤ}
use borrow.Author.Tests.{ltb-false, leb-true, leb-false, eqb-true, le-ltb, le-leb, lt-leb, eq-eqb, not-false}

-- ---- where it fails

pub ltb_fails : (a b : ℕ) → (ltb a b ≡ false) ↔ (b ≤ a)
ltb_fails a b = (ltb-false a b, le-ltb a b)

pub leb_fails : (a b : ℕ) → (leb a b ≡ false) ↔ (b < a)
leb_fails a b = (leb-false a b, lt-leb a b)

pub lt_z_fails : (a b : ℤ) → (lt_z a b ≡ false) ↔ (b ≤ℤ a)
lt_z_fails a b = (λ e. lt_z_no (rw e tt), λ h. by h (lt_z a b) refl)
  where
    by : b ≤ℤ a → (t : Bool) → lt_z a b ≡ t → t ≡ false
    by h true e = clash_ℤ (lt_z_yes (rw e tt)) h
    by h false e = refl

pub not_fails : {b : Bool} {B : Type 0} → (b ≡ true) ↔ B → (not b ≡ false) ↔ B
not_fails {b} h = (λ e. h.0 (not-false b e), λ x. rw (h.1 x))

pub or_fails : {a b : Bool} {A B : Type 0} → (a ≡ false) ↔ A → (b ≡ false) ↔ B → (a || b ≡ false) ↔ (A × B)
or_fails {a} {b} h k = (
  λ e. let (f, g) = (or-eq-false-eq-eq-false-and-eq-false a b).0 e in (h.0 f, k.0 g),
  λ x. rw (h.1 x.0) (k.1 x.1),
)

-- ---- where it holds

pub leb_holds : (a b : ℕ) → (leb a b ≡ true) ↔ (a ≤ b)
leb_holds a b = (leb-true a b, le-leb a b)

pub eqb_holds : (a b : ℕ) → (eqb a b ≡ true) ↔ (a ≡ b)
eqb_holds a b = (eqb-true a b, eq-eqb a b)

pub and_holds : {a b : Bool} {A B : Type 0} → (a ≡ true) ↔ A → (b ≡ true) ↔ B → (a && b ≡ true) ↔ (A × B)
and_holds {a} {b} h k = (
  λ e. let (f, g) = (and-eq-true_iff a b).0 e in (h.0 f, k.0 g),
  λ x. rw (h.1 x.0) (k.1 x.1),
)
