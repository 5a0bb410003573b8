-- A node's numbers in signed code: they have 16 bits, and three words are the node's bytes. Assumes nothing.
use Prim.Native.Nat.{ℕ, ◌+◌, ◌≤◌}
use mathlib.Core.Path.{◌≡◌, ◌∙◌, ap}
use mathlib.Core.List.{List}
use mathlib.Core.Bool.{true}
use native.Mathlib.Nat.{add_assoc}
use native.Mathlib.Omega.{arith}
use lib.ListN.{length}
use lib.Dec.{lit<}
use lib.IntN.{ℤ}
use mir.Syntax.{w32}
use mir.Val.{SFits, to_z, of_z}
use mir.ValLaws.{to_z-of_z}
use Rattle.integers.specs.Within.{◌within◌}
use Rattle.integers.proofs.Bounds.{within_mono}
use Rattle.integers.proofs.Operand.{fits}
use Rattle.sheet_words.specs.Word.{bits_of, bytes_of, replaced}
use Rattle.sheet_words.proofs.Replaced.{replaced_on}
use Rattle.sheet_layout.specs.Format.{Node, node, node_size, height_size, slope_bytes, encoded, slope_in, node_in}
use Rattle.sheet_layout.proofs.NodeRange.{slope_in_lem, node_in_lem}

-- numbers in range have 16 bits
pub fit : (h x y : ℤ) → node_in (node h x y) ≡ true → (h within 32767) × (x within 32767) × (y within 32767)
fit h x y e =
    let ((a, b), c) = (node_in_lem (node h x y)).0 e in
    let wide : 4095 ≤ 32767 = omega arith in
    (within_mono a wide, within_mono b wide, within_mono c wide)

pub slope_fits : (z : ℤ) → slope_in z ≡ true → z within 32767
slope_fits z e = within_mono ((slope_in_lem z).0 e) (omega arith)

-- so 32 bits hold them
pub kept : (h x y : ℤ) → node_in (node h x y) ≡ true → (SFits w32 h) × (SFits w32 x) × (SFits w32 y)
kept h x y e = let (a, b, c) = fit h x y e in (fits a (lit< tt), fits b (lit< tt), fits c (lit< tt))

-- ---- what the code hands on: u is v as the machine reads it back

pub back : {h x y : ℤ} → SFits w32 h → SFits w32 x → SFits w32 y
    → node (to_z w32 (of_z w32 h)) (to_z w32 (of_z w32 x)) (to_z w32 (of_z w32 y)) ≡ node h x y
back f g k = λ i. node (to_z-of_z w32 _ f i) (to_z-of_z w32 _ g i) (to_z-of_z w32 _ k i)

pub slopes_back : {x y : ℤ} → SFits w32 x → SFits w32 y → (h : ℤ) → node_in (node h x y) ≡ true
    → (slope_in (to_z w32 (of_z w32 x)) ≡ true) × (slope_in (to_z w32 (of_z w32 y)) ≡ true)
slopes_back {x} {y} f g h e =
    let ((_, a), b) = (node_in_lem (node h x y)).0 e in
    (ap slope_in (to_z-of_z w32 x f) ∙ (slope_in_lem x).1 a, ap slope_in (to_z-of_z w32 y g) ∙ (slope_in_lem y).1 b)

-- two slopes behind the height
pub two_words : (s : List ℕ) (at : ℕ) {p q : ℤ} → SFits w32 p → SFits w32 q → {a b : ℕ} {t t₂ : List ℕ} → at + node_size ≤ length s
    → a ≡ bits_of (to_z w32 (of_z w32 p)) → t ≡ replaced s (at + 2) (bytes_of a)
    → b ≡ bits_of (to_z w32 (of_z w32 q)) → t₂ ≡ replaced t (at + 4) (bytes_of b)
    → t₂ ≡ replaced s (at + height_size) (slope_bytes p q)
unfolding slope_bytes bytes_of
two_words s at {p} {q} f g fits e k h l =
    l ∙ rw (k, e, h, to_z-of_z w32 p f, to_z-of_z w32 q g, ← add_assoc at 2 2) (replaced_on s (at + 2) (bytes_of (bits_of p)) (omega arith) (bytes_of (bits_of q)))

-- a height and then the slopes are the node's bytes
pub node_bytes_lem : {u v : Node} → u ≡ v → (s : List ℕ) (at : ℕ) {a : ℕ} {t t₂ : List ℕ} → at + node_size ≤ length s
    → a ≡ bits_of u.stored_height → t ≡ replaced s at (bytes_of a) → t₂ ≡ replaced t (at + height_size) (slope_bytes u.slope_x u.slope_y)
    → t₂ ≡ replaced s at (encoded v)
unfolding encoded bytes_of
node_bytes_lem {u} e s at fits p k l =
    l ∙ rw (k, p) (replaced_on s at (bytes_of (bits_of u.stored_height)) (omega arith) _) ∙ ap (λ w. replaced s at (encoded w)) e
