-- What a refusal, a lookup and a setting come to, from the answers that the code has. Assumes nothing.
use Rattle.std.proofs.Common.{◌≡◌, ℕ, List, Bool, true, false, cond, Result, Ok, Err, is_err, true≢false, refl, sym, ◌∙◌, ap, arith}
use Rattle.sheet_words.specs.Word.{replaced}
use Rattle.sheet_layout.specs.Format.{Node, encoded, node_size, node_offset}
use Rattle.sheet_calls.specs.declared.refusal.Refusal.{Refusal}
use Rattle.sheet_calls.specs.Refusals.{no_node, wrong_numbers, sheet_refusal, lookup_refusal, setting_refusal}
use Rattle.sheet_calls.specs.Refused.{number, refusal_number}
use Rattle.sheet_calls.specs.Calls.{stretch, looked_up, with_node}
use Rattle.sheet_calls.proofs.Rules.{passed_by}
use Rattle.sheet_calls.proofs.Chains.{lookup_is, setting_is}
use Rattle.sheet_calls.proofs.Refused.{number-not_zero, refused_first}
use Rattle.sheet_calls.proofs.Lookup.{lookup_laws}
use Rattle.sheet_calls.proofs.Setting.{set_is, refused_is}

-- ---- the lookup's

module _ (s : List ℕ) (i j : ℕ) (e : 0 ≡ sheet_refusal s) where
  pub node_answer : {b : Bool} → no_node s i j ≡ b → cond b 10 0 ≡ lookup_refusal s i j
  node_answer q = ap (λ b. cond b 10 0) (sym q) ∙ passed_by _ _ (lookup_is s i j) e refl

err-not_zero : {A : Type 0} (r : Result A Refusal) → true ≡ is_err r → ¬ (refusal_number r ≡ 0)
err-not_zero (Ok _) h = absurd (true≢false h)
err-not_zero (Err e) h = number-not_zero e

ok-zero : {A : Type 0} (r : Result A Refusal) → false ≡ is_err r → refusal_number r ≡ 0
ok-zero (Ok _) h = refl
ok-zero (Err e) h = absurd (true≢false (sym h))

pub looked_none : (s : List ℕ) (i j : ℕ) {A : Type 0} (r : Result A Refusal) → refusal_number r ≡ lookup_refusal s i j → true ≡ is_err r → looked_up s i j ≡ stretch 0 0
looked_none s i j r e h = lookup_laws.refused s i j (λ z. err-not_zero r h (e ∙ z))

pub looked_found : (s : List ℕ) (i j : ℕ) {A : Type 0} (r : Result A Refusal) → refusal_number r ≡ lookup_refusal s i j → false ≡ is_err r
    → looked_up s i j ≡ stretch (node_offset s i j) node_size
looked_found s i j r e h = lookup_laws.found s i j (sym e ∙ ok-zero r h)

-- ---- the setting's: n is the answer and t the sheet that is left

module _ (s : List ℕ) (i j : ℕ) (v : Node) where
  abbrev Sets : ℕ → List ℕ → Type 0
  Sets n t = (n ≡ setting_refusal s i j v) × (t ≡ with_node s i j v)

  unset : {n : ℕ} → n ≡ setting_refusal s i j v → ¬ (n ≡ 0) → s ≡ with_node s i j v
  unset e h = sym (refused_is s i j v (λ z. h (e ∙ z)))

  pub set_refused : (r : Refusal) → number r ≡ lookup_refusal s i j → s ≡ with_node s i j v
  set_refused r e = unset (refused_first _ _ (setting_is s i j v) r e) (number-not_zero r)

  -- w is the answer on the numbers
  module _ (e : 0 ≡ lookup_refusal s i j) {w : Bool} (q : w ≡ wrong_numbers v) where
    numbers_answer : {b : Bool} → w ≡ b → cond b 11 0 ≡ setting_refusal s i j v
    numbers_answer h = ap (λ b. cond b 11 0) (sym h ∙ q) ∙ passed_by _ _ (setting_is s i j v) e refl

    pub set_wrong : w ≡ true → Sets 11 s
    set_wrong h = let n = numbers_answer h in (n, unset n (λ k. omega arith))

    pub set_done : w ≡ false → {at : ℕ} {t : List ℕ} → at ≡ node_offset s i j → t ≡ replaced s at (encoded v) → Sets 0 t
    set_done h a k = let n = numbers_answer h in (n, k ∙ rw a (sym (set_is s i j v (sym n))))
