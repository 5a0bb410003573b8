-- What zones do, one after the other, is one clamp. A map of levels is said to clamp where it keeps their order and, where it moves a level up or down, moves
-- all lower or all higher ones to the same place. Each limit clamps, and so do maps that clamp one after the other. Assumes nothing.
use mathlib.Core.Path.{◌≡◌, sym, ◌∙◌, ap}
use mathlib.Core.Logic.{◌⊎◌, inl, inr}
use mathlib.Core.List.{List, [], ◌∷◌}
use lib.IntN.{ℤ}
use lib.Signed.{◌≤ℤ◌, ◌<ℤ◌, ≤ℤ_refl, <ℤ-≤ℤ_trans, clash_ℤ}
use Rattle.integers.proofs.Order.{≤ℤ_or->, ≤ℤ_trans, ≤ℤ_antisym, ≤ℤ-<ℤ_trans}
use Rattle.sheet_zones.specs.Zones.{Zone, in_grains, raised, lowered, limited}
use Rattle.sheet_zones.proofs.Limits.{below, not_below_lem, limit≤raised, level≤raised, raised≤, above, not_above_lem, lowered≤limit, lowered≤level, ≤lowered}

record Clamps (f : ℤ → ℤ) : Type 0 where
  pub ordered : {v w : ℤ} → v ≤ℤ w → (f v) ≤ℤ (f w)
  pub up : {a v : ℤ} → a ≤ℤ v → v <ℤ (f v) → f a ≡ f v
  pub down : {v c : ℤ} → v ≤ℤ c → (f v) <ℤ v → f c ≡ f v

-- ---- what clamps

kept : Clamps (λ v. v)
kept = record { ordered = λ h. h; up = λ h k. clash_ℤ k (≤ℤ_refl _); down = λ h k. clash_ℤ k (≤ℤ_refl _) }

raises : (limit : ℤ) → Clamps (raised limit)
raises limit = record {
  ordered = λ {v} {w} h. raised≤ (limit≤raised limit w) (≤ℤ_trans h (level≤raised limit w));
  up = λ {a} {v} h k. by a v h k (≤ℤ_or-> limit v);
  down = λ {v} {c} h k. clash_ℤ k (level≤raised limit v);
}
  where
    by : (a v : ℤ) → a ≤ℤ v → v <ℤ (raised limit v) → (limit ≤ℤ v) ⊎ (v <ℤ limit) → raised limit a ≡ raised limit v
    by a v h k (inl l) = clash_ℤ k (raised≤ l (≤ℤ_refl v))
    by a v h k (inr l) = below limit a (≤ℤ-<ℤ_trans h l) ∙ sym (below limit v l)

lowers : (limit : ℤ) → Clamps (lowered limit)
lowers limit = record {
  ordered = λ {v} {w} h. ≤lowered (lowered≤limit limit v) (≤ℤ_trans (lowered≤level limit v) h);
  up = λ {a} {v} h k. clash_ℤ k (lowered≤level limit v);
  down = λ {v} {c} h k. by v c h k (≤ℤ_or-> v limit);
}
  where
    by : (v c : ℤ) → v ≤ℤ c → (lowered limit v) <ℤ v → (v ≤ℤ limit) ⊎ (limit <ℤ v) → lowered limit c ≡ lowered limit v
    by v c h k (inl l) = clash_ℤ k (≤lowered l (≤ℤ_refl v))
    by v c h k (inr l) = above limit c (<ℤ-≤ℤ_trans l h) ∙ sym (above limit v l)

-- f, then g: where both together move a level up, f does so or g does so to what f leaves
module _ {f g : ℤ → ℤ} (F : Clamps f) (G : Clamps g) where
  up_then : (a v : ℤ) → a ≤ℤ v → v <ℤ (g (f v)) → (f v ≤ℤ v) ⊎ (v <ℤ f v) → g (f a) ≡ g (f v)
  up_then a v h k (inl l) = G.up (F.ordered h) (≤ℤ-<ℤ_trans l k)
  up_then a v h k (inr l) = ap g (F.up h l)

  down_then : (v c : ℤ) → v ≤ℤ c → (g (f v)) <ℤ v → (v ≤ℤ f v) ⊎ (f v <ℤ v) → g (f c) ≡ g (f v)
  down_then v c h k (inl l) = G.down (F.ordered h) (<ℤ-≤ℤ_trans k l)
  down_then v c h k (inr l) = ap g (F.down h l)

  composed : Clamps (λ v. g (f v))
  composed = record {
    ordered = λ h. G.ordered (F.ordered h);
    up = λ {a} {v} h k. up_then a v h k (≤ℤ_or-> (f v) v);
    down = λ {v} {c} h k. down_then v c h k (≤ℤ_or-> v (f v));
  }

limited_clamps : (zs : List Zone) → Clamps (limited zs)
unfolding limited
limited_clamps [] = kept
limited_clamps (z ∷ zs) = composed (composed (raises (in_grains z.floor)) (lowers (in_grains z.ceiling))) (limited_clamps zs)

-- ---- that it is one clamp

-- from a to c, what clamps is the clamp between what becomes of a and of c
module _ {f : ℤ → ℤ} (F : Clamps f) (a v c : ℤ) (l : a ≤ℤ v) (r : v ≤ℤ c) where
  by : (f v ≤ℤ v) ⊎ (v <ℤ f v) → (v ≤ℤ f v) ⊎ (f v <ℤ v) → f v ≡ lowered (f c) (raised (f a) v)
  by (inl h) (inl k) = rw (not_below_lem (f a) v (≤ℤ_trans (F.ordered l) h), not_above_lem (f c) v (≤ℤ_trans k (F.ordered r))) (≤ℤ_antisym h k)
  by (inl h) (inr k) = rw (F.down r k, not_below_lem (f a) v (≤ℤ_trans (F.ordered l) h), above (f v) v k)
  by (inr h) _ = rw (F.up l h, below (f v) v h, not_above_lem (f c) (f v) (F.ordered r))

  one_clamp : f v ≡ lowered (f c) (raised (f a) v)
  one_clamp = by (≤ℤ_or-> (f v) v) (≤ℤ_or-> v (f v))

pub clamp : (zs : List Zone) (a level c : ℤ) → a ≤ℤ level → level ≤ℤ c → limited zs level ≡ lowered (limited zs c) (raised (limited zs a) level)
clamp zs a level c = one_clamp (limited_clamps zs) a level c
