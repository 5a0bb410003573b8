-- What one limit does to a level: where it holds it back, where it leaves it, and the order between the level before and after. Assumes nothing.
use mathlib.Core.Path.{◌≡◌, refl}
use lib.IntN.{ℤ}
use lib.Signed.{◌≤ℤ◌, ◌<ℤ◌, lt_z, lt_z_yes, lt_z_no, ≤ℤ_refl, clash_ℤ}
use Rattle.integers.proofs.Order.{cond_ind, <ℤ→≤ℤ}
use Rattle.sheet_zones.specs.Zones.{raised, lowered}

-- ---- raised

raised_ind : (limit level : ℤ) (P : ℤ → Type 0) → (level <ℤ limit → P limit) → (limit ≤ℤ level → P level) → P (raised limit level)
unfolding raised
raised_ind limit level P f g = cond_ind (lt_z level limit) limit level P (λ t. f (lt_z_yes t)) (λ t. g (lt_z_no t))

pub below : (limit level : ℤ) → level <ℤ limit → raised limit level ≡ limit
below limit level h = raised_ind limit level (λ z. z ≡ limit) (λ l. refl) (λ l. clash_ℤ h l)

pub not_below_lem : (limit level : ℤ) → limit ≤ℤ level → raised limit level ≡ level
not_below_lem limit level h = raised_ind limit level (λ z. z ≡ level) (λ l. clash_ℤ l h) (λ l. refl)

-- the least that is not below the limit nor the level
pub limit≤raised : (limit level : ℤ) → limit ≤ℤ (raised limit level)
limit≤raised limit level = raised_ind limit level (λ z. limit ≤ℤ z) (λ l. ≤ℤ_refl limit) (λ l. l)

pub level≤raised : (limit level : ℤ) → level ≤ℤ (raised limit level)
level≤raised limit level = raised_ind limit level (λ z. level ≤ℤ z) <ℤ→≤ℤ (λ l. ≤ℤ_refl level)

pub raised≤ : {limit level z : ℤ} → limit ≤ℤ z → level ≤ℤ z → (raised limit level) ≤ℤ z
raised≤ {limit} {level} {z} h k = raised_ind limit level (λ r. r ≤ℤ z) (λ l. h) (λ l. k)

-- ---- lowered

lowered_ind : (limit level : ℤ) (P : ℤ → Type 0) → (limit <ℤ level → P limit) → (level ≤ℤ limit → P level) → P (lowered limit level)
unfolding lowered
lowered_ind limit level P f g = cond_ind (lt_z limit level) limit level P (λ t. f (lt_z_yes t)) (λ t. g (lt_z_no t))

pub above : (limit level : ℤ) → limit <ℤ level → lowered limit level ≡ limit
above limit level h = lowered_ind limit level (λ z. z ≡ limit) (λ l. refl) (λ l. clash_ℤ h l)

pub not_above_lem : (limit level : ℤ) → level ≤ℤ limit → lowered limit level ≡ level
not_above_lem limit level h = lowered_ind limit level (λ z. z ≡ level) (λ l. clash_ℤ l h) (λ l. refl)

-- the greatest that is not above the limit nor the level
pub lowered≤limit : (limit level : ℤ) → (lowered limit level) ≤ℤ limit
lowered≤limit limit level = lowered_ind limit level (λ z. z ≤ℤ limit) (λ l. ≤ℤ_refl limit) (λ l. l)

pub lowered≤level : (limit level : ℤ) → (lowered limit level) ≤ℤ level
lowered≤level limit level = lowered_ind limit level (λ z. z ≤ℤ level) <ℤ→≤ℤ (λ l. ≤ℤ_refl level)

pub ≤lowered : {limit level z : ℤ} → z ≤ℤ limit → z ≤ℤ level → z ≤ℤ (lowered limit level)
≤lowered {limit} {level} {z} h k = lowered_ind limit level (λ r. z ≤ℤ r) (λ l. h) (λ l. k)
