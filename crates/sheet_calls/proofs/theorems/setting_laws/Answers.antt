-- `sheet_calls::theorems::setting_laws` meets its contract. Assumes nothing.
use mathlib.Core.Path.{refl}
use Rattle.sheet_calls.proofs.Setting.{setting_laws}
use Rattle.sheet_calls.proofs.theorems.setting_laws.Goals as goal

pub returns : goal.returns
returns c = (refl, setting_laws)
