-- `sheet_zoning::stretch` meets its contract. Assumes nothing.
use Rattle.std.proofs.Common.{arith}
use Rattle.sheet_zoning.proofs.Turns.{same_zones}
use Rattle.sheet_zoning.proofs.stretch.Goals as goal

pub returns : goal.returns
returns c = let i = c.loop-k.invariant in (
  i.0,
  i.1,
  record { same = λ n m. same_zones c.args.zones.now _ _ _ (λ j h. (i.2 j (omega arith)).same n m) },
)
