-- The laws of pools. Assumes nothing.
use Rattle.sheet_pool.specs.PoolLaws.{PoolLaws}
use Rattle.sheet_pool.proofs.Conditions.{numbers, fifteen, sixteen, seventeen, eleven}
use Rattle.sheet_pool.proofs.Chain.{refused_is}
use Rattle.sheet_pool.proofs.Pooled.{pools, left_size}
use Rattle.sheet_pool.proofs.SameBytes.{same_bytes_lem}
use Rattle.sheet_pool.proofs.Orders.{either_order_lem, any_order_lem, with_zeros_lem, zeros_before_lem, zeros_taken_lem}

pub pool_laws : PoolLaws
pool_laws = record {
  numbers = numbers;
  fifteen = fifteen;
  sixteen = sixteen;
  seventeen = seventeen;
  eleven = eleven;
  pools = pools;
  refused = refused_is;
  size = left_size;
  same_bytes = same_bytes_lem;
  either_order = either_order_lem;
  any_order = any_order_lem;
  with_zeros = with_zeros_lem;
  zeros_before = zeros_before_lem;
  zeros_taken = zeros_taken_lem;
}
