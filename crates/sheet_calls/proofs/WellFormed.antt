-- The accepted sheets are the well-formed ones, condition by condition; and the longest. Assumes nothing.
use Prim.Native.Nat.{ℕ, ◌≤◌}
use mathlib.Core.Path.{sym}
use mathlib.Core.List.{List}
use native.Mathlib.Nat.{mul-le-mul, le_of_eq}
use native.Mathlib.Omega.{arith}
use lib.ListN.{length}
use Rattle.sheet_layout.specs.Format.{header_size, nodes_offset, stated_size}
use Rattle.sheet_calls.specs.Refusals.{Accepted}
use Rattle.sheet_calls.specs.WellFormed.{WellFormed, AcceptedLaws}
use Rattle.sheet_calls.proofs.Conditions.{condition_laws}
use Rattle.sheet_calls.proofs.Chains.{accepted_is, check_is}
use Rattle.sheet_calls.proofs.Cut.{cut_refusal}

sound : (s : List ℕ) → Accepted s → WellFormed s
sound s a =
    let mark = (condition_laws.one s).0 a.one in
    let counts = (condition_laws.three s).0 a.three in
    let lines = (condition_laws.five s).0 a.five in
    record {
      mark_l = mark.1;
      mark_v = mark.2;
      mark_s = mark.3;
      version_one = (condition_laws.two s).0 a.two;
      few_columns = counts.0;
      many_columns = counts.1;
      few_rows = counts.2;
      many_rows = counts.3;
      blank = counts.4;
      whole = (condition_laws.four s).0 a.four;
      rising_x = lines.0;
      rising_y = lines.1;
      ranges = λ i j h k. (condition_laws.six s).0 a.six j k i h;
    }

complete : (s : List ℕ) → WellFormed s → Accepted s
complete s w = record {
  one = (condition_laws.one s).1 (omega (arith, w.whole), w.mark_l, w.mark_v, w.mark_s);
  two = (condition_laws.two s).1 w.version_one;
  three = (condition_laws.three s).1 (w.few_columns, w.many_columns, w.few_rows, w.many_rows, w.blank);
  four = (condition_laws.four s).1 w.whole;
  five = (condition_laws.five s).1 (w.rising_x, w.rising_y);
  six = (condition_laws.six s).1 (λ j b i a. w.ranges i j a b);
}

longest : (s : List ℕ) → Accepted s → length s ≤ 25618
longest s a = let w = sound s a in omega (arith, w.whole, w.many_columns, w.many_rows, mul-le-mul w.many_columns w.many_rows)

pub accepted_laws : AcceptedLaws
accepted_laws = record { unrefused = accepted_is; checked = λ s. rw (check_is s) (accepted_is s); sound = sound; complete = complete; longest = longest; cut = cut_refusal }

-- so its header, its lines and its nodes can be read
pub header_there : (s : List ℕ) → Accepted s → header_size ≤ length s
header_there s a = omega (arith, (sound s a).whole)

pub lines_there : (s : List ℕ) → Accepted s → nodes_offset s ≤ length s
lines_there s a = omega (arith, (sound s a).whole)

pub nodes_there : (s : List ℕ) → Accepted s → stated_size s ≤ length s
nodes_there s a = le_of_eq (sym (sound s a).whole)
