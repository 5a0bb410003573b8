-- The number of each refusal (01, "When the server declines", and 02), and of what a call answers: 0 where it is not refused.
use Rattle.std.specs.Prelude.{ℕ, ◌≡◌, Result, Ok, Err}
use Rattle.sheet_calls.specs.declared.refusal.Refusal.{Refusal}
use Rattle.sheet_calls.specs.declared.refusal.Refusal.TheVariants.{OtherMark, OtherVersion, OtherCounts, OtherLength, WrongLines, WrongNodes, Outside, EmptyRun, OtherKind, NoNode, WrongNumbers, TooStiff, TooSteep, ShortList, SecondRefused, OtherLines, OtherSize, OtherZones, WrongZone}

abbrev pub number : Refusal → ℕ
number OtherMark = 1
number OtherVersion = 2
number OtherCounts = 3
number OtherLength = 4
number WrongLines = 5
number WrongNodes = 6
number Outside = 7
number EmptyRun = 8
number OtherKind = 9
number NoNode = 10
number WrongNumbers = 11
number TooStiff = 12
number TooSteep = 13
number ShortList = 14
number SecondRefused = 15
number OtherLines = 16
number OtherSize = 17
number OtherZones = 18
number WrongZone = 19

abbrev pub refusal_number : {A : Type 0} → Result A Refusal → ℕ
refusal_number (Ok _) = 0
refusal_number (Err refusal) = number refusal

-- a call is refused with the number n
pub record RefusedWith {A : Type 0} (r : Result A Refusal) (n : ℕ) : Type 0 where
  pub refusal : Refusal
  pub is : r ≡ Err refusal
  pub numbered : number refusal ≡ n
