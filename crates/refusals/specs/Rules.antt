-- A call: the refusals that it can meet, in order, each with its condition, and what it does where none applies.
use Rattle.std.specs.Prelude.{ℕ, Bool, List, [], ◌∷◌, ◌++◌}
use Rattle.std.specs.declared.result.Result.{Result}
use Rattle.std.proofs.Math.Option.{Option, none, some}
use Rattle.wire.specs.Bytes.{pick}
use Rattle.refusals.specs.declared.Refusal.{Refusal}
use Rattle.refusals.specs.declared.Refusal.TheVariants.{
  BadHead,
  BadMark,
  Unrecovered,
  BadLog,
  UnsoundHome,
  SpaceLength,
  UnsoundSpace,
  Listed,
  Unknown,
  ListFull,
  TagsFull,
  NoRoom,
  LogShort,
  Sizes,
  OutputShort,
  PitFull,
  BuildingFull,
}

-- "a numbered answer"
abbrev pub number_of : Refusal → ℕ
number_of BadHead = 1
number_of BadMark = 2
number_of Unrecovered = 3
number_of BadLog = 4
number_of UnsoundHome = 5
number_of SpaceLength = 6
number_of UnsoundSpace = 7
number_of Listed = 8
number_of Unknown = 9
number_of ListFull = 10
number_of TagsFull = 11
number_of NoRoom = 12
number_of LogShort = 13
number_of Sizes = 14
number_of OutputShort = 15
number_of PitFull = 17
number_of BuildingFull = 19

-- what an edit, a count or a merge answers: a number of records, or its refusal
abbrev pub Answer : Type 0
Answer = Result ℕ Refusal

pub data Rule : Type 0 where
  rule : Refusal → Bool → Rule

-- by the first rule that applies, or as it stands without one
unfoldable pub first : {A : Type 0} → (Refusal → A) → List Rule → A → A
first f [] a = a
first f (rule r b ∷ rs) a = pick b (f r) (first f rs a)

-- the refusal
abbrev pub refusal : List Rule → Option Refusal
refusal rs = first some rs none

-- the numbers of a list of rules, in its order
unfoldable pub numbers : List Rule → List ℕ
numbers [] = []
numbers (rule r b ∷ rs) = number_of r ∷ numbers rs

-- a call's rules, and what it answers and leaves in the bytes lent to write where none applies
pub record Ruled (A : Type 0) : Type 0 where
  pub rules : List Rule
  pub answer : A
  pub bytes : List ℕ

-- what it answers: "where none applies the call isn't refused"
abbrev pub answered : {A : Type 0} → (Refusal → A) → Ruled A → A
answered f c = first f c.rules c.answer

-- what it leaves of the bytes: "Every refusal leaves all lent bytes unchanged"
abbrev pub left : {A : Type 0} → Ruled A → List ℕ → List ℕ
left c old = first (λ r. old) c.rules c.bytes

-- the same call behind the rules of what it is lent
abbrev pub behind : {A : Type 0} → List Rule → Ruled A → Ruled A
behind gs c = record { rules = gs ++ c.rules; answer = c.answer; bytes = c.bytes }
