-- The number of each refusal, and that of an answer: 0 where the call was accepted.
use Rattle.std.specs.Prelude.{ℕ, Ok, Err}
use Rattle.std.specs.declared.result.Result.{Result}
use Rattle.causes.specs.declared.Refusal.{Refusal}
use Rattle.causes.specs.declared.Refusal.TheVariants.{WrongSites, WrongItems, NoSuchPrimary, WrongMask, Cycle, NoState, NoSuchSite, WrongOperations, UnknownOperation, NoCopy, NotPrimary, HistoryFull, LineFull, CountFull, HasParents, EpochNotAbove, NoSuchLine, NothingOnTheWay, NoParents, ParentSilent, NoFile, WrongDistance, InvalidFile, NoSuchRecord, BufferTooShort, NoSuchRead}

abbrev pub refusal_number : Refusal → ℕ
refusal_number WrongSites = 1
refusal_number WrongItems = 2
refusal_number NoSuchPrimary = 3
refusal_number WrongMask = 4
refusal_number Cycle = 5
refusal_number NoState = 6
refusal_number NoSuchSite = 7
refusal_number WrongOperations = 8
refusal_number UnknownOperation = 9
refusal_number NoCopy = 10
refusal_number NotPrimary = 11
refusal_number HistoryFull = 12
refusal_number LineFull = 13
refusal_number CountFull = 14
refusal_number HasParents = 15
refusal_number EpochNotAbove = 16
refusal_number NoSuchLine = 17
refusal_number NothingOnTheWay = 18
refusal_number NoParents = 19
refusal_number ParentSilent = 20
refusal_number NoFile = 21
refusal_number WrongDistance = 22
refusal_number InvalidFile = 23
refusal_number NoSuchRecord = 24
refusal_number BufferTooShort = 25
refusal_number NoSuchRead = 26

abbrev pub number_of : {A : Type 0} → Result A Refusal → ℕ
number_of (Ok a) = 0
number_of (Err refusal) = refusal_number refusal

-- what a part of an answer is: that of an accepted call, and in its place d where the call is refused
abbrev pub answered : {A B : Type 0} → B → (A → B) → Result A Refusal → B
answered d part (Ok a) = part a
answered d part (Err refusal) = d
