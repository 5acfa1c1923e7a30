-- What the calls answer, as their definitions have it: a refusal is its number in document 01, "Turned down, in checking order". Then what an answer of the code is among these; `proofs/Answered` proves that two answers of the code that are the same here are the same.
use Rattle.std.specs.Prelude.{ℕ, ℤ, Result, Ok, Err}
use Rattle.model.specs.declared.Refusal.{Refusal}
use Rattle.model.specs.declared.Refusal.TheVariants.{WrongLengths, NotInForm, NotLaidOut, NoTimestamp, NoSetting, WrongProgramLength, Malformed, HeldOtherwise, Full, NotHeld, WithdrawnAlready, NoRoom, NoVersion, BelowCutoff, UnsettledBelow}
use Rattle.model.specs.declared.Outcome.{Outcome}
use Rattle.model.specs.declared.Outcome.TheVariants as outcome
use Rattle.model.specs.declared.Turn.{Turn}
use Rattle.model.specs.declared.Turn.TheVariants as turn
use Rattle.model.specs.declared.Standing as code

-- set up, take in, withdraw, take in a package, raise the cutoff, drain, plain run, start values
pub data Answer : Type 0 where
  Done : Answer
  -- the same timestamp is held with the same program
  Held : Answer
  Refused : ℕ → Answer

-- a turn: idle, or what was done with the change of a timestamp
pub data Turned : Type 0 where
  Idle : Turned
  Ran : ℕ → Turned
  Stood : ℕ → Turned
  Cleared : ℕ → Turned
  -- its run broke off at this place, counted from 0
  Faulted : ℕ → ℕ → Turned
  Refused : ℕ → Turned

-- current value, value as of a timestamp
pub data Value : Type 0 where
  Is : ℤ → Value
  Refused : ℕ → Value

-- the standing of a timestamp: status and flag
pub data Standing : Type 0 where
  At : ℕ → ℕ → Standing
  Refused : ℕ → Standing

-- package out: the length of what is written
pub data Packed : Type 0 where
  Length : ℕ → Packed
  Refused : ℕ → Packed

-- ---- answers of the code

-- the number of a refusal in document 01
abbrev pub refusal_number : Refusal → ℕ
refusal_number WrongLengths = 1
refusal_number NotInForm = 2
refusal_number NotLaidOut = 3
refusal_number NoTimestamp = 4
refusal_number NoSetting = 5
refusal_number WrongProgramLength = 6
refusal_number Malformed = 7
refusal_number HeldOtherwise = 8
refusal_number Full = 9
refusal_number NotHeld = 10
refusal_number WithdrawnAlready = 11
refusal_number NoRoom = 12
refusal_number NoVersion = 13
refusal_number BelowCutoff = 14
refusal_number UnsettledBelow = 15

-- the number of a test's refusal, or 0
abbrev pub number_in : Result (Unit {0}) Refusal → ℕ
number_in (Ok passed) = 0
number_in (Err refusal) = refusal_number refusal

-- of a call that is done where it is not refused
abbrev pub as_done : Result (Unit {0}) Refusal → Answer
as_done (Ok done) = Done
as_done (Err refusal) = Answer.Refused (refusal_number refusal)

abbrev pub as_answer : Result Outcome Refusal → Answer
as_answer (Ok outcome.Done) = Done
as_answer (Ok outcome.Held) = Held
as_answer (Err refusal) = Answer.Refused (refusal_number refusal)

abbrev pub as_turn : Turn → Turned
as_turn turn.Idle = Idle
as_turn (turn.Ran t) = Ran t
as_turn (turn.Stood t) = Stood t
as_turn (turn.Cleared t) = Cleared t
as_turn (turn.Faulted t place) = Faulted t place

abbrev pub as_turned : Result Turn Refusal → Turned
as_turned (Ok turn) = as_turn turn
as_turned (Err refusal) = Turned.Refused (refusal_number refusal)

abbrev pub as_value : Result ℤ Refusal → Value
as_value (Ok v) = Is v
as_value (Err refusal) = Value.Refused (refusal_number refusal)

abbrev pub as_standing : Result code.Standing Refusal → Standing
as_standing (Ok standing) = At standing.status standing.withdrawn
as_standing (Err refusal) = Standing.Refused (refusal_number refusal)

abbrev pub as_packed : Result ℕ Refusal → Packed
as_packed (Ok size) = Length size
as_packed (Err refusal) = Packed.Refused (refusal_number refusal)
