-- Two answers of the code that are the same to the definitions are the same: no two refusals have the same number, and none has 0.
use Rattle.std.specs.Prelude.{◌≡◌, refl, ℕ, ℤ, [], ◌∷◌, get_or, Result, Ok, Err}
use Rattle.std.proofs.Common.{sym, ap, ◌∙◌, arith}
use Rattle.model.specs.declared.Refusal.{Refusal}
use Rattle.model.specs.declared.Refusal.TheVariants.{WrongLengths, NotInForm, NotLaidOut, NoTimestamp, NoSetting, WrongProgramLength, Malformed, HeldOtherwise, Full, NotHeld, WithdrawnAlready, NoRoom, NoVersion, BelowCutoff, UnsettledBelow}
use Rattle.model.specs.declared.Outcome.{Outcome}
use Rattle.model.specs.declared.Outcome.TheVariants as outcome
use Rattle.model.specs.declared.Turn.{Turn}
use Rattle.model.specs.declared.Turn.TheVariants as turn
use Rattle.model.specs.declared.Standing as code
use Rattle.model.specs.Answers.{Answer, Done, Held, Turned, Idle, Ran, Stood, Cleared, Faulted, Value, Is, Standing, At, Packed, Length, refusal_number, as_done, as_answer, as_turn, as_turned, as_value, as_standing, as_packed}

pub refused-not-0 : (r : Refusal) → refusal_number r ≡ 0 → ⊥
refused-not-0 WrongLengths e = absurd (omega arith)
refused-not-0 NotInForm e = absurd (omega arith)
refused-not-0 NotLaidOut e = absurd (omega arith)
refused-not-0 NoTimestamp e = absurd (omega arith)
refused-not-0 NoSetting e = absurd (omega arith)
refused-not-0 WrongProgramLength e = absurd (omega arith)
refused-not-0 Malformed e = absurd (omega arith)
refused-not-0 HeldOtherwise e = absurd (omega arith)
refused-not-0 Full e = absurd (omega arith)
refused-not-0 NotHeld e = absurd (omega arith)
refused-not-0 WithdrawnAlready e = absurd (omega arith)
refused-not-0 NoRoom e = absurd (omega arith)
refused-not-0 NoVersion e = absurd (omega arith)
refused-not-0 BelowCutoff e = absurd (omega arith)
refused-not-0 UnsettledBelow e = absurd (omega arith)

-- ---- what is told apart

-- a function that can be undone tells all apart
apart : {A B : Type 0} (f : A → B) (g : B → A) → ((a : A) → g (f a) ≡ a) → {a b : A} → f a ≡ f b → a ≡ b
apart f g undone {a} {b} e = sym (undone a) ∙ ap g e ∙ undone b

abbrev refusal_at : ℕ → Refusal
refusal_at n = get_or (WrongLengths ∷ WrongLengths ∷ NotInForm ∷ NotLaidOut ∷ NoTimestamp ∷ NoSetting ∷ WrongProgramLength ∷ Malformed ∷ HeldOtherwise ∷ Full ∷ NotHeld ∷ WithdrawnAlready ∷ NoRoom ∷ NoVersion ∷ BelowCutoff ∷ UnsettledBelow ∷ []) n WrongLengths

numbered : (r : Refusal) → refusal_at (refusal_number r) ≡ r
numbered WrongLengths = refl
numbered NotInForm = refl
numbered NotLaidOut = refl
numbered NoTimestamp = refl
numbered NoSetting = refl
numbered WrongProgramLength = refl
numbered Malformed = refl
numbered HeldOtherwise = refl
numbered Full = refl
numbered NotHeld = refl
numbered WithdrawnAlready = refl
numbered NoRoom = refl
numbered NoVersion = refl
numbered BelowCutoff = refl
numbered UnsettledBelow = refl

pub refusals-apart : {r s : Refusal} → refusal_number r ≡ refusal_number s → r ≡ s
refusals-apart = apart refusal_number refusal_at numbered

abbrev done_back : Answer → Result (Unit {0}) Refusal
done_back Done = Ok tt
done_back Held = Ok tt
done_back (Answer.Refused n) = Err (refusal_at n)

pub dones-apart : {a b : Result (Unit {0}) Refusal} → as_done a ≡ as_done b → a ≡ b
dones-apart = apart as_done done_back back
  where
    back : (a : Result (Unit {0}) Refusal) → done_back (as_done a) ≡ a
    back (Ok done) = refl
    back (Err r) = ap Err (numbered r)

abbrev answer_back : Answer → Result Outcome Refusal
answer_back Done = Ok outcome.Done
answer_back Held = Ok outcome.Held
answer_back (Answer.Refused n) = Err (refusal_at n)

pub answers-apart : {a b : Result Outcome Refusal} → as_answer a ≡ as_answer b → a ≡ b
answers-apart = apart as_answer answer_back back
  where
    back : (a : Result Outcome Refusal) → answer_back (as_answer a) ≡ a
    back (Ok outcome.Done) = refl
    back (Ok outcome.Held) = refl
    back (Err r) = ap Err (numbered r)

abbrev turned_back : Turned → Result Turn Refusal
turned_back Idle = Ok turn.Idle
turned_back (Ran t) = Ok (turn.Ran t)
turned_back (Stood t) = Ok (turn.Stood t)
turned_back (Cleared t) = Ok (turn.Cleared t)
turned_back (Faulted t place) = Ok (turn.Faulted t place)
turned_back (Turned.Refused n) = Err (refusal_at n)

pub turneds-apart : {a b : Result Turn Refusal} → as_turned a ≡ as_turned b → a ≡ b
turneds-apart = apart as_turned turned_back back
  where
    back : (a : Result Turn Refusal) → turned_back (as_turned a) ≡ a
    back (Ok turn.Idle) = refl
    back (Ok (turn.Ran t)) = refl
    back (Ok (turn.Stood t)) = refl
    back (Ok (turn.Cleared t)) = refl
    back (Ok (turn.Faulted t place)) = refl
    back (Err r) = ap Err (numbered r)

abbrev turn_back : Turned → Turn
turn_back Idle = turn.Idle
turn_back (Ran t) = turn.Ran t
turn_back (Stood t) = turn.Stood t
turn_back (Cleared t) = turn.Cleared t
turn_back (Faulted t place) = turn.Faulted t place
turn_back (Turned.Refused n) = turn.Idle

pub turns-apart : {a b : Turn} → as_turn a ≡ as_turn b → a ≡ b
turns-apart = apart as_turn turn_back back
  where
    back : (a : Turn) → turn_back (as_turn a) ≡ a
    back turn.Idle = refl
    back (turn.Ran t) = refl
    back (turn.Stood t) = refl
    back (turn.Cleared t) = refl
    back (turn.Faulted t place) = refl

abbrev value_back : Value → Result ℤ Refusal
value_back (Is v) = Ok v
value_back (Value.Refused n) = Err (refusal_at n)

pub values-apart : {a b : Result ℤ Refusal} → as_value a ≡ as_value b → a ≡ b
values-apart = apart as_value value_back back
  where
    back : (a : Result ℤ Refusal) → value_back (as_value a) ≡ a
    back (Ok v) = refl
    back (Err r) = ap Err (numbered r)

abbrev standing_back : Standing → Result code.Standing Refusal
standing_back (At s w) = Ok (record { status = s; withdrawn = w })
standing_back (Standing.Refused n) = Err (refusal_at n)

pub standings-apart : {a b : Result code.Standing Refusal} → as_standing a ≡ as_standing b → a ≡ b
standings-apart = apart as_standing standing_back back
  where
    back : (a : Result code.Standing Refusal) → standing_back (as_standing a) ≡ a
    back (Ok s) = refl
    back (Err r) = ap Err (numbered r)

abbrev packed_back : Packed → Result ℕ Refusal
packed_back (Length size) = Ok size
packed_back (Packed.Refused n) = Err (refusal_at n)

pub packeds-apart : {a b : Result ℕ Refusal} → as_packed a ≡ as_packed b → a ≡ b
packeds-apart = apart as_packed packed_back back
  where
    back : (a : Result ℕ Refusal) → packed_back (as_packed a) ≡ a
    back (Ok size) = refl
    back (Err r) = ap Err (numbered r)
