-- The tests of document 01, "Turned down, in checking order". A call lists its tests in this order; the first that applies is its refusal.
use Rattle.std.specs.Prelude.{Bool, true, false, cond, not, ◌&&◌, ◌||◌, List, [], ◌∷◌, ℕ, eqb, ltb, leb, length}
use Rattle.std.proofs.Math.Option.{Option, none, some}
use Rattle.machine.specs.Settings.{setting_count}
use Rattle.machine.specs.Instruction.{Code}
use Rattle.machine.specs.Form.{length_fits, all_well_formed}
use Rattle.model.specs.History.{is_timestamp, Status, New, Valid, Invalid, Change, timestamp, program, status, withdrawn, History}
use Rattle.model.specs.Cabinet.{Cabinet, history_of, find}
use Rattle.model.specs.Tables.{Tables}
use Rattle.model.specs.Form.{every, lengths_fit, in_form}
use Rattle.model.specs.Package.{entry_limit, byte_limit}

-- the number of a refusal, and whether it applies
pub record Test : Type 0 where
  pub number : ℕ
  pub applies : Bool

abbrev pub test : ℕ → Bool → Test
test n b = record { number = n; applies = b }

-- the first refusal that applies, or 0
abbrev pub first_of : List Test → ℕ
first_of [] = 0
first_of (t ∷ tests) = cond t.applies t.number (first_of tests)

-- 1: a lent slice has another length than stated, or N is outside 1 to 4,096
abbrev pub wrong_lengths : ℕ → Tables → Test
wrong_lengths n T = test 1 (not (lengths_fit n T))

-- the same of a call that is lent one slice more
abbrev pub wrong_length : ℕ → Tables → ℕ → ℕ → Test
wrong_length n T lent stated = test 1 (not (lengths_fit n T && eqb lent stated))

-- 2: the tables are not in form
abbrev pub not_in_form : ℕ → Tables → Test
not_in_form n T = test 2 (not (in_form n T))

-- the refusal of the tables themselves: 1, 2, or 0
abbrev pub fault_of : ℕ → Tables → ℕ
fault_of n T = first_of (wrong_lengths n T ∷ not_in_form n T ∷ [])

-- 4: the timestamp is 0 or 2^64 − 1; value as of allows 2^64 − 1
abbrev pub no_timestamp : ℕ → Test
no_timestamp t = test 4 (not (is_timestamp t))

abbrev pub no_time : ℕ → Test
no_time t = test 4 (eqb t 0)

-- 14: "just after 4, meets a timestamp below the cutoff in any call, a lower new cutoff included" (document 02, R-7)
abbrev pub below_cutoff : ℕ → ℕ → Test
below_cutoff cutoff t = test 14 (ltb t cutoff)

-- 5: the setting number is above 1,023
abbrev pub no_setting : ℕ → Test
no_setting s = test 5 (leb setting_count s)

-- 6: the program is over 256 bytes or no multiple of 8
abbrev pub wrong_program_length : Code → Test
wrong_program_length p = test 6 (not (length_fits p.bytes))

-- 13: the version is above 1 (document 02, R-6: "A direct call with a version above 1 gets refusal 13, just after 6")
abbrev pub no_version : Code → Test
no_version p = test 13 (not (leb p.version 1))

-- 7: an instruction is not in the table, or a register, n or unused part is wrong
abbrev pub malformed : Code → Test
malformed p = test 7 (not (all_well_formed p.bytes))

-- are two lists the same bytes
abbrev pub same_bytes : List ℕ → List ℕ → Bool
same_bytes [] [] = true
same_bytes [] (y ∷ ys) = false
same_bytes (x ∷ xs) [] = false
same_bytes (x ∷ xs) (y ∷ ys) = eqb x y && same_bytes xs ys

-- are two programs the same: "The version is part of the program when a timestamp is already held" (document 02, R-6)
abbrev pub same_program : Code → Code → Bool
same_program p q = eqb p.version q.version && same_bytes p.bytes q.bytes

abbrev pub is_held : Option Change → Bool
is_held none = false
is_held (some c) = true

abbrev pub holds_other : Option Change → Code → Bool
holds_other none p = false
holds_other (some c) p = not (same_program (program c) p)

abbrev pub is_withdrawn : Option Change → Bool
is_withdrawn none = false
is_withdrawn (some c) = withdrawn c

-- 8: the timestamp is held with another program
abbrev pub held_otherwise : Cabinet → ℕ → Code → Test
held_otherwise c t p = test 8 (holds_other (find t (history_of c)) p)

-- 9: the held count equals N and the timestamp is not held
abbrev pub full : ℕ → Cabinet → ℕ → Test
full n c t = test 9 (leb n (length c.changes) && not (is_held (find t (history_of c))))

-- 10: the timestamp is not held
abbrev pub not_held : Cabinet → ℕ → Test
not_held c t = test 10 (not (is_held (find t (history_of c))))

-- 11: the change is withdrawn already
abbrev pub withdrawn_already : Cabinet → ℕ → Test
withdrawn_already c t = test 11 (is_withdrawn (find t (history_of c)))

-- does a change of this status wait for a turn
abbrev pub waits : Status → Bool
waits New = true
waits Valid = false
waits Invalid = true

abbrev pub waits_below : ℕ → History → Bool
waits_below t [] = false
waits_below t (c ∷ h) = (ltb (timestamp c) t && waits (status c)) || waits_below t h

-- 15: "after 11, meets a cutoff with a New or Invalid change below it" (document 02, R-7)
abbrev pub unsettled_below : Cabinet → ℕ → Test
unsettled_below c t = test 15 (waits_below t (history_of c))

-- 12: "the package would pass its own limits or the lent slice" (document 02, R-3): it would have more than 512 entries, more than 65,535 bytes, or more bytes than are lent
abbrev pub no_room : ℕ → ℕ → ℕ → Test
no_room entries size lent = test 12 (not (every (leb entries entry_limit ∷ leb size byte_limit ∷ leb size lent ∷ [])))
