-- The answer to a taking in, by its tests in order.
use mathlib.Core.Path.{◌≡◌, refl}
use mathlib.Core.Bool.{Bool, true, false, cond, not, ◌&&◌}
use mathlib.Core.List.{[], ◌∷◌}
use mathlib.Core.Option.{none, some}
use Prim.Native.Nat.{ℕ, ◌≤◌, ◌<◌}
use native.Mathlib.Omega.{arith}
use borrow.Author.Tests.{ne_eqb, le-leb, lt-leb, not-false}
use lib.Dec.{leb, ltb}
use lib.ListN.{length}
use Rattle.machine.specs.Instruction.{Code}
use Rattle.machine.specs.Form.{length_fits, all_well_formed}
use Rattle.model.specs.Answers.{Answer}
use Rattle.model.specs.History.{is_timestamp, Change, program}
use Rattle.model.specs.Cabinet.{Cabinet, history_of, find}
use Rattle.model.specs.Refusals.{first_of, same_program, held_otherwise, full}
use Rattle.model.specs.Package.{taking}
use Rattle.model.specs.Calls.{unless_read, item_answer}
use Rattle.model.proofs.Items.{none-applies}
use Rattle.tables.proofs.Faults.{first-refusal}
use Rattle.item_tests.specs.ItemTests.{argument_tests, compared_answer}

-- refusals 4, 14, 6, 13 and 7 do not apply
pub record Acceptable (cutoff t : ℕ) (p : Code) : Type 0 where
  pub stamped : is_timestamp t ≡ true
  pub from : ltb t cutoff ≡ false
  pub sized : length_fits p.bytes ≡ true
  pub versioned : leb p.version 1 ≡ true
  pub formed : all_well_formed p.bytes ≡ true

pub acceptable : (cutoff t : ℕ) (p : Code) → first_of (argument_tests cutoff t p) ≡ 0 → Acceptable cutoff t p
acceptable cutoff t p e =
    let z = none-applies (argument_tests cutoff t p) (omega arith) e in
    record { stamped = not-false _ z.0; from = z.1.0; sized = not-false _ z.1.1.0; versioned = not-false _ z.1.1.1.0; formed = not-false _ z.1.1.1.1.0 }

-- a held timestamp, by the test of the program and the one of the held count, which does not matter then
by_tests : (same full : Bool) → cond same Answer.Held (Answer.Refused 8) ≡ unless_read (cond (not same) 8 (cond (full && false) 9 0)) Answer.Refused Answer.Held
by_tests true true = refl
by_tests true false = refl
by_tests false full = refl

module _ (n : ℕ) (c : Cabinet) (t : ℕ) (p : Code) where
  -- refused by themselves
  pub refused : {r : ℕ} → r ≡ first_of (argument_tests c.cutoff t p) → (r ≡ 0 → ⊥) → Answer.Refused r ≡ item_answer n c (taking t p)
  unfolding item_answer
  refused e f = rw (← first-refusal (argument_tests c.cutoff t p) (held_otherwise c t p ∷ full n c t ∷ []) e f, ne_eqb _ 0 f)

  module _ (a : Acceptable c.cutoff t p) where
    -- the timestamp is held
    pub compared : {u : Change} → find t (history_of c) ≡ some u → compared_answer (program u) p ≡ item_answer n c (taking t p)
    unfolding item_answer
    compared {u} e = rw (a.stamped, a.from, a.sized, a.versioned, a.formed, e) (by_tests (same_program (program u) p) (leb n (length c.changes)))

    -- it is not, and no place or one is left
    pub none_left : find t (history_of c) ≡ none → n ≤ length c.changes → Answer.Refused 9 ≡ item_answer n c (taking t p)
    unfolding item_answer
    none_left e h = rw (a.stamped, a.from, a.sized, a.versioned, a.formed, e, le-leb n _ h)

    pub place-left : find t (history_of c) ≡ none → length c.changes < n → Answer.Done ≡ item_answer n c (taking t p)
    unfolding item_answer
    place-left e h = rw (a.stamped, a.from, a.sized, a.versioned, a.formed, e, lt-leb n _ h)
