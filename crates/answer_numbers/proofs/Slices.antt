-- A turn with its lent slice: a law for each return.
use mathlib.Core.Path.{◌≡◌}
use mathlib.Core.List.{List}
use Prim.Native.Nat.{ℕ}
use borrow.Author.Tests.{eq-eqb, ne_eqb}
use lib.ListN.{length}
use Rattle.model.specs.Answers.{Turned}
use Rattle.model.specs.Tables.{Tables}
use Rattle.model.specs.Calls.{turned_given, reply, turn}
use Rattle.answer_numbers.proofs.Numbers.{same_answer, of-call}
use Rattle.answer_numbers.specs.Numbers.{turned_number, answering, Numbered, numbered, given_numbers, turn_numbers}

module _ (n : ℕ) (T : Tables) (slice : List ℕ) where
  -- the slice has another length
  pub turn-length : (length slice ≡ 2 → ⊥) → reply (numbered 17 slice) T ≡ turn_numbers n T slice
  unfolding turn_numbers
  turn-length f = rw (ne_eqb (length slice) 2 f)

  -- the call is made
  pub turn-done : length slice ≡ 2 → {a : Turned} {U : Tables} {after : Numbered ℕ} → after ≡ given_numbers turned_number slice (turned_given a) → reply a U ≡ turn n T → reply after U ≡ turn_numbers n T slice
  unfolding turn_numbers
  turn-done e h q = rw (eq-eqb (length slice) 2 e) (of-call (answering (λ a. given_numbers turned_number slice (turned_given a))) (same_answer h) q)
