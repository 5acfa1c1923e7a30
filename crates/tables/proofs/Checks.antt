-- Laws of the tests of lengths and of form: of several tests joined, and of the refusals.
use mathlib.Core.Path.{◌≡◌, refl, sym, ap, ap₂, ◌∙◌}
use mathlib.Core.Bool.{Bool, true, false, ◌&&◌, and-true, and_assoc}
use mathlib.Core.List.{List, [], ◌∷◌}
use Prim.Native.Nat.{ℕ, ◌≤◌, ◌<◌}
use native.Mathlib.Omega.{arith}
use borrow.Author.Tests.{le-leb, lt-leb}
use lib.Dec.{leb, ltb}
use lib.ListN.{drop}
use Rattle.general.specs.Lists.{all_below}
use Rattle.model.specs.History.{infinity}
use Rattle.model.specs.Tables.{Tables, held_count, cutoff_in}
use Rattle.model.specs.Form.{every, length_tests, lengths_fit, head_fits, order_fits, program_fits, list_fits, from_cutoff, unused_fits, in_form}
use Rattle.model.specs.Refusals.{fault_of}
use Rattle.model.proofs.Tests.{Lengths, lengths-of}

-- ---- several tests

-- tests joined one by one, as the code joins them
abbrev pub conjoined : Bool → List Bool → Bool
conjoined a [] = a
conjoined a (b ∷ tests) = conjoined (a && b) tests

join : (a : Bool) (tests : List Bool) → conjoined a tests ≡ (a && every tests)
join a [] = sym (and-true a)
join a (b ∷ tests) = join (a && b) tests ∙ and_assoc a b (every tests)

all-joined : {l tests : List Bool} → l ≡ tests → conjoined true l ≡ every tests
all-joined {l} e = join true l ∙ ap every e

-- results that are the tests, one after the other
infixr 20 ◌and◌
◌and◌ : {a b : Bool} {l m : List Bool} → a ≡ b → l ≡ m → ◌≡◌ {A = List Bool} (a ∷ l) (b ∷ m)
e and es = ap₂ ◌∷◌ e es

no_more : ◌≡◌ {A = List Bool} [] []
no_more = refl

-- ---- lengths and form

-- the lengths, where the test of them passed
pub sized : (n : ℕ) (T : Tables) → true ≡ lengths_fit n T → Lengths n T
sized n T e = lengths-of n T (sym e)

module _ (n : ℕ) (T : Tables) where
  -- the capacity is out of range
  pub out_of_range : (leb 1 n && leb n 4096) ≡ false → false ≡ lengths_fit n T
  unfolding lengths_fit
  out_of_range e = rw e at (join true (length_tests n T))

  -- it is in range, and the tests of the lengths are joined one by one
  pub lengths-tested : (leb 1 n && leb n 4096) ≡ true → conjoined true (drop 2 (length_tests n T)) ≡ lengths_fit n T
  unfolding lengths_fit
  lengths-tested e = rw e at (join true (length_tests n T))

module _ (n : ℕ) (T : Tables) {k : ℕ} (e : k ≡ held_count T) where
  -- more changes are held than there are places
  pub over-capacity : n < k → in_form n T ≡ false
  unfolding in_form
  over-capacity h = rw (lt-leb (held_count T) n (omega arith))

  -- the tests of form, joined one by one
  pub form-tested :
      {heads order programs reads writes unused cut uncut : Bool}
      → k ≤ n
      → heads ≡ all_below k (head_fits T.timestamps T.status T.withdrawn T.reads T.writes T.versions)
      → order ≡ all_below k (order_fits T.order T.timestamps k)
      → programs ≡ all_below k (program_fits T.lengths T.programs)
      → reads ≡ all_below k (list_fits T.reads T.sources T.seen)
      → writes ≡ all_below k (list_fits T.writes T.targets T.written)
      → unused ≡ unused_fits T k
      → cut ≡ ltb (cutoff_in T) infinity
      → uncut ≡ all_below k (from_cutoff (cutoff_in T) T.timestamps)
      → (heads && order && programs && reads && writes && unused && cut && uncut) ≡ in_form n T
  unfolding in_form
  form-tested = rw e (λ few heads order programs reads writes unused cut uncut. all-joined (sym (le-leb (held_count T) n few) and heads and order and programs and reads and writes and unused and cut and uncut and no_more))

-- the refusal, by the two tests
module _ (n : ℕ) (T : Tables) where
  pub form-wrong : lengths_fit n T ≡ true → in_form n T ≡ false → 2 ≡ fault_of n T
  form-wrong e f = rw (e, f)

  pub none-wrong : lengths_fit n T ≡ true → in_form n T ≡ true → 0 ≡ fault_of n T
  none-wrong e f = rw (e, f)
