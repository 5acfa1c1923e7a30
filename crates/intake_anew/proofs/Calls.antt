-- A package taken in on tables just set up: where they cannot be set up, the package is refused as they are.
use mathlib.Core.Path.{◌≡◌, refl, ap, ◌∙◌}
use mathlib.Core.Bool.{Bool, true, false, not}
use mathlib.Core.List.{List, [], ◌∷◌}
use Prim.Native.Nat.{ℕ}
use Rattle.model.specs.Answers.{Answer}
use Rattle.model.specs.Cabinet.{empty_cabinet}
use Rattle.model.specs.Form.{lengths_fit}
use Rattle.model.specs.Refusals.{test, first_of}
use Rattle.model.specs.Tables.{Tables, encode}
use Rattle.model.specs.Calls.{Reply, reply, unless, set_up, package_reply, take_in_package}

module _ (n : ℕ) (T : Tables) (bytes lent : List ℕ) where
  wrong-lengths : lengths_fit n T ≡ false → package_reply (Answer.Refused 1) T lent ≡ take_in_package n T bytes lent
  unfolding take_in_package
  wrong-lengths q = rw q

  -- what `set_up` leaves, by whether the lengths fit
  abbrev left : Bool → Reply Answer
  left fit = unless (first_of (test 1 (not fit) ∷ [])) Answer.Refused T (record { answer = Answer.Done; tables = encode n empty_cabinet })

  by-lengths : {r : ℕ} {U : Tables} (fit : Bool) → lengths_fit n T ≡ fit → reply (Answer.Refused r) U ≡ left fit → package_reply (Answer.Refused r) U lent ≡ take_in_package n (left fit).tables bytes lent
  by-lengths {r} true q e = let differ : Answer.Refused r ≡ Answer.Done = ap (λ (x : Reply Answer). x.answer) e in absurd (cc)
  by-lengths false q e = ap (λ (x : Reply Answer). package_reply x.answer x.tables lent) e ∙ wrong-lengths q

  pub refused-anew : {r : ℕ} {U : Tables} → reply (Answer.Refused r) U ≡ set_up n T → package_reply (Answer.Refused r) U lent ≡ take_in_package n (set_up n T).tables bytes lent
  unfolding set_up
  refused-anew e = by-lengths (lengths_fit n T) refl e
