-- The call take in a package on tables, where it is refused: a law for each test.
use mathlib.Core.Path.{◌≡◌}
use mathlib.Core.Bool.{false, not, and-true, and-false}
use mathlib.Core.List.{List, [], ◌∷◌}
use Prim.Native.Nat.{ℕ}
use borrow.Author.Tests.{eq-eqb, ne_eqb}
use lib.ListN.{length}
use Rattle.model.specs.Answers.{Answer}
use Rattle.model.specs.Tables.{Tables}
use Rattle.model.specs.Form.{lengths_fit, Formed}
use Rattle.model.specs.Refusals.{test, fault_of}
use Rattle.model.specs.Package.{layout_fits}
use Rattle.model.specs.Calls.{package_reply, take_in_package}
use Rattle.tables.proofs.Faults.{faulty}

module _ (n : ℕ) (T : Tables) (bytes lent : List ℕ) where
  -- the answer bytes have another length than 512
  pub package-wrong-length : (length lent ≡ 512 → ⊥) → package_reply (Answer.Refused 1) T lent ≡ take_in_package n T bytes lent
  unfolding take_in_package
  package-wrong-length h = rw (ne_eqb _ 512 h, and-false (lengths_fit n T))

  module _ (sized : length lent ≡ 512) where
    -- the tables are refused
    pub package-fault : {r : ℕ} → r ≡ fault_of n T → (r ≡ 0 → ⊥) → package_reply (Answer.Refused r) T lent ≡ take_in_package n T bytes lent
    unfolding take_in_package
    package-fault e f = rw (eq-eqb _ 512 sized, and-true (lengths_fit n T), faulty n T e (test 3 (not (layout_fits bytes)) ∷ []) f, ne_eqb _ 0 f)

    -- the bytes are not laid out as a package
    pub package-not-laid-out : Formed n T → layout_fits bytes ≡ false → package_reply (Answer.Refused 3) T lent ≡ take_in_package n T bytes lent
    unfolding take_in_package
    package-not-laid-out g e = rw (eq-eqb _ 512 sized, g.sized, g.form, e)
