-- The refusal of a cutoff is the first of all tests: that of the tables' fault, or that of the tests on tables in form.
use mathlib.Core.Path.{◌≡◌, sym, ap, ◌∙◌}
use mathlib.Core.List.{List, [], ◌∷◌}
use Prim.Native.Nat.{ℕ}
use native.Mathlib.Decide.{ℕ_discrete}
use borrow.Author.Tests.{eq-eqb, ne_eqb}
use Rattle.model.specs.Tables.{Tables, decode}
use Rattle.model.specs.Form.{Formed}
use Rattle.model.specs.Refusals.{Test, first_of, fault_of, no_timestamp, below_cutoff, unsettled_below}
use Rattle.tables.proofs.Faults.{faulty, faultless, formed-first}
use Rattle.cutoff_tests.specs.CutoffTests.{refusal_in}
use Rattle.cutoff_tests.proofs.Model.{same_tests}
use Rattle.cutoff_refusal.specs.CutoffRefusal.{all_tests, Judged}

module _ (n : ℕ) (T : Tables) (t : ℕ) {fault : ℕ} (e : fault ≡ fault_of n T) where
  -- what is tested after the tables
  abbrev tests : List Test
  tests = no_timestamp t ∷ below_cutoff (decode T).cutoff t ∷ unsettled_below (decode T) t ∷ []

  abbrev refusal : ℕ
  refusal = refusal_in fault t T.held T.timestamps T.order T.status T.cutoff

  of-fault : (fault ≡ 0 → ⊥) → refusal ≡ fault
  unfolding refusal_in
  of-fault f = rw (ne_eqb fault 0 f)

  of-tests : fault ≡ 0 → refusal ≡ first_of tests
  unfolding refusal_in
  of-tests z = rw (eq-eqb fault 0 z) (ap first_of (same_tests (faultless n T e z) t))

  -- the refusal is the first of all tests
  refusal_is : refusal ≡ first_of (all_tests n T t)
  refusal_is = go (ℕ_discrete fault 0)
    where
      go : Dec (fault ≡ 0) → refusal ≡ first_of (all_tests n T t)
      go (yes z) = of-tests z ∙ sym (formed-first (faultless n T e z) tests)
      go (no f) = of-fault f ∙ sym (faulty n T e tests f)

  pub judged : {r : ℕ} → r ≡ refusal → Judged n T t r
  judged {r} q = record { first = q ∙ refusal_is; formed = λ z. go z (ℕ_discrete fault 0) }
    where
      go : r ≡ 0 → Dec (fault ≡ 0) → Formed n T
      go z (yes y) = faultless n T e y
      go z (no f) = absurd (f (sym (of-fault f) ∙ sym q ∙ z))
