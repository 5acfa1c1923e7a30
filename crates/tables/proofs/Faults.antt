-- What the test of lengths and form tells of the tables, and of a call's refusal.
use mathlib.Core.Path.{◌≡◌, refl, sym, ◌∙◌}
use mathlib.Core.Bool.{Bool, true, false, cond, not}
use mathlib.Core.List.{List, [], ◌∷◌, ◌++◌}
use Prim.Native.Nat.{ℕ}
use native.Mathlib.Omega.{arith}
use Rattle.model.specs.Tables.{Tables}
use Rattle.model.specs.Form.{lengths_fit, in_form, Formed}
use Rattle.model.specs.Refusals.{Test, first_of, wrong_lengths, not_in_form, fault_of}

-- a refusal by the first of some tests is that of all of them
pub first-refusal : (tests rest : List Test) {r : ℕ} → r ≡ first_of tests → (r ≡ 0 → ⊥) → r ≡ first_of (tests ++ rest)
first-refusal [] rest e n = absurd (n e)
first-refusal (t ∷ tests) rest {r} e n = go t.applies (λ p. first-refusal tests rest p n) e
  where
    go : (b : Bool) → (r ≡ first_of tests → r ≡ first_of (tests ++ rest)) → r ≡ cond b t.number (first_of tests) → r ≡ cond b t.number (first_of (tests ++ rest))
    go true later e = e
    go false later e = later e

passed : (a b : Bool) → ◌≡◌ {A = ℕ} (cond (not a) 1 (cond (not b) 2 0)) 0 → (a ≡ true) × (b ≡ true)
passed true true e = (refl, refl)
passed true false e = absurd (omega arith)
passed false b e = absurd (omega arith)

module _ (n : ℕ) (T : Tables) {r : ℕ} (e : r ≡ fault_of n T) where
  -- tables with a fault are refused for it, whatever is tested after it
  pub faulty : (rest : List Test) → (r ≡ 0 → ⊥) → first_of (wrong_lengths n T ∷ not_in_form n T ∷ rest) ≡ r
  faulty rest f = sym (first-refusal (wrong_lengths n T ∷ not_in_form n T ∷ []) rest e f)

  -- and without one they are in form
  pub faultless : r ≡ 0 → Formed n T
  faultless z = let both = passed (lengths_fit n T) (in_form n T) (sym e ∙ z) in record { sized = both.0; form = both.1 }

-- tables in form are refused by what is tested after that alone
pub formed-first : {n : ℕ} {T : Tables} → Formed n T → (rest : List Test) → first_of (wrong_lengths n T ∷ not_in_form n T ∷ rest) ≡ first_of rest
formed-first g rest = rw (g.sized, g.form)
