-- Laws of a loop that tests every place below a limit.
use mathlib.Core.Path.{◌≡◌, refl, ap, ◌∙◌}
use mathlib.Core.Bool.{Bool, true, ◌&&◌}
use Prim.Native.Nat.{ℕ, ◌+◌, ◌≤◌, ◌<◌}
use native.Mathlib.Numerals.{add-one}
use native.Mathlib.Omega.{arith}
use Rattle.general.specs.Lists.{all_below}

-- a test that every place below k passes, and k too
pub all-below-next : (k : ℕ) (test : ℕ → Bool) → all_below k test ≡ true → test k ≡ true → all_below (k + 1) test ≡ true
unfolding all_below
all-below-next k test e q = rw (add-one, e, q)

-- whether the places before i pass
pub record Tested (test : ℕ → Bool) (count i : ℕ) (fits : Bool) : Type 0 where
  pub within : i ≤ count
  pub all : fits ≡ all_below i test

pub test-none : {test : ℕ → Bool} {count : ℕ} → Tested test count 0 true
unfolding all_below
test-none = record { within = omega arith; all = refl }

pub test-next : {test : ℕ → Bool} {count i : ℕ} {fits b : Bool} → i < count → b ≡ test i → Tested test count i fits → Tested test count (i + 1) (fits && b)
unfolding all_below
test-next h e t = record { within = omega arith; all = rw (add-one, t.all, e) }

pub test-last : {test : ℕ → Bool} {count i : ℕ} {fits : Bool} → count ≤ i → Tested test count i fits → fits ≡ all_below count test
test-last {test} {count} {i} h t = let e : i ≡ count = omega arith in t.all ∙ ap (λ (k : ℕ). all_below k test) e
