-- Laws of the search for the first position that passes a test.
use mathlib.Core.Path.{◌≡◌, refl, subst}
use mathlib.Core.Bool.{Bool, true, false, cond}
use mathlib.Core.Option.{Option, none, some}
use Prim.Native.Nat.{ℕ, zero, suc, ◌+◌, ◌<◌, ◌≤◌}
use native.Mathlib.Decide.{dec_lt}
use native.Mathlib.Omega.{arith}
use Rattle.general.proofs.Cases.{by-test}
use Rattle.search.specs.Searches.{first_from}

-- ---- what the answer says

module _ (test : ℕ → Bool) where
  -- no position from k to below n passes
  abbrev Fails : ℕ → ℕ → Type 0
  Fails k n = (j : ℕ) → k ≤ j → j < n → test j ≡ false

  fails-from : (k n : ℕ) → test k ≡ false → Fails (suc k) n → Fails k n
  fails-from k n t later j h l = go (dec_lt k j)
    where
      go : Dec (k < j) → test j ≡ false
      go (yes p) = later j p l
      go (no p) = let w : k ≡ j = omega arith in rw w at t

  -- what an answer from k on, of m positions, says
  abbrev Answer : ℕ → ℕ → Option ℕ → Type 0
  Answer k m none = Fails k (k + m)
  Answer k m (some i) = (i < k + m) × (test i ≡ true) × Fails k i

  answer-from : (k m : ℕ) → test k ≡ false → (x : Option ℕ) → Answer (suc k) m x → Answer k (suc m) x
  answer-from k m t none a = fails-from k (k + suc m) t (λ j h l. a j h (omega arith))
  answer-from k m t (some i) a = (omega (arith, a.0), a.1, fails-from k i t a.2)

  answer : (k m : ℕ) → Answer k m (first_from test k m)
  unfolding first_from
  answer k zero = λ j h l. absurd (omega arith)
  answer k (suc m) =
      let ih = answer (suc k) m in
      by-test (Answer k (suc m)) (test k) (λ t. (omega arith, t, λ j h l. absurd (omega arith))) (λ t. answer-from k m t (first_from test (suc k) m) ih)

  -- none of the first count positions passes
  pub first-none : (count : ℕ) → first_from test 0 count ≡ none → (j : ℕ) → j < count → test j ≡ false
  first-none count e j l = subst (Answer 0 count) e (answer 0 count) j (omega arith) (omega arith)

  -- the k-th passes, none below it does
  pub first_some : (count k : ℕ) → first_from test 0 count ≡ some k → (k < count) × (test k ≡ true) × ((j : ℕ) → j < k → test j ≡ false)
  first_some count k e =
      let a = subst (Answer 0 count) e (answer 0 count) in
      (omega (arith, a.0), a.1, λ j l. a.2 j (omega arith) l)

  -- where none of the first count passes, none is found
  none_from : (k m : ℕ) → Fails k (k + m) → first_from test k m ≡ none
  unfolding first_from
  none_from k zero f = refl
  none_from k (suc m) f = rw (f k (omega arith) (omega arith)) (none_from (suc k) m (λ j h l. f j (omega arith) (omega arith)))

  pub none_first : (count : ℕ) → ((j : ℕ) → j < count → test j ≡ false) → first_from test 0 count ≡ none
  none_first count f = none_from 0 count (λ j h l. f j (omega arith))

  -- where the k-th passes and none below it does, it is found
  some-from : (i m k : ℕ) → i ≤ k → k < i + m → test k ≡ true → Fails i k → first_from test i m ≡ some k
  unfolding first_from
  some-from i zero k h l t f = absurd (omega arith)
  some-from i (suc m) k h l t f =
      let ih : i < k → first_from test (suc i) m ≡ some k = λ p. some-from (suc i) m k p (omega arith) t (λ j a b. f j (omega arith) b) in
      go (dec_lt i k) ih
    where
      go : Dec (i < k) → (i < k → first_from test (suc i) m ≡ some k) → cond (test i) (some i) (first_from test (suc i) m) ≡ some k
      go (yes p) ih = rw (f i (omega arith) p) (ih p)
      go (no p) ih = let w : i ≡ k = omega arith in rw (w, t)

  pub some_first : (count k : ℕ) → k < count → test k ≡ true → ((j : ℕ) → j < k → test j ≡ false) → first_from test 0 count ≡ some k
  some_first count k h t f = some-from 0 count k (omega arith) (omega arith) t (λ j a b. f j b)
