-- Laws of places and of the order list.
use mathlib.Core.Path.{◌≡◌, refl, sym, ap, subst, ◌∙◌}
use mathlib.Core.Bool.{cond}
use mathlib.Core.List.{List, [], ◌∷◌}
use mathlib.Core.Logic.{◌⊎◌, inl, inr}
use Prim.Native.Nat.{ℕ, zero, suc, ◌+◌, ◌≤◌, ◌<◌}
use native.Mathlib.Decide.{ℕ_discrete}
use native.Mathlib.Omega.{arith}
use borrow.Author.Tests.{eqb-true, eqb-false, eq-eqb, ne_eqb}
use lib.Dec.{eqb}
use lib.ListN.{length, get_or}
use Rattle.general.proofs.Cases.{by-test}
use Rattle.model.specs.History.{infinity, Change, timestamp, History}
use Rattle.model.specs.Cabinet.{Cabinet, In, blank, changes_at}
use Rattle.model.specs.Sound.{Rising, Below, NotIn, AllDistinct, Placed}

-- ---- the changes at some places

module _ (changes : List Change) where
  pub changes_at-length : (places : List ℕ) → length (changes_at changes places) ≡ length places
  changes_at-length [] = refl
  changes_at-length (i ∷ places) = ap suc (changes_at-length places)

  pub changes_at-get : (places : List ℕ) (k : ℕ) → k < length places → get_or (changes_at changes places) k blank ≡ get_or changes (get_or places k 0) blank
  changes_at-get [] k h = absurd (omega arith)
  changes_at-get (i ∷ places) zero h = refl
  changes_at-get (i ∷ places) (suc k) h = changes_at-get places k (omega arith)

  rising-not-in : (i : ℕ) (places : List ℕ) (b : ℕ) → timestamp (get_or changes i blank) ≤ b → Rising b (changes_at changes places) → NotIn i places
  rising-not-in i [] b h r = tt
  rising-not-in i (j ∷ places) b h r = (
    λ e. let q : timestamp (get_or changes i blank) ≡ timestamp (get_or changes j blank) = ap (λ (k : ℕ). timestamp (get_or changes k blank)) e in omega arith,
    rising-not-in i places (timestamp (get_or changes j blank)) (omega arith) r.2,
  )

  -- places whose timestamps rise are distinct
  pub rising-distinct : (places : List ℕ) (b : ℕ) → Rising b (changes_at changes places) → AllDistinct places
  rising-distinct [] b r = tt
  rising-distinct (i ∷ places) b r =
      (rising-not-in i places (timestamp (get_or changes i blank)) (omega arith) r.2, rising-distinct places (timestamp (get_or changes i blank)) r.2)

-- ---- rising timestamps, by neighbours

pub rising-next : (h : History) (b k : ℕ) → Rising b h → suc k < length h → timestamp (get_or h k blank) < timestamp (get_or h (suc k) blank)
rising-next [] b k r q = absurd (omega arith)
rising-next (c ∷ []) b k r q = absurd (omega arith)
rising-next (c ∷ d ∷ h) b zero r q = r.2.0
rising-next (c ∷ d ∷ h) b (suc k) r q = rising-next (d ∷ h) (timestamp c) k r.2 (omega arith)

pub rising-of : (h : History) (b : ℕ) → (0 < length h → b < timestamp (get_or h 0 blank)) → ((k : ℕ) → k < length h → timestamp (get_or h k blank) < infinity) → ((k : ℕ) → suc k < length h → timestamp (get_or h k blank) < timestamp (get_or h (suc k) blank)) → Rising b h
rising-of [] b low below next = tt
rising-of (c ∷ h) b low below next = (
  low (omega arith),
  below 0 (omega arith),
  rising-of h (timestamp c) (λ q. next 0 (omega arith)) (λ k q. below (suc k) (omega arith)) (λ k q. next (suc k) (omega arith)),
)

-- ---- places below a bound

pub below_at : (n : ℕ) (places : List ℕ) (k : ℕ) → Below n places → k < length places → get_or places k 0 < n
below_at n [] k b h = absurd (omega arith)
below_at n (i ∷ places) zero b h = b.0
below_at n (i ∷ places) (suc k) b h = below_at n places k b.1 (omega arith)

pub below_of : (n : ℕ) (places : List ℕ) → ((k : ℕ) → k < length places → get_or places k 0 < n) → Below n places
below_of n [] h = tt
below_of n (i ∷ places) h = (h 0 (omega arith), below_of n places (λ k q. h (suc k) (omega arith)))

-- ---- n distinct places below n are all of them

-- the places other than m
abbrev without : ℕ → List ℕ → List ℕ
without m [] = []
without m (i ∷ places) = cond (eqb i m) (without m places) (i ∷ without m places)

module _ (m : ℕ) where
  without-not-in : (i : ℕ) (places : List ℕ) → NotIn i places → NotIn i (without m places)
  without-not-in i [] h = tt
  without-not-in i (j ∷ places) h = by-test (NotIn i) (eqb j m) (λ t. without-not-in i places h.1) (λ t. (h.0, without-not-in i places h.1))

  without-distinct : (places : List ℕ) → AllDistinct places → AllDistinct (without m places)
  without-distinct [] d = tt
  without-distinct (i ∷ places) d = by-test AllDistinct (eqb i m) (λ t. without-distinct places d.1) (λ t. (without-not-in i places d.0, without-distinct places d.1))

  without-below : (places : List ℕ) → Below (suc m) places → Below m (without m places)
  without-below [] b = tt
  without-below (i ∷ places) b =
      by-test (Below m) (eqb i m) (λ t. without-below places b.1)
      (λ t. let ne : i ≡ m → ⊥ = eqb-false i m t in (omega arith, without-below places b.1))

  without-none : (places : List ℕ) → NotIn m places → without m places ≡ places
  without-none [] h = refl
  without-none (i ∷ places) h =
      by-test (◌≡ i ∷ places) (eqb i m) (λ t. absurd (h.0 (sym (eqb-true i m t)))) (λ t. ap (i ∷◌) (without-none places h.1))

  -- at most one is left out
  without-length : (places : List ℕ) → AllDistinct places → length places ≤ suc (length (without m places))
  without-length [] d = omega arith
  without-length (i ∷ places) d =
      by-test (λ l. suc (length places) ≤ suc (length l)) (eqb i m)
      (λ t. let e : i ≡ m = eqb-true i m t in let q = ap length (without-none places (rw e at d.0)) in omega arith)
      (λ t. let ih = without-length places d.1 in omega arith)

at_most : (n : ℕ) (places : List ℕ) → AllDistinct places → Below n places → length places ≤ n
at_most zero [] d b = omega arith
at_most zero (i ∷ places) d b = absurd (omega arith)
at_most (suc n) places d b =
    let q = at_most n (without n places) (without-distinct n places d) (without-below n places b) in
    omega (arith, without-length n places d)

in-or-not : (i : ℕ) (places : List ℕ) → In i places ⊎ NotIn i places
in-or-not i [] = inr tt
in-or-not i (j ∷ places) = go (ℕ_discrete i j) (in-or-not i places)
  where
    go : Dec (i ≡ j) → In i places ⊎ NotIn i places → In i (j ∷ places) ⊎ NotIn i (j ∷ places)
    go (yes e) q = inl (inl e)
    go (no e) (inl q) = inl (inr q)
    go (no e) (inr q) = inr (e, q)

pub all-places : (n : ℕ) (places : List ℕ) → AllDistinct places → Below n places → length places ≡ n → (i : ℕ) → i < n → In i places
all-places n places d b e i h = go (in-or-not i places)
  where
    go : In i places ⊎ NotIn i places → In i places
    go (inl q) = q
    go (inr q) = absurd (let z = at_most n (i ∷ places) (q, d) (h, b) in omega arith)

-- so that an order list of distinct held places, as many as are held, has every one
pub placed_of : (c : Cabinet) → length c.order ≡ length c.changes → Below (length c.changes) c.order → AllDistinct c.order → Placed c
placed_of c e b d = record { counted = e; below = b; distinct = d; covers = all-places (length c.changes) c.order d b e }

-- ---- a sum over n distinct places below n

not_there : (i m : ℕ) (places : List ℕ) → NotIn i places → In m places → ¬ (i ≡ m)
not_there i m [] n x q = elim x [ ]
not_there i m (j ∷ places) n (inl e) q = n.0 (q ∙ e)
not_there i m (j ∷ places) n (inr h) q = not_there i m places n.1 h q

module _ (weight : ℕ → ℕ) where
  abbrev pub sum_over : List ℕ → ℕ
  sum_over [] = 0
  sum_over (i ∷ places) = weight i + sum_over places

  sum-without : (m : ℕ) (places : List ℕ) → In m places → AllDistinct places → sum_over places ≡ weight m + sum_over (without m places)
  sum-without m [] x d = elim x [ ]
  sum-without m (i ∷ places) (inl e) d =
      subst (λ (k : ℕ). sum_over (i ∷ places) ≡ weight k + sum_over (without k (i ∷ places))) (sym e) (rw (eq-eqb i i refl, without-none i places d.0))
  sum-without m (i ∷ places) (inr h) d =
      let rest = sum-without m places h d.1 in
      rw (ne_eqb i m (not_there i m places d.0 h)) (omega (arith, rest))

  -- it goes by n alone
  pub sum-places : (total : ℕ → ℕ) → total 0 ≡ 0 → (n : ℕ) → ((m : ℕ) → m < n → total (suc m) ≡ weight m + total m) → (places : List ℕ) → AllDistinct places → Below n places → length places ≡ n → sum_over places ≡ total n
  sum-places total z zero next [] d b e = sym z
  sum-places total z zero next (i ∷ places) d b e = absurd (omega arith)
  sum-places total z (suc n) next places d b e =
      let others = without n places in
      let fewer = at_most n others (without-distinct n places d) (without-below n places b) in
      let rest = sum-places total z n (λ m h. next m (omega arith)) others (without-distinct n places d) (without-below n places b) (omega (arith, fewer, without-length n places d)) in
      omega (arith, sum-without n places (all-places (suc n) places d b e n (omega arith)) d, rest, next n (omega arith))
