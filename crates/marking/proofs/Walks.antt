-- The walk for one setting: what it leaves Valid, where it ends, and when it marks nothing.
use mathlib.Core.Path.{◌≡◌, refl, sym, ap, ◌∙◌}
use mathlib.Core.Bool.{true, false}
use mathlib.Core.List.{List, [], ◌∷◌}
use mathlib.Core.Logic.{◌⊎◌, inl, inr, ⊎_elim}
use Prim.Native.Nat.{ℕ, zero, suc, ◌+◌, ◌-◌, ◌<◌, ◌≤◌}
use native.Mathlib.Decide.{ℕ_discrete, dec_lt}
use native.Mathlib.Numerals.{sub-one}
use native.Mathlib.Omega.{arith}
use borrow.Author.Tests.{eqb-true}
use lib.ListN.{length, get_or, set, length-set}
use lib.Seq.{get_or-set_other}
use Rattle.general.proofs.Cases.{by-test, by-test₂, both, true-is-not-false}
use Rattle.uses.specs.Columns.{Columns, writes_setting}
use Rattle.marking.specs.Marks.{marked_place, marked_from, end_from}
use Rattle.uses.specs.Uses.{reads_valid}
use Rattle.uses.proofs.LastUses.{fewer-read}

-- ---- one place

two-not-one : (l : List ℕ) (i : ℕ) → get_or (set l i 2) i 0 ≡ 1 → ⊥
two-not-one [] i e = omega arith
two-not-one (x ∷ l) zero e = omega arith
two-not-one (x ∷ l) (suc i) e = two-not-one l i e

set-valid : (l : List ℕ) (i j : ℕ) → get_or (set l i 2) j 0 ≡ 1 → get_or l j 0 ≡ 1
set-valid l i j e = go (ℕ_discrete j i)
  where
    go : Dec (j ≡ i) → get_or l j 0 ≡ 1
    go (yes q) = absurd (two-not-one l i (rw q at e))
    go (no q) = sym (get_or-set_other l i j 2 0 q) ∙ e

module _ (C : Columns) (s : ℕ) where
  -- a place marked, by the position of its change
  abbrev marked_at : ℕ → List ℕ → List ℕ
  marked_at p status = marked_place s C.reads C.sources (get_or C.order p 0) status

  module _ (status : List ℕ) (p : ℕ) where
    -- what is Valid was Valid
    pub place-valid : (j : ℕ) → get_or (marked_at p status) j 0 ≡ 1 → get_or status j 0 ≡ 1
    place-valid j = by-test (λ (l : List ℕ). get_or l j 0 ≡ 1 → get_or status j 0 ≡ 1) (reads_valid C status s p) (λ t e. set-valid status (get_or C.order p 0) j e) (λ t e. e)

    pub place-length : length (marked_at p status) ≡ length status
    place-length = by-test (λ (l : List ℕ). length l ≡ length status) (reads_valid C status s p) (λ t. length-set status (get_or C.order p 0) 2) (λ t. refl)

    -- no Valid reader is left
    place-unread : reads_valid C (marked_at p status) s p ≡ true → ⊥
    place-unread =
        by-test (λ (l : List ℕ). reads_valid C l s p ≡ true → ⊥) (reads_valid C status s p)
        (λ t r. two-not-one status (get_or C.order p 0) (eqb-true (get_or (set status (get_or C.order p 0) 2) (get_or C.order p 0) 0) 1 (both _ r).0))
        (λ t r. true-is-not-false (sym r ∙ t))

    -- where there is none, nothing is marked
    place_same : (reads_valid C status s p ≡ true → ⊥) → marked_at p status ≡ status
    place_same n = by-test (λ (l : List ℕ). l ≡ status) (reads_valid C status s p) (λ t. absurd (n t)) (λ t. refl)

  -- ---- the walk

  -- what is Valid was Valid
  pub walk-valid : (p m : ℕ) (status : List ℕ) (j : ℕ) → get_or (marked_from C s p m status) j 0 ≡ 1 → get_or status j 0 ≡ 1
  unfolding marked_from
  walk-valid p zero status j = λ e. e
  walk-valid p (suc m) status j =
      by-test (λ (l : List ℕ). get_or l j 0 ≡ 1 → get_or status j 0 ≡ 1) (writes_setting C s p) (λ t e. place-valid status p j e)
      (λ t e. place-valid status p j (walk-valid (suc p) m (marked_at p status) j e))

  pub walk-length : (p m : ℕ) (status : List ℕ) → length (marked_from C s p m status) ≡ length status
  unfolding marked_from
  walk-length p zero status = refl
  walk-length p (suc m) status =
      by-test (λ (l : List ℕ). length l ≡ length status) (writes_setting C s p) (λ t. place-length status p)
      (λ t. walk-length (suc p) m (marked_at p status) ∙ place-length status p)

  -- where there is no Valid reader, nothing is marked
  pub walk_same : (p m : ℕ) (status : List ℕ) → ((q : ℕ) → p ≤ q → q < p + m → reads_valid C status s q ≡ true → ⊥) → marked_from C s p m status ≡ status
  unfolding marked_from
  walk_same p zero status n = refl
  walk_same p (suc m) status n =
      let here : marked_at p status ≡ status = place_same status p (n p (omega arith) (omega arith)) in
      by-test (λ (l : List ℕ). l ≡ status) (writes_setting C s p) (λ t. here)
      (λ t. ap (marked_from C s (suc p) m) here ∙ walk_same (suc p) m status (λ q h g. n q (omega arith) (omega arith)))

  -- nor where there is none up to and including a writer
  pub walk-closed : (p m e : ℕ) (status : List ℕ) → p < e → writes_setting C s (e - 1) ≡ true → ((q : ℕ) → p ≤ q → q < e → reads_valid C status s q ≡ true → ⊥) → marked_from C s p m status ≡ status
  unfolding marked_from
  walk-closed p zero e status h w n = refl
  walk-closed p (suc m) e status h w n =
      let here : marked_at p status ≡ status = place_same status p (n p (omega arith) h) in
      by-test (λ (l : List ℕ). l ≡ status) (writes_setting C s p) (λ t. here)
      (λ t. ap (marked_from C s (suc p) m) here ∙ next t (λ g. walk-closed (suc p) m e status g w (λ q a b. n q (omega arith) b)) (dec_lt (suc p) e))
    where
      next : writes_setting C s p ≡ false → (suc p < e → marked_from C s (suc p) m status ≡ status) → Dec (suc p < e) → marked_from C s (suc p) m status ≡ status
      next t ih (yes g) = ih g
      next t ih (no g) =
          let last : e - 1 ≡ p = omega arith in
          true-is-not-false (sym (rw last at w) ∙ t)

  -- more changes without a Valid reader make no difference
  pub walk-longer : (p m m' : ℕ) (status : List ℕ) → m ≤ m' → ((q : ℕ) → p + m ≤ q → q < p + m' → reads_valid C status s q ≡ true → ⊥) → marked_from C s p m status ≡ marked_from C s p m' status
  unfolding marked_from
  walk-longer p zero m' status l n = sym (walk_same p m' status (λ q h g. n q (omega arith) g))
  walk-longer p (suc m) zero status l n = absurd (omega arith)
  walk-longer p (suc m) (suc m') status l n =
      by-test₂ (λ (a b : List ℕ). a ≡ b) (writes_setting C s p) (λ t. refl)
      (λ t. walk-longer (suc p) m m' (marked_at p status) (omega arith) (λ q h g v. n q (omega arith) (omega arith) (fewer-read C s q status (marked_at p status) (place-valid status p) v)))

  -- ---- its end

  pub end-within : (p m : ℕ) → end_from C s p m ≤ p + m
  unfolding end_from
  end-within p zero = omega arith
  end-within p (suc m) = let ih = end-within (suc p) m in by-test (◌≤ p + suc m) (writes_setting C s p) (λ t. omega arith) (λ t. omega arith)

  -- it ends behind a writer, or at the last change
  pub end-ends : (p m : ℕ) → (writes_setting C s (end_from C s p m - 1) ≡ true) ⊎ (p + m ≤ end_from C s p m)
  unfolding end_from
  end-ends p zero = inr (omega arith)
  end-ends p (suc m) =
      let ih = end-ends (suc p) m in
      by-test (λ (e : ℕ). (writes_setting C s (e - 1) ≡ true) ⊎ (p + suc m ≤ e)) (writes_setting C s p) (λ t. inl (rw sub-one t))
      (λ t. ⊎_elim inl (λ h. inr (omega arith)) ih)

  -- below its end no Valid reader is left
  pub end-unread : (p m : ℕ) (status : List ℕ) (q : ℕ) → p ≤ q → q < end_from C s p m → reads_valid C (marked_from C s p m status) s q ≡ true → ⊥
  unfolding marked_from end_from
  end-unread p zero status q h = λ g r. omega arith
  end-unread p (suc m) status q h =
      by-test₂ (λ (e : ℕ) (l : List ℕ). q < e → reads_valid C l s q ≡ true → ⊥) (writes_setting C s p) (λ t g r. last (omega arith) r)
      (λ t g r. inner (λ a. end-unread (suc p) m (marked_at p status) q a g r) (λ e. last e (fewer-read C s q (marked_at p status) (marked_from C s (suc p) m (marked_at p status)) (walk-valid (suc p) m (marked_at p status)) r)) (ℕ_discrete q p))
    where
      last : q ≡ p → reads_valid C (marked_at p status) s q ≡ true → ⊥
      last e r = place-unread status p (rw e at r)

      inner : (suc p ≤ q → ⊥) → (q ≡ p → ⊥) → Dec (q ≡ p) → ⊥
      inner above here (yes e) = here e
      inner above here (no e) = above (omega arith)
