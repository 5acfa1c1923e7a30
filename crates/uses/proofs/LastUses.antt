-- The last readers and writers of each setting, one change after the other.
use mathlib.Core.Path.{◌≡◌, refl, sym, ap, ◌∙◌}
use mathlib.Core.Bool.{Bool, true, false, cond, ◌&&◌, ◌||◌}
use mathlib.Core.List.{List, [], ◌∷◌}
use Prim.Native.Nat.{ℕ, zero, suc, ◌+◌, ◌-◌, ◌<◌, ◌≤◌}
use native.Mathlib.Decide.{ℕ_discrete}
use native.Mathlib.Numerals.{add-one, sub-one}
use native.Mathlib.Omega.{arith}
use borrow.Author.Tests.{eqb-true, eq-eqb, ne_eqb, le-leb, lt-leb}
use lib.Dec.{eqb, leb}
use lib.ListN.{length, get_or, set, replicate, length-set, length-replicate}
use lib.Seq.{get_or-set_same, get_or-set_other}
use Rattle.general.proofs.Cases.{by-test, both}
use Rattle.model.specs.Form.{holds}
use Rattle.uses.specs.Columns.{Columns, list_at, writes_setting}
use Rattle.uses.specs.Uses.{Numbers, numbered, last_from, reads_valid, LastUses, ReadersEnd, WritersEnd, Settled}

-- ---- numbers stored for the settings of a list

numbered-length : (l : List ℕ) (v : ℕ) (numbers : List ℕ) → length (numbered l v numbers) ≡ length numbers
unfolding numbered
numbered-length [] v numbers = refl
numbered-length (x ∷ l) v numbers = numbered-length l v (set numbers x v) ∙ length-set numbers x v

numbered-at : (l : List ℕ) (v : ℕ) (numbers : List ℕ) (s : ℕ) → s < length numbers → get_or (numbered l v numbers) s 0 ≡ cond (holds s l) v (get_or numbers s 0)
unfolding numbered
numbered-at [] v numbers s h = refl
numbered-at (x ∷ l) v numbers s h = numbered-at l v (set numbers x v) s (rw length-set h) ∙ go (ℕ_discrete s x)
  where
    same : (b : Bool) → cond b v v ≡ v
    same true = refl
    same false = refl

    go : Dec (s ≡ x) → cond (holds s l) v (get_or (set numbers x v) s 0) ≡ cond (eqb x s || holds s l) v (get_or numbers s 0)
    go (yes e) = rw (eq-eqb x s (sym e), e, get_or-set_same numbers x v 0 (rw e at h)) (same (holds x l))
    go (no e) = rw (ne_eqb x s (λ q. e (sym q)), get_or-set_other numbers x s v 0 e)

-- the numbers where the settings of a list get a new one
pub numbers-set : (l : List ℕ) (v : ℕ) {numbers numbers' : List ℕ} {f : ℕ → ℕ} → Numbers numbers f → numbers' ≡ numbered l v numbers → Numbers numbers' (λ s. cond (holds s l) v (f s))
numbers-set l v {numbers} n e =
    record {
      sized = ap length e ∙ numbered-length l v numbers ∙ n.sized;
      each = λ s h. ap (λ (x : List ℕ). get_or x s 0) e ∙ numbered-at l v numbers s (omega (arith, h, n.sized)) ∙ ap (cond (holds s l) v) (n.each s h);
    }

numbers-same : {numbers : List ℕ} (f g : ℕ → ℕ) → ((s : ℕ) → f s ≡ g s) → Numbers numbers f → Numbers numbers g
numbers-same f g e n = record { sized = n.sized; each = λ s h. n.each s h ∙ e s }

zeros : (n s : ℕ) → ◌≡◌ {A = ℕ} (get_or (replicate n 0) s 0) 0
zeros zero s = refl
zeros (suc n) zero = refl
zeros (suc n) (suc s) = zeros n s

-- numbers as they are made
pub numbers-new : Numbers (replicate 1024 0) (λ s. 0)
numbers-new = record { sized = length-replicate {A = ℕ} 1024 0; each = λ s h. zeros 1024 s }

-- ---- the last position that passes a test

module _ (test : ℕ → Bool) (from : ℕ) where
  last_none : (count : ℕ) → count ≤ from → last_from test from count ≡ 0
  unfolding last_from
  last_none zero h = refl
  last_none (suc p) h = rw (lt-leb from p (omega arith)) (last_none p (omega arith))

  last_within : (count : ℕ) → last_from test from count ≤ count
  unfolding last_from
  last_within zero = omega arith
  last_within (suc p) = let ih = last_within p in by-test (◌≤ suc p) (leb from p && test p) (λ t. omega arith) (λ t. omega arith)

  last-above : (count p : ℕ) → from ≤ p → p < count → test p ≡ true → p < last_from test from count
  unfolding last_from
  last-above zero p l h e = absurd (omega arith)
  last-above (suc q) p l h e = go (ℕ_discrete p q) (λ i. last-above q p l i e)
    where
      go : Dec (p ≡ q) → (p < q → p < last_from test from q) → p < cond (leb from q && test q) (suc q) (last_from test from q)
      go (yes i) ih = rw (i, rw i at (le-leb from p l), rw i at e) (omega arith)
      go (no i) ih = by-test (p <◌) (leb from q && test q) (λ t. omega arith) (λ t. ih (omega arith))

  last-passes : (count : ℕ) → 0 < last_from test from count → test (last_from test from count - 1) ≡ true
  unfolding last_from
  last-passes zero = λ h. absurd (omega arith)
  last-passes (suc p) = by-test (λ (x : ℕ). 0 < x → test (x - 1) ≡ true) (leb from p && test p) (λ t h. rw sub-one (both (leb from p) t).1) (λ t h. last-passes p h)

-- ---- one change more

-- no change is looked at yet
pub uses-none : (from : ℕ) {C : Columns} {status readers writers : List ℕ} → Numbers readers (λ s. 0) → Numbers writers (λ s. 0) → LastUses from from C status readers writers
uses-none from {C} {status} r w =
    record {
      read = numbers-same _ _ (λ s. sym (last_none (reads_valid C status s) from from (omega arith))) r;
      wrote = numbers-same _ _ (λ s. sym (last_none (writes_setting C s) from from (omega arith))) w;
    }

module _ (C : Columns) {from p : ℕ} (h : from ≤ p) where
  module _ (status : List ℕ) {readers readers' : List ℕ} (r : Numbers readers (λ s. last_from (reads_valid C status s) from p)) where
    -- the change at the position is Valid
    pub readers-noted : get_or status (get_or C.order p 0) 0 ≡ 1 → readers' ≡ numbered (list_at C.reads C.sources (get_or C.order p 0)) (p + 1) readers → Numbers readers' (λ s. last_from (reads_valid C status s) from (p + 1))
    unfolding last_from
    readers-noted v e = numbers-same _ _ (λ s. rw (add-one p, le-leb from p h, v)) (numbers-set (list_at C.reads C.sources (get_or C.order p 0)) (p + 1) r e)

    -- it is not
    pub readers-kept : (get_or status (get_or C.order p 0) 0 ≡ 1 → ⊥) → readers' ≡ readers → Numbers readers' (λ s. last_from (reads_valid C status s) from (p + 1))
    unfolding last_from
    readers-kept v e = rw e (numbers-same _ _ (λ s. rw (add-one p, le-leb from p h, ne_eqb (get_or status (get_or C.order p 0) 0) 1 v)) r)

  pub writers-noted : {writers writers' : List ℕ} → Numbers writers (λ s. last_from (writes_setting C s) from p) → writers' ≡ numbered (list_at C.writes C.targets (get_or C.order p 0)) (p + 1) writers → Numbers writers' (λ s. last_from (writes_setting C s) from (p + 1))
  unfolding last_from
  writers-noted w e = numbers-same _ _ (λ s. rw (add-one p, le-leb from p h)) (numbers-set (list_at C.writes C.targets (get_or C.order p 0)) (p + 1) w e)

-- ---- what is known before the first turn

module _ {from count : ℕ} {C : Columns} {status readers writers : List ℕ} (u : LastUses from count C status readers writers) where
  pub readers-end : ReadersEnd from count C status readers
  readers-end =
      let r = u.read in
      record {
        sized = r.sized;
        within = λ s h. omega (arith, r.each s h, last_within (reads_valid C status s) from count);
        bound = λ s p h a b v. omega (arith, r.each s h, last-above (reads_valid C status s) from count p a b v);
      }

  pub writers-end : WritersEnd from count C writers
  writers-end =
      let w = u.wrote in
      record {
        sized = w.sized;
        within = λ s h. omega (arith, w.each s h, last_within (writes_setting C s) from count);
        bound = λ s p h a b v. omega (arith, w.each s h, last-above (writes_setting C s) from count p a b v);
        last = λ s h a. ap (λ (x : ℕ). writes_setting C s (x - 1)) (w.each s h) ∙ last-passes (writes_setting C s) from count (omega (arith, a, w.each s h));
      }

-- nothing is settled
pub settled-none : {from : ℕ} {C : Columns} {status readers settled : List ℕ} → Numbers settled (λ s. 0) → Settled from C status readers settled
settled-none u =
    record {
      sized = u.sized;
      within = λ s h. omega (arith, u.each s h);
      unread = λ s p h a b v. omega (arith, b, u.each s h);
      ends = λ s h a. absurd (omega (arith, a, u.each s h));
    }

-- ---- fewer Valid changes

-- where fewer changes are Valid, a Valid reader was one
pub fewer-read : (C : Columns) (s p : ℕ) (status status' : List ℕ) → ((i : ℕ) → get_or status' i 0 ≡ 1 → get_or status i 0 ≡ 1) → reads_valid C status' s p ≡ true → reads_valid C status s p ≡ true
fewer-read C s p status status' f r =
    let place = get_or C.order p 0 in
    let b = both (eqb (get_or status' place 0) 1) r in
    rw (eq-eqb (get_or status place 0) 1 (f place (eqb-true (get_or status' place 0) 1 b.0)), b.1)

-- so readers end where they ended
pub readers-fewer : {from count : ℕ} {C : Columns} {status readers : List ℕ} → ReadersEnd from count C status readers → (status' : List ℕ) → ((i : ℕ) → get_or status' i 0 ≡ 1 → get_or status i 0 ≡ 1) → ReadersEnd from count C status' readers
readers-fewer {C = C} {status = status} r status' f = record { sized = r.sized; within = r.within; bound = λ s p h a b v. r.bound s p h a b (fewer-read C s p status status' f v) }
