-- The test that no setting stands twice, which goes up a list from its end and marks what it meets.
use mathlib.Core.Path.{◌≡◌, refl, sym, ap, ◌∙◌}
use mathlib.Core.Bool.{Bool, true, false, not, and-true, and-false, cond}
use mathlib.Core.List.{List, [], ◌∷◌}
use Prim.Native.Nat.{ℕ, zero, suc, ◌+◌, ◌≤◌, ◌<◌}
use native.Mathlib.Decide.{ℕ_discrete}
use native.Mathlib.Omega.{arith}
use borrow.Author.Tests.{ltb-true, eq-eqb, ne_eqb}
use lib.Dec.{ltb, eqb}
use lib.ListN.{length, get_or, set, drop, replicate, length-set, drop_of_length-le}
use lib.Seq.{drop-cons, get_or-set_same, get_or-set_other}
use Rattle.machine.specs.Settings.{setting_count}
use Rattle.general.proofs.Cases.{both}
use Rattle.model.specs.Form.{holds, distinct_settings}
use Rattle.form_lists.specs.Marks.{MarkedBelow, is_new}

-- marks that are 0 are below the first row's number
zeros-below : (n s : ℕ) → get_or (replicate n 0) s 0 < 1
zeros-below zero s = omega arith
zeros-below (suc n) zero = omega arith
zeros-below (suc n) (suc s) = zeros-below n s

pub no-marks : MarkedBelow 1 (replicate 1024 0)
no-marks = record { sized = refl; below = zeros-below 1024 }

-- marks below a row's number are below a later row's
pub marked-later : {row later : ℕ} {marks : List ℕ} → row ≤ later → MarkedBelow row marks → MarkedBelow later marks
marked-later h m = record { sized = m.sized; below = λ s. omega (arith, m.below s) }

-- a list's settings are distinct, and they are those that are marked with the row's number
pub record Marked (row : ℕ) (l marks : List ℕ) : Type 0 where
  pub distinct : distinct_settings l ≡ true
  pub marked : MarkedBelow (row + 1) marks
  pub met : (s : ℕ) → holds s l ≡ eqb (get_or marks s 0) row

-- before the first setting, the last of the list, nothing is marked
pub unmarked : (row : ℕ) (l marks : List ℕ) → MarkedBelow row marks → Marked row (drop (length l) l) marks
unmarked row l marks m =
    rw (drop_of_length-le l {i = length l} (omega arith))
    (record {
      distinct = refl;
      marked = marked-later (omega arith) m;
      met = λ s. sym (ne_eqb (get_or marks s 0) row (λ e. omega (arith, m.below s)));
    })

-- a list is not distinct where a part of it is not
not-distinct : (i : ℕ) (l : List ℕ) → distinct_settings (drop i l) ≡ false → distinct_settings l ≡ false
not-distinct zero l e = e
not-distinct (suc i) [] e = e
not-distinct (suc i) (s ∷ l) e = simp (not-distinct i l e, and-false)

-- the setting at k, before those from i on that are met, and what a call of mark with it answers and leaves
module _ (l : List ℕ) (i k : ℕ) {row : ℕ} {marks after : List ℕ} {r : Bool} (next : i ≡ suc k) (within : i ≤ length l) (m : Marked row (drop i l) marks)
    (e : (r ≡ is_new row (get_or l k 0) marks) × (after ≡ cond r (set marks (get_or l k 0) row) marks)) where
  here : drop k l ≡ get_or l k 0 ∷ drop i l
  here = drop-cons l k 0 (omega arith) ∙ ap (λ (j : ℕ). get_or l k 0 ∷ drop j l) (sym next)

  -- the answer
  pub answer : r ≡ distinct_settings (drop k l)
  answer = e.0 ∙ sym (rw (here, m.met (get_or l k 0), m.distinct, and-true (not (eqb (get_or marks (get_or l k 0) 0) row))))

  -- the marks where it is new
  pub passed : r ≡ true → Marked row (drop k l) after
  passed q =
      record {
        distinct = sym answer ∙ q;
        marked = record { sized = rw (stored, length-set) m.marked.sized; below = λ t. (at t (ℕ_discrete t s)).0 };
        met = λ t. (at t (ℕ_discrete t s)).1;
      }
    where
      s : ℕ
      s = get_or l k 0

      inside : s < length marks
      inside = rw m.marked.sized (ltb-true s setting_count (both (ltb s setting_count) (sym e.0 ∙ q)).0)

      stored : after ≡ set marks s row
      stored = e.1 ∙ ap (λ t. cond t (set marks s row) marks) q

      at : (t : ℕ) → Dec (t ≡ s) → (get_or after t 0 < row + 1) × (holds t (drop k l) ≡ eqb (get_or after t 0) row)
      at t (yes p) = rw (here, stored, p, get_or-set_same marks s row 0 inside, eq-eqb s s refl, eq-eqb row row refl) (omega arith, refl)
      at t (no p) = rw (here, stored, get_or-set_other marks s t row 0 p, ne_eqb s t (λ z. p (sym z))) (m.marked.below t, m.met t)

  -- the marks in any case
  pub kept : MarkedBelow (row + 1) after
  kept = go r refl
    where
      go : (t : Bool) → r ≡ t → MarkedBelow (row + 1) after
      go true q = (passed q).marked
      go false q = rw (e.1, q) m.marked

  -- the list where it is not new
  pub failed : r ≡ false → (false ≡ distinct_settings l) × MarkedBelow (row + 1) after
  failed q = (sym (not-distinct k l (sym answer ∙ q)), kept)
