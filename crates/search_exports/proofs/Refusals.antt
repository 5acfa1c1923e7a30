-- What the refusal of a search tells of the tables.
use mathlib.Core.Path.{◌≡◌, refl, sym, subst, ◌∙◌}
use mathlib.Core.Bool.{Bool, true, false, cond, ◌&&◌}
use mathlib.Core.List.{List}
use Prim.Native.Nat.{ℕ, ◌*◌, ◌<◌, ◌≤◌}
use native.Mathlib.Decide.{dec_lt}
use native.Mathlib.Omega.{arith}
use borrow.Author.Tests.{lt-ltb, ltb-true, leb-true, eqb-true}
use lib.Dec.{eqb, ltb, leb}
use lib.IntN.{ℤ}
use lib.ListN.{length, get_or, take, get_or-eq_default}
use lib.Seq.{length-take-le, get_or-take}
use Rattle.std.specs.Prelude.{◌↔◌, IsTrue, EachIndex, slice_index}
use Rattle.general.proofs.Cases.{both}
use Rattle.std.proofs.lemmas.Bool.Decides.{same_from_decides}
use Rattle.machine.proofs.Form.{all-below, below_all}
use Rattle.writers.specs.Writers.{WriteLists}
use Rattle.search.specs.Searches.{PlacesWithin}
use Rattle.search_exports.specs.Answers.{each_below, table_refusal}

-- a list each of which is below a limit
below-limit : (limit : ℕ) (l : List ℕ) → each_below limit l ≡ true → (i : ℕ) → i < length l → get_or l i 0 < limit
below-limit limit l e i h = ltb-true (get_or l i 0) limit (all-below (length l) (λ j. ltb (get_or l j 0) limit) e i h)

-- a test that holds where each of a list is below a limit
pub each-below : (limit : ℕ) (l : List ℕ) (b : Bool) → (IsTrue b ↔ EachIndex l (λ k. slice_index l k < limit)) → b ≡ each_below limit l
each-below limit l b h = same_from_decides b (each_below limit l) h (below-limit limit l, λ f. below_all (length l) (λ i. ltb (get_or l i 0) limit) (λ i q. lt-ltb (get_or l i 0) limit (f i q)))

-- both tests of a choice whose outcome is 0
accepted : (a b : Bool) → ◌≡◌ {A = ℕ} (cond a (cond b 0 2) 1) 0 → (a ≡ true) × (b ≡ true)
accepted true true e = (refl, refl)
accepted true false e = absurd (omega (arith, e))
accepted false b e = absurd (omega (arith, e))

module _ (position : ℕ) (order writes targets : List ℕ) (written : List ℤ) where
  -- tables that are not refused can be searched
  pub searchable : {r : ℕ} → r ≡ table_refusal position order writes (length targets) (length written) → r ≡ 0 → PlacesWithin position order (length writes) × WriteLists writes targets written
  unfolding table_refusal
  searchable p z =
      let h = accepted _ _ (sym p ∙ z) in
      let sized = both (leb (length writes) 4096 && leb position (length order)) h.0 in
      let few = both (leb (length writes) 4096) sized.0 in
      let slots = both (eqb (length targets) (32 * length writes)) sized.1 in
      let filled = both (each_below (length writes) (take position order)) h.1 in
      let long = leb-true position (length order) few.1 in (
        record { long = long; below = λ k q. placed long filled.0 k q },
        record {
          capacity = leb-true (length writes) 4096 few.0;
          target-slots = eqb-true (length targets) (32 * length writes) slots.0;
          value-slots = eqb-true (length written) (32 * length writes) slots.1;
          short = λ i. short filled.1 i (dec_lt i (length writes));
        },
      )
    where
      placed : position ≤ length order → each_below (length writes) (take position order) ≡ true → (k : ℕ) → k < position → get_or order k 0 < length writes
      placed long e k q =
          subst (◌< length writes) (get_or-take position order k 0 q)
          (below-limit (length writes) (take position order) e k (rw (length-take-le position order long) q))

      short : each_below 33 writes ≡ true → (i : ℕ) → Dec (i < length writes) → get_or writes i 0 ≤ 32
      short e i (yes h) = omega (arith, below-limit 33 writes e i h)
      short e i (no h) = omega (arith, get_or-eq_default writes 0 {n = i} (omega arith))
