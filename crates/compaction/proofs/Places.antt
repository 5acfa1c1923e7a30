-- Laws of the loop that finds the places that remain.
use mathlib.Core.Path.{◌≡◌, refl, sym, ap, ◌∙◌}
use mathlib.Core.List.{List, [], ◌∷◌, ◌++◌}
use Prim.Native.Nat.{ℕ, zero, suc, ◌+◌, ◌*◌, ◌<◌, ◌≤◌}
use native.Mathlib.Nat.{mul-le-mul_left}
use native.Mathlib.Numerals.{add-one}
use native.Mathlib.Decide.{dec_lt}
use native.Mathlib.Omega.{arith}
use borrow.Author.Count.{below_more}
use borrow.Author.Tests.{lt-ltb, le-ltb}
use lib.Dec.{ltb}
use lib.ListN.{length, get_or, set, take, length-append, length-set, length-take, get_or-append}
use lib.Seq.{take-suc-set, take-set-le, get_or-set_same, get_or-set_other, get_or_at, get_or-take}
use Rattle.general.proofs.Cases.{by-test}
use Rattle.compaction.specs.Closed.{remaining_below, Remaining, Closable}

module _ (t : ℕ) (timestamps : List ℕ) where
  pub remaining-few : (i : ℕ) → length (remaining_below t timestamps i) ≤ i
  unfolding remaining_below
  remaining-few zero = omega arith
  remaining-few (suc i) =
      let few = remaining-few i in
      by-test (λ (l : List ℕ). length l ≤ suc i) (ltb (get_or timestamps i 0) t) {x = remaining_below t timestamps i} {y = remaining_below t timestamps i ++ (i ∷ [])} (λ q. omega arith) (λ q. rw length-append (omega arith))

  -- of a list with one place more
  at_more : (l : List ℕ) (i j : ℕ) → Dec (j < length l) → length l ≤ i → (j < length l → (j ≤ get_or l j 0) × (get_or l j 0 < i)) → j < length (l ++ (i ∷ [])) → (j ≤ get_or (l ++ (i ∷ [])) j 0) × (get_or (l ++ (i ∷ [])) j 0 < suc i)
  at_more l i j (yes b) few at h = let k = at b in rw (get_or-append l (i ∷ []) 0 j b) (k.0, omega arith)
  at_more l i j (no b) few at h =
      let size : length (l ++ (i ∷ [])) ≡ length l + 1 = length-append l (i ∷ []) in
      let e : length l ≡ j = omega arith in
      rw (get_or_at l i [] 0 j e) (omega arith, omega arith)

  -- each of them is a place below the limit, and none is before its new one
  pub remaining-at : (i j : ℕ) → j < length (remaining_below t timestamps i) → (j ≤ get_or (remaining_below t timestamps i) j 0) × (get_or (remaining_below t timestamps i) j 0 < i)
  unfolding remaining_below
  remaining-at zero j = λ h. absurd (omega arith)
  remaining-at (suc i) j =
      let first = remaining_below t timestamps i in
      by-test (λ (l : List ℕ). j < length l → (j ≤ get_or l j 0) × (get_or l j 0 < suc i)) (ltb (get_or timestamps i 0) t) {x = first} {y = first ++ (i ∷ [])}
      (λ q h. let k = remaining-at i j h in (k.0, omega arith))
      (λ q. at_more first i j (dec_lt j (length first)) (remaining-few i) (remaining-at i j))

-- the first i places are looked at
pub record Looked (t : ℕ) (timestamps : List ℕ) (i found : ℕ) (places numbers : List ℕ) : Type 0 where
  pub long : length places ≡ 4096
  pub sized : length numbers ≡ 4096
  pub so_far : Remaining t timestamps i found places numbers

module _ {t : ℕ} {timestamps : List ℕ} where
  pub look_none : {places numbers : List ℕ} → length places ≡ 4096 → length numbers ≡ 4096 → Looked t timestamps 0 0 places numbers
  unfolding remaining_below
  look_none e q = record { long = e; sized = q; so_far = record { counted = refl; listed = refl; numbered = λ i h. absurd (omega arith) } }

  pub look-few : {i found : ℕ} {places numbers : List ℕ} → Looked t timestamps i found places numbers → found ≤ i
  look-few {i} p = rw p.so_far.counted (remaining-few t timestamps i)

  module _ {i found : ℕ} {places numbers : List ℕ} (p : Looked t timestamps i found places numbers) (h : i < 4096) where
    numbered_more : (k : ℕ) → k < i + 1 → get_or (set numbers i found) k 0 ≡ length (remaining_below t timestamps k)
    numbered_more =
        below_more (λ k. get_or (set numbers i found) k 0 ≡ length (remaining_below t timestamps k)) i
        (λ k q. get_or-set_other numbers i k found 0 (λ e. omega arith) ∙ p.so_far.numbered k q)
        (get_or-set_same numbers i found 0 (omega (arith, p.sized)) ∙ p.so_far.counted)

    -- the place remains
    pub look-remains : {next : ℕ} → t ≤ get_or timestamps i 0 → next ≡ found + 1 → Looked t timestamps (i + 1) next (set places found i) (set numbers i found)
    unfolding remaining_below
    look-remains q e =
        let few = look-few p in
        record {
          long = length-set places found i ∙ p.long;
          sized = length-set numbers i found ∙ p.sized;
          so_far =
              record {
                counted = e ∙ rw (add-one i, le-ltb (get_or timestamps i 0) t q, length-append, ← p.so_far.counted) (omega arith);
                listed = rw (e, add-one found, add-one i, le-ltb (get_or timestamps i 0) t q) (take-suc-set places found i (omega (arith, p.long)) ∙ ap (◌++ (i ∷ [])) p.so_far.listed);
                numbered = numbered_more;
              };
        }

    -- the place is dropped
    pub look-dropped : {next : ℕ} → get_or timestamps i 0 < t → next ≡ found → Looked t timestamps (i + 1) next (set places found i) (set numbers i found)
    unfolding remaining_below
    look-dropped q e =
        record {
          long = length-set places found i ∙ p.long;
          sized = length-set numbers i found ∙ p.sized;
          so_far =
              record {
                counted = e ∙ rw (add-one i, lt-ltb (get_or timestamps i 0) t q) p.so_far.counted;
                listed = rw (e, add-one i, lt-ltb (get_or timestamps i 0) t q) (take-set-le found places found i (omega arith) ∙ p.so_far.listed);
                numbered = numbered_more;
              };
        }

-- ---- what the tables are closed up by

module _ {t count found : ℕ} {timestamps places numbers : List ℕ} (r : Remaining t timestamps count found places numbers) where
  pub found-few : found ≤ count
  found-few = omega (arith, r.counted, remaining-few t timestamps count)

  found_at : (j : ℕ) → j < found → (j ≤ get_or places j 0) × (get_or places j 0 < count)
  found_at j h =
      let same : get_or places j 0 ≡ get_or (remaining_below t timestamps count) j 0 = sym (get_or-take found places j 0 h) ∙ ap (λ (l : List ℕ). get_or l j 0) r.listed in
      rw same (remaining-at t timestamps count j (omega (arith, r.counted)))

  -- a table that has a block for each of the places
  pub closable : {A : Type 0} (width : ℕ) (l : List A) → count ≤ 4096 → width * count ≤ length l → Closable width found places l
  closable width l small room =
      let size : length (take found places) ≡ found = ap length r.listed ∙ sym r.counted in
      record {
        small = omega (arith, found-few);
        long = omega (arith, size, length-take found places);
        below = λ j h. omega (arith, found_at j h);
        behind = λ j h. (found_at j h).0;
        within = λ j h. let m = mul-le-mul_left width (found_at j h).1 in let one : width * suc (get_or places j 0) ≡ width * get_or places j 0 + width = omega arith in omega arith;
      }
