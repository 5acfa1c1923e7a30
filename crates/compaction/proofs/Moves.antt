-- Laws of loops that move slots down within a table: what is read is not yet written over.
use mathlib.Core.Path.{◌≡◌, refl, sym, ap, ◌∙◌}
use mathlib.Core.List.{List, [], ◌∷◌, ◌++◌, map, append_assoc, append-nil}
use Prim.Native.Nat.{ℕ, zero, suc, ◌+◌, ◌-◌, ◌*◌, ◌<◌, ◌≤◌}
use native.Mathlib.Nat.{mul-le-mul_left, le_of_eq}
use native.Mathlib.Numerals.{add-one}
use native.Mathlib.Omega.{arith}
use borrow.Rule.Slice.PartMut.{mid_of, post_of, put_mid}
use lib.ListN.{drop_of_length-le, length, get_or, set, take, drop, replicate, length-append, length-drop, length-map, length-set}
use lib.Seq.{paste, paste-suc, drop-paste, take-paste, take_at, drop_at, take-suc, get_or-take, get_or-drop, drop-drop, length-take-le}
use Rattle.std.specs.List.{copy_within}
use Rattle.std.proofs.lemmas.List.{take-map, get_or-map}
use Rattle.compaction.specs.Closed.{moved, gathered, closed, Closable, renumbered_by, Renumberable}

-- behind what is copied a list is as it was
paste-behind : {A : Type 0} (d : List A) (at : ℕ) (s : List A) (j i : ℕ) (z : A) → at + j ≤ i → at ≤ length d → j ≤ length s → get_or (paste d at s j) i z ≡ get_or d i z
paste-behind d at s j i z h a b =
    let m = i - (at + j) in
    let e : i ≡ at + j + m = omega arith in
    rw e (sym (get_or-drop (at + j) (paste d at s j) m z) ∙ ap (λ l. get_or l m z) (drop-paste d at s j a b) ∙ get_or-drop (at + j) d m z)

-- the first k elements of s stand in a list from a slot on, and the rest of it is as before
pub record Copied {A : Type 0} (before : List A) (to : ℕ) (s : List A) (k : ℕ) (l : List A) : Type 0 where
  pub same : length l ≡ length before
  pub so_far : l ≡ paste before to s k

module _ {A : Type 0} {before : List A} {to : ℕ} {s : List A} where
  -- one store more
  copy-next : {k : ℕ} {l l' : List A} {v : A} (z : A) → Copied before to s k l → to + k < length before → k < length s → l' ≡ set l (to + k) v → v ≡ get_or s k z → Copied before to s (k + 1) l'
  copy-next {k} {l} z p h g e q =
      record {
        same = ap length e ∙ length-set l (to + k) _ ∙ p.same;
        so_far = e ∙ rw (p.so_far, q, add-one) (paste-suc before to s k z h g);
      }

  -- what is read behind it
  copy_read : {k : ℕ} {l : List A} (z : A) → Copied before to s k l → to + k ≤ length before → k ≤ length s → (i : ℕ) → to + k ≤ i → get_or l i z ≡ get_or before i z
  copy_read {k} z p h g i q = ap (λ x. get_or x i z) p.so_far ∙ paste-behind before to s k i z q (omega arith) g

-- the rest of a list, from a slot on, set to one value
rest-cleared : {A : Type 0} (end : ℕ) (l : List A) {rest : List A} (z : A) → rest ≡ replicate (length (mid_of end (length l - end) l)) z → put_mid end (length l - end) l rest ≡ take end l ++ replicate (length l - end) z
rest-cleared end l {rest} z e =
    let size : length (mid_of end (length l - end) l) ≡ length l - end = length-take-le (length l - end) (drop end l) (le_of_eq (sym (length-drop end l))) in
    let none : post_of end (length l - end) l ≡ [] = drop_of_length-le (drop end l) (le_of_eq (length-drop end l)) in
    rw (none, e, size) (ap (take end l ++◌) (append-nil (replicate (length l - end) z)))

-- ---- a block copied down

copied-down : {A : Type 0} (from to size : ℕ) (l : List A) → copy_within l from (from + size) to ≡ moved from to size l
copied-down from to size l = let e : from + size - from ≡ size = omega arith in rw e

-- ---- tables closed up

module _ {A : Type 0} (width : ℕ) (l : List A) where
  pub gathered-append : (a b : List ℕ) → gathered width l (a ++ b) ≡ gathered width l a ++ gathered width l b
  gathered-append [] b = refl
  gathered-append (i ∷ a) b = ap (take width (drop (width * i) l) ++◌) (gathered-append a b) ∙ sym (append_assoc (take width (drop (width * i) l)) (gathered width l a) (gathered width l b))

  pub gathered-length : (places : List ℕ) → ((j : ℕ) → j < length places → width * get_or places j 0 + width ≤ length l) → length (gathered width l places) ≡ width * length places
  gathered-length [] h = omega arith
  gathered-length (i ∷ places) h =
      let block : length (take width (drop (width * i) l)) ≡ width = length-take-le width (drop (width * i) l) (rw length-drop (omega (arith, h 0 (omega arith)))) in
      rw (length-append (take width (drop (width * i) l)), block, gathered-length places (λ j q. h (suc j) (omega arith))) (omega arith)

-- behind a front that takes the place of the first elements a list is as it was
drop-behind : {A : Type 0} (front l : List A) (m n : ℕ) → length front ≡ m → m ≤ n → drop n (front ++ drop m l) ≡ drop n l
drop-behind front l m n e h =
    let k = n - m in
    let q : n ≡ m + k = omega arith in
    rw q (sym (drop-drop k m (front ++ drop m l)) ∙ ap (drop k) (drop_at front (drop m l) m e) ∙ drop-drop k m l)

-- the first j places are closed up, and the rest is as before
pub record ClosedUp {A : Type 0} (width : ℕ) (places : List ℕ) (j : ℕ) (before l : List A) : Type 0 where
  pub same : length l ≡ length before
  pub so_far : l ≡ gathered width before (take j places) ++ drop (width * j) before

module _ {A : Type 0} {width count : ℕ} {places : List ℕ} {before : List A} (c : Closable width count places before) where
  front_length : (j : ℕ) → j ≤ count → length (gathered width before (take j places)) ≡ width * j
  front_length j h =
      let few : length (take j places) ≡ j = length-take-le j places (omega (arith, c.long)) in
      gathered-length width before (take j places) (λ k q. rw (get_or-take j places k 0 (omega arith)) (c.within k (omega arith))) ∙ ap (width *◌) few

  -- what the copy of its block relies on
  pub close-room : (j : ℕ) → j < count → (width * j ≤ width * get_or places j 0) × (width * get_or places j 0 + width ≤ length before)
  close-room j h = (mul-le-mul_left width (c.behind j h), c.within j h)

  -- what setting the rest to 0 relies on
  pub close-end : width * count ≤ length before
  close-end = go count refl
    where
      go : (k : ℕ) → k ≡ count → width * k ≤ length before
      go zero e = omega arith
      go (suc k) e =
          let room = close-room k (omega arith) in
          let one : width * suc k ≡ width * k + width = omega arith in
          omega arith

  -- one place more, whose block is copied down
  pub close-next : {j : ℕ} {l l' : List A} → j < count → ClosedUp width places j before l → length l' ≡ length l → l' ≡ copy_within l (width * get_or places j 0) (width * get_or places j 0 + width) (width * j) → ClosedUp width places (j + 1) before l'
  close-next {j} {l} h p same e =
      let i = get_or places j 0 in
      let front = gathered width before (take j places) in
      let size = front_length j (omega arith) in
      let up = mul-le-mul_left width (c.behind j h) in
      let first : take (width * j) l ≡ front = ap (take (width * j)) p.so_far ∙ take_at front _ (width * j) size in
      let block : drop (width * i) l ≡ drop (width * i) before = ap (drop (width * i)) p.so_far ∙ drop-behind front before (width * j) (width * i) size up in
      let rest : drop (width * j + width) l ≡ drop (width * j + width) before = ap (drop (width * j + width)) p.so_far ∙ drop-behind front before (width * j) (width * j + width) size (omega arith) in
      let one : take (j + 1) places ≡ take j places ++ (i ∷ []) = rw (add-one j) (take-suc places j 0 (omega (arith, c.long))) in
      let more : gathered width before (take (j + 1) places) ≡ front ++ take width (drop (width * i) before) =
      ap (gathered width before) one
      ∙ gathered-append width before (take j places) (i ∷ [])
      ∙ ap (front ++◌) (append-nil (take width (drop (width * i) before))) in
      let next : width * (j + 1) ≡ width * j + width = omega arith in
      record { same = same ∙ p.same; so_far = e ∙ copied-down (width * i) (width * j) width l ∙ rw (first, block, rest, more, next) }

  -- and zeros behind the last
  pub close-last : {l rest : List A} (z : A) → ClosedUp width places count before l → rest ≡ replicate (length (mid_of (width * count) (length l - width * count) l)) z → put_mid (width * count) (length l - width * count) l rest ≡ closed width z (take count places) before
  unfolding closed
  close-last {l} z p e =
      let front = gathered width before (take count places) in
      let few : length (take count places) ≡ count = length-take-le count places c.long in
      let first : take (width * count) l ≡ front = ap (take (width * count)) p.so_far ∙ take_at front _ (width * count) (front_length count (omega arith)) in
      rest-cleared (width * count) l z e ∙ rw (first, p.same, few)

-- ---- the order list

module _ (numbers : List ℕ) {first count : ℕ} {before : List ℕ} (r : Renumberable first count before) where
  -- all entries from the first on, by their new numbers
  abbrev renumbering : List ℕ
  renumbering = map (λ i. get_or numbers i 0) (drop first before)

  renumbering-length : length renumbering ≡ length before - first
  renumbering-length = length-map (drop first before) (λ i. get_or numbers i 0) ∙ length-drop first before

  -- what is read
  pub renumber-read : {j : ℕ} {l : List ℕ} → Copied before 0 renumbering j l → j < count - first → get_or l (first + j) 0 ≡ get_or before (first + j) 0
  renumber-read {j} p h = copy_read 0 p (omega (arith, r.long)) (omega (arith, renumbering-length, r.long)) (first + j) (omega arith)

  -- one entry more
  pub renumber-next : {j : ℕ} {l : List ℕ} → Copied before 0 renumbering j l → j < count - first → Copied before 0 renumbering (j + 1) (set l j (get_or numbers (get_or l (first + j) 0) 0))
  renumber-next {j} {l} p h =
      let long : first + j < length before = omega (arith, r.long) in
      let more : j < length (drop first before) = rw length-drop (omega arith) in
      let none : 0 + j ≡ j = omega arith in
      copy-next 0 p (omega arith) (omega (arith, renumbering-length)) (ap (λ (i : ℕ). set l i (get_or numbers (get_or l (first + j) 0) 0)) (sym none))
      (ap (λ (i : ℕ). get_or numbers i 0) (renumber-read p h ∙ sym (get_or-drop first before j 0)) ∙ sym (get_or-map (λ (i : ℕ). get_or numbers i 0) (drop first before) j 0 0 more))

  -- and zeros behind the last
  pub renumber-last : {l rest : List ℕ} → Copied before 0 renumbering (count - first) l → rest ≡ replicate (length (mid_of (count - first) (length l - (count - first)) l)) 0 → put_mid (count - first) (length l - (count - first)) l rest ≡ renumbered_by numbers first count before
  unfolding renumbered_by
  renumber-last {l} p e =
      let left = count - first in
      let none : 0 + left ≡ left = omega arith in
      let front : take left l ≡ take left renumbering = ap (λ (n : ℕ). take n l) (sym none) ∙ ap (take (0 + left)) p.so_far ∙ take-paste before 0 renumbering left (omega arith) (omega (arith, renumbering-length, r.long)) in
      rest-cleared left l 0 e ∙ rw (front, p.same, take-map)
