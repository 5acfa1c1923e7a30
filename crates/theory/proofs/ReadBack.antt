-- What is laid out as a package passes the test of its layout and reads back as the same items.
use mathlib.Core.Path.{◌≡◌, refl, sym, ap, ap₂, subst, ◌∙◌}
use mathlib.Core.Bool.{true}
use mathlib.Core.List.{List, [], ◌∷◌, ◌++◌, append_assoc}
use Prim.Native.Nat.{ℕ, zero, suc, ◌+◌, ◌*◌, ◌/◌, ◌%◌, ◌≤◌, ◌<◌}
use native.Mathlib.Omega.{arith}
use borrow.Author.Tests.{le-leb, eq-eqb}
use lib.ListN.{length, get_or, drop, length-append}
use lib.Seq.{get_or-drop, drop-drop, take_at, drop_at}
use Rattle.machine.specs.Instruction.{code}
use Rattle.machine.specs.Form.{length_fits}
use Rattle.machine.proofs.Form.{below_all, length-short, length-eights}
use Rattle.general.specs.Lists.{tabulate_from}
use Rattle.model.specs.Package.{Item, taking, withdrawing, number_at, entry_count, entry_at, stamp_of, kind_of, count_of, version_of, entry_fits, count_before, body_at, layout_fits, item_at, items_of, number_bytes, entry_bytes, item_entry, item_body, joined, package_of}
use Rattle.model.proofs.Packing.{length-entries, length-package}

-- ---- numbers

-- one more than the highest number of so many bytes
abbrev limit : ℕ → ℕ
limit zero = 1
limit (suc k) = 256 * limit k

-- what stands from a place on
module _ (bytes : List ℕ) (i : ℕ) {l : List ℕ} (e : drop i bytes ≡ l) where
  part_at : (j : ℕ) → get_or bytes (i + j) 0 ≡ get_or l j 0
  part_at j = sym (get_or-drop i bytes j 0) ∙ ap (λ (m : List ℕ). get_or m j 0) e

  part-from : (j : ℕ) → drop (i + j) bytes ≡ drop j l
  part-from j = sym (drop-drop j i bytes) ∙ ap (drop j) e

-- a number is read where it is laid out
number_read : (k x : ℕ) (bytes rest : List ℕ) (i : ℕ) → drop i bytes ≡ number_bytes k x ++ rest → x < limit k → number_at bytes i k ≡ x
unfolding number_at
number_read zero x bytes rest i e h = omega arith
number_read (suc k) x bytes rest i e h =
    let here : i + 0 ≡ i = omega arith in
    let next : i + 1 ≡ suc i = omega arith in
    let low : get_or bytes i 0 ≡ x % 256 = rw here at (part_at bytes i e 0) in
    let high = number_read k (x / 256) bytes rest (suc i) (rw next at (part-from bytes i e 1)) (omega arith) in
    omega (arith, low, high)

-- ---- entries

-- an entry is read where it is laid out
record EntryRead (bytes : List ℕ) (j t kind count version : ℕ) : Type 0 where
  stamp : stamp_of bytes j ≡ t
  kind-read : kind_of bytes j ≡ kind
  count-read : count_of bytes j ≡ count
  version-read : version_of bytes j ≡ version
  zero-read : get_or bytes (entry_at j + 11) 0 ≡ 0

entry_read : (bytes rest : List ℕ) (j t kind count version : ℕ) → drop (entry_at j) bytes ≡ entry_bytes t kind count version ++ rest → t < limit 8 → EntryRead bytes j t kind count version
entry_read bytes rest j t kind count version e h =
    record {
      stamp = number_read 8 t bytes (kind ∷ count ∷ version ∷ 0 ∷ rest) (entry_at j) e h;
      kind-read = part_at bytes (entry_at j) e 8;
      count-read = part_at bytes (entry_at j) e 9;
      version-read = part_at bytes (entry_at j) e 10;
      zero-read = part_at bytes (entry_at j) e 11;
    }

-- ---- items

-- an item whose timestamp has 8 bytes, and whose program is of at most 32 instructions and of a version
abbrev pub Packable : Item → Type 0
Packable (taking t p) = (t < 18446744073709551616) × (length_fits p.bytes ≡ true) × (p.version ≤ 1)
Packable (withdrawing t) = t < 18446744073709551616

abbrev pub AllPackable : List Item → Type 0
AllPackable [] = Unit {0}
AllPackable (i ∷ items) = Packable i × AllPackable items

-- from entry j on, the bytes have the entries of some items and then the bodies; from body j on, the bodies of these items and nothing more
record Left (bytes bodies : List ℕ) (j : ℕ) (items : List Item) : Type 0 where
  entries : drop (entry_at j) bytes ≡ joined item_entry items ++ bodies
  rest : drop (body_at bytes j) bytes ≡ joined item_body items
  ends : body_at bytes j + length (joined item_body items) ≡ length bytes

-- the first of them is read at entry j, and the others are left
record ItemRead (bytes bodies : List ℕ) (j : ℕ) (i : Item) (items : List Item) : Type 0 where
  read : item_at bytes j ≡ i
  fits : entry_fits bytes j ≡ true
  left : Left bytes bodies (suc j) items

-- past an entry of so many instructions
left-next : (bytes bodies : List ℕ) (j : ℕ) (i : Item) (items : List Item) → 8 * count_of bytes j ≡ length (item_body i) → length (item_entry i) ≡ 12 → Left bytes bodies j (i ∷ items) → Left bytes bodies (suc j) items
unfolding count_before
left-next bytes bodies j i items count size l =
    let entry : entry_at j + 12 ≡ entry_at (suc j) = omega arith in
    let body : body_at bytes j + length (item_body i) ≡ body_at bytes (suc j) = omega (arith, count) in
    record {
      entries = subst (λ (k : ℕ). drop k bytes ≡ joined item_entry items ++ bodies) entry (part-from bytes (entry_at j) (l.entries ∙ append_assoc (item_entry i) (joined item_entry items) bodies) 12 ∙ drop_at (item_entry i) (joined item_entry items ++ bodies) 12 size);
      rest = subst (λ (k : ℕ). drop k bytes ≡ joined item_body items) body (part-from bytes (body_at bytes j) l.rest (length (item_body i)) ∙ drop_at (item_body i) (joined item_body items) (length (item_body i)) refl);
      ends = omega (arith, l.ends, body, length-append (item_body i) (joined item_body items));
    }

item-read : (bytes bodies : List ℕ) (j : ℕ) (i : Item) (items : List Item) → Packable i → Left bytes bodies j (i ∷ items) → ItemRead bytes bodies j i items
item-read bytes bodies j (taking t p) items (h, sized, versioned) l =
    let r = entry_read bytes (joined item_entry items ++ bodies) j t 0 (length p.bytes / 8) p.version l.entries h in
    let count : 8 * count_of bytes j ≡ length p.bytes = ap (8 *◌) r.count-read ∙ length-eights p.bytes sized in
    let few : length p.bytes / 8 ≤ 32 = omega (arith, length-short p.bytes sized) in
    record {
      read = rw (r.kind-read, r.stamp, r.version-read, count, l.rest) (ap (λ (b : List ℕ). taking t (code p.version b)) (take_at p.bytes (joined item_body items) (length p.bytes) refl));
      fits = rw (r.kind-read, r.count-read, r.version-read, r.zero-read, le-leb (length p.bytes / 8) 32 few, le-leb p.version 1 versioned);
      left = left-next bytes bodies j (taking t p) items count refl l;
    }
item-read bytes bodies j (withdrawing t) items h l =
    let r = entry_read bytes (joined item_entry items ++ bodies) j t 1 0 0 l.entries h in
    record {
      read = rw (r.kind-read, r.stamp);
      fits = rw (r.kind-read, r.count-read, r.version-read, r.zero-read);
      left = left-next bytes bodies j (withdrawing t) items (omega (arith, r.count-read)) refl l;
    }

module _ (bytes bodies : List ℕ) where
  items-read : (j : ℕ) (items : List Item) → AllPackable items → Left bytes bodies j items → tabulate_from j (length items) (item_at bytes) ≡ items
  items-read j [] all l = refl
  items-read j (i ∷ items) all l =
      let r = item-read bytes bodies j i items all.0 l in
      ap₂ ◌∷◌ r.read (items-read (suc j) items all.1 r.left)

  fits_read : (j : ℕ) (items : List Item) → AllPackable items → Left bytes bodies j items → (k : ℕ) → k < length items → entry_fits bytes (j + k) ≡ true
  fits_read j [] all l k h = absurd (omega arith)
  fits_read j (i ∷ items) all l zero h = let e : j + 0 ≡ j = omega arith in rw e (item-read bytes bodies j i items all.0 l).fits
  fits_read j (i ∷ items) all l (suc k) h =
      let e : j + suc k ≡ suc j + k = omega arith in
      rw e (fits_read (suc j) items all.1 (item-read bytes bodies j i items all.0 l).left k (omega arith))

  ends_read : (j : ℕ) (items : List Item) → AllPackable items → Left bytes bodies j items → body_at bytes (j + length items) ≡ length bytes
  ends_read j [] all l = let e : j + 0 ≡ j = omega arith in rw e (omega (arith, l.ends))
  ends_read j (i ∷ items) all l =
      let e : j + suc (length items) ≡ suc j + length items = omega arith in
      rw e (ends_read (suc j) items all.1 (item-read bytes bodies j i items all.0 l).left)

-- ---- a package

module _ (items : List Item) (all : AllPackable items) (few : length items ≤ 512) where
  abbrev bytes : List ℕ
  bytes = package_of items

  count-read : entry_count bytes ≡ length items
  unfolding package_of
  count-read = number_read 2 (length items) bytes (joined item_entry items ++ joined item_body items) 0 refl (omega arith)

  body-first : body_at bytes 0 ≡ 2 + 12 * length items
  unfolding count_before
  body-first = omega (arith, count-read)

  all_left : Left bytes (joined item_body items) 0 items
  unfolding package_of
  all_left =
      record {
        entries = refl;
        rest = ap (λ (k : ℕ). drop k bytes) body-first ∙ part-from bytes 2 refl (12 * length items) ∙ drop_at (joined item_entry items) (joined item_body items) (12 * length items) (length-entries items);
        ends = omega (arith, body-first, length-package items);
      }

  pub items_back : items_of bytes ≡ items
  unfolding items_of
  items_back = ap (λ (k : ℕ). tabulate_from 0 k (item_at bytes)) count-read ∙ items-read bytes (joined item_body items) 0 items all all_left

  pub layout-fits : length bytes ≤ 65535 → layout_fits bytes ≡ true
  unfolding layout_fits
  layout-fits short =
      let size = length-package items in
      let ends : body_at bytes (length items) ≡ length bytes = subst (λ (k : ℕ). body_at bytes k ≡ length bytes) (let e : 0 + length items ≡ length items = omega arith in e) (ends_read bytes (joined item_body items) 0 items all all_left) in
      let fit = below_all (length items) (entry_fits bytes) (λ k h. let e : 0 + k ≡ k = omega arith in rw e at (fits_read bytes (joined item_body items) 0 items all all_left k h)) in
      rw (count-read, le-leb 2 (length bytes) (omega (arith, size)), le-leb (length bytes) 65535 short, le-leb (length items) 512 few, le-leb (entry_at (length items)) (length bytes) (omega (arith, size)), fit, eq-eqb (length bytes) (entry_at (length items) + 8 * count_before bytes (length items)) (omega (arith, ends, count-read)))
