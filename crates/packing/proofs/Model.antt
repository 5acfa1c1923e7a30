-- What is put of tables in form is the package of what they hold.
use mathlib.Core.Path.{◌≡◌, refl, sym, ap, ap₂, ◌∙◌}
use mathlib.Core.Bool.{Bool, true, false}
use mathlib.Core.List.{List, [], ◌∷◌, ◌++◌, append_assoc, append-nil}
use Prim.Native.Nat.{ℕ, zero, suc, ◌+◌, ◌*◌, ◌/◌, ◌≤◌, ◌<◌}
use native.Mathlib.Omega.{arith}
use lib.ListN.{length, get_or, length-append, length-map}
use Rattle.machine.specs.Instruction.{Code}
use Rattle.machine.proofs.Form.{length-short}
use Rattle.text.specs.Pieces.{pieces_below}
use Rattle.model.specs.History.{Change, change, timestamp, program, withdrawn, History}
use Rattle.model.specs.Cabinet.{blank}
use Rattle.model.specs.Tables.{Tables, flag_number, held_count, program_at, decode}
use Rattle.model.specs.Form.{Formed}
use Rattle.model.specs.Package.{entry_bytes, item_entry, item_body, joined, package_of, number_bytes}
use Rattle.model.specs.Book.{Book, booked, booked_as, book_of, takings, withdrawals, booked_items}
use Rattle.model.specs.Calls.{held_items_of}
use Rattle.model.proofs.Sound.{at-any-place}
use Rattle.model.proofs.Tables.{withdrawn-at, length_at, version-at, program-back}
use Rattle.model.proofs.Packing.{length-entries}
use Rattle.model.proofs.Form.{facts}
use Rattle.search.proofs.Model.{history_in, placed-stamps, held-changes, history-length, by_place, stamped}
use Rattle.package_parts.specs.Parts.{change_entry, withdrawal_entry, body_in, AtMost}
use Rattle.package_entries.specs.Entries.{withdrawal_bytes}
use Rattle.packing.specs.Packing.{entries_in, package_in}
use Rattle.packing.specs.Lent.{HeldParts}
use Rattle.package_parts.proofs.Lengths.{withdrawals-length}

-- ---- pieces by number, and of the elements of a list

pieces-first : (n : ℕ) (f : ℕ → List ℕ) → pieces_below (suc n) f ≡ f 0 ++ pieces_below n (λ k. f (suc k))
pieces-first zero f = sym (append-nil (f 0))
pieces-first (suc n) f = ap (◌++ f (suc n)) (pieces-first n f) ∙ append_assoc (f 0) (pieces_below n (λ k. f (suc k))) (f (suc n))

pieces-joined : {A : Type 0} (piece : A → List ℕ) (f : ℕ → List ℕ) (l : List A) (d : A) → ((k : ℕ) → k < length l → f k ≡ piece (get_or l k d)) → pieces_below (length l) f ≡ joined piece l
pieces-joined piece f [] d h = refl
pieces-joined piece f (x ∷ l) d h =
    pieces-first (length l) f
    ∙ ap₂ ◌++◌ (h 0 (omega arith)) (pieces-joined piece (λ k. f (suc k)) l d (λ k q. h (suc k) (omega arith)))

joined-append : {A : Type 0} (piece : A → List ℕ) (l m : List A) → joined piece (l ++ m) ≡ joined piece l ++ joined piece m
joined-append piece [] m = refl
joined-append piece (x ∷ l) m = ap (piece x ++◌) (joined-append piece l m) ∙ sym (append_assoc (piece x) (joined piece l) (joined piece m))

-- ---- the parts of a package, by a history

abbrev change_of : Change → List ℕ
change_of c = entry_bytes (timestamp c) 0 (length (program c).bytes / 8) (program c).version

abbrev withdrawal_of : Change → List ℕ
withdrawal_of c = withdrawal_bytes (flag_number (withdrawn c)) (timestamp c)

changes-of : (h : History) → joined change_of h ≡ joined item_entry (takings (book_of h))
changes-of [] = refl
changes-of (change t p s w l ∷ h) = ap (entry_bytes t 0 (length p.bytes / 8) p.version ++◌) (changes-of h)

withdrawals-of : (h : History) → joined withdrawal_of h ≡ joined item_entry (withdrawals (book_of h))
withdrawals-of [] = refl
withdrawals-of (change t p s true l ∷ h) = ap (entry_bytes t 1 0 0 ++◌) (withdrawals-of h)
withdrawals-of (change t p s false l ∷ h) = withdrawals-of h

bodies_of : (h : History) → joined (λ c. (program c).bytes) h ≡ joined item_body (takings (book_of h))
bodies_of [] = refl
bodies_of (change t p s w l ∷ h) = ap (p.bytes ++◌) (bodies_of h)

-- a withdrawal has no body
no-bodies : (book : Book) → joined item_body (withdrawals book) ≡ []
no-bodies [] = refl
no-bodies (booked t p true ∷ book) = no-bodies book
no-bodies (booked t p false ∷ book) = no-bodies book

takings-length : (book : Book) → length (takings book) ≡ length book
takings-length [] = refl
takings-length (booked t p w ∷ book) = ap suc (takings-length book)

-- ---- tables in form

flag_small : (w : Bool) → flag_number w ≤ 1
flag_small true = omega arith
flag_small false = omega arith

module _ {n : ℕ} {T : Tables} (g : Formed n T) where
  abbrev count : ℕ
  count = held_count T

  -- the parts of the change at a position of the order list
  module _ (k : ℕ) (h : k < count) where
    abbrev place : ℕ
    place = get_or T.order k 0

    held-flag : get_or T.withdrawn place 0 ≡ flag_number (withdrawn (get_or (history_in T) k blank))
    held-flag = ap (λ (U : Tables). get_or U.withdrawn place 0) (sym (facts g).laid) ∙ withdrawn-at n (decode T) place ∙ ap (λ (c : Change). flag_number (withdrawn c)) (by_place g k h)

    held-length : get_or T.lengths place 0 ≡ length (program (get_or (history_in T) k blank)).bytes / 8
    held-length = ap (λ (U : Tables). get_or U.lengths place 0) (sym (facts g).laid) ∙ length_at n (decode T) place ∙ ap (λ (c : Change). length (program c).bytes / 8) (by_place g k h)

    held-program : program_at T place ≡ program (get_or (history_in T) k blank)
    held-program =
        ap (λ (U : Tables). program_at U place) (sym (facts g).laid)
        ∙ program-back n (decode T) (facts g).sound place (omega (arith, (facts g).form.places k h, held-changes g))
        ∙ ap program (by_place g k h)

  -- the parts of the package
  changes-put : pieces_below count (change_entry T.order T.timestamps T.lengths T.versions) ≡ joined item_entry (takings (book_of (history_in T)))
  changes-put =
      ap (λ (k : ℕ). pieces_below k (change_entry T.order T.timestamps T.lengths T.versions)) (sym (history-length g))
      ∙ pieces-joined change_of (change_entry T.order T.timestamps T.lengths T.versions) (history_in T) blank (λ k h. let q : k < count = omega (arith, h, history-length g) in λ j. entry_bytes (stamped g k q j) 0 (held-length k q j) (held-program k q j).version)
      ∙ changes-of (history_in T)

  withdrawals-put : pieces_below count (withdrawal_entry T.order T.timestamps T.withdrawn) ≡ joined item_entry (withdrawals (book_of (history_in T)))
  withdrawals-put =
      ap (λ (k : ℕ). pieces_below k (withdrawal_entry T.order T.timestamps T.withdrawn)) (sym (history-length g))
      ∙ pieces-joined withdrawal_of (withdrawal_entry T.order T.timestamps T.withdrawn) (history_in T) blank (λ k h. let q : k < count = omega (arith, h, history-length g) in ap₂ withdrawal_bytes (held-flag k q) (stamped g k q))
      ∙ withdrawals-of (history_in T)

  bodies-put : pieces_below count (body_in T.order T.lengths T.programs) ≡ joined item_body (takings (book_of (history_in T)))
  bodies-put =
      ap (λ (k : ℕ). pieces_below k (body_in T.order T.lengths T.programs)) (sym (history-length g))
      ∙ pieces-joined (λ c. (program c).bytes) (body_in T.order T.lengths T.programs) (history_in T) blank (λ k h. ap (λ (p : Code). p.bytes) (held-program k (omega (arith, h, history-length g))))
      ∙ bodies_of (history_in T)

  -- flags are 0 or 1, programs have at most 32 instructions, versions are 0 or 1
  flags-small : AtMost 1 T.withdrawn
  flags-small = record { each = λ i. rw (← (facts g).laid, withdrawn-at n (decode T) i) (flag_small (withdrawn (get_or (decode T).changes i blank))) }

  lengths-small : AtMost 32 T.lengths
  lengths-small = record { each = λ i. rw (← (facts g).laid, length_at n (decode T) i) (omega (arith, at-any-place (λ c. length (program c).bytes ≤ 256) (omega arith) (λ c s. length-short (program c).bytes s.sized) (decode T).changes i (facts g).sound.each)) }

  versions-small : AtMost 1 T.versions
  versions-small = record { each = λ i. rw (← (facts g).laid, version-at n (decode T) i) (at-any-place (λ c. (program c).version ≤ 1) (omega arith) (λ c s. s.versioned) (decode T).changes i (facts g).sound.each) }

  pub held-parts : {k : ℕ} → k ≡ held_count T → HeldParts k T.order T.timestamps T.withdrawn T.lengths T.programs T.versions
  held-parts e =
      let l = (facts g).sizes in
      rw e
      (record {
        small = omega (arith, (facts g).form.small, l.capacity);
        placed = placed-stamps g;
        flags = l.withdrawn ∙ sym l.timestamps;
        flag = flags-small;
        sizes = l.lengths ∙ sym l.timestamps;
        short = lengths-small;
        blocks = l.programs ∙ ap (256 *◌) (sym l.timestamps);
        versioned = l.versions ∙ sym l.timestamps;
        version = versions-small;
      })

  -- as many entries as items
  pub entries-are : entries_in T.order T.withdrawn count ≡ length (held_items_of T)
  entries-are =
      let book = book_of (history_in T) in
      let put = withdrawals-length T.order T.timestamps T.withdrawn flags-small count in
      let same = ap length withdrawals-put ∙ length-entries (withdrawals book) in
      omega (arith, put, same, length-append (takings book) (withdrawals book), takings-length book, length-map (history_in T) booked_as, history-length g)

  pub package-is : package_in T.order T.timestamps T.withdrawn T.lengths T.programs T.versions count ≡ package_of (held_items_of T)
  unfolding package_in package_of
  package-is =
      let book = book_of (history_in T) in
      let entries = joined-append item_entry (takings book) (withdrawals book) in
      let bodies : joined item_body (booked_items book) ≡ joined item_body (takings book) = joined-append item_body (takings book) (withdrawals book) ∙ ap (joined item_body (takings book) ++◌) (no-bodies book) ∙ append-nil (joined item_body (takings book)) in
      rw (entries-are, changes-put, withdrawals-put, bodies-put, entries, bodies)
      (ap (◌++ joined item_body (takings book)) (append_assoc (number_bytes 2 (length (held_items_of T))) (joined item_entry (takings book)) (joined item_entry (withdrawals book))))
