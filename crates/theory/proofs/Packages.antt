-- R-3 over cabinets, proved: what is written reads back, equal books write the same, and a cabinet filled from its neighbour drains to the same state.
use mathlib.Core.Path.{◌≡◌, refl, sym, ap, subst, ◌∙◌}
use mathlib.Core.Bool.{true, false}
use mathlib.Core.List.{List, [], ◌∷◌, ◌++◌}
use Prim.Native.Nat.{ℕ, ◌≤◌}
use native.Mathlib.Omega.{arith}
use borrow.Author.Tests.{leb-true, eqb-true, eq-eqb, not-false}
use lib.Dec.{eqb, leb}
use lib.ListN.{length, take, drop, replicate}
use lib.Seq.{take_at, drop_at}
use Rattle.general.proofs.Cases.{by-test, both, impossible}
use Rattle.model.specs.Answers.{Done, Packed, Length}
use Rattle.model.specs.Cabinet.{Cabinet, empty_cabinet, history_of}
use Rattle.model.specs.Tables.{Tables, decode}
use Rattle.model.specs.Form.{lengths_fit, in_form, Formed}
use Rattle.model.specs.Refusals.{first_of, wrong_lengths, not_in_form, no_room}
use Rattle.model.specs.Package.{Item, layout_fits, items_of, package_of}
use Rattle.model.specs.Book.{Book, booked, book_of, takings, withdrawals, booked_items}
use Rattle.model.specs.Calls.{set_up, take_in_package, drain, held_items_of, PackedReply, package_out}
use Rattle.model.specs.Log.{Call, package_call, book_items, Ledger, begun, after_call}
use Rattle.model.specs.Sound.{Sound}
use Rattle.model.proofs.Keeps.{history-sound}
use Rattle.model.proofs.Items.{none-applies}
use Rattle.model.proofs.Packing.{items-count}
use Rattle.model.proofs.Tests.{lengths-of}
use Rattle.model.proofs.Tables.{decode-encode}
use Rattle.model.proofs.Form.{encode-formed, facts}
use Rattle.theory.specs.Totals.{DrainAnswered}
use Rattle.theory.specs.Packages.{cabinet_of, written_of, ReadsBack, SamePackage, taken_into, Filled}
use Rattle.theory.proofs.Calls.{empty-sound}
use Rattle.theory.proofs.Dropped.{below-zero}
use Rattle.theory.proofs.Reached.{Holding, all_sound}
use Rattle.theory.proofs.Demand.{reached, demand3}
use Rattle.theory.proofs.Cutoffs.{nothing-lost}
use Rattle.theory.proofs.ReadBack.{AllPackable, items_back, layout-fits}
use Rattle.theory.proofs.Filling.{SoundBook, sound-book, Fills, book-fills, all_done, all-booked}

-- ---- the items of what is held

takings-packable : (a : ℕ) (book : Book) → SoundBook a book → AllPackable (takings book)
takings-packable a [] s = tt
takings-packable a (booked t p w ∷ book) s = ((omega (arith, s.1), s.2.0, s.2.1), takings-packable t book s.3)

withdrawals-packable : (a : ℕ) (book : Book) → SoundBook a book → AllPackable (withdrawals book)
withdrawals-packable a [] s = tt
withdrawals-packable a (booked t p true ∷ book) s = (omega (arith, s.1), withdrawals-packable t book s.3)
withdrawals-packable a (booked t p false ∷ book) s = withdrawals-packable t book s.3

both-packable : (items more : List Item) → AllPackable items → AllPackable more → AllPackable (items ++ more)
both-packable [] more a b = b
both-packable (i ∷ items) more a b = (a.0, both-packable items more a.1 b)

held-book : {n : ℕ} {T : Tables} → Formed n T → SoundBook 0 (book_of (history_of (decode T)))
held-book {n} {T} g = let s = (facts g).sound in sound-book 0 (history_of (decode T)) s.rising (history-sound s)

held-packable : {n : ℕ} {T : Tables} → Formed n T → AllPackable (held_items_of T)
held-packable {n} {T} g =
    let book = book_of (history_of (decode T)) in
    let s = held-book g in
    both-packable (takings book) (withdrawals book) (takings-packable 0 book s) (withdrawals-packable 0 book s)

-- ---- what a length that is answered tells

record Wrote (n : ℕ) (T : Tables) (bytes : List ℕ) (size : ℕ) : Type 0 where
  formed : Formed n T
  few : length (held_items_of T) ≤ 512
  short : length (package_of (held_items_of T)) ≤ 65535
  sized : length (package_of (held_items_of T)) ≡ size
  left : (package_out n T bytes).bytes ≡ package_of (held_items_of T) ++ drop (length (package_of (held_items_of T))) bytes

length-of : Packed → ℕ
length-of (Length size) = size
length-of (Packed.Refused r) = 0

module _ (n : ℕ) (T : Tables) (bytes : List ℕ) (size : ℕ) where
  abbrev refusal : ℕ
  refusal = first_of (wrong_lengths n T ∷ not_in_form n T ∷ no_room (length (held_items_of T)) (length (package_of (held_items_of T))) (length bytes) ∷ [])

  wrote : (package_out n T bytes).answer ≡ Length size → Wrote n T bytes size
  unfolding package_out length-of
  wrote e =
      by-test (λ (r : PackedReply). r.answer ≡ Length size → r.bytes ≡ (package_out n T bytes).bytes → Wrote n T bytes size) (eqb refusal 0)
      (λ q a l.
      let none = none-applies (wrong_lengths n T ∷ not_in_form n T ∷ no_room (length (held_items_of T)) (length (package_of (held_items_of T))) (length bytes) ∷ []) (omega arith) (eqb-true refusal 0 q) in
      let room = both (leb (length (held_items_of T)) 512) (not-false _ none.1.1.0) in
      let limits = both (leb (length (package_of (held_items_of T))) 65535) room.1 in
      record {
        formed = record { sized = not-false (lengths_fit n T) none.0; form = not-false (in_form n T) none.1.0 };
        few = leb-true _ _ room.0;
        short = leb-true _ _ limits.0;
        sized = ap length-of a;
        left = sym l;
      })
      (λ q a l. impossible (cc)) e refl

  -- the package itself
  written_is : Wrote n T bytes size → written_of n T bytes size ≡ package_of (held_items_of T)
  written_is w = ap (take size) w.left ∙ take_at (package_of (held_items_of T)) _ size w.sized

pub reads-back : (n : ℕ) (T : Tables) (bytes : List ℕ) (size : ℕ) → (package_out n T bytes).answer ≡ Length size → ReadsBack n T bytes size
reads-back n T bytes size e =
    let w = wrote n T bytes size e in
    let same = written_is n T bytes size w in
    let all = held-packable w.formed in
    record {
      layout = ap layout_fits same ∙ layout-fits (held_items_of T) all w.few w.short;
      items = ap items_of same ∙ items_back (held_items_of T) all w.few;
      counted = ap length same ∙ w.sized;
      later =
          ap (drop size) w.left
          ∙ drop_at (package_of (held_items_of T)) _ size w.sized
          ∙ ap (λ (k : ℕ). drop k bytes) w.sized;
    }

-- ---- cabinets

-- what is held is the book
held_items : (n : ℕ) (c : Cabinet) (k : Ledger) → Holding n c k → held_items_of k.tables ≡ booked_items k.book
held_items n c k h =
    ap (λ (T : Tables). held_items_of T) h.tables
    ∙ ap (λ (d : Cabinet). booked_items (book_of (history_of d))) (decode-encode n c h.sound)
    ∙ ap booked_items h.booked

pub same-package : (n : ℕ) (T : Tables) → lengths_fit n T ≡ true → (calls : List Call) → (n' : ℕ) (T' : Tables) → lengths_fit n' T' ≡ true → (calls' : List Call) → SamePackage n (cabinet_of n T calls) n' (cabinet_of n' T' calls')
same-package n T fits calls n' T' fits' calls' same bytes bytes' size size' e e' =
    let k = cabinet_of n T calls in
    let k' = cabinet_of n' T' calls' in
    let r = reached n T fits calls in
    let r' = reached n' T' fits' calls' in
    let w = wrote n k.tables bytes size e in
    let w' = wrote n' k'.tables bytes' size' e' in
    let items : package_of (held_items_of k.tables) ≡ package_of (held_items_of k'.tables) = ap package_of (held_items n r.cabinet k r.holding ∙ ap booked_items same ∙ sym (held_items n' r'.cabinet k' r'.holding)) in
    (sym w.sized ∙ ap length items ∙ w'.sized, written_is n k.tables bytes size w ∙ items ∙ sym (written_is n' k'.tables bytes' size' w'))

-- ---- filling

-- a package whose items fill a book, taken into tables just set up
taken_in : (n : ℕ) (U : Tables) (written answers : List ℕ) (book : Book) → lengths_fit n U ≡ true → length answers ≡ 512 → layout_fits written ≡ true → Fills n [] (items_of written) book → ((taken_into n U written answers).answer ≡ Done) × ((taken_into n U written answers).answers ≡ replicate (length (items_of written)) 0 ++ drop (length (items_of written)) answers)
unfolding set_up take_in_package
taken_in n U written answers book fits long layout fills =
    let s : Sound n empty_cabinet = empty-sound n U (lengths-of n U fits) in
    let f = encode-formed s in
    rw (fits, f.sized, f.form, eq-eqb (length answers) 512 long, layout, decode-encode n empty_cabinet s, all_done (items_of written) book s refl fills) (refl, refl)

-- the ledger after it
module _ (n : ℕ) (T : Tables) (written answers : List ℕ) where
  package-tables : (after_call n (package_call written answers) (begun T)).tables ≡ (take_in_package n T written answers).tables
  unfolding after_call
  package-tables = refl

  package-book : (take_in_package n T written answers).answer ≡ Done → (after_call n (package_call written answers) (begun T)).book ≡ book_items (items_of written) (take_in_package n T written answers).answers []
  unfolding after_call
  package-book done = rw done

  package-dropped : (after_call n (package_call written answers) (begun T)).dropped ≡ []
  unfolding after_call
  package-dropped = refl

-- what is claimed of the tables after it
record DrainsAs (n : ℕ) (k : Ledger) (n' : ℕ) (U : Tables) : Type 0 where
  answered : DrainAnswered n' U
  changes : history_of (decode (drain n' U).tables) ≡ history_of (decode (drain n k.tables).tables)
  view : (drain n' U).tables.view ≡ (drain n k.tables).tables.view

-- cabinets with equal books that have dropped nothing drain to the same state
same-drained : (n : ℕ) (T : Tables) → lengths_fit n T ≡ true → (calls : List Call) → (n' : ℕ) (T' : Tables) → lengths_fit n' T' ≡ true → (calls' : List Call) → (cabinet_of n T calls).dropped ≡ [] → (cabinet_of n' T' calls').dropped ≡ [] → (cabinet_of n' T' calls').book ≡ (cabinet_of n T calls).book → DrainsAs n (cabinet_of n T calls) n' (cabinet_of n' T' calls').tables
same-drained n T fits calls n' T' fits' calls' none none' same =
    let k = cabinet_of n T calls in
    let k' = cabinet_of n' T' calls' in
    let lost = nothing-lost n T fits calls n' T' fits' calls' none' (same ∙ ap (◌++ k.book) (sym none)) in
    record {
      answered = (demand3 n' T' fits' calls').answered;
      changes = sym (lost.same-changes ∙ ap (λ (dropped : Book). drop (length dropped) (history_of (decode (drain n' k'.tables).tables))) none);
      view = sym lost.same_view;
    }

pub filled : (n : ℕ) (T : Tables) → lengths_fit n T ≡ true → (calls : List Call) → Filled n (cabinet_of n T calls)
filled n T fits calls uncut bytes size e n' U answers fits' room long =
    let k = cabinet_of n T calls in
    let r = reached n T fits calls in
    let none : k.dropped ≡ [] = below-zero k.dropped (rw uncut at (demand3 n T fits calls).dropped-below) in
    let written = written_of n k.tables bytes size in
    let back = reads-back n k.tables bytes size e in
    let items : items_of written ≡ booked_items k.book = back.items ∙ held_items n r.cabinet k r.holding in
    let sound : SoundBook 0 k.book = subst (λ (dropped : Book). SoundBook 0 (dropped ++ k.book)) none (all_sound r.holding) in
    let fills : Fills n' [] (items_of written) k.book = rw (← items) at (book-fills n' k.book sound room) in
    let taken = taken_in n' U written answers k.book fits' long back.layout fills in
    let same : (cabinet_of n' U (package_call written answers ∷ [])).book ≡ k.book =
    package-book n' (set_up n' U).tables written answers taken.0
    ∙ ap (λ (l : List ℕ). book_items (items_of written) l []) taken.1
    ∙ all-booked n' [] (items_of written) k.book (drop (length (items_of written)) answers) fills in
    let d = subst (DrainsAs n k n') (package-tables n' (set_up n' U).tables written answers) (same-drained n T fits calls n' U fits' (package_call written answers ∷ []) none (package-dropped n' (set_up n' U).tables written answers) same) in
    record {
      done = taken.0;
      each-done = taken.1 ∙ ap (λ (m : ℕ). replicate m 0 ++ drop m answers) (items-count written);
      same-book = same;
      drained = d.answered;
      neighbour-drained = (demand3 n T fits calls).answered;
      changes = d.changes;
      view = d.view;
    }
