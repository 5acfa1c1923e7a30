-- R-7, proved: dropping loses nothing, a cabinet that never dropped a change is there for it, and the same cutoff again alters nothing.
use mathlib.Core.Path.{◌≡◌, refl, sym, ap, ap₂, subst, ◌∙◌}
use mathlib.Core.Bool.{true, false}
use mathlib.Core.List.{List, [], ◌∷◌, ◌++◌, map}
use Prim.Native.Nat.{ℕ, zero, suc, ◌≤◌, ◌<◌}
use native.Mathlib.Omega.{arith}
use borrow.Author.Tests.{lt-ltb, le-ltb}
use lib.ListN.{length, get_or, drop}
use Rattle.machine.specs.Settings.{Environment}
use Rattle.model.specs.Answers.{Done}
use Rattle.model.specs.History.{infinity, start, New, Valid, Invalid, Lists, Change, change, timestamp, History, all_settings}
use Rattle.model.specs.Cabinet.{Cabinet, empty_cabinet, kept_values_in, blank, history_of, closed_to, renumbered, cut_at}
use Rattle.model.specs.Tables.{Tables, encode, decode}
use Rattle.model.specs.Form.{lengths_fit, Formed}
use Rattle.model.specs.Refusals.{waits_below}
use Rattle.model.specs.Package.{Item, taking, withdrawing}
use Rattle.model.specs.Book.{Book, booked, book_of, booked_items, fresh_after, fresh_run, fresh_end}
use Rattle.model.specs.Calls.{item_step, reply, item_steps, drain}
use Rattle.model.specs.Log.{after_call, Call, take_in_call, withdraw_call, book_items, Ledger, after_calls}
use Rattle.model.specs.Sound.{Below, Sound}
use Rattle.model.proofs.Values.{all-value}
use Rattle.model.proofs.Sound.{under_at}
use Rattle.model.proofs.Keeps.{history-uncut, drain-sound}
use Rattle.model.proofs.Items.{items-cutoff, items-book}
use Rattle.model.proofs.Figure.{NoneBelow, as_of-none-below, AllValid, drain-ends}
use Rattle.model.proofs.Cutoff.{none_dropped}
use Rattle.model.proofs.Tables.{decode-encode}
use Rattle.model.proofs.Form.{facts}
use Rattle.theory.specs.Demand.{listed, kept_after, Drains}
use Rattle.theory.specs.Packages.{cabinet_of}
use Rattle.theory.specs.Cutoffs.{NoCutoff, NothingLost, NeverDropping, SameAgain}
use Rattle.theory.proofs.Calls.{drained, drain-call, drain_kept, cutoff-call, drained-history}
use Rattle.theory.proofs.Filling.{book-fills, all_done, all-booked}
use Rattle.theory.proofs.Dropped.{below-zero, fresh_end-append}
use Rattle.theory.proofs.Reached.{Holding, all_sound, call-holds}
use Rattle.theory.proofs.Demand.{set-up-holds, reached, demand3}

-- ---- after a drain

-- a book with lists, every change Valid
abbrev settled : Book → List (ℕ × Lists) → History
settled [] lists = []
settled (b ∷ book) [] = []
settled (booked t p w ∷ book) (l ∷ lists) = change t p Valid w l.1 ∷ settled book lists

settled_is : (h : History) → AllValid h → h ≡ settled (book_of h) (map listed h)
settled_is [] v = refl
settled_is (change t p New w l ∷ h) v = absurd v
settled_is (change t p Invalid w l ∷ h) v = absurd v
settled_is (change t p Valid w l ∷ h) v = ap (change t p Valid w l ∷◌) (settled_is h v)

-- of the fresh run of two books, the second part begins where the first ends
settled-later : (dropped book : Book) (env : Environment) → settled book (fresh_run book (fresh_end dropped env)) ≡ drop (length dropped) (settled (dropped ++ book) (fresh_run (dropped ++ book) env))
settled-later [] book env = refl
settled-later (booked t p w ∷ dropped) book env = settled-later dropped book (fresh_after (booked t p w) env)

module _ (n : ℕ) (c : Cabinet) (k : Ledger) (h : Holding n c k) (d : Drains n k) where
  kept_fresh : kept_after n k ≡ fresh_end k.dropped start
  kept_fresh = rw (h.tables, drain_kept h.sound) h.dropped.fresh

  -- the changes are those of one fresh run of all that was dropped or is held, but for the dropped ones
  drained-changes : history_of (decode (drain n k.tables).tables) ≡ drop (length k.dropped) (settled (k.dropped ++ k.book) (fresh_run (k.dropped ++ k.book) start))
  drained-changes =
      let s = h.sound in
      let back : history_of (decode (drain n k.tables).tables) ≡ history_of (drained c) = rw (h.tables, drain-call s, decode-encode n (drained c) (drain-sound s)) in
      let valid : AllValid (history_of (drained c)) = rw (drained-history s) (drain-ends (kept_values_in c) (history_of c) c.view s.rising).all_valid in
      settled_is (history_of (decode (drain n k.tables).tables)) (subst AllValid (sym back) valid)
      ∙ ap₂ settled d.booked d.fresh-lists
      ∙ ap (λ (env : Environment). settled k.book (fresh_run k.book env)) kept_fresh
      ∙ settled-later k.dropped k.book start

  -- the view has the settings at its end
  drained-view : (drain n k.tables).tables.view ≡ all_settings (fresh_end (k.dropped ++ k.book) start)
  drained-view =
      d.fresh-view
      ∙ ap (λ (env : Environment). all_settings (fresh_end k.book env)) kept_fresh
      ∙ ap all_settings (sym (fresh_end-append k.dropped k.book start))

pub nothing-lost : (n : ℕ) (T : Tables) → lengths_fit n T ≡ true → (calls : List Call) → (n' : ℕ) (T' : Tables) → lengths_fit n' T' ≡ true → (calls' : List Call) → NothingLost n (cabinet_of n T calls) n' (cabinet_of n' T' calls')
nothing-lost n T fits calls n' T' fits' calls' none all =
    let k = cabinet_of n T calls in
    let k' = cabinet_of n' T' calls' in
    let r = reached n T fits calls in
    let r' = reached n' T' fits' calls' in
    let d = demand3 n T fits calls in
    let d' = demand3 n' T' fits' calls' in
    let same : k.dropped ++ k.book ≡ k'.dropped ++ k'.book = sym (ap₂ ◌++◌ none all) in
    record {
      same_view =
          drained-view n r.cabinet k r.holding d
          ∙ ap (λ (book : Book). all_settings (fresh_end book start)) same
          ∙ sym (drained-view n' r'.cabinet k' r'.holding d');
      same-changes =
          drained-changes n r.cabinet k r.holding d
          ∙ ap (λ (book : Book). drop (length k.dropped) (settled book (fresh_run book start))) same
          ∙ ap (drop (length k.dropped))
          (sym (drained-changes n' r'.cabinet k' r'.holding d' ∙ ap (λ (dropped : Book). drop (length dropped) (settled (k'.dropped ++ k'.book) (fresh_run (k'.dropped ++ k'.book) start))) none));
    }

-- ---- a cabinet that never dropped

-- each item as a call of its own
abbrev call_of : Item → Call
call_of (taking t p) = take_in_call t p
call_of (withdrawing t) = withdraw_call t

none-cutoff : (items : List Item) → NoCutoff (map call_of items)
none-cutoff [] = tt
none-cutoff (taking t p ∷ items) = none-cutoff items
none-cutoff (withdrawing t ∷ items) = none-cutoff items

items-hold : {n : ℕ} {c : Cabinet} {k : Ledger} (items : List Item) → Holding n c k → Holding n (item_steps n c items) (after_calls n (map call_of items) k)
items-hold [] h = h
items-hold {n = n} {c = c} {k = k} (taking t p ∷ items) h =
    items-hold {n = n} {c = item_step n c (taking t p)} {k = after_call n (take_in_call t p) k} items (call-holds h (take_in_call t p))
items-hold {n = n} {c = c} {k = k} (withdrawing t ∷ items) h =
    items-hold {n = n} {c = item_step n c (withdrawing t)} {k = after_call n (withdraw_call t) k} items (call-holds h (withdraw_call t))

pub never-dropping : (n : ℕ) (T : Tables) → lengths_fit n T ≡ true → (calls : List Call) → (n' : ℕ) (U : Tables) → lengths_fit n' U ≡ true → length ((cabinet_of n T calls).dropped ++ (cabinet_of n T calls).book) ≤ n' → NeverDropping (cabinet_of n T calls) n' U
never-dropping n T fits calls n' U fits' room =
    let k = cabinet_of n T calls in
    let book = k.dropped ++ k.book in
    let items = booked_items book in
    let first = set-up-holds n' U fits' in
    let last = items-hold items first in
    let fills = book-fills n' book (all_sound (reached n T fits calls).holding) room in
    record {
      calls = map call_of items;
      no-cutoff = none-cutoff items;
      nothing-dropped = below-zero (cabinet_of n' U (map call_of items)).dropped (rw (items-cutoff n' empty_cabinet items).0 at last.dropped.below);
      all_held =
          sym last.booked
          ∙ items-book items [] first.sound
          ∙ ap (λ (l : List ℕ). book_items items (l ++ []) []) (all_done items book first.sound refl fills)
          ∙ all-booked n' [] items book [] fills;
    }

-- ---- the same cutoff again

none-waits : (t : ℕ) (h : History) → NoneBelow t h → waits_below t h ≡ false
none-waits t [] k = refl
none-waits t (c ∷ h) k = rw (le-ltb (timestamp c) t k.0) (none-waits t h k.1)

closed_same : (t : ℕ) (changes : List Change) (i : ℕ) → NoneBelow t changes → i < length changes → closed_to t changes i ≡ i
closed_same t [] i k h = absurd (omega arith)
closed_same t (c ∷ changes) zero k h = refl
closed_same t (c ∷ changes) (suc i) k h = rw (le-ltb (timestamp c) t k.0) (ap suc (closed_same t changes i k.1 (omega arith)))

renumbered-same : (t : ℕ) (changes : List Change) (order : List ℕ) → NoneBelow t changes → Below (length changes) order → renumbered t changes order ≡ order
renumbered-same t changes [] k b = refl
renumbered-same t changes (i ∷ order) k b =
    rw (le-ltb (timestamp (get_or changes i blank)) t (under_at t changes i k b.0)) (ap₂ ◌∷◌ (closed_same t changes i k b.0) (renumbered-same t changes order k b.1))

module _ {n : ℕ} {c : Cabinet} (s : Sound n c) where
  cut-same : cut_at c.cutoff c ≡ c
  cut-same =
      let changes = (none_dropped c.cutoff c.changes s.uncut).1 in
      let order = renumbered-same c.cutoff c.changes c.order s.uncut s.placed.below in
      let kept = ap all_settings (as_of-none-below c.cutoff (history_of c) (kept_values_in c) (history-uncut s)) ∙ all-value c.kept s.kept-sized in
      λ j. record { changes = changes j; order = order j; view = c.view; cutoff = c.cutoff; kept = kept j }

  again : SameAgain n (encode n c)
  unfolding encode
  again set =
      let t = c.cutoff in
      rw (cutoff-call s t, lt-ltb 0 t (omega (arith, set)), lt-ltb t infinity s.cut, le-ltb t t (omega arith), none-waits t (history_of c) (history-uncut s))
      (ap (λ (d : Cabinet). reply Done (encode n d)) cut-same)

pub same-again : (n : ℕ) (T : Tables) → Formed n T → SameAgain n T
same-again n T f = subst (SameAgain n) (facts f).laid (again (facts f).sound)
