-- The items of a book, taken in one after the other where nothing is held and the cutoff is 0, are all answered done and give the book again.
use mathlib.Core.Path.{◌≡◌, refl, sym, ap, ap₂, subst, ◌∙◌}
use mathlib.Core.Bool.{Bool, true, false, cond}
use mathlib.Core.List.{List, [], ◌∷◌, ◌++◌, map, append-nil}
use mathlib.Core.Option.{Option, none, some}
use Prim.Native.Nat.{ℕ, ◌+◌, ◌≤◌, ◌<◌}
use native.Mathlib.Omega.{arith}
use borrow.Author.Tests.{lt-ltb, le-ltb, le-leb, lt-leb, eq-eqb, ne_eqb}
use lib.Dec.{eqb}
use lib.ListN.{length, replicate, length-append, length-map}
use lib.Seq.{append_snoc}
use Rattle.machine.specs.Instruction.{Code}
use Rattle.machine.specs.Form.{length_fits, all_well_formed}
use Rattle.general.proofs.Cases.{of-choice, impossible}
use Rattle.model.specs.Answers.{Answer, Done}
use Rattle.model.specs.History.{infinity, Change, change, withdrawn, History}
use Rattle.model.specs.Cabinet.{Cabinet, history_of, find}
use Rattle.model.specs.Package.{Item, taking, withdrawing}
use Rattle.model.specs.Book.{booked, Book, enter, strike, booked_as, book_of, booked_at, takings, withdrawals, booked_items}
use Rattle.model.specs.Calls.{answer_number, item_answer, item_step, item_answers}
use Rattle.model.specs.Log.{book_done, book_item, book_items}
use Rattle.model.specs.Sound.{Rising, AllSound, Sound}
use Rattle.model.proofs.Items.{item-sound, item-cutoff, item-book}
use Rattle.model.proofs.Order.{changes_at-length}

-- ---- books

-- a program can be held: its length, its version and its form are right
abbrev Holdable : Code → Type 0
Holdable p = (length_fits p.bytes ≡ true) × (p.version ≤ 1) × (all_well_formed p.bytes ≡ true)

-- timestamps rise above a bound, and every program can be held
abbrev pub SoundBook : ℕ → Book → Type 0
SoundBook a [] = Unit {0}
SoundBook a (booked t p w ∷ book) = (a < t) × (t < infinity) × Holdable p × SoundBook t book

pub sound-book : (a : ℕ) (h : History) → Rising a h → AllSound h → SoundBook a (book_of h)
sound-book a [] r k = tt
sound-book a (change t p s w l ∷ h) r k = (r.0, r.1, (k.0.sized, k.0.versioned, k.0.formed), sound-book t h r.2 k.1)

-- timestamps are at most a bound
abbrev UpTo : ℕ → Book → Type 0
UpTo a [] = Unit {0}
UpTo a (b ∷ book) = (booked_at b ≤ a) × UpTo a book

up-to-next : (a t : ℕ) (p : Code) (w : Bool) (book : Book) → a < t → UpTo a book → UpTo t (book ++ (booked t p w ∷ []))
up-to-next a t p w [] h u = (omega arith, tt)
up-to-next a t p w (b ∷ book) h u = (omega (arith, u.0), up-to-next a t p w book h u.1)

-- a timestamp is not in the book
abbrev NotBooked : ℕ → Book → Type 0
NotBooked t [] = Unit {0}
NotBooked t (b ∷ book) = ¬ (booked_at b ≡ t) × NotBooked t book

above-not-booked : (a t : ℕ) (book : Book) → a < t → UpTo a book → NotBooked t book
above-not-booked a t [] h u = tt
above-not-booked a t (b ∷ book) h u = (λ e. omega (arith, u.0), above-not-booked a t book h u.1)

-- the book without withdrawn marks
abbrev unmarked : Book → Book
unmarked [] = []
unmarked (booked t p w ∷ book) = booked t p false ∷ unmarked book

below-not-booked : (t a : ℕ) (book : Book) → t ≤ a → SoundBook a book → NotBooked t (unmarked book)
below-not-booked t a [] h s = tt
below-not-booked t a (booked u p w ∷ book) h s = (λ e. omega (arith, s.0), below-not-booked t u book (omega (arith, s.0)) s.3)

-- ---- the mark of a timestamp

abbrev mark_of : ℕ → Book → Option Bool
mark_of t [] = none
mark_of t (booked u p w ∷ book) = cond (eqb u t) (some w) (mark_of t book)

abbrev mark_in : Option Change → Option Bool
mark_in none = none
mark_in (some c) = some (withdrawn c)

mark-found : (t : ℕ) (h : History) → mark_in (find t h) ≡ mark_of t (book_of h)
mark-found t [] = refl
mark-found t (change u p s w l ∷ h) = of-choice mark_in (eqb u t) refl (mark-found t h)

mark-none : (t : ℕ) (book : Book) → NotBooked t book → mark_of t book ≡ none
mark-none t [] n = refl
mark-none t (booked u p w ∷ book) n = rw (ne_eqb u t n.0) (mark-none t book n.1)

mark-there : (t : ℕ) (p : Code) (w : Bool) (book rest : Book) → NotBooked t book → mark_of t (book ++ booked t p w ∷ rest) ≡ some w
mark-there t p w [] rest n = rw (eq-eqb t t refl)
mark-there t p w (booked u q v ∷ book) rest n = rw (ne_eqb u t n.0) (mark-there t p w book rest n.1)

-- ---- entered and struck

enter-last : (a t : ℕ) (p : Code) (book : Book) → a < t → UpTo a book → enter t p book ≡ book ++ (booked t p false ∷ [])
enter-last a t p [] h u = refl
enter-last a t p (booked v q w ∷ book) h u = rw (le-ltb t v (omega (arith, u.0))) (ap (booked v q w ∷◌) (enter-last a t p book h u.1))

strike-other : (t : ℕ) (book : Book) → NotBooked t book → strike t book ≡ book
strike-other t [] n = refl
strike-other t (booked u q w ∷ book) n = rw (ne_eqb u t n.0) (ap (booked u q w ∷◌) (strike-other t book n.1))

strike-there : (t : ℕ) (p : Code) (w : Bool) (book rest : Book) → NotBooked t book → NotBooked t rest → strike t (book ++ booked t p w ∷ rest) ≡ book ++ booked t p true ∷ rest
strike-there t p w [] rest n m = rw (eq-eqb t t refl) (ap (booked t p true ∷◌) (strike-other t rest m))
strike-there t p w (booked u q v ∷ book) rest n m = rw (ne_eqb u t n.0) (ap (booked u q v ∷◌) (strike-there t p w book rest n.1 m))

-- ---- items that are answered done

-- by the book of what is held and the capacity
abbrev Accepts : ℕ → Book → Item → Type 0
Accepts n book (taking t p) = (0 < t) × (t < infinity) × Holdable p × (mark_of t book ≡ none) × (length book < n)
Accepts n book (withdrawing t) = (0 < t) × (t < infinity) × (mark_of t book ≡ some false)

-- one after the other, to a last book
abbrev pub Fills : ℕ → Book → List Item → Book → Type 0
Fills n book [] last = book ≡ last
Fills n book (i ∷ items) last = Accepts n book i × Fills n (book_done i book) items last

takings-fill : (n a : ℕ) (book rest : Book) (more : List Item) (last : Book) → SoundBook a rest → UpTo a book → length book + length rest ≤ n → Fills n (book ++ unmarked rest) more last → Fills n book (takings rest ++ more) last
takings-fill n a book [] more last s u h f = rw append-nil at f
takings-fill n a book (booked t p w ∷ rest) more last s u h f =
    let next = book ++ (booked t p false ∷ []) in
    let fits : length next + length rest ≤ n = omega (arith, h, length-append book (booked t p false ∷ [])) in
    let rest-fills = takings-fill n t next rest more last s.3 (up-to-next a t p false book s.0 u) fits (rw (← append_snoc book (booked t p false) (unmarked rest)) at f) in (
      (omega (arith, s.0), s.1, s.2, mark-none t book (above-not-booked a t book s.0 u), omega (arith, h)),
      subst (λ (b : Book). Fills n b (takings rest ++ more) last) (sym (enter-last a t p book s.0 u)) rest-fills,
    )

withdrawals-fill : (n a : ℕ) (book rest : Book) → SoundBook a rest → UpTo a book → Fills n (book ++ unmarked rest) (withdrawals rest) (book ++ rest)
withdrawals-fill n a book [] s u = refl
withdrawals-fill n a book (booked t p false ∷ rest) s u =
    rw (append_snoc book (booked t p false) (unmarked rest), append_snoc book (booked t p false) rest)
    at (withdrawals-fill n t (book ++ (booked t p false ∷ [])) rest s.3 (up-to-next a t p false book s.0 u))
withdrawals-fill n a book (booked t p true ∷ rest) s u =
    let before = above-not-booked a t book s.0 u in
    let struck = strike-there t p false book (unmarked rest) before (below-not-booked t t rest (omega arith) s.3) in
    let rest-fills =
    rw (append_snoc book (booked t p true) (unmarked rest), append_snoc book (booked t p true) rest)
    at (withdrawals-fill n t (book ++ (booked t p true ∷ [])) rest s.3 (up-to-next a t p true book s.0 u)) in (
      (omega (arith, s.0), s.1, mark-there t p false book (unmarked rest) before),
      subst (λ (b : Book). Fills n b (withdrawals rest) (book ++ booked t p true ∷ rest)) (sym struck) rest-fills,
    )

-- the items of a book fill an empty one
pub book-fills : (n : ℕ) (book : Book) → SoundBook 0 book → length book ≤ n → Fills n [] (booked_items book) book
book-fills n book s h =
    takings-fill n 0 [] book (withdrawals book) book s tt (omega (arith, h)) (withdrawals-fill n 0 [] book s tt)

-- ---- on a cabinet

unheld : (found : Option Change) → mark_in found ≡ none → found ≡ none
unheld none e = refl
unheld (some c) e = cc

abbrev NotWithdrawn : Option Change → Type 0
NotWithdrawn found = (c : Change) × (found ≡ some c) × (withdrawn c ≡ false)

not-withdrawn : (found : Option Change) → mark_in found ≡ some false → NotWithdrawn found
not-withdrawn none e = impossible (cc)
not-withdrawn (some c) e = (c, refl, cc)

module _ {n : ℕ} {c : Cabinet} (s : Sound n c) where
  as_many : length (book_of (history_of c)) ≡ length c.changes
  as_many = length-map (history_of c) booked_as ∙ changes_at-length c.changes c.order ∙ s.placed.counted

  accepted : (i : Item) → c.cutoff ≡ 0 → Accepts n (book_of (history_of c)) i → item_answer n c i ≡ Done
  unfolding item_answer
  accepted (taking t p) uncut (above, below, (sized, versioned, formed), free, room) =
      let none_found : find t (history_of c) ≡ none = unheld (find t (history_of c)) (mark-found t (history_of c) ∙ free) in
      rw (lt-ltb 0 t above, lt-ltb t infinity below, le-ltb t c.cutoff (omega (arith, uncut)), sized, le-leb p.version 1 versioned, formed, none_found, lt-leb n (length c.changes) (omega (arith, room, as_many)))
  accepted (withdrawing t) uncut (above, below, marked) =
      let (u, found, stands) = not-withdrawn (find t (history_of c)) (mark-found t (history_of c) ∙ marked) in
      rw (lt-ltb 0 t above, lt-ltb t infinity below, le-ltb t c.cutoff (omega (arith, uncut)), found, stands)

pub all_done : {n : ℕ} {c : Cabinet} (items : List Item) (last : Book) → Sound n c → c.cutoff ≡ 0 → Fills n (book_of (history_of c)) items last → map answer_number (item_answers n c items) ≡ replicate (length items) 0
all_done [] last s uncut f = refl
all_done {n} {c} (i ∷ items) last s uncut f =
    let done = accepted s i uncut f.0 in
    let next : book_of (history_of (item_step n c i)) ≡ book_done i (book_of (history_of c)) = item-book i s ∙ ap (λ (a : Answer). book_item i (answer_number a) (book_of (history_of c))) done in
    ap₂ ◌∷◌ (ap answer_number done) (all_done {n = n} {c = item_step n c i} items last (item-sound i s) ((item-cutoff n c i).0 ∙ uncut) (subst (λ (b : Book). Fills n b items last) (sym next) f.1))

-- the book by these answers
pub all-booked : (n : ℕ) (book : Book) (items : List Item) (last : Book) (rest : List ℕ) → Fills n book items last → book_items items (replicate (length items) 0 ++ rest) book ≡ last
all-booked n book [] last rest f = f
all-booked n book (i ∷ items) last rest f = all-booked n (book_done i book) items last rest f.1
