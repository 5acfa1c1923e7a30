-- Items, as calls of their own or as entries of a package: what the answer done tells, and what items do to the cabinet and to the book.
use mathlib.Core.Path.{◌≡◌, refl, sym, ap, ap₂, ◌∙◌}
use mathlib.Core.Bool.{true, false, cond, and-true}
use mathlib.Core.List.{List, [], ◌∷◌, ◌++◌, map}
use mathlib.Core.Option.{Option, none, some}
use Prim.Native.Nat.{ℕ, suc, ◌≤◌, ◌<◌}
use native.Mathlib.Omega.{arith}
use borrow.Author.Tests.{ltb-true, ltb-false, leb-true, leb-false, eqb-true, not-false}
use lib.Dec.{eqb, ltb}
use lib.ListN.{length}
use Rattle.machine.specs.Instruction.{Code}
use Rattle.machine.specs.Form.{length_fits, all_well_formed}
use Rattle.general.proofs.Cases.{by-test, of-choice, impossible, both}
use Rattle.model.specs.Answers.{Answer}
use Rattle.model.specs.History.{infinity, Change, change, History}
use Rattle.model.specs.Walk.{insert}
use Rattle.model.specs.Cabinet.{Cabinet, history_of, find}
use Rattle.model.specs.Refusals.{Test, first_of, no_timestamp, below_cutoff, wrong_program_length, no_version, malformed, is_held, held_otherwise, full}
use Rattle.model.specs.Package.{Item, taking, withdrawing}
use Rattle.model.specs.Book.{booked, enter, strike, booked_as, book_of}
use Rattle.model.specs.Calls.{answer_number, item_refusal, item_accepted, item_answer, item_done, if_done, item_step, item_answers, item_steps}
use Rattle.model.specs.Log.{book_done, book_item, book_items}
use Rattle.model.specs.Sound.{Placed, Sound}
use Rattle.model.proofs.Cabinet.{withdraw_in, add-history, remove-history}
use Rattle.model.proofs.Keeps.{add-sound, remove-sound}

-- ---- the first refusal that applies

abbrev pub NotZero : List Test → Type 0
NotZero [] = Unit {0}
NotZero (t ∷ tests) = ¬ (t.number ≡ 0) × NotZero tests

abbrev pub NoneApplies : List Test → Type 0
NoneApplies [] = Unit {0}
NoneApplies (t ∷ tests) = (t.applies ≡ false) × NoneApplies tests

-- no refusal, so no test applies
pub none-applies : (tests : List Test) → NotZero tests → first_of tests ≡ 0 → NoneApplies tests
none-applies [] n e = tt
none-applies (t ∷ tests) n e =
    by-test (λ r. r ≡ 0 → NoneApplies (t ∷ tests)) t.applies (λ q z. absurd (n.0 z)) (λ q z. (q, none-applies tests n.1 z)) e

-- ---- what the answer done tells

-- a statement about what is done where the answer is done, and else about what is not
pub by_answer : {X : Type 0} (P : X → Type 0) (a : Answer) {x y : X} → (a ≡ Answer.Done → P x) → P y → P (if_done a x y)
by_answer P Answer.Done f k = f refl
by_answer P Answer.Held f k = k
by_answer P (Answer.Refused r) f k = k

pub of-answer : {X Y : Type 0} (f : X → Y) (a : Answer) {x y : X} {x' y' : Y} → f x ≡ x' → f y ≡ y' → f (if_done a x y) ≡ if_done a x' y'
of-answer f Answer.Done e e' = e
of-answer f Answer.Held e e' = e'
of-answer f (Answer.Refused r) e e' = e'

done-accepted : (n : ℕ) (c : Cabinet) (i : Item) → item_answer n c i ≡ Answer.Done → (item_refusal n c i ≡ 0) × (item_accepted c i ≡ Answer.Done)
unfolding item_answer
done-accepted n c i e =
    by-test (λ a. a ≡ Answer.Done → (item_refusal n c i ≡ 0) × (item_accepted c i ≡ Answer.Done)) (eqb (item_refusal n c i) 0)
    (λ q d. (eqb-true (item_refusal n c i) 0 q, d))
    (λ q d. impossible (cc)) e

-- the timestamp is one, the program has its length, a version and its form, the timestamp is not held, and a place is left
pub record TakingDone (n : ℕ) (c : Cabinet) (t : ℕ) (p : Code) : Type 0 where
  pub above : 0 < t
  pub below : t < infinity
  pub from : c.cutoff ≤ t
  pub sized : length_fits p.bytes ≡ true
  pub versioned : p.version ≤ 1
  pub formed : all_well_formed p.bytes ≡ true
  pub not-held : find t (history_of c) ≡ none
  pub room : length c.changes < n

not-held-none : (found : Option Change) → cond (is_held found) Answer.Held Answer.Done ≡ Answer.Done → found ≡ none
not-held-none none e = refl
not-held-none (some u) e = cc

pub taking-done : (n : ℕ) (c : Cabinet) (t : ℕ) (p : Code) → item_answer n c (taking t p) ≡ Answer.Done → TakingDone n c t p
taking-done n c t p e =
    let accepted = done-accepted n c (taking t p) e in
    let z = none-applies (no_timestamp t ∷ below_cutoff c.cutoff t ∷ wrong_program_length p ∷ no_version p ∷ malformed p ∷ held_otherwise c t p ∷ full n c t ∷ []) (omega arith) accepted.0 in
    let stamped = both (ltb 0 t) (not-false _ z.0) in
    let found = not-held-none (find t (history_of c)) accepted.1 in
    record {
      above = ltb-true 0 t stamped.0;
      below = ltb-true t infinity stamped.1;
      from = omega (arith, ltb-false t c.cutoff z.1.0);
      sized = not-false (length_fits p.bytes) z.1.1.0;
      versioned = leb-true p.version 1 (not-false _ z.1.1.1.0);
      formed = not-false (all_well_formed p.bytes) z.1.1.1.1.0;
      not-held = found;
      room = leb-false n (length c.changes) (sym (and-true _) ∙ (rw found at z.1.1.1.1.1.1.0));
    }

-- ---- answers and their numbers

accepted-number : {A : Type 0} (c : Cabinet) (i : Item) (x y : A) → cond (eqb (answer_number (item_accepted c i)) 0) x y ≡ if_done (item_accepted c i) x y
accepted-number c (taking t p) x y =
    by-test (λ a. cond (eqb (answer_number a) 0) x y ≡ if_done a x y) (is_held (find t (history_of c))) (λ q. refl) (λ q. refl)
accepted-number c (withdrawing t) x y = refl

-- an answer has the number 0 where it is done, and only there
pub number-done : (n : ℕ) (c : Cabinet) (i : Item) {A : Type 0} (x y : A) → cond (eqb (answer_number (item_answer n c i)) 0) x y ≡ if_done (item_answer n c i) x y
unfolding item_answer
number-done n c i x y =
    by-test (λ a. cond (eqb (answer_number a) 0) x y ≡ if_done a x y) (eqb (item_refusal n c i) 0) (λ q. accepted-number c i x y) (λ q. rw q)

-- ---- what is kept

pub item-sound : {n : ℕ} {c : Cabinet} (i : Item) → Sound n c → Sound n (item_step n c i)
item-sound {n} {c} (taking t p) s =
    by_answer (Sound n) (item_answer n c (taking t p))
    (λ e. let k = taking-done n c t p e in add-sound t p s k.room k.above k.below k.from k.sized k.versioned k.formed k.not-held) s
item-sound {n} {c} (withdrawing t) s = by_answer (Sound n) (item_answer n c (withdrawing t)) (λ e. remove-sound t s) s

pub items-sound : {n : ℕ} {c : Cabinet} (items : List Item) → Sound n c → Sound n (item_steps n c items)
items-sound [] s = s
items-sound {n = n} {c = c} (i ∷ items) s = items-sound {n = n} {c = item_step n c i} items (item-sound i s)

-- the cutoff and the kept values
abbrev pub SameCutoff : Cabinet → Cabinet → Type 0
SameCutoff c d = (d.cutoff ≡ c.cutoff) × (d.kept ≡ c.kept)

pub item-cutoff : (n : ℕ) (c : Cabinet) (i : Item) → SameCutoff c (item_step n c i)
item-cutoff n c (taking t p) = by_answer (SameCutoff c) (item_answer n c (taking t p)) (λ e. (refl, refl)) (refl, refl)
item-cutoff n c (withdrawing t) = by_answer (SameCutoff c) (item_answer n c (withdrawing t)) (λ e. (refl, refl)) (refl, refl)

pub items-cutoff : (n : ℕ) (c : Cabinet) (items : List Item) → SameCutoff c (item_steps n c items)
items-cutoff n c [] = (refl, refl)
items-cutoff n c (i ∷ items) =
    let first = item-cutoff n c i in
    let rest = items-cutoff n (item_step n c i) items in
    (rest.0 ∙ first.0, rest.1 ∙ first.1)

pub length-item_answers : (n : ℕ) (c : Cabinet) (items : List Item) → length (item_answers n c items) ≡ length items
length-item_answers n c [] = refl
length-item_answers n c (i ∷ items) = ap suc (length-item_answers n (item_step n c i) items)

-- ---- the book

book-insert : (t : ℕ) (p : Code) (h : History) → book_of (insert t p h) ≡ enter t p (book_of h)
book-insert t p [] = refl
book-insert t p (change u q s w l ∷ h) = of-choice book_of (ltb t u) refl (ap (booked u q w ∷◌) (book-insert t p h))

book-withdraw : (t : ℕ) (h : History) → book_of (withdraw_in t h) ≡ strike t (book_of h)
book-withdraw t [] = refl
book-withdraw t (change u q s w l ∷ h) = ap₂ ◌∷◌ (of-choice booked_as (eqb u t) refl refl ∙ sym (of-choice (booked u q) (eqb u t) refl refl)) (book-withdraw t h)

done-book : (c : Cabinet) (i : Item) → Placed c → book_of (history_of (item_done c i)) ≡ book_done i (book_of (history_of c))
done-book c (taking t p) k = ap book_of (add-history t p c k) ∙ book-insert t p (history_of c)
done-book c (withdrawing t) k = ap book_of (remove-history t c k) ∙ book-withdraw t (history_of c)

-- the book of what is held follows from arguments and answers
pub item-book : {n : ℕ} {c : Cabinet} (i : Item) → Sound n c → book_of (history_of (item_step n c i)) ≡ book_item i (answer_number (item_answer n c i)) (book_of (history_of c))
item-book {n} {c} i s =
    of-answer (λ (d : Cabinet). book_of (history_of d)) (item_answer n c i) (done-book c i s.placed) refl
    ∙ sym (number-done n c i (book_done i (book_of (history_of c))) (book_of (history_of c)))

-- the same of a package: of the answer bytes, those past its entries do not count
pub items-book : {n : ℕ} {c : Cabinet} (items : List Item) (rest : List ℕ) → Sound n c → book_of (history_of (item_steps n c items)) ≡ book_items items (map answer_number (item_answers n c items) ++ rest) (book_of (history_of c))
items-book [] rest s = refl
items-book {n} {c} (i ∷ items) rest s =
    items-book {n = n} {c = item_step n c i} items rest (item-sound i s)
    ∙ ap (book_items items (map answer_number (item_answers n (item_step n c i) items) ++ rest)) (item-book i s)
