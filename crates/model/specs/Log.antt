-- Lists of calls: the tables, the book, the turns and what cutoffs dropped (document 01, "Demand 3 spelled out"; document 02, R-7).
use Rattle.std.specs.Prelude.{cond, List, [], ◌∷◌, ◌++◌, map, ℕ, eqb}
use Rattle.machine.specs.Instruction.{Code}
use Rattle.model.specs.Figure.{Event, Step, idle, turned}
use Rattle.model.specs.Tables.{Tables, decode}
use Rattle.model.specs.Refusals.{fault_of}
use Rattle.model.specs.Package.{Item, taking, withdrawing, items_of}
use Rattle.model.specs.Book.{Book, enter, strike, book_below, book_from}
use Rattle.model.specs.Answers.{Turned}
use Rattle.model.specs.Calls.{answer_number, if_done, event_answer, take_in, withdraw, take_in_package, raise_cutoff, turn, drain_with_totals, round_of, drain_of}

-- the calls that may alter the tables, each with its further arguments as the caller passes them
pub data Call : Type 0 where
  take_in_call : ℕ → Code → Call
  package_call : List ℕ → List ℕ → Call
  withdraw_call : ℕ → Call
  turn_call : Call
  drain_call : List ℕ → Call
  cutoff_call : ℕ → Call

-- ---- the book, from arguments and answers alone

-- an item answered 0
abbrev pub book_done : Item → Book → Book
book_done (taking t p) book = enter t p book
book_done (withdrawing t) book = strike t book

abbrev pub book_item : Item → ℕ → Book → Book
book_item i number book = cond (eqb number 0) (book_done i book) book

-- the entries of a package with their answer bytes, in order
abbrev pub book_items : List Item → List ℕ → Book → Book
book_items [] answers book = book
book_items (i ∷ items) [] book = book
book_items (i ∷ items) (a ∷ answers) book = book_items items answers (book_item i a book)

-- ---- the turns of a call

abbrev pub step_events : Step → List Event
step_events idle = []
step_events (turned h view e) = e ∷ []

-- none where the call is refused
abbrev pub unless_refused : ℕ → Tables → List Event → List Event
unless_refused n T events = cond (eqb (fault_of n T) 0) events []

abbrev pub turn_events : ℕ → Tables → List Event
turn_events n T = unless_refused n T (step_events (round_of (decode T)))

abbrev pub drain_events : ℕ → Tables → List Event
drain_events n T = unless_refused n T (drain_of (decode T)).events

-- the turns of a drain as single turns answer them, each with its timestamp
abbrev pub drain_turns : ℕ → Tables → List Turned
drain_turns n T = map event_answer (drain_events n T)

-- ---- a list of calls

-- the tables, the book, the turns so far, in order, the last cutoff answered done, and the changes dropped so far, by rising timestamp
pub record Ledger : Type 0 where
  pub tables : Tables
  pub book : Book
  pub events : List Event
  pub cutoff : ℕ
  pub dropped : Book

unfoldable pub after_call : ℕ → Call → Ledger → Ledger
after_call n (take_in_call t p) k =
    let r = take_in n k.tables t p in
    record { tables = r.tables; book = book_item (taking t p) (answer_number r.answer) k.book; events = k.events; cutoff = k.cutoff; dropped = k.dropped }
after_call n (package_call bytes answers) k =
    let r = take_in_package n k.tables bytes answers in
    record {
      tables = r.tables;
      book = cond (eqb (answer_number r.answer) 0) (book_items (items_of bytes) r.answers k.book) k.book;
      events = k.events;
      cutoff = k.cutoff;
      dropped = k.dropped;
    }
after_call n (withdraw_call t) k =
    let r = withdraw n k.tables t in
    record { tables = r.tables; book = book_item (withdrawing t) (answer_number r.answer) k.book; events = k.events; cutoff = k.cutoff; dropped = k.dropped }
after_call n turn_call k =
    record { tables = (turn n k.tables).tables; book = k.book; events = k.events ++ turn_events n k.tables; cutoff = k.cutoff; dropped = k.dropped }
after_call n (drain_call lent) k =
    let r = drain_with_totals n k.tables lent in
    record { tables = r.tables; book = k.book; events = k.events ++ if_done r.answer (drain_events n k.tables) []; cutoff = k.cutoff; dropped = k.dropped }
after_call n (cutoff_call t) k =
    let r = raise_cutoff n k.tables t in
    record {
      tables = r.tables;
      book = if_done r.answer (book_from t k.book) k.book;
      events = k.events;
      cutoff = if_done r.answer t k.cutoff;
      dropped = if_done r.answer (k.dropped ++ book_below t k.book) k.dropped;
    }

abbrev pub after_calls : ℕ → List Call → Ledger → Ledger
after_calls n [] k = k
after_calls n (c ∷ calls) k = after_calls n calls (after_call n c k)

-- tables just set up: nothing booked, no turns, nothing dropped
abbrev pub begun : Tables → Ledger
begun T = record { tables = T; book = []; events = []; cutoff = 0; dropped = [] }
