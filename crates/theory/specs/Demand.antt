-- Demand 3: the claim about a whole list of calls on freshly set-up tables that ends in a drain. Each field renders the sentences of document 01, "Demand 3 spelled out", that stand above it.
use Rattle.std.specs.Prelude.{◌≡◌, true, cond, List, [], ◌∷◌, ◌++◌, map, ℕ, ◌<◌, ◌≤◌, eqb}
use Rattle.std.proofs.Math.Option.{Option, none, some}
use Rattle.machine.specs.Settings.{Environment, value_in, Holds}
use Rattle.machine.specs.Run.{Outcome}
use Rattle.model.specs.History.{start, Lists, Change, timestamp, lists, all_settings}
use Rattle.model.specs.Figure.{Event, ran, stood, cleared, event_timestamp}
use Rattle.model.specs.Cabinet.{In, history_of}
use Rattle.model.specs.Tables.{Tables, held_count, decode}
use Rattle.model.specs.Form.{in_form}
use Rattle.model.specs.Book.{Book, booked_at, book_of, fresh_run, fresh_end, fresh_before, RisingBook}
use Rattle.model.specs.Calls.{set_up, drain}
use Rattle.model.specs.Log.{Call, Ledger, begun, after_calls, drain_events}
use Rattle.theory.specs.Totals.{DrainAnswered}

-- no turn of a list is for this change
abbrev pub NoTurn : ℕ → List Event → Type 0
NoTurn t [] = Unit {0}
NoTurn t (e ∷ events) = ¬ (event_timestamp e ≡ t) × NoTurn t events

-- no change has two turns
abbrev pub OneTurnEach : List Event → Type 0
OneTurnEach [] = Unit {0}
OneTurnEach (e ∷ events) = NoTurn (event_timestamp e) events × OneTurnEach events

-- what the last run of a change among some turns left: the lists that it put there, and how it ended. A turn that answers faulted ran its change too (document 02, R-2)
abbrev pub ran_outcome : Event → ℕ → Option Outcome → Option Outcome
ran_outcome (ran u o) t before = cond (eqb u t) (some o) before
ran_outcome (stood u) t before = before
ran_outcome (cleared u) t before = before

abbrev pub last_ran_after : Option Outcome → List Event → ℕ → Option Outcome
last_ran_after before [] t = before
last_ran_after before (e ∷ events) t = last_ran_after (ran_outcome e t before) events t

abbrev pub last_ran : List Event → ℕ → Option Outcome
last_ran events t = last_ran_after none events t

-- a turn that runs its change again does so because some setting that it had read does not hold, in the fresh run from these settings just before it, the value it saw
abbrev pub NotInVain : Environment → Book → List Event → Event → Type 0
NotInVain env book earlier (ran t new) = (old : Outcome) → last_ran earlier t ≡ some old → ¬ (Holds (fresh_before t book env) old.reads)
NotInVain env book earlier (stood t) = Unit {0}
NotInVain env book earlier (cleared t) = Unit {0}

-- the turns of a drain, each with the turns before it
abbrev pub NoneInVain : Environment → Book → List Event → List Event → Type 0
NoneInVain env book earlier [] = Unit {0}
NoneInVain env book earlier (e ∷ events) = NotInVain env book earlier e × NoneInVain env book (earlier ++ (e ∷ [])) events

-- a change's timestamp with its lists
abbrev pub listed : Change → ℕ × Lists
listed c = (timestamp c, lists c)

-- the kept values after the last drain: "Any other fresh run, the plain run and a value as of a time before any write then begin from the kept values" (document 02, R-7)
abbrev pub kept_after : ℕ → Ledger → Environment
kept_after n k = value_in (drain n k.tables).tables.kept

-- every change of a book is stamped below t, and none is
abbrev pub AllBelow : ℕ → Book → Type 0
AllBelow t [] = Unit {0}
AllBelow t (b ∷ book) = (booked_at b < t) × AllBelow t book

abbrev pub NoneBelow : ℕ → Book → Type 0
NoneBelow t [] = Unit {0}
NoneBelow t (b ∷ book) = (t ≤ booked_at b) × NoneBelow t book

-- what is claimed of the tables, the book, the turns and what was dropped, before the last drain
pub record Drains (n : ℕ) (k : Ledger) : Type 0 where
  -- "The last call is a drain that is answered": with any 1,024 totals lent it answers done, leaves the tables that the fields below speak of, and the totals of its turns (document 02, R-5)
  pub answered : DrainAnswered n k.tables
  -- "Held changes are those in the book": timestamp, program with its version, withdrawn or not
  pub booked : book_of (history_of (decode (drain n k.tables).tables)) ≡ k.book
  -- document 02, R-7: "A cutoff answered done takes every change stamped below it out of the book too." The tables have the last such cutoff; what was dropped is stamped below it and nothing held is, and both together go by rising timestamp
  pub cut : (drain n k.tables).tables.cutoff ≡ k.cutoff ∷ []
  pub dropped-below : AllBelow k.cutoff k.dropped
  pub held-from : NoneBelow k.cutoff k.book
  pub in_order : RisingBook 0 (k.dropped ++ k.book)
  -- "Demand 3's kept values are those that all changes dropped so far leave in one fresh run from the start values, withdrawn ones passed over, and the tables hold exactly these." (document 02, R-7)
  pub kept-values : (drain n k.tables).tables.kept ≡ all_settings (fresh_end k.dropped start)
  -- "After the last drain the tables hold the book's timestamps and no others, each with the fresh run's lists, entry for entry in order"; document 02, R-6: "The drained state is that of running each change by its own version"
  pub fresh-lists : map listed (history_of (decode (drain n k.tables).tables)) ≡ fresh_run k.book (kept_after n k)
  pub no-others : (i : ℕ) → i < held_count (drain n k.tables).tables → In i (decode (drain n k.tables).tables).order
  -- "each of the 1,024 entries of the view is that setting at the fresh run's end"
  pub fresh-view : (drain n k.tables).tables.view ≡ all_settings (fresh_end k.book (kept_after n k))
  -- "In that drain no change is given two turns"
  pub one-turn-each : OneTurnEach (drain_events n k.tables)
  -- "and none that is not withdrawn is run again when every setting it had read holds, in that fresh run just before it, the value it saw"; "A turn of that drain runs its change again if it answers ran and an earlier turn in the list, single or a drain's, ran that change and replaced its lists. What the change had read and saw is the read list and seen values that the last such earlier turn put there"; document 02, R-2: "A needless rerun that faults stays ruled out like any other." So a turn that answers faulted runs its change as one that answers ran does
  pub none-in-vain : NoneInVain (kept_after n k) k.book k.events (drain_events n k.tables)
  -- the tables are in form before and after it
  pub form-before : in_form n k.tables ≡ true
  pub form-after : in_form n (drain n k.tables).tables ≡ true

-- "Cutoffs too may stand in demand 3's mix" (document 02, R-7). "The list begins on tables just set up, for any N. Its calls are take in, take in a package, withdraw, turn and drain, each with that N and the tables as the one before left them, and with any further arguments, answered or refused."
abbrev pub Demand3 : ℕ → Tables → List Call → Type 0
Demand3 n T calls = Drains n (after_calls n calls (begun (set_up n T).tables))
