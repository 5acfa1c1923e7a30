-- A drain: turns until idle (document 01, "A turn"), and its totals for each console (document 02, R-5).
use Rattle.std.specs.Prelude.{Bool, cond, ◌&&◌, List, [], ◌∷◌, ℕ, zero, suc, ◌+◌, ◌*◌, ◌/◌, ◌%◌, ◌<◌, eqb, ℤ, length}
use Rattle.machine.specs.Settings.{Environment}
use Rattle.machine.specs.Run.{Ending, completed, faulted}
use Rattle.general.specs.Lists.{tabulate}
use Rattle.model.specs.History.{History}
use Rattle.model.specs.Figure.{Event, ran, stood, cleared, event_timestamp, Step, idle, turned, round}

-- the history and the view after some turns, and what the turns did, in order
pub record Drain : Type 0 where
  pub history : History
  pub view : List ℤ
  pub events : List Event

abbrev pub drain_none : History → List ℤ → Drain
drain_none h view = record { history = h; view = view; events = [] }

abbrev pub drain_more : Event → Drain → Drain
drain_more e d = record { history = d.history; view = d.view; events = e ∷ d.events }

abbrev pub drain_step : (History → List ℤ → Drain) → Drain → Step → Drain
drain_step rest d idle = d
drain_step rest d (turned h view e) = drain_more e (rest h view)

-- turns until idle, at most so many
unfoldable pub drain_for : ℕ → Environment → History → List ℤ → Drain
drain_for zero env h view = drain_none h view
drain_for (suc k) env h view = drain_step (drain_for k env) (drain_none h view) (round env h view)

-- turns until idle: each change has one turn at most, so that as many turns as changes are enough
unfoldable pub drain_history : Environment → History → List ℤ → Drain
drain_history env h view = drain_for (length h) env h view

-- the timestamps of some turns rise above a bound
abbrev pub RisingEvents : ℕ → List Event → Type 0
RisingEvents a [] = Unit {0}
RisingEvents a (e ∷ events) = (a < event_timestamp e) × RisingEvents (event_timestamp e) events

-- ---- totals for each console (document 02, R-5: "four per console (ran, stood, cleared, faulted, from place console × 4), by the lowest 8 bits of the timestamp")

-- the console at which a change was made: the lowest 8 bits of its timestamp
abbrev pub console : ℕ → ℕ
console t = t % 256

-- the kinds of turns by number: 0 ran, 1 stood, 2 cleared, 3 faulted. A run that broke off counts as faulted alone (document 02, R-2: "no longer within ran")
abbrev pub run_kind : Ending → ℕ
run_kind completed = 0
run_kind (faulted fault place) = 3

abbrev pub kind : Event → ℕ
kind (ran t o) = run_kind o.ending
kind (stood t) = 1
kind (cleared t) = 2

-- how many elements of a list pass a test
abbrev pub count_of : {A : Type 0} → (A → Bool) → List A → ℕ
count_of passes [] = 0
count_of passes (x ∷ list) = cond (passes x) (suc (count_of passes list)) (count_of passes list)

-- how many turns are of a kind
abbrev pub kind_turns : ℕ → List Event → ℕ
kind_turns k events = count_of (λ e. eqb (kind e) k) events

-- how many of these had changes of a console
abbrev pub console_turns : ℕ → ℕ → List Event → ℕ
console_turns c k events = count_of (λ e. eqb (console (event_timestamp e)) c && eqb (kind e) k) events

-- four for each of 256 consoles
abbrev pub total_count : ℕ
total_count = 1024

-- the place of a console's total of a kind
abbrev pub total_place : ℕ → ℕ → ℕ
total_place c k = c * 4 + k

-- the total at a place, and all of them
abbrev pub total_at : ℕ → List Event → ℕ
total_at place events = console_turns (place / 4) (place % 4) events

unfoldable pub totals : List Event → List ℕ
totals events = tabulate total_count (λ place. total_at place events)
