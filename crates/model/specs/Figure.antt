-- One round of the Checker, word for word after Figure 1 of source document 004, with document 01's additions ("A turn").
use Rattle.std.specs.Prelude.{Bool, true, false, cond, not, ◌&&◌, ◌||◌, List, [], ◌∷◌, map, ℕ, eqb, ltb, leb, ℤ}
use Rattle.std.proofs.Math.Option.{Option, none, some}
use Rattle.machine.specs.Settings.{Environment, value_in, Entry, is_some, lookup, after}
use Rattle.machine.specs.Instruction.{Code}
use Rattle.machine.specs.Run.{Outcome, run}
use Rattle.model.specs.History.{infinity, Status, New, Valid, Invalid, Lists, empty, run_lists, Change, change, timestamp, lists, History, as_of, all_settings, eq_z, all_hold}

-- what a turn did with the change of a timestamp; what a run left, its lists and how it ended, is kept with it. One that faulted is a run too (document 02, R-2)
pub data Event : Type 0 where
  ran : ℕ → Outcome → Event
  stood : ℕ → Event
  cleared : ℕ → Event

abbrev pub event_timestamp : Event → ℕ
event_timestamp (ran t o) = t
event_timestamp (stood t) = t
event_timestamp (cleared t) = t

-- idle, or the history, the view and the event
pub data Step : Type 0 where
  idle : Step
  turned : History → List ℤ → Event → Step

-- T := lowest-timestamped New or Invalid update
abbrev pub lowest_waiting : History → Option Change
lowest_waiting [] = none
lowest_waiting (change t p New w l ∷ h) = some (change t p New w l)
lowest_waiting (change t p Invalid w l ∷ h) = some (change t p Invalid w l)
lowest_waiting (change t p Valid w l ∷ h) = lowest_waiting h

-- does an update write x
abbrev pub writes : Change → ℕ → Bool
writes u x = is_some (lookup (lists u).writes x)

-- Next-Writer(x, T): the timestamp of the lowest update above T that writes x, or infinity
abbrev pub next_writer : History → ℕ → ℕ → ℕ
next_writer [] x t = infinity
next_writer (u ∷ h) x t = cond (ltb t (timestamp u) && writes u x) (timestamp u) (next_writer h x t)

-- Last-Writer(x): the timestamp of the highest update that writes x, or 0
abbrev pub last_writer_after : ℕ → History → ℕ → ℕ
last_writer_after last [] x = last
last_writer_after last (u ∷ h) x = last_writer_after (cond (writes u x) (timestamp u) last) h x

abbrev pub last_writer : History → ℕ → ℕ
last_writer h x = last_writer_after 0 h x

-- added, removed, changed: whether x is in each, from what oldwset and newwset hold of it and Value-Upto(x, T)
abbrev pub added : Option ℤ → Option ℤ → ℤ → Bool
added none none upto = false
added none (some v2) upto = not (eq_z v2 upto)
added (some v1) new upto = false

abbrev pub removed : Option ℤ → Option ℤ → ℤ → Bool
removed none new upto = false
removed (some v1) none upto = not (eq_z v1 upto)
removed (some v1) (some v2) upto = false

abbrev pub changed : Option ℤ → Option ℤ → Bool
changed none new = false
changed (some v1) none = false
changed (some v1) (some v2) = not (eq_z v2 v1)

-- changeset := union(added, removed, changed); upto is Value-Upto(·, T)
abbrev pub changeset : Lists → Lists → Environment → ℕ → Bool
changeset old new upto x =
    let oldwset = lookup old.writes x in
    let newwset = lookup new.writes x in
    added oldwset newwset (upto x) || (removed oldwset newwset (upto x) || changed oldwset newwset)

-- does a read list have a setting of a set
abbrev pub reads_any : (ℕ → Bool) → List Entry → Bool
reads_any changes [] = false
reads_any changes (e ∷ l) = changes e.setting || reads_any changes l

-- a Valid update that is to be marked becomes Invalid
abbrev pub mark : Bool → Status → Status
mark b New = New
mark true Valid = Invalid
mark false Valid = Valid
mark b Invalid = Invalid

abbrev pub mark_update : Bool → Change → Change
mark_update b (change t p s w l) = change t p (mark b s) w l

-- mark U Invalid where U > T, and U ≤ Next-Writer(x, T) and x in Readset(U) for some x of the changeset
abbrev pub mark_future : History → ℕ → (ℕ → Bool) → Change → Change
mark_future h t changes u =
    mark_update (ltb t (timestamp u) && reads_any (λ x. changes x && leb (timestamp u) (next_writer h x t)) (lists u).reads) u

-- if T ≥ Last-Writer(x) then update x in current database copy
abbrev pub update_view : History → ℕ → (ℕ → Bool) → Environment → List ℤ → List ℤ
update_view h t changes new view = all_settings (λ x. cond (changes x && leb (last_writer h x) t) (new x) (value_in view x))

-- the update of timestamp t replaced
abbrev pub replace : ℕ → Change → Change → Change
replace t new u = cond (eqb (timestamp u) t) new u

-- what follows the determination of newrset and newwset: marking, the view, then Readset(T), Writeset(T) replaced and T marked Valid
abbrev pub install : History → List ℤ → Environment → ℕ → Code → Bool → Lists → Lists → Event → Step
install h view upto t p w old new event =
    turned (map (λ u. replace t (change t p Valid w new) (mark_future h t (changeset old new upto) u)) h)
    (update_view h t (changeset old new upto) (after new.writes upto) view)
    event

-- document 01's additions: a withdrawn change is cleared; an Invalid one whose seen values all hold stood; any other is executed
abbrev pub rerun : Bool → History → List ℤ → Environment → ℕ → Code → Lists → Step
rerun true h view upto t p old = turned (map (replace t (change t p Valid false old)) h) view (stood t)
rerun false h view upto t p old = install h view upto t p false old (run_lists upto p) (ran t (run upto p))

abbrev pub execute : History → List ℤ → Environment → Change → Step
execute h view upto (change t p s true old) = install h view upto t p true old empty (cleared t)
execute h view upto (change t p New false old) = install h view upto t p false old (run_lists upto p) (ran t (run upto p))
execute h view upto (change t p Invalid false old) = rerun (all_hold old.reads upto) h view upto t p old
execute h view upto (change t p Valid false old) = idle

-- one round, on the settings that the history starts from
abbrev pub round_at : Environment → History → List ℤ → Option Change → Step
round_at env h view none = idle
round_at env h view (some c) = execute h view (as_of (timestamp c) h env) c

unfoldable pub round : Environment → History → List ℤ → Step
round env h view = round_at env h view (lowest_waiting h)
