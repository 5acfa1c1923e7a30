-- The calls, each as one function from its arguments and the lent tables to its answer and the tables after it (document 01, "Calls"; document 02). A refusal alters nothing.
use Rattle.std.specs.Prelude.{cond, not, List, [], ◌∷◌, ◌++◌, map, ℕ, eqb, ℤ, pos, length, drop}
use Rattle.std.proofs.Math.Option.{Option, none, some}
use Rattle.start_values.specs.StartValues.{start_table}
use Rattle.machine.specs.Settings.{setting_count, value_in}
use Rattle.machine.specs.Instruction.{Code}
use Rattle.machine.specs.Run.{Ending, completed, faulted}
use Rattle.model.specs.Answers.{Answer, Turned, Value, Standing, Packed}
use Rattle.model.specs.History.{Change, status, withdrawn, as_of, all_settings}
use Rattle.model.specs.Figure.{Event, ran, stood, cleared, Step, idle, turned, round}
use Rattle.model.specs.Drain.{Drain, drain_history, total_count, totals}
use Rattle.model.specs.Cabinet.{Cabinet, empty_cabinet, kept_values_in, history_of, with_history, find, add, remove, cut_at}
use Rattle.model.specs.Tables.{Tables, status_number, flag_number, encode, cutoff_in, decode}
use Rattle.model.specs.Refusals.{test, first_of, wrong_lengths, wrong_length, not_in_form, fault_of, no_timestamp, no_time, below_cutoff, no_setting, wrong_program_length, no_version, malformed, is_held, held_otherwise, full, not_held, withdrawn_already, unsettled_below, no_room}
use Rattle.model.specs.Package.{Item, taking, withdrawing, layout_fits, items_of, package_of}
use Rattle.model.specs.Book.{book_of, fresh_end, booked_items}

-- ---- answers (document 01, last sentence: "a definition gives this paper's number and values for each of its cases")

-- a refusal gives its number alone; any other answer gives the number of its case and its values
pub data Given : Type 0 where
  refused : ℕ → Given
  given : ℕ → List ℤ → Given

-- 0 done, 255 already held
abbrev pub answer_given : Answer → Given
answer_given Answer.Done = given 0 []
answer_given Answer.Held = given 255 []
answer_given (Answer.Refused r) = refused r

-- idle, ran, stood, cleared and faulted in this order from 0; all but idle name the change's timestamp, and faulted the place too (document 02, R-2)
abbrev pub turned_given : Turned → Given
turned_given Turned.Idle = given 0 []
turned_given (Turned.Ran t) = given 1 (pos t ∷ [])
turned_given (Turned.Stood t) = given 2 (pos t ∷ [])
turned_given (Turned.Cleared t) = given 3 (pos t ∷ [])
turned_given (Turned.Faulted t place) = given 4 (pos t ∷ pos place ∷ [])
turned_given (Turned.Refused r) = refused r

-- a value
abbrev pub value_given : Value → Given
value_given (Value.Is v) = given 0 (v ∷ [])
value_given (Value.Refused r) = refused r

-- status and flag
abbrev pub standing_given : Standing → Given
standing_given (Standing.At s f) = given 0 (pos s ∷ pos f ∷ [])
standing_given (Standing.Refused r) = refused r

-- the length of the package
abbrev pub packed_given : Packed → Given
packed_given (Packed.Length size) = given 0 (pos size ∷ [])
packed_given (Packed.Refused r) = refused r

-- the number of a refusal or of a case
abbrev pub number_given : Given → ℕ
number_given (refused r) = r
number_given (given k values) = k

-- the answer byte of an entry: 0 done, 255 already held, else the refusal
abbrev pub answer_number : Answer → ℕ
answer_number a = number_given (answer_given a)

-- ---- replies

-- an answer and the tables after the call
pub record Reply (A : Type 0) : Type 0 where
  pub answer : A
  pub tables : Tables

abbrev pub reply : {A : Type 0} → A → Tables → Reply A
reply a T = record { answer = a; tables = T }

-- the reply of a call whose refusal is r: refused with the tables as they were, or what the call does
abbrev pub unless : {A : Type 0} → ℕ → (ℕ → A) → Tables → Reply A → Reply A
unless r refusal T done = cond (eqb r 0) done (record { answer = refusal r; tables = T })

-- the same of a call that alters no table
abbrev pub unless_read : {A : Type 0} → ℕ → (ℕ → A) → A → A
unless_read r refusal done = cond (eqb r 0) done (refusal r)

-- ---- set up

-- every table to 0, the view and the kept values to the start
unfoldable pub set_up : ℕ → Tables → Reply Answer
set_up n T =
    unless (first_of (wrong_lengths n T ∷ [])) Answer.Refused T
    (record { answer = Answer.Done; tables = encode n empty_cabinet })

-- ---- take in, withdraw, take in a package

-- the refusal of an item on tables in form
abbrev pub item_refusal : ℕ → Cabinet → Item → ℕ
item_refusal n c (taking t p) =
    first_of (no_timestamp t ∷ below_cutoff c.cutoff t ∷ wrong_program_length p ∷ no_version p ∷ malformed p ∷ held_otherwise c t p ∷ full n c t ∷ [])
item_refusal n c (withdrawing t) = first_of (no_timestamp t ∷ below_cutoff c.cutoff t ∷ not_held c t ∷ withdrawn_already c t ∷ [])

-- its answer, where it is not refused: the same timestamp with the same program is held already
abbrev pub item_accepted : Cabinet → Item → Answer
item_accepted c (taking t p) = cond (is_held (find t (history_of c))) Answer.Held Answer.Done
item_accepted c (withdrawing t) = Answer.Done

unfoldable pub item_answer : ℕ → Cabinet → Item → Answer
item_answer n c i = unless_read (item_refusal n c i) Answer.Refused (item_accepted c i)

-- what it does, where it is answered done
abbrev pub item_done : Cabinet → Item → Cabinet
item_done c (taking t p) = add t p c
item_done c (withdrawing t) = remove t c

-- one thing if the answer is done, and another if not
abbrev pub if_done : {A : Type 0} → Answer → A → A → A
if_done Answer.Done x y = x
if_done Answer.Held x y = y
if_done (Answer.Refused r) x y = y

abbrev pub item_call : ℕ → Tables → Item → Reply Answer
item_call n T i =
    let c = decode T in
    unless (fault_of n T) Answer.Refused T
    (record { answer = item_answer n c i; tables = if_done (item_answer n c i) (encode n (item_done c i)) T })

unfoldable pub take_in : ℕ → Tables → ℕ → Code → Reply Answer
take_in n T t p = item_call n T (taking t p)

unfoldable pub withdraw : ℕ → Tables → ℕ → Reply Answer
withdraw n T t = item_call n T (withdrawing t)

-- the entries of a package are carried out in order; a refused entry stops nothing
abbrev pub item_step : ℕ → Cabinet → Item → Cabinet
item_step n c i = if_done (item_answer n c i) (item_done c i) c

abbrev pub item_answers : ℕ → Cabinet → List Item → List Answer
item_answers n c [] = []
item_answers n c (i ∷ items) = item_answer n c i ∷ item_answers n (item_step n c i) items

abbrev pub item_steps : ℕ → Cabinet → List Item → Cabinet
item_steps n c [] = c
item_steps n c (i ∷ items) = item_steps n (item_step n c i) items

-- a package's reply also has the lent slice of 512 answer bytes
pub record PackageReply : Type 0 where
  pub answer : Answer
  pub tables : Tables
  pub answers : List ℕ

abbrev pub package_reply : Answer → Tables → List ℕ → PackageReply
package_reply a T answers = record { answer = a; tables = T; answers = answers }

unfoldable pub take_in_package : ℕ → Tables → List ℕ → List ℕ → PackageReply
take_in_package n T bytes answers =
    let c = decode T in
    let items = items_of bytes in
    let r = first_of (wrong_length n T (length answers) 512 ∷ not_in_form n T ∷ test 3 (not (layout_fits bytes)) ∷ []) in
    cond (eqb r 0)
    (record {
      answer = Answer.Done;
      tables = encode n (item_steps n c items);
      answers = map answer_number (item_answers n c items) ++ drop (length items) answers;
    })
    (record { answer = Answer.Refused r; tables = T; answers = answers })

-- ---- cutoff

-- document 02, R-7: "a cutoff drops every change stamped below it and keeps each setting's value as of it"; "a new cutoff is a timestamp to refusal 4 too"
unfoldable pub raise_cutoff : ℕ → Tables → ℕ → Reply Answer
raise_cutoff n T t =
    let c = decode T in
    unless (first_of (wrong_lengths n T ∷ not_in_form n T ∷ no_timestamp t ∷ below_cutoff c.cutoff t ∷ unsettled_below c t ∷ [])) Answer.Refused T
    (record { answer = Answer.Done; tables = encode n (cut_at t c) })

-- ---- turn, drain

-- document 02, R-2: "A turn answers faulted with the place instead of ran in that case"; the place is that of the instruction that broke off, from 0
abbrev pub run_answer : ℕ → Ending → Turned
run_answer t completed = Turned.Ran t
run_answer t (faulted fault place) = Turned.Faulted t place

abbrev pub event_answer : Event → Turned
event_answer (ran t o) = run_answer t o.ending
event_answer (stood t) = Turned.Stood t
event_answer (cleared t) = Turned.Cleared t

abbrev pub step_reply : ℕ → Tables → Cabinet → Step → Reply Turned
step_reply n T c idle = record { answer = Turned.Idle; tables = T }
step_reply n T c (turned h view e) = record { answer = event_answer e; tables = encode n (with_history c h view) }

-- the round of a cabinet
abbrev pub round_of : Cabinet → Step
round_of c = round (kept_values_in c) (history_of c) c.view

unfoldable pub turn : ℕ → Tables → Reply Turned
turn n T =
    unless (fault_of n T) Turned.Refused T
    (step_reply n T (decode T) (round_of (decode T)))

abbrev pub drain_of : Cabinet → Drain
drain_of c = drain_history (kept_values_in c) (history_of c) c.view

-- turns until idle: the tables that a drain leaves, whatever is lent for the totals. The call, with its totals, is `drain_with_totals`
unfoldable pub drain : ℕ → Tables → Reply Answer
drain n T =
    let c = decode T in
    let d = drain_of c in
    unless (fault_of n T) Answer.Refused T
    (record { answer = Answer.Done; tables = encode n (with_history c d.history d.view) })

-- the call's reply also has the lent slice of 1,024 totals
pub record TotalsReply : Type 0 where
  pub answer : Answer
  pub tables : Tables
  pub totals : List ℕ

abbrev pub totals_reply : Answer → Tables → List ℕ → TotalsReply
totals_reply a T totals = record { answer = a; tables = T; totals = totals }

-- document 02, R-5: "A drain fills a lent slice of 1,024 16-bit totals": each is stored, 0 too. Another length is refusal 1
unfoldable pub drain_with_totals : ℕ → Tables → List ℕ → TotalsReply
drain_with_totals n T lent =
    let r = first_of (wrong_length n T (length lent) total_count ∷ not_in_form n T ∷ []) in
    cond (eqb r 0) (record { answer = Answer.Done; tables = (drain n T).tables; totals = totals (drain_of (decode T)).events })
    (record { answer = Answer.Refused r; tables = T; totals = lent })

-- ---- the calls that only read

-- from the view
unfoldable pub current_value : ℕ → Tables → ℕ → Value
current_value n T s =
    unless_read (first_of (wrong_lengths n T ∷ not_in_form n T ∷ no_setting s ∷ [])) Value.Refused
    (Value.Is (value_in T.view s))

-- the highest write stamped below it, else the kept value
unfoldable pub value_as_of : ℕ → Tables → ℕ → ℕ → Value
value_as_of n T t s =
    unless_read (first_of (wrong_lengths n T ∷ not_in_form n T ∷ no_time t ∷ below_cutoff (cutoff_in T) t ∷ no_setting s ∷ [])) Value.Refused
    (Value.Is (as_of t (history_of (decode T)) (kept_values_in (decode T)) s))

-- status and flag
abbrev pub standing_of : Option Change → Standing
standing_of none = Standing.At 0 0
standing_of (some c) = Standing.At (status_number (status c)) (flag_number (withdrawn c))

unfoldable pub standing : ℕ → Tables → ℕ → Standing
standing n T t =
    unless_read (first_of (wrong_lengths n T ∷ not_in_form n T ∷ no_timestamp t ∷ below_cutoff (cutoff_in T) t ∷ not_held (decode T) t ∷ [])) Standing.Refused
    (standing_of (find t (history_of (decode T))))

-- a plain run's reply has the lent slice of 1,024 settings: what all held changes leave, run in timestamp order, withdrawn ones passed over
pub record PlainReply : Type 0 where
  pub answer : Answer
  pub settings : List ℤ

abbrev pub plain_reply : Answer → List ℤ → PlainReply
plain_reply a settings = record { answer = a; settings = settings }

unfoldable pub plain_run : ℕ → Tables → List ℤ → PlainReply
plain_run n T settings =
    let r = first_of (wrong_length n T (length settings) setting_count ∷ not_in_form n T ∷ []) in
    cond (eqb r 0) (record { answer = Answer.Done; settings = all_settings (fresh_end (book_of (history_of (decode T))) (kept_values_in (decode T))) })
    (record { answer = Answer.Refused r; settings = settings })

-- ---- package out

-- what tables hold, as the items of a package: held changes, then withdrawals
abbrev pub held_items_of : Tables → List Item
held_items_of T = booked_items (book_of (history_of (decode T)))

-- its reply has the lent slice of bytes
pub record PackedReply : Type 0 where
  pub answer : Packed
  pub bytes : List ℕ

abbrev pub packed_reply : Packed → List ℕ → PackedReply
packed_reply a bytes = record { answer = a; bytes = bytes }

-- document 02, R-3: "as one package"; "The written length is returned and later bytes of the lent slice keep their contents. Refusal 12, last in the order"
unfoldable pub package_out : ℕ → Tables → List ℕ → PackedReply
package_out n T bytes =
    let items = held_items_of T in
    let written = package_of items in
    let r = first_of (wrong_lengths n T ∷ not_in_form n T ∷ no_room (length items) (length written) (length bytes) ∷ []) in
    cond (eqb r 0) (record { answer = Packed.Length (length written); bytes = written ++ drop (length written) bytes })
    (record { answer = Packed.Refused r; bytes = bytes })

-- ---- the start values

-- document 02, R-1: "The start values are shipped as one constant table of 1,024 numbers". The call is lent no tables, but a slice of 1,024 that gets them; another length is refusal 1
unfoldable pub start_values : List ℤ → PlainReply
start_values settings =
    let r = first_of (test 1 (not (eqb (length settings) setting_count)) ∷ []) in
    cond (eqb r 0) (record { answer = Answer.Done; settings = start_table })
    (record { answer = Answer.Refused r; settings = settings })
