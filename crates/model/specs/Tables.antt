-- The seventeen lent tables, and the cabinet that they hold (document 01, "Tables"; document 02, R-6, R-7).
use Rattle.std.specs.Prelude.{Bool, true, false, List, [], ◌∷◌, ◌++◌, map, ℕ, zero, suc, ◌-◌, ◌*◌, ◌/◌, ℤ, pos, length, get_or, take, drop, replicate}
use Rattle.machine.specs.Settings.{Entry, entries}
use Rattle.machine.specs.Instruction.{Code, code}
use Rattle.general.specs.Lists.{tabulate}
use Rattle.model.specs.History.{Status, New, Valid, Invalid, Change, change, timestamp, program, status, withdrawn, lists}
use Rattle.model.specs.Cabinet.{Cabinet}

-- held count; by place: timestamps, order, status, withdrawn, program lengths in instructions, programs, read and write counts, read settings, seen values, write settings, written values; the view; by place, versions; the cutoff and the kept values
pub record Tables : Type 0 where
  pub held : List ℕ
  pub timestamps : List ℕ
  pub order : List ℕ
  pub status : List ℕ
  pub withdrawn : List ℕ
  pub lengths : List ℕ
  pub programs : List ℕ
  pub reads : List ℕ
  pub writes : List ℕ
  pub sources : List ℕ
  pub seen : List ℤ
  pub targets : List ℕ
  pub written : List ℤ
  pub view : List ℤ
  pub versions : List ℕ
  pub cutoff : List ℕ
  pub kept : List ℤ

-- the tables as they are lent
abbrev pub tables : List ℕ → List ℕ → List ℕ → List ℕ → List ℕ → List ℕ → List ℕ → List ℕ → List ℕ → List ℕ → List ℤ → List ℕ → List ℤ → List ℤ → List ℕ → List ℕ → List ℤ → Tables
tables held timestamps order status withdrawn lengths programs reads writes sources seen targets written view versions cutoff kept =
    record {
      held = held;
      timestamps = timestamps;
      order = order;
      status = status;
      withdrawn = withdrawn;
      lengths = lengths;
      programs = programs;
      reads = reads;
      writes = writes;
      sources = sources;
      seen = seen;
      targets = targets;
      written = written;
      view = view;
      versions = versions;
      cutoff = cutoff;
      kept = kept;
    }

-- ---- the tables after a call, by what it alters of them

-- take in
abbrev pub with_taking : Tables → List ℕ → List ℕ → List ℕ → List ℕ → List ℕ → List ℕ → Tables
with_taking T held timestamps order lengths programs versions =
    tables held timestamps order T.status T.withdrawn lengths programs T.reads T.writes T.sources T.seen T.targets T.written T.view versions T.cutoff T.kept

-- withdraw
abbrev pub with_withdrawing : Tables → List ℕ → List ℕ → Tables
with_withdrawing T status withdrawn =
    tables T.held T.timestamps T.order status withdrawn T.lengths T.programs T.reads T.writes T.sources T.seen T.targets T.written T.view T.versions T.cutoff T.kept

-- take in a package
abbrev pub with_package : Tables → List ℕ → List ℕ → List ℕ → List ℕ → List ℕ → List ℕ → List ℕ → List ℕ → Tables
with_package T held timestamps order status withdrawn lengths programs versions =
    tables held timestamps order status withdrawn lengths programs T.reads T.writes T.sources T.seen T.targets T.written T.view versions T.cutoff T.kept

-- turn and drain
abbrev pub with_turn : Tables → List ℕ → List ℕ → List ℕ → List ℕ → List ℤ → List ℕ → List ℤ → List ℤ → Tables
with_turn T status reads writes sources seen targets written view =
    tables T.held T.timestamps T.order status T.withdrawn T.lengths T.programs reads writes sources seen targets written view T.versions T.cutoff T.kept

-- cutoff: all but the view
abbrev pub with_cutoff : Tables → List ℕ → List ℕ → List ℕ → List ℕ → List ℕ → List ℕ → List ℕ → List ℕ → List ℕ → List ℕ → List ℤ → List ℕ → List ℤ → List ℕ → List ℕ → List ℤ → Tables
with_cutoff T held timestamps order status withdrawn lengths programs reads writes sources seen targets written versions cutoff kept =
    tables held timestamps order status withdrawn lengths programs reads writes sources seen targets written T.view versions cutoff kept

-- ---- numbers

-- the numbers of a status and of a flag
abbrev pub status_number : Status → ℕ
status_number New = 0
status_number Valid = 1
status_number Invalid = 2

abbrev pub status_of : ℕ → Status
status_of zero = New
status_of (suc zero) = Valid
status_of (suc (suc n)) = Invalid

abbrev pub flag_number : Bool → ℕ
flag_number false = 0
flag_number true = 1

abbrev pub flag_of : ℕ → Bool
flag_of zero = false
flag_of (suc n) = true

-- ---- from a cabinet to tables

-- a list with zeros behind it, of length n
abbrev pub pad : {A : Type 0} → ℕ → A → List A → List A
pad n z l = l ++ replicate (n - length l) z

-- one slot for each place, then unused slots
abbrev pub column : {A : Type 0} → ℕ → A → (Change → A) → List Change → List A
column n z f changes = pad n z (map f changes)

-- width slots for each place, the first of them used, then unused slots
abbrev pub padded : {A : Type 0} → ℕ → A → (Change → List A) → List Change → List A
padded width z f [] = []
padded width z f (c ∷ changes) = pad width z (f c) ++ padded width z f changes

abbrev pub blocks : {A : Type 0} → ℕ → ℕ → A → (Change → List A) → List Change → List A
blocks n width z f changes = pad (width * n) z (padded width z f changes)

abbrev pub settings_of : List Entry → List ℕ
settings_of l = map (λ (e : Entry). e.setting) l

abbrev pub values_of : List Entry → List ℤ
values_of l = map (λ (e : Entry). e.value) l

unfoldable pub encode : ℕ → Cabinet → Tables
encode n c =
    record {
      held = length c.changes ∷ [];
      timestamps = column n 0 timestamp c.changes;
      order = pad n 0 c.order;
      status = column n 0 (λ d. status_number (status d)) c.changes;
      withdrawn = column n 0 (λ d. flag_number (withdrawn d)) c.changes;
      lengths = column n 0 (λ d. length (program d).bytes / 8) c.changes;
      programs = blocks n 256 0 (λ d. (program d).bytes) c.changes;
      reads = column n 0 (λ d. length (lists d).reads) c.changes;
      writes = column n 0 (λ d. length (lists d).writes) c.changes;
      sources = blocks n 32 0 (λ d. settings_of (lists d).reads) c.changes;
      seen = blocks n 32 (pos 0) (λ d. values_of (lists d).reads) c.changes;
      targets = blocks n 32 0 (λ d. settings_of (lists d).writes) c.changes;
      written = blocks n 32 (pos 0) (λ d. values_of (lists d).writes) c.changes;
      view = c.view;
      versions = column n 0 (λ d. (program d).version) c.changes;
      cutoff = c.cutoff ∷ [];
      kept = c.kept;
    }

-- ---- from tables to a cabinet

abbrev pub held_count : Tables → ℕ
held_count T = get_or T.held 0 0

abbrev pub cutoff_in : Tables → ℕ
cutoff_in T = get_or T.cutoff 0 0

-- the first count slots of a place
abbrev pub slots : {A : Type 0} → ℕ → ℕ → ℕ → List A → List A
slots width place count l = take count (drop (width * place) l)

-- the bytes of a place's program, from the two tables that they stand in
abbrev pub program_in : List ℕ → List ℕ → ℕ → List ℕ
program_in lengths programs i = slots 256 i (8 * get_or lengths i 0) programs

-- the program of a place, with its version
abbrev pub code_in : List ℕ → List ℕ → List ℕ → ℕ → Code
code_in lengths programs versions i = code (get_or versions i 0) (program_in lengths programs i)

-- a list of a place, from the three tables that it stands in
abbrev pub list_in : List ℕ → List ℕ → List ℤ → ℕ → List Entry
list_in counts settings values i = entries (get_or counts i 0) (drop (32 * i) settings) (drop (32 * i) values)

abbrev pub program_at : Tables → ℕ → Code
program_at T i = code_in T.lengths T.programs T.versions i

abbrev pub read_entries_at : Tables → ℕ → List Entry
read_entries_at T i = list_in T.reads T.sources T.seen i

abbrev pub writes_at : Tables → ℕ → List Entry
writes_at T i = list_in T.writes T.targets T.written i

abbrev pub change_at : Tables → ℕ → Change
change_at T i =
    change (get_or T.timestamps i 0) (program_at T i) (status_of (get_or T.status i 0)) (flag_of (get_or T.withdrawn i 0))
    (record { reads = read_entries_at T i; writes = writes_at T i })

unfoldable pub decode : Tables → Cabinet
decode T =
    record {
      changes = tabulate (held_count T) (change_at T);
      order = take (held_count T) T.order;
      view = T.view;
      cutoff = cutoff_in T;
      kept = T.kept;
    }
