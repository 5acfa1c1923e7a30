-- The turn of the change at a position of tables in form, outcome by outcome: it stood, or its lists were replaced.
use mathlib.Core.Path.{◌≡◌, refl, sym, ap, ap₂, subst, subst⁻¹, ◌∙◌}
use mathlib.Core.Bool.{Bool, true, cond, not}
use mathlib.Core.List.{List, [], ◌∷◌, ◌++◌}
use mathlib.Core.Option.{some}
use Prim.Native.Nat.{ℕ, ◌+◌, ◌<◌, ◌≤◌}
use native.Mathlib.Omega.{arith}
use lib.IntN.{ℤ}
use lib.ListN.{length, get_or, set, take}
use Rattle.machine.specs.Settings.{setting_count, Environment, Entry, value_in, entries, after}
use Rattle.machine.specs.Instruction.{Code, code}
use Rattle.machine.specs.Run.{Outcome, run}
use Rattle.run_record.specs.declared.Run.{Run}
use Rattle.run_record.specs.Record.{ending_of}
use Rattle.model.specs.Answers.{Turned}
use Rattle.model.specs.History.{Valid, Lists, empty, run_lists, Change, change, timestamp, program, withdrawn, lists, all_settings, eq_z}
use Rattle.model.specs.Figure.{Event, stood, turned}
use Rattle.model.specs.Walk.{differs, mark_live, live_at_end}
use Rattle.model.specs.Cabinet.{with_history}
use Rattle.model.specs.Tables.{Tables, tables, held_count, settings_of, values_of, list_in, program_in, with_turn, encode, decode}
use Rattle.model.specs.Calls.{reply, event_answer, round_of}
use Rattle.model.specs.Form.{holds, Formed}
use Rattle.model.proofs.Entries.{settings-entries, values-entries, length-entries}
use Rattle.search.specs.Searches.{waiting_in}
use Rattle.writers.proofs.Model.{wrote}
use Rattle.search.proofs.Model.{history_in}
use Rattle.values.specs.declared.KnownValues.{KnownValues}
use Rattle.values.specs.Values.{values_below, Known}
use Rattle.carrying.specs.Carrying.{Carried}
use Rattle.carrying.proofs.Carried.{known_carried}
use Rattle.values.proofs.Model.{upto_in, values-below, program-here, program-size, here-sound}
use Rattle.uses.specs.Columns.{Columns, columns_of}
use Rattle.uses.specs.declared.SettingUses.{SettingUses}
use Rattle.uses.specs.Uses.{Uses}
use Rattle.marking_laws.proofs.Restated.{with_status, unstated}
use Rattle.marking_laws.proofs.LiveSets.{Agree}
use Rattle.marking_laws.proofs.Later.{none-more-same}
use Rattle.marking_laws.proofs.Model.{view-decode, uses-replaced, uses-turned, marked-tables, view-tables}
use Rattle.storing.specs.Stored.{NewLists, replaced, replaced_z, ListsPut}
use Rattle.acts.specs.declared.Act.{Act}
use Rattle.acts.specs.declared.Act.TheVariants as act
use Rattle.propagation.specs.Propagated.{Propagated}
use Rattle.replacement.specs.Replaced.{Fitting, new_columns}
use Rattle.replacement.specs.Replaced as replacement
use Rattle.replacement.proofs.Made.{made-fits}
use Rattle.turn_answers.specs.Answers.{answer_by}
use Rattle.turns.specs.Turns as turns
use Rattle.turns.proofs.Acts.{settle_change, step_by}
use Rattle.turns.proofs.Replaced.{replaced_tables}
use Rattle.turns.proofs.Model.{held, here, later, act_in, timestamp-here, turns-by, stood-tables, settled-tables, next-sound, turn-leaves, going_next}

-- a change made Valid
unstated-valid : (c : Change) → unstated (change (timestamp c) (program c) Valid (withdrawn c) (lists c)) ≡ unstated c
unstated-valid (change t p s w l) = refl

no-entries : (count : ℕ) (settings : List ℕ) (values : List ℤ) → count ≡ 0 → entries count settings values ≡ []
unfolding entries
no-entries count settings values e = rw e

module _ {T : Tables} (g : Formed (length T.order) T) (k : ℕ) (w : waiting_in T ≡ some k) where
  abbrev n : ℕ
  n = length T.order

  abbrev place : ℕ
  place = get_or T.order k 0

  abbrev this : Change
  this = here g k w

  abbrev env : Environment
  env = upto_in T k

  held-here : k < held_count T
  held-here = held g k w

  upto : values_below T.order T.writes T.targets T.written T.kept k ≡ env
  upto = values-below g k (omega (arith, held-here))

  -- ---- it stood

  module _ {a : Act} (d : a ≡ act_in g k w) (e : a ≡ act.Stand) {status' : List ℕ} (s : status' ≡ set T.status place 1) where
    abbrev stays : Change
    stays = change (timestamp this) (program this) Valid (withdrawn this) (lists this)

    stood-round : round_of (decode T) ≡ turned (take k (history_in T) ++ stays ∷ later g k w) (decode T).view (stood (timestamp this))
    stood-round = turns-by g k w {a = act.Stand} (sym e ∙ d) refl

    stood-left : with_status T status' ≡ encode n (with_history (decode T) (take k (history_in T) ++ stays ∷ later g k w) (decode T).view)
    stood-left =
        ap (with_status T) s
        ∙ stood-tables g k held-here stays (unstated-valid this)
        (record { stamped = refl; programmed = refl; flagged = refl; reads_short = (here-sound g k held-here).reads.short; writes_short = (here-sound g k held-here).writes.short })
        refl

    pub turn-stood : {t : ℕ} → t ≡ get_or T.timestamps place 0 → reply (Turned.Stood t) (with_status T status') ≡ turns.turned T
    turn-stood q =
        ap (λ (t : ℕ). reply (Turned.Stood t) (with_status T status')) (q ∙ timestamp-here g k w)
        ∙ turn-leaves g k w stays (later g k w) (decode T).view stood-round stood-left

    pub going-stood :
        {v v' : KnownValues} {u : SettingUses} →
        Known (values_below T.order T.writes T.targets T.written T.kept k) v →
        Carried (list_in T.writes T.targets T.written place) v v' →
        Uses (k + 1) T u →
        turns.Going (k + 1) (with_status T status') v' u
    going-stood {v} {v'} q c u =
        going_next g k w stays (later g k w) (decode T).view stood-round stood-left refl
        (known_carried q (subst (λ (l : List Entry). Carried l v v') (wrote g k held-here) c))
        (uses-replaced g k held-here stays (decode T).view u (later g k w) (none-more-same (later g k w)) (next-sound g k w stays (later g k w) (decode T).view stood-round stood-left))

  -- ---- its lists were replaced

  -- new lists, in their columns
  module _ (l : NewLists) (z : Fitting l) (new : Lists) (read : entries l.reads l.sources l.seen ≡ new.reads) (written : entries l.writes l.targets l.written ≡ new.writes) where
    reads-count : length new.reads ≡ l.reads
    reads-count = ap length (sym read) ∙ length-entries l.reads l.sources l.seen (omega (arith, z.reads, z.sources)) (omega (arith, z.reads, z.seen))

    writes-count : length new.writes ≡ l.writes
    writes-count = ap length (sym written) ∙ length-entries l.writes l.targets l.written (omega (arith, z.writes, z.targets)) (omega (arith, z.writes, z.written))

    read-settings : take l.reads l.sources ≡ settings_of new.reads
    read-settings = sym (settings-entries l.reads l.sources l.seen (omega (arith, z.reads, z.seen))) ∙ ap settings_of read

    read-values : take l.reads l.seen ≡ values_of new.reads
    read-values = sym (values-entries l.reads l.sources l.seen (omega (arith, z.reads, z.sources))) ∙ ap values_of read

    wrote-settings : take l.writes l.targets ≡ settings_of new.writes
    wrote-settings = sym (settings-entries l.writes l.targets l.written (omega (arith, z.writes, z.written))) ∙ ap settings_of written

    wrote-values : take l.writes l.written ≡ values_of new.writes
    wrote-values = sym (values-entries l.writes l.targets l.written (omega (arith, z.writes, z.targets))) ∙ ap values_of written

    abbrev changes : ℕ → Bool
    changes = differs (lists this) new env

    abbrev replacing : Change
    replacing = change (timestamp this) (program this) Valid (withdrawn this) new

    abbrev view_of : List ℤ
    view_of = all_settings (λ x. cond (live_at_end changes (later g k w) x) (after new.writes env x) (value_in (decode T).view x))

    module _ {v v' : SettingUses} {status' : List ℕ} {view' : List ℤ} {known : KnownValues} (p : Propagated k (columns_of T) T.written T.kept (entries l.writes l.targets l.written) T.status T.view v status' view' v' known) (u : Uses (k + 1) T v) where
      agree : Agree (λ x. holds x p.changed) changes
      agree x h =
          let old = wrote g k held-here in
          p.differing x h ∙ (λ j. not (eq_z (after (old j) (upto j) x) (after (written j) (upto j) x)))

      new-value : (x : ℕ) → x < setting_count → holds x p.changed ≡ true → value_in known.after x ≡ after new.writes env x
      new-value x h t = p.renewed x h t ∙ (λ j. after (written j) (upto j) x)

      view-left : view' ≡ view_of
      view-left =
          view-tables g k p.changed changes agree known.after (after new.writes env) u.writers-end p.viewed new-value
          ∙ ap (λ (v : List ℤ). all_settings (λ x. cond (live_at_end changes (later g k w) x) (after new.writes env x) (value_in v x))) (sym (view-decode T))

      module _ {status'' reads' writes' sources' : List ℕ} {seen' : List ℤ} {targets' : List ℕ} {written' : List ℤ} (s : status'' ≡ set status' place 1) (put : ListsPut place l T.reads T.writes T.sources T.seen T.targets T.written reads' writes' sources' seen' targets' written') where
        abbrev left : Tables
        left = with_turn T status'' reads' writes' sources' seen' targets' written' view'

        left_is : left ≡ replaced_tables (with_status T status') k replacing view_of
        left_is =
            let reads = put.read.counts-put ∙ ap (set T.reads place) (sym reads-count) in
            let writes = put.wrote.counts-put ∙ ap (set T.writes place) (sym writes-count) in
            let sources = put.read.settings-put ∙ ap (λ (list : List ℕ). replaced place list T.sources) read-settings in
            let seen = put.read.values-put ∙ ap (λ (list : List ℤ). replaced_z place list T.seen) read-values in
            let targets = put.wrote.settings-put ∙ ap (λ (list : List ℕ). replaced place list T.targets) wrote-settings in
            let values = put.wrote.values-put ∙ ap (λ (list : List ℤ). replaced_z place list T.written) wrote-values in
            let view = view-left in
            λ j.
            tables T.held T.timestamps T.order (s j) T.withdrawn T.lengths T.programs (reads j) (writes j) (sources j) (seen j) (targets j) (values j) (view j) T.versions T.cutoff T.kept

        left-settled : left ≡ encode n (with_history (decode T) (take k (history_in T) ++ replacing ∷ mark_live changes (later g k w)) view_of)
        left-settled =
            left_is
            ∙ settled-tables g k held-here replacing (record { stamped = refl; programmed = refl; flagged = refl; reads_short = omega (arith, reads-count, z.reads); writes_short = omega (arith, writes-count, z.writes) }) changes
            (marked-tables g k p.changed changes agree p.settings u.readers-end p.marked) view_of

        module _ {a : Act} {e : Event} (d : a ≡ act_in g k w) (q : step_by a env (decode T).view this (later g k w) ≡ settle_change env (decode T).view this new (later g k w) e) where
          left-round : round_of (decode T) ≡ turned (take k (history_in T) ++ replacing ∷ mark_live changes (later g k w)) view_of e
          left-round = turns-by g k w d q

          turn-left : reply (event_answer e) left ≡ turns.turned T
          turn-left = turn-leaves g k w replacing (mark_live changes (later g k w)) view_of left-round left-settled

          going-left : turns.Going (k + 1) left known v'
          going-left =
              going_next g k w replacing (mark_live changes (later g k w)) view_of left-round left-settled refl
              (subst (λ (x : List Entry). Known (after x (values_below T.order T.writes T.targets T.written T.kept k)) known) written p.values)
              (uses-turned g k p.changed changes agree held-here replacing view_of u p.settings p.marked p.uses (next-sound g k w replacing (mark_live changes (later g k w)) view_of left-round left-settled))

  -- it was cleared or ran
  module _ {a : Act} (d : a ≡ act_in g k w) (moves : a ≡ act.Stand → ⊥) {t : ℕ} (s : t ≡ get_or T.timestamps place 0) {version : ℕ} (v : version ≡ get_or T.versions place 0) {uses uses' : SettingUses} (u : Uses (k + 1) T uses) {status' : List ℕ} {C' : Columns} {seen' written' view' : List ℤ} {known : KnownValues} {new : Run} (r : replacement.Replaced a version new k (columns_of T) T.seen T.written T.kept T.lengths T.programs T.status T.view uses status' C' seen' written' view' uses' known) {status'' : List ℕ} (q : status'' ≡ set status' place 1) where
    abbrev pub left_tables : Tables
    left_tables = with_turn T status'' C'.reads C'.writes C'.sources seen' C'.targets written' view'

    pub turn-replaced : {answer : Turned} → answer ≡ answer_by a new t → (reply answer left_tables ≡ turns.turned T) × turns.Going (k + 1) left_tables known uses'
    unfolding run_lists
    turn-replaced e = subst (λ (answer : Turned). (reply answer left_tables ≡ turns.turned T) × turns.Going (k + 1) left_tables known uses') (sym (e ∙ ap (answer_by a new) (s ∙ timestamp-here g k w))) (go a refl)
      where
        l : NewLists
        l = new_columns new r.arrays

        short : length (program_in T.lengths T.programs place) ≤ 256
        short = subst⁻¹ (λ (p : Code). length p.bytes ≤ 256) (program-here g k held-here) (program-size g k held-here)

        fits : Fitting l
        fits = made-fits _ _ moves short r.sized r.made

        same : run (values_below T.order T.writes T.targets T.written T.kept k) (code version (program_in T.lengths T.programs place)) ≡ run env (program this)
        same = ap₂ run upto (ap (λ (x : ℕ). code x (program_in T.lengths T.programs place)) v ∙ program-here g k held-here)

        go : (b : Act) → a ≡ b → (reply (answer_by a new (timestamp this)) left_tables ≡ turns.turned T) × turns.Going (k + 1) left_tables known uses'
        go act.Clear e =
            let m = r.made.cleared e in
            let read = no-entries l.reads l.sources l.seen m.0 in
            let wrote = no-entries l.writes l.targets l.written m.1 in
            let step = ap (λ (b : Act). step_by b env (decode T).view this (later g k w)) e in
            (rw e (turn-left l fits empty read wrote r.follows u q r.put d step), going-left l fits empty read wrote r.follows u q r.put d step)
        go act.Stand e = absurd (moves e)
        go act.Run e =
            let o = (r.made.ran e).outcome ∙ same in
            let lists = run_lists env (program this) in
            let read : entries l.reads l.sources l.seen ≡ lists.reads = ap (λ (x : Outcome). x.reads) o in
            let wrote : entries l.writes l.targets l.written ≡ lists.writes = ap (λ (x : Outcome). x.writes) o in
            let ending : ending_of new ≡ (run env (program this)).ending = ap (λ (x : Outcome). x.ending) o in
            let step = ap (λ (b : Act). step_by b env (decode T).view this (later g k w)) e in
            (rw (e, ending) (turn-left l fits lists read wrote r.follows u q r.put d step), going-left l fits lists read wrote r.follows u q r.put d step)
