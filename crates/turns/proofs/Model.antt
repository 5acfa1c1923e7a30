-- The turn of the change at a position of tables in form, by what is done with it: the tables that it leaves, and what is known for the next position.
use mathlib.Core.Path.{◌≡◌, refl, sym, ap, ap₂, subst, ◌∙◌}
use mathlib.Core.Bool.{Bool, false, not}
use mathlib.Core.List.{List, [], ◌∷◌, ◌++◌, map}
use mathlib.Core.Option.{some}
use Prim.Native.Nat.{ℕ, zero, suc, ◌+◌, ◌<◌}
use native.Mathlib.Decide.{dec_lt}
use native.Mathlib.Numerals.{add-one}
use native.Mathlib.Omega.{arith}
use lib.Dec.{eqb}
use lib.IntN.{ℤ}
use lib.ListN.{length, get_or, set, take, drop, length-append, get_or-append}
use lib.Seq.{length-take-le, drop_at, get_or-take, get_or-append-add}
use Rattle.machine.specs.Settings.{Environment, after}
use Rattle.model.specs.History.{Status, Valid, Change, timestamp, status, withdrawn, lists, History, after_all, all_hold}
use Rattle.model.specs.Figure.{Event, turned}
use Rattle.model.specs.Walk.{mark_live}
use Rattle.model.specs.Cabinet.{Cabinet, kept_values_in, blank, history_of, with_history}
use Rattle.model.specs.Tables.{Tables, held_count, list_in, status_number, flag_number, encode, decode}
use Rattle.model.specs.Calls.{reply, event_answer, step_reply, round_of}
use Rattle.model.specs.Form.{Formed}
use Rattle.model.specs.Sound.{Sound}
use Rattle.model.proofs.Cabinet.{length-put_at, with_history-history, history-again}
use Rattle.model.proofs.Encode.{lengths-encode}
use Rattle.model.proofs.Figure.{round-walk}
use Rattle.model.proofs.Form.{facts, encode-formed}
use Rattle.model.proofs.Keeps.{StepKeeps, keeps-length, round_keeps, round-sound}
use Rattle.model.proofs.Tables.{timestamp-at, withdrawn-at, decode-encode}
use Rattle.search.specs.Searches.{is_waiting, waiting_in}
use Rattle.search.proofs.First.{first_some}
use Rattle.search.proofs.Model.{history_in, held-changes, history-length, by_place}
use Rattle.search.proofs.Passes.{passes, passes-turned}
use Rattle.search.proofs.Waits.{status-of, waiting-held, waiting-some, walk-some}
use Rattle.values.specs.declared.KnownValues.{KnownValues}
use Rattle.values.specs.Values.{values_below, Known}
use Rattle.values.proofs.Model.{upto_in, values-below, reads_here}
use Rattle.uses.specs.declared.SettingUses.{SettingUses}
use Rattle.uses.specs.Uses.{Uses}
use Rattle.marking_laws.proofs.Restated.{with_status, unstated, Restated, restated}
use Rattle.marking_laws.proofs.Cabinet.{marked-keeps, marked-cabinet-sound}
use Rattle.marking_laws.proofs.Model.{view-decode}
use Rattle.acts.specs.declared.Act.{Act}
use Rattle.acts.specs.Acts.{act_of}
use Rattle.turns.specs.Turns as turns
use Rattle.turns.proofs.Acts.{step_by, act_by, walk-acts}
use Rattle.turns.proofs.Replaced.{replaced_tables, Replaces, replaced-tables}

-- ---- another change at a position

-- one that differs in its status alone
restated-at : (h : History) (k : ℕ) (new : Change) → k < length h → unstated new ≡ unstated (get_or h k blank) → Restated h (take k h ++ new ∷ drop (suc k) h)
restated-at [] k new l e = absurd (omega arith)
restated-at (c ∷ h) zero new l e = ap (◌∷ map unstated h) e
restated-at (c ∷ h) (suc k) new l e = ap (unstated c ∷◌) (restated-at h k new (omega arith) e)

take-first : (k : ℕ) (h b : History) → k < length h → take k (take (suc k) h ++ b) ≡ take k h
take-first zero h b l = refl
take-first (suc k) [] b l = absurd (omega arith)
take-first (suc k) (c ∷ h) b l = ap (c ∷◌) (take-first k h b (omega arith))

get_first : (k : ℕ) (h b : History) → k < length h → get_or (take (suc k) h ++ b) k blank ≡ get_or h k blank
get_first k [] b l = absurd (omega arith)
get_first zero (c ∷ h) b l = refl
get_first (suc k) (c ∷ h) b l = get_first k h b (omega arith)

-- the settings after the first changes and one more
after_first : (a : History) (new : Change) (rest : History) (env : Environment) → after_all (take (suc (length a)) (a ++ new ∷ rest)) env ≡ after (lists new).writes (after_all a env)
after_first [] new rest env = refl
after_first (c ∷ a) new rest env = after_first a new rest (after (lists c).writes env)

-- ---- the tables after

module _ {n : ℕ} {T : Tables} (g : Formed n T) (k : ℕ) (h : k < held_count T) (new : Change) where
  abbrev history : History
  history = history_in T

  in-history : k < length history
  in-history = omega (arith, h, history-length g)

  in-changes : k < length (decode T).changes
  in-changes = omega (arith, h, held-changes g)

  -- the status alone is another
  pub stood-tables : unstated new ≡ unstated (get_or history k blank) → Replaces new (get_or history k blank) → status new ≡ Valid → with_status T (set T.status (get_or T.order k 0) 1) ≡ encode n (with_history (decode T) (take k history ++ new ∷ drop (suc k) history) (decode T).view)
  stood-tables u r v =
      let c = decode T in
      let s = (facts g).sound in
      let after' = take k history ++ new ∷ drop (suc k) history in
      let stated : with_status (encode n c) (set (encode n c).status (get_or (encode n c).order k 0) 1) ≡ encode n (with_history c after' c.view) = ap (with_status (encode n c)) (ap (λ (q : Status). set (encode n c).status (get_or (encode n c).order k 0) (status_number q)) (sym v) ∙ ap (λ (U : Tables). U.status) (replaced-tables n c s k in-changes new r c.view)) ∙ sym (restated n c s.placed after' (restated-at history k new in-history u)) in
      subst (λ (U : Tables). with_status U (set U.status (get_or U.order k 0) 1) ≡ encode n (with_history c after' c.view)) (facts g).laid stated

  -- the later changes are marked, the change is another, and so is the view
  module _ (r : Replaces new (get_or history k blank)) (f : ℕ → Bool) {status' : List ℕ} (m : with_status T status' ≡ encode n (with_history (decode T) (take (suc k) history ++ mark_live f (drop (suc k) history)) T.view)) (view : List ℤ) where
    abbrev marked : History
    marked = take (suc k) history ++ mark_live f (drop (suc k) history)

    abbrev between : Cabinet
    between = with_history (decode T) marked T.view

    between-sound : Sound n between
    between-sound = rw (view-decode T) at (marked-cabinet-sound (suc k) f (facts g).sound)

    same_length : length marked ≡ length history
    same_length = keeps-length (marked-keeps (suc k) f history T.view)

    between-history : history_of between ≡ marked
    between-history = with_history-history (decode T) marked T.view (facts g).sound.placed same_length

    pub settled-tables : replaced_tables (with_status T status') k new view ≡ encode n (with_history (decode T) (take k history ++ new ∷ mark_live f (drop (suc k) history)) view)
    settled-tables =
        let rest = mark_live f (drop (suc k) history) in
        let first : length (take (suc k) history) ≡ suc k = length-take-le (suc k) history (omega (arith, in-history)) in
        let below : length (take k history) ≡ k = length-take-le k history (omega (arith, in-history)) in
        let all : length (take (suc k) history) + length rest ≡ length history = sym (length-append (take (suc k) history) rest) ∙ same_length in
        let size : length (take k history ++ new ∷ rest) ≡ length history = length-append (take k history) (new ∷ rest) ∙ omega (arith, first, below, all) in
        let room : k < length between.changes = omega (arith, in-changes, length-put_at (decode T).order marked (decode T).changes) in
        ap (λ (U : Tables). replaced_tables U k new view) m
        ∙ replaced-tables n between between-sound k room new (subst (Replaces new) (sym (ap (λ (x : History). get_or x k blank) between-history ∙ get_first k history rest in-history)) r) view
        ∙ ap (λ (x : History). encode n (with_history between (take k x ++ new ∷ drop (suc k) x) view)) between-history
        ∙ ap₂ (λ (a b : History). encode n (with_history between (a ++ new ∷ b) view)) (take-first k history rest in-history) (drop_at (take (suc k) history) rest (suc k) first)
        ∙ ap (encode n) (history-again (decode T) marked (take k history ++ new ∷ rest) T.view view (facts g).sound.placed size)

-- ---- the turn

module _ {T : Tables} (g : Formed (length T.order) T) (k : ℕ) (w : waiting_in T ≡ some k) where
  abbrev n : ℕ
  n = length T.order

  abbrev place : ℕ
  place = get_or T.order k 0

  abbrev pub here : Change
  here = get_or (history_in T) k blank

  abbrev pub later : History
  later = drop (suc k) (history_in T)

  pub held : k < held_count T
  held = waiting-held g k w

  -- what `decide` answers
  abbrev pub act_in : Act
  act_in = act_of (get_or T.withdrawn place 0) (get_or T.status place 0) (all_hold (list_in T.reads T.sources T.seen place) (values_below T.order T.writes T.targets T.written T.kept k))

  flag-here : get_or T.withdrawn place 0 ≡ flag_number (withdrawn here)
  flag-here =
      ap (λ (U : Tables). get_or U.withdrawn place 0) (sym (facts g).laid)
      ∙ withdrawn-at n (decode T) place
      ∙ ap (λ (c : Change). flag_number (withdrawn c)) (by_place g k held)

  pub timestamp-here : get_or T.timestamps place 0 ≡ timestamp here
  timestamp-here =
      ap (λ (U : Tables). get_or U.timestamps place 0) (sym (facts g).laid)
      ∙ timestamp-at n (decode T) place
      ∙ ap timestamp (by_place g k held)

  pub act-is : act_in ≡ act_by (upto_in T k) here
  act-is =
      let flags = flag-here in
      let statuses = status-of g k held in
      let reads = reads_here g k held in
      let upto = values-below g k (omega (arith, held)) in
      λ j. act_of (flags j) (statuses j) (all_hold (reads j) (upto j))

  -- the round, where the change does this
  pub turns-by : {a : Act} {h : History} {view : List ℤ} {e : Event} → a ≡ act_in → step_by a (upto_in T k) (decode T).view here later ≡ turned h view e → round_of (decode T) ≡ turned (take k (history_in T) ++ h) view e
  turns-by {h = h} {view} {e} d q =
      round-walk (kept_values_in (decode T)) (history_in T) (decode T).view 0 (facts g).sound.rising
      ∙ walk-some g k w (kept_values_in (decode T)) (decode T).view
      ∙ ap (passes (take k (history_in T)))
      (walk-acts (upto_in T k) (decode T).view here later (waiting-some g k w).here
      ∙ ap (λ (a : Act). step_by a (upto_in T k) (decode T).view here later) (sym (d ∙ act-is))
      ∙ q)
      ∙ passes-turned (take k (history_in T)) h view e

  -- the first change that waits is the one at the position
  waits-first : (j : ℕ) → j < k → is_waiting T.order T.status j ≡ false
  waits-first = (first_some (is_waiting T.order T.status) (held_count T) k w).2

  -- ---- the tables after a turn that leaves these changes from the position on, and this view

  module _ (new : Change) (rest : History) (view : List ℤ) {e : Event} (r : round_of (decode T) ≡ turned (take k (history_in T) ++ new ∷ rest) view e) {U : Tables} (u : U ≡ encode n (with_history (decode T) (take k (history_in T) ++ new ∷ rest) view)) where
    abbrev next : Cabinet
    next = with_history (decode T) (take k (history_in T) ++ new ∷ rest) view

    pub next-sound : Sound n next
    next-sound = round-sound (facts g).sound r

    pub turn-leaves : reply (event_answer e) U ≡ turns.turned T
    unfolding turns.turned
    turn-leaves = ap (reply (event_answer e)) u ∙ sym (ap (step_reply n T (decode T)) r)

    next-capacity : length U.order ≡ n
    next-capacity = ap (λ (W : Tables). length W.order) u ∙ (lengths-encode n next next-sound).order

    formed-next : Formed (length U.order) U
    formed-next = subst (λ (m : ℕ). Formed m U) (sym next-capacity) (subst (Formed n) (sym u) (encode-formed next-sound))

    next-length : length (take k (history_in T) ++ new ∷ rest) ≡ length (history_in T)
    next-length = keeps-length (subst (StepKeeps (history_in T) (decode T).view) r (round_keeps (kept_values_in (decode T)) (history_in T) (decode T).view))

    history-next : history_in U ≡ take k (history_in T) ++ new ∷ rest
    history-next =
        ap history_in u
        ∙ ap history_of (decode-encode n next next-sound)
        ∙ with_history-history (decode T) (take k (history_in T) ++ new ∷ rest) view (facts g).sound.placed next-length

    kept_next : kept_values_in (decode U) ≡ kept_values_in (decode T)
    kept_next = ap (λ (W : Tables). kept_values_in (decode W)) u ∙ ap kept_values_in (decode-encode n next next-sound)

    held_next : held_count U ≡ held_count T
    held_next = sym (history-length formed-next) ∙ ap length history-next ∙ next-length ∙ history-length g

    below_length : length (take k (history_in T)) ≡ k
    below_length = length-take-le k (history_in T) (omega (arith, held, history-length g))

    -- the changes below the position are as they were, and the one at it is Valid
    passed-next : status new ≡ Valid → (j : ℕ) → j < suc k → is_waiting U.order U.status j ≡ false
    passed-next v j h = ap (λ (m : ℕ). not (eqb m 1)) (status-of formed-next j (omega (arith, h, held, held_next)) ∙ ap (λ (x : History). status_number (status (get_or x j blank))) history-next) ∙ go (dec_lt j k)
      where
        go : Dec (j < k) → not (eqb (status_number (status (get_or (take k (history_in T) ++ new ∷ rest) j blank))) 1) ≡ false
        go (yes l) =
            ap (λ (c : Change). not (eqb (status_number (status c)) 1)) (get_or-append (take k (history_in T)) (new ∷ rest) blank j (omega (arith, l, below_length)) ∙ get_or-take k (history_in T) j blank l)
            ∙ ap (λ (m : ℕ). not (eqb m 1)) (sym (status-of g j (omega (arith, l, held))))
            ∙ waits-first j l
        go (no l) =
            let i : j ≡ length (take k (history_in T)) + 0 = omega (arith, below_length) in
            ap (λ (c : Change). not (eqb (status_number (status c)) 1)) (ap (λ (m : ℕ). get_or (take k (history_in T) ++ new ∷ rest) m blank) i ∙ get_or-append-add (take k (history_in T)) (new ∷ rest) 0 blank)
            ∙ ap (λ (q : Status). not (eqb (status_number q) 1)) v

    -- the values as of the next position are those after its writes
    values-next-turn : values_below U.order U.writes U.targets U.written U.kept (suc k) ≡ after (lists new).writes (values_below T.order T.writes T.targets T.written T.kept k)
    values-next-turn =
        values-below formed-next (suc k) (omega (arith, held, held_next))
        ∙ ap₂ (λ (x : History) (env : Environment). after_all (take (suc k) x) env) history-next kept_next
        ∙ ap (λ (m : ℕ). after_all (take (suc m) (take k (history_in T) ++ new ∷ rest)) (kept_values_in (decode T))) (sym below_length)
        ∙ after_first (take k (history_in T)) new rest (kept_values_in (decode T))
        ∙ ap (after (lists new).writes) (sym (values-below g k (omega (arith, held))))

    pub going_next :
        {v : KnownValues} {u' : SettingUses} →
        status new ≡ Valid →
        Known (after (lists new).writes (values_below T.order T.writes T.targets T.written T.kept k)) v →
        Uses (k + 1 + 1) (encode n next) u' →
        turns.Going (k + 1) U v u'
    going_next {v} {u'} e q p =
        record {
          formed = formed-next;
          passed = λ j h. passed-next e j (omega arith);
          values = subst (λ (env : Environment). Known env v) (sym (ap (values_below U.order U.writes U.targets U.written U.kept) (add-one k) ∙ values-next-turn)) q;
          uses = subst (λ (W : Tables). Uses (k + 1 + 1) W u') (sym u) p;
        }
