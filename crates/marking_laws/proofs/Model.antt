-- Marking, the view that follows, and what is known of the settings, on tables that are in form, as they are on the history that the tables hold.
use mathlib.Core.Path.{◌≡◌, refl, sym, ap, ap₂, subst, ◌∙◌}
use mathlib.Core.Bool.{Bool, true, false, cond, not, ◌&&◌, not-not}
use mathlib.Core.List.{List, [], ◌∷◌, ◌++◌, map}
use Prim.Native.Nat.{ℕ, zero, suc, ◌+◌, ◌-◌, ◌<◌, ◌≤◌}
use native.Mathlib.Decide.{dec_lt}
use native.Mathlib.Numerals.{add-one}
use native.Mathlib.Omega.{arith}
use borrow.Author.Tests.{leb-true, leb-false}
use lib.Dec.{leb}
use lib.IntN.{ℤ, pos}
use lib.ListN.{length, get_or, take, drop, length-append, length-drop, length-map, get_or-eq_default}
use lib.Seq.{get_or-drop, length-take-le, drop_at, drop-append-add}
use Rattle.machine.specs.Settings.{setting_count, Environment, Entry, value_in, is_some, lookup}
use Rattle.general.proofs.Cases.{by-test₂, both}
use Rattle.model.specs.History.{Change, lists, History, all_settings}
use Rattle.model.specs.Form.{holds, Formed}
use Rattle.model.specs.Walk.{mark_live, live_at_end}
use Rattle.model.specs.Cabinet.{Cabinet, blank, history_of, with_history}
use Rattle.model.specs.Tables.{column, blocks, Tables, held_count, encode, decode}
use Rattle.model.specs.Sound.{AllSound, Sound}
use Rattle.model.proofs.Blocks.{column-get, Fits, blocks_at}
use Rattle.model.proofs.Form.{facts}
use Rattle.model.proofs.Cabinet.{length-put_at, with_history-history}
use Rattle.model.proofs.Keeps.{keeps-length, history-sound}
use Rattle.model.proofs.Order.{changes_at-length}
use Rattle.model.proofs.Tables.{reads_fit, writes-fit, settings-fit, values-fit, reads_at, writes-at}
use Rattle.writers.specs.Writers.{OfSettings}
use Rattle.writers.proofs.Model.{tested-settings}
use Rattle.search.proofs.Model.{history_in, held-changes, history-length, place_of}
use Rattle.uses.specs.Columns.{columns_of, list_at, writes_setting, EmptyBehind, Walkable}
use Rattle.view_updates.specs.View.{followed}
use Rattle.marking.specs.Marks.{marked_settings}
use Rattle.uses.specs.declared.SettingUses.{SettingUses}
use Rattle.uses.specs.Uses.{Numbers, LastUses, ReadersEnd, WritersEnd, Uses, NoneNoted, Noted, Notable, UsesNoted, Markable, Marked}
use Rattle.uses.proofs.LastUses.{readers-end, writers-end, settled-none}
use Rattle.marking_laws.proofs.LiveSets.{writes_one, written_in, live-unwritten, written-some, written_none, Agree, mark-agrees}
use Rattle.marking_laws.proofs.Restated.{with_status}
use Rattle.marking_laws.proofs.Cabinet.{marked-keeps, marked_cabinet, marked-cabinet-sound, marked_all}
use Rattle.marking_laws.proofs.Positions.{writes-position}
use Rattle.marking_laws.proofs.Later.{uses-later, kept_same, NoneMoreValid, none-more-same, none-more-marked, none-more-length, cabinets-kept, uses-marked}
use Rattle.marking_laws.proofs.View.{view_of}

-- ---- what the code relies on

-- the slots of every place behind its lists hold 0
pub record EmptyRests (T : Tables) : Type 0 where
  pub sources : (i : ℕ) → EmptyBehind 0 T.reads T.sources i
  pub seen : (i : ℕ) → EmptyBehind (pos 0) T.reads T.seen i
  pub targets : (i : ℕ) → EmptyBehind 0 T.writes T.targets i
  pub written : (i : ℕ) → EmptyBehind (pos 0) T.writes T.written i

module _ (n : ℕ) (field : Change → List Entry) (b : field blank ≡ []) (changes : List Change) where
  empty-rest : {A : Type 0} (z : A) (part : Entry → A) → Fits 32 (λ d. map part (field d)) changes → (i : ℕ) → EmptyBehind z (column n 0 (λ d. length (field d)) changes) (blocks n 32 z (λ d. map part (field d)) changes) i
  empty-rest z part k i j h q =
      let list = field (get_or changes i blank) in
      blocks_at n 32 z (λ d. map part (field d)) (ap (map part) b) changes i j k q
      ∙ get_or-eq_default (map part list) z {n = j} (omega (arith, h, length-map list part, column-get n 0 (λ d. length (field d)) changes i (ap length b)))

encode-rests : {n : ℕ} {c : Cabinet} → Sound n c → EmptyRests (encode n c)
unfolding encode
encode-rests {n} {c} s =
    let reads = reads_fit c.changes s.each in
    let writes = writes-fit c.changes s.each in
    record {
      sources = empty-rest n (λ d. (lists d).reads) refl c.changes 0 (λ (e : Entry). e.setting) (settings-fit (λ d. (lists d).reads) c.changes reads);
      seen = empty-rest n (λ d. (lists d).reads) refl c.changes (pos 0) (λ (e : Entry). e.value) (values-fit (λ d. (lists d).reads) c.changes reads);
      targets = empty-rest n (λ d. (lists d).writes) refl c.changes 0 (λ (e : Entry). e.setting) (settings-fit (λ d. (lists d).writes) c.changes writes);
      written = empty-rest n (λ d. (lists d).writes) refl c.changes (pos 0) (λ (e : Entry). e.value) (values-fit (λ d. (lists d).writes) c.changes writes);
    }

pub empty-rests : {n : ℕ} {T : Tables} → Formed n T → EmptyRests T
empty-rests g = subst EmptyRests (facts g).laid (encode-rests (facts g).sound)

no-settings : (counts settings : List ℕ) (i : ℕ) → get_or counts i 0 ≡ 0 → OfSettings (list_at counts settings i)
no-settings counts settings i e = rw e (record { below = λ j h. absurd (omega arith) })

module _ {n : ℕ} {T : Tables} (g : Formed n T) where
  -- a place that is not held has empty lists
  unheld : (i : ℕ) → (i < held_count T → ⊥) → (get_or T.reads i 0 ≡ 0) × (get_or T.writes i 0 ≡ 0)
  unheld i h =
      let none : get_or (decode T).changes i blank ≡ blank = get_or-eq_default (decode T).changes blank {n = i} (omega (arith, held-changes g)) in (
        ap (λ (U : Tables). get_or U.reads i 0) (sym (facts g).laid) ∙ reads_at n (decode T) i ∙ ap (λ (d : Change). length (lists d).reads) none,
        ap (λ (U : Tables). get_or U.writes i 0) (sym (facts g).laid) ∙ writes-at n (decode T) i ∙ ap (λ (d : Change). length (lists d).writes) none,
      )

  -- a position that is not held has the first place
  place-below : (p : ℕ) → Dec (p < held_count T) → get_or T.order p 0 < length T.status
  place-below p (yes h) = omega (arith, (facts g).form.places p h, (facts g).form.small, (facts g).sizes.status)
  place-below p (no h) =
      let none : get_or (decode T).order p 0 ≡ 0 = get_or-eq_default (decode T).order 0 {n = p} (omega (arith, held-changes g, (facts g).sound.placed.counted)) in
      omega (arith, place_of g p, none, (facts g).sizes.status, (facts g).sizes.some-capacity)

  short-lists : (i : ℕ) → Dec (i < held_count T) → (get_or T.reads i 0 ≤ 32) × (get_or T.writes i 0 ≤ 32)
  short-lists i (yes h) = (((facts g).form.reads i h).short, ((facts g).form.writes i h).short)
  short-lists i (no h) = let e = unheld i h in (omega arith, omega arith)

  list-settings : (i : ℕ) → Dec (i < held_count T) → OfSettings (list_at T.reads T.sources i) × OfSettings (list_at T.writes T.targets i)
  list-settings i (yes h) = (tested-settings _ ((facts g).form.reads i h).distinct, tested-settings _ ((facts g).form.writes i h).distinct)
  list-settings i (no h) = let e = unheld i h in (no-settings T.reads T.sources i e.0, no-settings T.writes T.targets i e.1)

  -- for `last_uses` and `mark_setting`
  pub walkable-form : Walkable (columns_of T) (length T.status)
  walkable-form =
      let l = (facts g).sizes in
      record {
        small = omega (arith, l.status, l.capacity);
        below = λ p. place-below p (dec_lt p (held_count T));
        read-counts = omega (arith, l.status, l.reads);
        read-slots = omega (arith, l.status, l.sources);
        write-counts = omega (arith, l.status, l.writes);
        write-slots = omega (arith, l.status, l.targets);
        reads_short = λ i h. (short-lists i (dec_lt i (held_count T))).0;
        writes_short = λ i h. (short-lists i (dec_lt i (held_count T))).1;
        read-rest = λ i h. (empty-rests g).sources i;
        write-rest = λ i h. (empty-rests g).targets i;
        read-settings = λ i h. (list-settings i (dec_lt i (held_count T))).0;
        write-settings = λ i h. (list-settings i (dec_lt i (held_count T))).1;
      }

  -- for `note_uses`
  pub notable : {noted : Bool} {from : ℕ} {v : SettingUses} → from ≤ held_count T → Noted noted from T v → Notable noted from (held_count T) (columns_of T) (length T.status) v
  notable h d =
      let l = (facts g).sizes in
      record {
        within = h;
        small = omega (arith, (facts g).form.small, l.capacity);
        listed = omega (arith, (facts g).form.small, l.order);
        walkable = walkable-form;
        none = λ e. (d.none e).uses;
      }

  -- for `mark_settings`
  pub markable : {from : ℕ} {v : SettingUses} → Uses from T v → Markable from (columns_of T) T.status v
  markable u =
      record {
        walkable = walkable-form;
        within = λ s h. omega (arith, u.readers-end.within s h, (facts g).form.small, (facts g).sizes.order);
        settled-to = u.settled-to;
      }

-- ---- up the order list

-- after `note_last`, where nothing was noted
pub uses-first : {from : ℕ} {T : Tables} {v v' : SettingUses} → LastUses from (held_count T) (columns_of T) T.status v'.readers v'.writers → NoneNoted v → v'.settled ≡ v.settled → Uses from T v'
uses-first {v = v} {v'} u d e = record { readers-end = readers-end u; writers-end = writers-end u; settled-to = settled-none (subst (λ (l : List ℕ). Numbers l (λ s. 0)) (sym e) d.settled) }

-- after `note`
pub uses-noted : {noted : Bool} {from : ℕ} {T : Tables} {v v' : SettingUses} → Noted noted from T v → UsesNoted noted from (held_count T) (columns_of T) T.status v v' → Uses from T v'
uses-noted {noted = true} d e = rw (e.kept refl) (d.uses refl)
uses-noted {noted = false} d e = uses-first (e.first refl) (d.none refl) e.settled

-- changes passed over
pub uses-passed : {from : ℕ} (from' : ℕ) {T : Tables} {v : SettingUses} → from ≤ from' → Uses from T v → Uses from' T v
uses-passed from' {T} l u = uses-later (kept_same from' T) l u

-- from one cabinet to another, whose later changes have the same lists, and none is Valid that was not
uses-over : {n : ℕ} {c c' : Cabinet} (k : ℕ) {v : SettingUses} → Sound n c → Sound n c' → length c'.changes ≡ length c.changes → NoneMoreValid (drop (suc k) (history_of c)) (drop (suc k) (history_of c')) → Uses (k + 1) (encode n c) v → Uses (k + 1 + 1) (encode n c') v
uses-over {c = c} {c'} k s s' e m u =
    let m' = subst (λ (j : ℕ). NoneMoreValid (drop j (history_of c)) (drop j (history_of c'))) (sym (add-one k)) m in
    uses-passed (k + 1 + 1) (omega arith) (uses-later (cabinets-kept s s' (k + 1) e m') (omega arith) u)

-- the change at a position replaced, and the later ones
module _ {n : ℕ} {c : Cabinet} (s : Sound n c) (k : ℕ) (h : k < length c.changes) (new : Change) (later' : History) (view : List ℤ) where
  abbrev replaced_history : History
  replaced_history = take k (history_of c) ++ new ∷ later'

  held-length : length (history_of c) ≡ length c.changes
  held-length = changes_at-length c.changes c.order ∙ s.placed.counted

  first-length : length (take k (history_of c)) ≡ k
  first-length = length-take-le k (history_of c) (omega (arith, held-length))

  later-again : length later' ≡ length (drop (suc k) (history_of c)) → drop (suc k) (history_of (with_history c replaced_history view)) ≡ later'
  later-again e =
      let m : length replaced_history ≡ length (history_of c) = simp length-append (omega (arith, e, first-length, length-drop (suc k) (history_of c), held-length)) in
      let i : suc k ≡ length (take k (history_of c)) + 1 = omega (arith, first-length) in
      ap (drop (suc k)) (with_history-history c replaced_history view s.placed m)
      ∙ ap (λ (j : ℕ). drop j replaced_history) i
      ∙ drop-append-add (take k (history_of c)) (new ∷ later') 1

-- ---- the tables and the history

pub view-decode : (T : Tables) → (decode T).view ≡ T.view
unfolding decode
view-decode T = refl

drop-sound : (k : ℕ) (h : History) → AllSound h → AllSound (drop k h)
drop-sound zero h s = s
drop-sound (suc k) [] s = tt
drop-sound (suc k) (c ∷ h) s = drop-sound k h s.1

module _ {n : ℕ} {T : Tables} (g : Formed n T) where
  -- does the change at a position write a setting
  writes-in : (p : ℕ) → p < held_count T → (x : ℕ) → writes_setting (columns_of T) x p ≡ is_some (lookup (lists (get_or (history_in T) p blank)).writes x)
  writes-in p h x =
      ap (λ (U : Tables). writes_setting (columns_of U) x p) (sym (facts g).laid)
      ∙ writes-position (facts g).sound p (omega (arith, h, held-changes g)) x
      ∙ sym (writes_one (lists (get_or (history_in T) p blank)).writes x)

-- ---- the change at a position replaced

module _ {n : ℕ} {T : Tables} (g : Formed n T) (k : ℕ) (h : k < held_count T) (new : Change) (view : List ℤ) {v : SettingUses} (u : Uses (k + 1) T v) where
  -- and later ones of which none is Valid that was not
  pub uses-replaced : (later' : History) → NoneMoreValid (drop (suc k) (history_in T)) later' → Sound n (with_history (decode T) (take k (history_in T) ++ new ∷ later') view) → Uses (k + 1 + 1) (encode n (with_history (decode T) (take k (history_in T) ++ new ∷ later') view)) v
  uses-replaced later' m s =
      uses-over k (facts g).sound s (length-put_at (decode T).order (take k (history_in T) ++ new ∷ later') (decode T).changes)
      (subst (NoneMoreValid (drop (suc k) (history_in T))) (sym (later-again (facts g).sound k (omega (arith, h, held-changes g)) new later' view (none-more-length (drop (suc k) (history_in T)) later' m))) m)
      (subst (λ (U : Tables). Uses (k + 1) U v) (sym (facts g).laid) u)

-- ---- a turn at a position

-- the changed settings, and f, which tells them
module _ {n : ℕ} {T : Tables} (g : Formed n T) (k : ℕ) (changed : List ℕ) (f : ℕ → Bool) (agree : Agree (λ x. holds x changed) f) where
  abbrev later : History
  later = drop (suc k) (history_in T)

  later-length : length later ≡ held_count T - suc k
  later-length = length-drop (suc k) (history_in T) ∙ ap (◌- suc k) (history-length g)

  -- the tables with the later changes marked
  pub marked-tables : OfSettings changed → {readers status : List ℕ} → ReadersEnd (k + 1) (held_count T) (columns_of T) T.status readers → status ≡ marked_settings (columns_of T) readers (k + 1) changed T.status → with_status T status ≡ encode n (with_history (decode T) (take (suc k) (history_in T) ++ mark_live f later) T.view)
  marked-tables a {readers} {status} r e =
      let laid = (facts g).laid in
      let r' = subst (λ (U : Tables). ReadersEnd (suc k) (held_count U) (columns_of U) U.status readers) (sym laid) (rw add-one at r) in
      ap (with_status T) (e ∙ ap (λ (m : ℕ). marked_settings (columns_of T) readers m changed T.status) (add-one k))
      ∙ subst (λ (U : Tables). with_status U (marked_settings (columns_of U) readers (suc k) changed U.status) ≡ encode n (marked_cabinet (suc k) (λ x. holds x changed) (decode T))) laid (marked_all n (suc k) changed a (decode T) (facts g).sound readers r')
      ∙ ap₂ (λ (h : History) (view : List ℤ). encode n (with_history (decode T) (take (suc k) (history_in T) ++ h) view)) (mark-agrees (λ x. holds x changed) f later agree (drop-sound (suc k) (history_in T) (history-sound (facts g).sound))) (view-decode T)

  -- does a later change write a setting
  module _ {writers : List ℕ} (w : WritersEnd (k + 1) (held_count T) (columns_of T) writers) (x : ℕ) (l : x < setting_count) where
    writes_later : (j : ℕ) → j < length later → writes_setting (columns_of T) x (suc k + j) ≡ is_some (lookup (lists (get_or later j blank)).writes x)
    writes_later j q =
        writes-in g (suc k + j) (omega (arith, q, later-length)) x
        ∙ ap (λ (c : Change). is_some (lookup (lists c).writes x)) (sym (get_or-drop (suc k) (history_in T) j blank))

    written-later : written_in x later ≡ not (leb (get_or writers x 0) (k + 1))
    written-later = go (leb (get_or writers x 0) (k + 1)) refl
      where
        go : (b : Bool) → leb (get_or writers x 0) (k + 1) ≡ b → written_in x later ≡ not b
        go true e =
            written_none x later
            (λ j q v. omega (arith, leb-true (get_or writers x 0) (k + 1) e, w.bound x (suc k + j) l (omega arith) (omega (arith, q, later-length)) (writes_later j q ∙ v)))
        go false e =
            let above = leb-false (get_or writers x 0) (k + 1) e in
            let j = get_or writers x 0 - 1 - suc k in
            let q : j < length later = omega (arith, above, later-length, w.within x l) in
            let i : suc k + j ≡ get_or writers x 0 - 1 = omega (arith, above) in
            written-some x later j q (sym (writes_later j q) ∙ ap (λ (p : ℕ). writes_setting (columns_of T) x p) i ∙ w.last x l above)

    -- a changed setting is live past the last change where its writers end
    live-last : live_at_end f later x ≡ (holds x changed && leb (get_or writers x 0) (k + 1))
    live-last = live-unwritten f later x ∙ ap₂ ◌&&◌ (sym (agree x l)) (ap not written-later ∙ not-not (leb (get_or writers x 0) (k + 1)))

  -- the view that followed
  pub view-tables : {writers : List ℕ} (values : List ℤ) {view : List ℤ} (new : Environment) → WritersEnd (k + 1) (held_count T) (columns_of T) writers → view ≡ followed writers (k + 1) values changed T.view → ((x : ℕ) → x < setting_count → holds x changed ≡ true → value_in values x ≡ new x) → view ≡ all_settings (λ x. cond (live_at_end f later x) (new x) (value_in T.view x))
  view-tables {writers} values new w e v =
      e
      ∙ view_of writers (k + 1) values changed T.view (λ x. cond (live_at_end f later x) (new x) (value_in T.view x)) (facts g).sizes.view
      (λ x h.
      by-test₂ (λ (a b : ℤ). a ≡ b) (holds x changed && leb (get_or writers x 0) (k + 1)) (λ t. v x h (both (holds x changed) t).0) (λ t. refl)
      ∙ ap (λ (b : Bool). cond b (new x) (value_in T.view x)) (sym (live-last w x h)))

  -- ---- what is known after the turn

  module _ (h : k < held_count T) (new : Change) (view : List ℤ) {v : SettingUses} (u : Uses (k + 1) T v) where
    -- the change at the position replaced, the later ones marked, and what is settled then
    pub uses-turned : OfSettings changed → {v' : SettingUses} {status : List ℕ} → status ≡ marked_settings (columns_of T) v.readers (k + 1) changed T.status → Marked (k + 1) (columns_of T) status v v' → Sound n (with_history (decode T) (take k (history_in T) ++ new ∷ mark_live f later) view) → Uses (k + 1 + 1) (encode n (with_history (decode T) (take k (history_in T) ++ new ∷ mark_live f later) view)) v'
    uses-turned a {v'} e d s =
        let marked = take (suc k) (history_in T) ++ mark_live f later in
        let c = with_history (decode T) marked T.view in
        let sound : Sound n c = rw (view-decode T) at (marked-cabinet-sound (suc k) f (facts g).sound) in
        let m = keeps-length (marked-keeps (suc k) f (history_in T) T.view) in
        let here : drop (suc k) (history_of c) ≡ mark_live f later = ap (drop (suc k)) (with_history-history (decode T) marked T.view (facts g).sound.placed m) ∙ drop_at (take (suc k) (history_in T)) (mark_live f later) (suc k) (length-take-le (suc k) (history_in T) (omega (arith, h, history-length g))) in
        let there = later-again (facts g).sound k (omega (arith, h, held-changes g)) new (mark_live f later) view (none-more-length later (mark_live f later) (none-more-marked f later)) in
        uses-over k sound s (length-put_at (decode T).order (take k (history_in T) ++ new ∷ mark_live f later) (decode T).changes ∙ sym (length-put_at (decode T).order marked (decode T).changes))
        (rw (here, there) (none-more-same (mark_live f later)))
        (subst (λ (U : Tables). Uses (k + 1) U v') (marked-tables a u.readers-end e) (uses-marked changed u e d))
