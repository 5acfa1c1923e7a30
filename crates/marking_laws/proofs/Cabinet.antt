-- Marking in the tables of a sound cabinet is marking in its history.
use mathlib.Core.Path.{◌≡◌, refl, sym, ap, ap₂, fun_ext, subst, ◌∙◌}
use mathlib.Core.Bool.{Bool, true, false, cond, ◌&&◌, ◌||◌, or_comm}
use mathlib.Core.List.{List, [], ◌∷◌, ◌++◌}
use Prim.Native.Nat.{ℕ, zero, suc, ◌+◌, ◌-◌, ◌*◌, ◌<◌}
use native.Mathlib.Omega.{arith}
use lib.Dec.{eqb}
use lib.IntN.{ℤ}
use lib.ListN.{length, get_or, set, take, drop, length-set, length-drop, take-append-drop}
use lib.Seq.{get_or-drop, set-get_or}
use Rattle.machine.specs.Settings.{Entry}
use Rattle.general.proofs.Cases.{by-test}
use Rattle.model.specs.History.{Change, change, New, Valid, Invalid, Lists, status, lists, History}
use Rattle.model.specs.Figure.{reads_any, mark_update}
use Rattle.model.specs.Form.{holds}
use Rattle.model.specs.Walk.{close, mark_live}
use Rattle.model.specs.Cabinet.{Cabinet, blank, changes_at, history_of, put_at, with_history}
use Rattle.model.specs.Tables.{status_number, column, blocks, settings_of, Tables, encode, held_count}
use Rattle.model.specs.Sound.{AllSound, Below, AllDistinct, Sound}
use Rattle.model.proofs.Blocks.{column-get, column-set, Fits}
use Rattle.model.proofs.Cabinet.{put_back, changes_at-other, with_history-history, same-history, history-again}
use Rattle.model.proofs.Keeps.{Keeps, keeps-length, with_history-sound}
use Rattle.model.proofs.Sound.{marked-sound}
use Rattle.model.proofs.Tables.{reads_fit, writes-fit, settings-back, order-at}
use Rattle.writers.specs.Writers.{OfSettings}
use Rattle.uses.specs.Columns.{Columns, columns_of, list_at}
use Rattle.marking.specs.Marks.{marked_place, marked_from, marked_settings}
use Rattle.uses.specs.Uses.{ReadersEnd}
use Rattle.marking_laws.proofs.LiveSets.{mark-union, mark-unread, unread-none, reads-one, close-written, close-unwritten}
use Rattle.marking_laws.proofs.Readers.{readers-enough, readers-walked}
use Rattle.marking_laws.proofs.Places.{below-drop, distinct-drop, Ordered, ordered_of, changes_at-drop, put-from}
use Rattle.marking_laws.proofs.Restated.{with_status, fields-same, restated, marked_after, marked-restated}

-- ---- the changes at some places

-- the settings of the lists that stand at a place
pub record Stands (C : Columns) (i : ℕ) (l : Lists) : Type 0 where
  pub read : list_at C.reads C.sources i ≡ settings_of l.reads
  pub wrote : list_at C.writes C.targets i ≡ settings_of l.writes

-- the column of statuses
abbrev pub statuses : ℕ → List Change → List ℕ
statuses n changes = column n 0 (λ d. status_number (status d)) changes

set_same : (l : List ℕ) (i : ℕ) {v : ℕ} → get_or l i 0 ≡ v → l ≡ set l i v
set_same l i e = sym (set-get_or l i 0) ∙ ap (set l i) e

mark-number : (b : Bool) (d : Change) (l : List ℕ) (i : ℕ) → get_or l i 0 ≡ status_number (status d) → cond (eqb (get_or l i 0) 1 && b) (set l i 2) l ≡ set l i (status_number (status (mark_update b d)))
mark-number b (change t p New w x) l i e = rw e (set_same l i e)
mark-number true (change t p Valid w x) l i e = rw e
mark-number false (change t p Valid w x) l i e = rw e (set_same l i e)
mark-number b (change t p Invalid w x) l i e = rw e (set_same l i e)

-- a change put in the place of one with the same lists
lists-set : (changes : List Change) (i : ℕ) (c : Change) → lists c ≡ lists (get_or changes i blank) → (j : ℕ) → lists (get_or (set changes i c) j blank) ≡ lists (get_or changes j blank)
lists-set [] i c e j = refl
lists-set (d ∷ changes) zero c e zero = e
lists-set (d ∷ changes) zero c e (suc j) = refl
lists-set (d ∷ changes) (suc i) c e zero = refl
lists-set (d ∷ changes) (suc i) c e (suc j) = lists-set changes i c e j

mark-lists : (b : Bool) (c : Change) → lists (mark_update b c) ≡ lists c
mark-lists b (change t p s w l) = refl

module _ (C : Columns) (s n : ℕ) where
  abbrev AllStand : List Change → Type 0
  AllStand changes = (i : ℕ) → i < length changes → Stands C i (lists (get_or changes i blank))

  -- one change marked
  marked-at : (changes : List Change) (i : ℕ) → i < length changes → Stands C i (lists (get_or changes i blank)) → marked_place s C.reads C.sources i (statuses n changes) ≡ statuses n (set changes i (mark_update (reads_any (eqb s) (lists (get_or changes i blank)).reads) (get_or changes i blank)))
  marked-at changes i h st =
      let d = get_or changes i blank in
      let b = reads_any (eqb s) (lists d).reads in
      ap (λ (t : Bool). cond (eqb (get_or (statuses n changes) i 0) 1 && t) (set (statuses n changes) i 2) (statuses n changes)) (ap (holds s) st.read ∙ sym (reads-one s (lists d).reads))
      ∙ mark-number b d (statuses n changes) i (column-get n 0 (λ d. status_number (status d)) changes i refl)
      ∙ sym (column-set n 0 (λ d. status_number (status d)) changes i (mark_update b d) h)

  -- the changes at some places marked
  marked-along : (places : List ℕ) (p : ℕ) (changes : List Change) → AllStand changes → Ordered C.order p places → Below (length changes) places → AllDistinct places → marked_from C s p (length places) (statuses n changes) ≡ statuses n (put_at places (mark_live (eqb s) (changes_at changes places)) changes)
  unfolding marked_from
  marked-along [] p changes st o b d = refl
  marked-along (i ∷ places) p changes st o b d =
      let c = get_or changes i blank in
      let c' = mark_update (reads_any (eqb s) (lists c).reads) c in
      let next = set changes i c' in
      let kept = lists-set changes i c' (mark-lists _ c) in
      let later : changes_at next places ≡ changes_at changes places = changes_at-other changes i c' places d.0 in
      let st' : AllStand next = λ j h. subst (Stands C j) (sym (kept j)) (st j (rw length-set at h)) in
      let ih = marked-along places (suc p) next st' o.1 (rw (length-set changes i c') b.1) d.1 in
      ap (λ (j : ℕ). cond (holds s (list_at C.writes C.targets j)) (marked_place s C.reads C.sources j (statuses n changes)) (marked_from C s (suc p) (length places) (marked_place s C.reads C.sources j (statuses n changes)))) o.0
      ∙ ap (λ (x : List ℕ). cond (holds s (list_at C.writes C.targets i)) x (marked_from C s (suc p) (length places) x)) (marked-at changes i b.0 (st i b.0))
      ∙ ap (λ (l : List ℕ). cond (holds s l) (statuses n next) (marked_from C s (suc p) (length places) (statuses n next))) (st i b.0).wrote
      ∙ by-test (λ (x : List ℕ). x ≡ statuses n (put_at places (mark_live (close (eqb s) (lists c)) (changes_at changes places)) next)) (holds s (settings_of (lists c).writes))
      (λ t. ap (statuses n) (sym (ap (λ (h : History). put_at places h next) (mark-unread (close (eqb s) (lists c)) (changes_at changes places) (unread-none (close (eqb s) (lists c)) (close-written s (lists c) t) (changes_at changes places)) ∙ sym later) ∙ put_back next places)))
      (λ t. ih ∙ ap₂ (λ (f : ℕ → Bool) (h : History). statuses n (put_at places (mark_live f h) next)) (sym (close-unwritten s (lists c) t)) later)

-- ---- a sound cabinet

module _ (n : ℕ) (field : Change → List Entry) (changes : List Change) (b : field blank ≡ []) (k : Fits 32 field changes) where
  list-stands : (i : ℕ) → i < length changes → list_at (column n 0 (λ d. length (field d)) changes) (blocks n 32 0 (λ d. settings_of (field d)) changes) i ≡ settings_of (field (get_or changes i blank))
  list-stands i h =
      ap (λ (m : ℕ). take m (drop (32 * i) (blocks n 32 0 (λ d. settings_of (field d)) changes))) (column-get n 0 (λ d. length (field d)) changes i (ap length b))
      ∙ settings-back n field changes i k h

-- the lists of each held place
pub stands : (n : ℕ) (c : Cabinet) → Sound n c → (i : ℕ) → i < length c.changes → Stands (columns_of (encode n c)) i (lists (get_or c.changes i blank))
unfolding encode
stands n c s i h =
    record {
      read = list-stands n (λ d. (lists d).reads) c.changes refl (reads_fit c.changes s.each) i h;
      wrote = list-stands n (λ d. (lists d).writes) c.changes refl (writes-fit c.changes s.each) i h;
    }

-- what marking keeps
marks-sound : (f : ℕ → Bool) (h : History) → AllSound h → AllSound (mark_live f h)
marks-sound f [] a = tt
marks-sound f (c ∷ h) a = (marked-sound _ c a.0, marks-sound (close f (lists c)) h a.1)

after-sound : (k : ℕ) (f : ℕ → Bool) (h : History) → AllSound h → AllSound (marked_after k f h)
after-sound zero f h a = marks-sound f h a
after-sound (suc k) f [] a = tt
after-sound (suc k) f (c ∷ h) a = (a.0, after-sound k f h a.1)

module _ (k : ℕ) (f : ℕ → Bool) where
  pub marked-keeps : (h : History) (view : List ℤ) → Keeps h view (marked_after k f h) view
  marked-keeps h view = record { timestamps = fields-same (λ t p w l. t) (marked_after k f h) h (marked-restated k f h); sound = after-sound k f h; viewed = λ e. e }

  -- a cabinet with its later changes marked
  abbrev pub marked_cabinet : Cabinet → Cabinet
  marked_cabinet c = with_history c (marked_after k f (history_of c)) c.view

  pub marked-cabinet-sound : {n : ℕ} {c : Cabinet} → Sound n c → Sound n (marked_cabinet c)
  marked-cabinet-sound {c = c} s = with_history-sound s (marked-keeps (history_of c) c.view)

-- ---- one setting after the other

-- marking twice
after-union : (k : ℕ) (f g : ℕ → Bool) (h : History) → marked_after k g (marked_after k f h) ≡ marked_after k (λ x. f x || g x) h
after-union zero f g h = sym (mark-union g f h) ∙ ap (λ (k : ℕ → Bool). mark_live k h) (fun_ext (λ x. or_comm (g x) (f x)))
after-union (suc k) f g [] = refl
after-union (suc k) f g (c ∷ h) = ap (c ∷◌) (after-union k f g h)

-- marking for no setting
after_none : (k : ℕ) (h : History) → marked_after k (λ x. false) h ≡ h
after_none k h = ap (take k h ++◌) (mark-unread (λ x. false) (drop k h) (unread-none (λ x. false) (λ x. refl) (drop k h))) ∙ take-append-drop k h

module _ (n k : ℕ) where
  module _ (c : Cabinet) (s : Sound n c) where
    -- how many changes there are from a position on
    left : held_count (encode n c) - k ≡ length (drop k c.order)
    unfolding encode
    left = simp length-drop (omega (arith, s.placed.counted))

    ordered : Ordered (encode n c).order k (drop k c.order)
    ordered = ordered_of (encode n c).order (drop k c.order) k (λ j. order-at n c (k + j) ∙ sym (get_or-drop k c.order j 0))

    -- the status column of the cabinet with its later changes marked for one setting
    marked-one : (x : ℕ) → marked_from (columns_of (encode n c)) x k (held_count (encode n c) - k) (encode n c).status ≡ (encode n (marked_cabinet k (eqb x) c)).status
    unfolding encode
    marked-one x =
        let C = columns_of (encode n c) in
        let places = drop k c.order in
        ap (λ (m : ℕ). marked_from C x k m (statuses n c.changes)) left
        ∙ marked-along C x n places k c.changes (stands n c s) ordered (below-drop (length c.changes) c.order k s.placed.below) (distinct-drop c.order k s.placed.distinct)
        ∙ ap (λ (h : History). statuses n (put_at places (mark_live (eqb x) h) c.changes)) (sym (changes_at-drop c.changes c.order k))
        ∙ ap (statuses n) (sym (put-from c.changes c.order k (mark_live (eqb x) (drop k (history_of c)))))

    -- marked for two sets, one after the other
    marked-twice : (f g : ℕ → Bool) → marked_cabinet k g (marked_cabinet k f c) ≡ marked_cabinet k (λ x. f x || g x) c
    marked-twice f g =
        ap (λ (h : History). with_history (marked_cabinet k f c) (marked_after k g h) c.view) (with_history-history c (marked_after k f (history_of c)) c.view s.placed (keeps-length (marked-keeps k f (history_of c) c.view)))
        ∙ ap (λ (h : History). with_history (marked_cabinet k f c) h c.view) (after-union k f g (history_of c))
        ∙ history-again c (marked_after k f (history_of c)) (marked_after k (λ x. f x || g x) (history_of c)) c.view c.view s.placed (keeps-length (marked-keeps k (λ x. f x || g x) (history_of c) c.view))

  -- every setting of a list, each up to where its readers end
  pub marked_all : (changed : List ℕ) → OfSettings changed → (c : Cabinet) → Sound n c → (readers : List ℕ) → ReadersEnd k (held_count (encode n c)) (columns_of (encode n c)) (encode n c).status readers → with_status (encode n c) (marked_settings (columns_of (encode n c)) readers k changed (encode n c).status) ≡ encode n (marked_cabinet k (λ x. holds x changed) c)
  unfolding marked_settings
  marked_all [] a c s readers r = ap (encode n) (sym (ap (λ (h : History). with_history c h c.view) (after_none k (history_of c)) ∙ same-history c))
  marked_all (x ∷ changed) a c s readers r =
      let E = encode n c in
      let C = columns_of E in
      let c' = marked_cabinet k (eqb x) c in
      let s' : Sound n c' = marked-cabinet-sound k (eqb x) s in
      let same : encode n c' ≡ with_status E (encode n c').status = restated n c s.placed (marked_after k (eqb x) (history_of c)) (marked-restated k (eqb x) (history_of c)) in
      let one : marked_from C x k (get_or readers x 0 - k) E.status ≡ (encode n c').status = readers-enough r x (a.below 0 (omega arith)) ∙ marked-one c s x in
      let r' : ReadersEnd k (held_count E) C (encode n c').status readers = rw one at (readers-walked r x) in
      let ih = marked_all changed (record { below = λ j h. a.below (suc j) (omega arith) }) c' s' readers (subst (λ (U : Tables). ReadersEnd k (held_count U) (columns_of U) U.status readers) (sym same) r') in
      ap (λ (status : List ℕ). with_status E (marked_settings C readers k changed status)) one
      ∙ subst (λ (U : Tables). with_status U (marked_settings (columns_of U) readers k changed U.status) ≡ encode n (marked_cabinet k (λ y. holds y changed) c')) same ih
      ∙ ap (encode n) (marked-twice c s (eqb x) (λ y. holds y changed))
