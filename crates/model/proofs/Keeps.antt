-- What rounds, drains, takings in and withdrawals keep: the timestamps, and that tables can hold the cabinet.
use mathlib.Core.Path.{◌≡◌, refl, sym, ap, ap₂, ◌∙◌}
use mathlib.Core.Bool.{Bool, true, false}
use mathlib.Core.List.{List, [], ◌∷◌, map}
use mathlib.Core.Option.{Option, none, some}
use Prim.Native.Nat.{ℕ, zero, suc, ◌≤◌, ◌<◌}
use native.Mathlib.Omega.{arith}
use borrow.Author.Tests.{ltb-true, ltb-false, eqb-true, eqb-false}
use lib.Dec.{ltb, eqb}
use lib.IntN.{ℤ}
use lib.ListN.{length, length-map, length-append}
use Rattle.machine.specs.Settings.{setting_count, Environment}
use Rattle.machine.specs.Instruction.{Code}
use Rattle.machine.specs.Form.{length_fits, all_well_formed}
use Rattle.machine.specs.Run.{run}
use Rattle.general.proofs.Cases.{by-test, impossible}
use Rattle.model.specs.History.{infinity, New, Valid, Invalid, Lists, empty, run_lists, Change, change, timestamp, History, as_of, all_hold}
use Rattle.model.specs.Figure.{Event, ran, cleared, Step, idle, turned, lowest_waiting, mark_update, mark_future, changeset, replace, install, rerun, execute, round_at, round}
use Rattle.model.specs.Drain.{drain_none, drain_step, drain_for, drain_history}
use Rattle.model.specs.Walk.{insert}
use Rattle.model.specs.Cabinet.{Cabinet, kept_values_in, history_of, with_history, find, add, flag, remove}
use Rattle.model.specs.Calls.{round_of, drain_of}
use Rattle.model.specs.Sound.{Rising, ChangeSound, AllSound, NoneUnder, Sound}
use Rattle.model.proofs.Sound.{new-sound, stood-sound, ran-sound, cleared-sound, marked-sound, flag-sound, map-sound, append-sound, append-under}
use Rattle.model.proofs.Cabinet.{length-put_at, with_history-history, with_history-placed, withdraw_in, add-history, add-placed, changes_at-sound, put_at-sound, changes_at-under, put_at-under}

-- ---- what is kept

-- of a history and a view, another history and view keep the timestamps, that each change is sound, and the view's length
pub record Keeps (h : History) (view : List ℤ) (h' : History) (view' : List ℤ) : Type 0 where
  pub timestamps : map timestamp h' ≡ map timestamp h
  pub sound : AllSound h → AllSound h'
  pub viewed : length view ≡ setting_count → length view' ≡ setting_count

pub keeps-length : {h h' : History} {view view' : List ℤ} → Keeps h view h' view' → length h' ≡ length h
keeps-length {h} {h'} k = sym (length-map h' timestamp) ∙ ap length k.timestamps ∙ length-map h timestamp

rising-same : (b : ℕ) (h h' : History) → map timestamp h' ≡ map timestamp h → Rising b h → Rising b h'
rising-same b h [] e r = tt
rising-same b [] (c' ∷ h') e r = impossible (cc)
rising-same b (c ∷ h) (c' ∷ h') e r =
    let q : timestamp c' ≡ timestamp c = cc in
    let e' : map timestamp h' ≡ map timestamp h = cc in
    rw q (r.0, r.1, rising-same (timestamp c) h h' e' r.2)

pub keeps-rising : (b : ℕ) {h h' : History} {view view' : List ℤ} → Keeps h view h' view' → Rising b h → Rising b h'
keeps-rising b {h} {h'} k r = rising-same b h h' k.timestamps r

keeps_same : (h : History) (view : List ℤ) → Keeps h view h view
keeps_same h view = record { timestamps = refl; sound = λ a. a; viewed = λ n. n }

keeps-both : {h h' h'' : History} {view view' view'' : List ℤ} → Keeps h view h' view' → Keeps h' view' h'' view'' → Keeps h view h'' view''
keeps-both k k' =
    record {
      timestamps = k'.timestamps ∙ k.timestamps;
      sound = λ a. k'.sound (k.sound a);
      viewed = λ n. k'.viewed (k.viewed n);
    }

map-timestamps : (f : Change → Change) → ((u : Change) → timestamp (f u) ≡ timestamp u) → (h : History) → map timestamp (map f h) ≡ map timestamp h
map-timestamps f e [] = refl
map-timestamps f e (u ∷ h) = ap₂ ◌∷◌ (e u) (map-timestamps f e h)

-- ---- a round

-- the same of a round, where it is not idle
abbrev pub StepKeeps : History → List ℤ → Step → Type 0
StepKeeps h view idle = Unit {0}
StepKeeps h view (turned h' view' e) = Keeps h view h' view'

mark-timestamp : (b : Bool) (u : Change) → timestamp (mark_update b u) ≡ timestamp u
mark-timestamp b (change t p s w l) = refl

replace-timestamp : (t : ℕ) (new u : Change) → timestamp new ≡ t → timestamp (replace t new u) ≡ timestamp u
replace-timestamp t new u e =
    by-test (λ x. timestamp x ≡ timestamp u) (eqb (timestamp u) t) (λ q. e ∙ sym (eqb-true (timestamp u) t q)) (λ q. refl)

replace-sound : (t : ℕ) (new u : Change) → ChangeSound new → ChangeSound u → ChangeSound (replace t new u)
replace-sound t new u k k' = by-test ChangeSound (eqb (timestamp u) t) (λ q. k) (λ q. k')

module _ (h : History) (view : List ℤ) (upto : Environment) where
  install-keeps : (t : ℕ) (p : Code) (w : Bool) (old new : Lists) (event : Event) → (AllSound h → ChangeSound (change t p Valid w new)) → StepKeeps h view (install h view upto t p w old new event)
  install-keeps t p w old new event k =
      record {
        timestamps = map-timestamps _ (λ u. replace-timestamp t (change t p Valid w new) (mark_future h t (changeset old new upto) u) refl ∙ mark-timestamp _ u) h;
        sound = λ a. map-sound _ (λ u s. replace-sound t (change t p Valid w new) (mark_future h t (changeset old new upto) u) (k a) (marked-sound _ u s)) h a;
        viewed = λ n. refl;
      }

  execute-keeps : (c : Change) → (AllSound h → ChangeSound c) → StepKeeps h view (execute h view upto c)
  execute-keeps (change t p s true old) k = install-keeps t p true old empty (cleared t) (λ a. cleared-sound (k a))
  execute-keeps (change t p New false old) k = install-keeps t p false old (run_lists upto p) (ran t (run upto p)) (λ a. ran-sound upto (k a))
  execute-keeps (change t p Valid false old) k = tt
  execute-keeps (change t p Invalid false old) k = go (all_hold old.reads upto)
    where
      go : (holds : Bool) → StepKeeps h view (rerun holds h view upto t p old)
      go true =
          record {
            timestamps = map-timestamps _ (λ u. replace-timestamp t (change t p Valid false old) u refl) h;
            sound = λ a. map-sound _ (λ u s. replace-sound t (change t p Valid false old) u (stood-sound (k a)) s) h a;
            viewed = λ n. n;
          }
      go false = install-keeps t p false old (run_lists upto p) (ran t (run upto p)) (λ a. ran-sound upto (k a))

-- the change whose turn it is, if there is one, is sound
abbrev SoundIfAny : Option Change → Type 0
SoundIfAny none = Unit {0}
SoundIfAny (some c) = ChangeSound c

waiting-sound : (h : History) → AllSound h → SoundIfAny (lowest_waiting h)
waiting-sound [] a = tt
waiting-sound (change t p New w l ∷ h) a = a.0
waiting-sound (change t p Invalid w l ∷ h) a = a.0
waiting-sound (change t p Valid w l ∷ h) a = waiting-sound h a.1

pub round_keeps : (env : Environment) (h : History) (view : List ℤ) → StepKeeps h view (round env h view)
unfolding round
round_keeps env h view = go (lowest_waiting h) (waiting-sound h)
  where
    go : (waiting : Option Change) → (AllSound h → SoundIfAny waiting) → StepKeeps h view (round_at env h view waiting)
    go none k = tt
    go (some c) k = execute-keeps h view (as_of (timestamp c) h env) c k

-- ---- a drain

drain_for-keeps : (k : ℕ) (env : Environment) (h : History) (view : List ℤ) → Keeps h view (drain_for k env h view).history (drain_for k env h view).view
unfolding drain_for
drain_for-keeps zero env h view = keeps_same h view
drain_for-keeps (suc k) env h view = go (round env h view) (round_keeps env h view) (drain_for-keeps k env)
  where
    go : (s : Step) → StepKeeps h view s → ((h' : History) (view' : List ℤ) → Keeps h' view' (drain_for k env h' view').history (drain_for k env h' view').view) → Keeps h view (drain_step (drain_for k env) (drain_none h view) s).history (drain_step (drain_for k env) (drain_none h view) s).view
    go idle r ih = keeps_same h view
    go (turned h' view' e) r ih = keeps-both r (ih h' view')

pub drain-keeps : (env : Environment) (h : History) (view : List ℤ) → Keeps h view (drain_history env h view).history (drain_history env h view).view
unfolding drain_history
drain-keeps env h view = drain_for-keeps (length h) env h view

-- ---- a withdrawal

flag-timestamp : (u : Change) → timestamp (flag u) ≡ timestamp u
flag-timestamp (change t p s w l) = refl

pub withdraw-keeps : (t : ℕ) (h : History) (view : List ℤ) → Keeps h view (withdraw_in t h) view
withdraw-keeps t h view =
    record {
      timestamps = map-timestamps _ (λ u. by-test (λ x. timestamp x ≡ timestamp u) (eqb (timestamp u) t) (λ q. flag-timestamp u) (λ q. refl)) h;
      sound = map-sound _ (λ u k. by-test ChangeSound (eqb (timestamp u) t) (λ q. flag-sound u k) (λ q. k)) h;
      viewed = λ n. n;
    }

-- ---- sound cabinets

pub history-sound : {n : ℕ} {c : Cabinet} → Sound n c → AllSound (history_of c)
history-sound {c = c} s = changes_at-sound c.changes c.order s.placed.below s.each

pub history-uncut : {n : ℕ} {c : Cabinet} → Sound n c → NoneUnder c.cutoff (map timestamp (history_of c))
history-uncut {c = c} s = changes_at-under c.cutoff c.changes c.order s.placed.below s.uncut

pub with_history-sound : {n : ℕ} {c : Cabinet} {h : History} {view : List ℤ} → Sound n c → Keeps (history_of c) c.view h view → Sound n (with_history c h view)
with_history-sound {c = c} {h} {view} s k =
    record {
      some-capacity = s.some-capacity;
      capacity = s.capacity;
      small = rw length-put_at s.small;
      each = put_at-sound c.order h c.changes (k.sound (history-sound s)) s.each;
      placed = with_history-placed c h view s.placed;
      rising = rw (with_history-history c h view s.placed (keeps-length k)) (keeps-rising 0 k s.rising);
      viewed = k.viewed s.viewed;
      cut = s.cut;
      uncut = put_at-under c.cutoff c.order h c.changes (rw k.timestamps (history-uncut s)) s.uncut;
      kept-sized = s.kept-sized;
    }

pub round-sound : {n : ℕ} {c : Cabinet} {h : History} {view : List ℤ} {e : Event} → Sound n c → round_of c ≡ turned h view e → Sound n (with_history c h view)
round-sound {c = c} s q = with_history-sound s (rw q at (round_keeps (kept_values_in c) (history_of c) c.view))

pub drain-sound : {n : ℕ} {c : Cabinet} → Sound n c → Sound n (with_history c (drain_of c).history (drain_of c).view)
drain-sound {c = c} s = with_history-sound s (drain-keeps (kept_values_in c) (history_of c) c.view)

pub remove-sound : {n : ℕ} {c : Cabinet} (t : ℕ) → Sound n c → Sound n (remove t c)
remove-sound {c = c} t s = with_history-sound s (withdraw-keeps t (history_of c) c.view)

-- ---- taking in

-- a timestamp that is not held is not the first, and not held among the others
pub find-rest : (t : ℕ) (c : Change) (h : History) → find t (c ∷ h) ≡ none → ¬ (timestamp c ≡ t) × (find t h ≡ none)
find-rest t c h f =
    by-test (λ x. x ≡ none → ¬ (timestamp c ≡ t) × (find t h ≡ none)) (eqb (timestamp c) t)
    (λ q e. impossible (cc))
    (λ q e. (eqb-false (timestamp c) t q, e)) f

-- it is inserted between others
insert-rising : (t : ℕ) (p : Code) → t < infinity → (b : ℕ) (h : History) → b < t → find t h ≡ none → Rising b h → Rising b (insert t p h)
insert-rising t p i b [] l f r = (l, i, tt)
insert-rising t p i b (c ∷ h) l f r =
    by-test (Rising b) (ltb t (timestamp c)) (λ q. (l, i, (ltb-true t (timestamp c) q, r.1, r.2)))
    (λ q. let rest = find-rest t c h f in
    let above : timestamp c < t = omega (arith, ltb-false t (timestamp c) q) in
    (r.0, r.1, insert-rising t p i (timestamp c) h above rest.1 r.2))

pub add-sound : {n : ℕ} {c : Cabinet} (t : ℕ) (p : Code) → Sound n c → length c.changes < n → 0 < t → t < infinity → c.cutoff ≤ t → length_fits p.bytes ≡ true → p.version ≤ 1 → all_well_formed p.bytes ≡ true → find t (history_of c) ≡ none → Sound n (add t p c)
add-sound {c = c} t p s room above below from sized versioned formed free =
    record {
      some-capacity = s.some-capacity;
      capacity = s.capacity;
      small = simp length-append (omega arith);
      each = append-sound c.changes (change t p New false empty) s.each (new-sound above below sized versioned formed);
      placed = add-placed t p c s.placed;
      rising = rw (add-history t p c s.placed) (insert-rising t p below 0 (history_of c) above free s.rising);
      viewed = s.viewed;
      cut = s.cut;
      uncut = append-under c.cutoff c.changes (change t p New false empty) s.uncut from;
      kept-sized = s.kept-sized;
    }
