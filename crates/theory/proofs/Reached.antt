-- What every list of calls on freshly set-up tables keeps: the tables hold a sound cabinet, with the invariant of demand 3, the book, and the book of what was dropped.
use mathlib.Core.Path.{◌≡◌, refl, sym, ap₂, subst, ◌∙◌}
use mathlib.Core.Bool.{cond}
use mathlib.Core.List.{List, [], ◌∷◌, ◌++◌, append-nil}
use Prim.Native.Nat.{ℕ}
use lib.Dec.{eqb}
use lib.ListN.{length, drop}
use Rattle.machine.specs.Settings.{Environment}
use Rattle.general.proofs.Cases.{by-test, by-test₂}
use Rattle.model.specs.Answers.{Answer}
use Rattle.model.specs.History.{start}
use Rattle.model.specs.Figure.{Event, Step, idle, turned}
use Rattle.model.specs.Drain.{total_count}
use Rattle.model.specs.Cabinet.{Cabinet, kept_values_in, history_of, remaining, cut_at}
use Rattle.model.specs.Tables.{encode}
use Rattle.model.specs.Package.{Item, taking, withdrawing, items_of}
use Rattle.model.specs.Book.{Book, book_of, fresh_end, book_below, book_from}
use Rattle.model.specs.Calls.{Reply, answer_number, item_answer, if_done, item_call, take_in, withdraw, item_step, item_steps, PackageReply, take_in_package, round_of, drain_of, TotalsReply}
use Rattle.model.specs.Log.{Call, take_in_call, package_call, withdraw_call, turn_call, drain_call, cutoff_call, book_item, book_items, step_events, Ledger, after_call, after_calls}
use Rattle.model.specs.Sound.{Sound}
use Rattle.model.proofs.Cabinet.{with_history-history, remove-history, add-history}
use Rattle.model.proofs.Keeps.{keeps-length, StepKeeps, round_keeps, history-sound, history-uncut}
use Rattle.model.proofs.Items.{by_answer, taking-done, item-sound, item-cutoff, items-cutoff, item-book, items-book}
use Rattle.model.proofs.Cutoff.{cut-history, book-remaining, kept-as-of}
use Rattle.model.proofs.Tables.{decode-encode}
use Rattle.theory.specs.Demand.{NoneBelow}
use Rattle.theory.proofs.Invariant.{Invariant}
use Rattle.theory.proofs.Turns.{StepClaim, turn-claim}
use Rattle.theory.proofs.Drains.{DrainClaim, drain-claim}
use Rattle.theory.proofs.Items.{insert-invariant, withdraw-invariant, cut-invariant, dropped-fresh}
use Rattle.theory.proofs.Calls.{after_step, package_refusal, cutoff_refusal, cabinet_after, item-call, turn-events, drain-events, totals-call, cutoff-call, drained-history, CutoffDone, cutoff-done, call-tables, call-sound}
use Rattle.theory.proofs.Filling.{SoundBook, sound-book}
use Rattle.theory.proofs.Dropped.{Dropped, fresh_end-append, book-uncut, both-sound, more-below, more-sound}

-- ---- items

-- the invariant of a cabinet, where runs begin from its kept values
abbrev InvariantOf : List Event → Cabinet → Type 0
InvariantOf events c = Invariant (kept_values_in c) c.cutoff events (history_of c) c.view

item-invariant : (n : ℕ) (c : Cabinet) (i : Item) (events : List Event) → Sound n c → InvariantOf events c → InvariantOf events (item_step n c i)
item-invariant n c (taking t p) events s k =
    by_answer (InvariantOf events) (item_answer n c (taking t p))
    (λ e. let done = taking-done n c t p e in rw (add-history t p c s.placed) (insert-invariant t p (kept_values_in c) c.cutoff events (history_of c) c.view done.from done.not-held k)) k
item-invariant n c (withdrawing t) events s k =
    by_answer (InvariantOf events) (item_answer n c (withdrawing t))
    (λ e. rw (remove-history t c s.placed) (withdraw-invariant t (kept_values_in c) c.cutoff events (history_of c) c.view k)) k

items-invariant : (n : ℕ) (c : Cabinet) (items : List Item) (events : List Event) → Sound n c → InvariantOf events c → InvariantOf events (item_steps n c items)
items-invariant n c [] events s k = k
items-invariant n c (i ∷ items) events s k = items-invariant n (item_step n c i) items events (item-sound i s) (item-invariant n c i events s k)

-- ---- what each call keeps

abbrev DroppedBy : Cabinet → ℕ → Book → Type 0
DroppedBy c last dropped = Dropped c.cutoff c.kept last dropped

-- what holds of a cabinet, the book, the turns and what was dropped between two calls
pub record Holding (n : ℕ) (c : Cabinet) (k : Ledger) : Type 0 where
  pub tables : k.tables ≡ encode n c
  pub sound : Sound n c
  pub invariant : InvariantOf k.events c
  pub booked : book_of (history_of c) ≡ k.book
  pub dropped : DroppedBy c k.cutoff k.dropped

module _ {n : ℕ} {c : Cabinet} {k : Ledger} (h : Holding n c k) where
  pub drained-claim : DrainClaim (kept_values_in c) c.cutoff k.events (history_of c) (drain_of c)
  drained-claim = drain-claim (kept_values_in c) c.cutoff k.events (history_of c) c.view h.sound.rising h.invariant

  turn-kept : InvariantOf (k.events ++ step_events (round_of c)) (after_step c (round_of c)) × (book_of (history_of (after_step c (round_of c))) ≡ k.book)
  turn-kept = go (round_of c) (round_keeps (kept_values_in c) (history_of c) c.view) (turn-claim (kept_values_in c) c.cutoff k.events (history_of c) c.view h.sound.rising h.invariant)
    where
      go : (x : Step) → StepKeeps (history_of c) c.view x → StepClaim (kept_values_in c) c.cutoff k.events (history_of c) x → InvariantOf (k.events ++ step_events x) (after_step c x) × (book_of (history_of (after_step c x)) ≡ k.book)
      go idle keeps claim = (rw append-nil h.invariant, h.booked)
      go (turned h' view' e) keeps claim =
          rw (with_history-history c h' view' h.sound.placed (keeps-length keeps)) (claim.invariant, claim.same-book ∙ h.booked)

  call-invariant : (call : Call) → InvariantOf (after_call n call k).events (cabinet_after n call c)
  unfolding after_call
  call-invariant (take_in_call t p) = item-invariant n c (taking t p) k.events h.sound h.invariant
  call-invariant (withdraw_call t) = item-invariant n c (withdrawing t) k.events h.sound h.invariant
  call-invariant (package_call bytes answers) =
      by-test (InvariantOf k.events) (eqb (package_refusal n c bytes answers) 0)
      (λ q. items-invariant n c (items_of bytes) k.events h.sound h.invariant) (λ q. h.invariant)
  call-invariant turn_call = rw (h.tables, turn-events h.sound) turn-kept.0
  call-invariant (drain_call lent) =
      rw (h.tables, drain-events h.sound, totals-call h.sound lent)
      (by-test₂ (λ (r : TotalsReply) (d : Cabinet). InvariantOf (k.events ++ if_done r.answer (drain_of c).events []) d) (eqb (length lent) total_count)
      (λ q. rw (drained-history h.sound) drained-claim.invariant) (λ q. rw append-nil h.invariant))
  call-invariant (cutoff_call t) =
      by-test (InvariantOf k.events) (eqb (cutoff_refusal c t) 0)
      (λ q. rw (cut-history t c h.sound.placed) (subst (λ (env : Environment). Invariant env t k.events (remaining t (history_of c)) c.view) (sym (kept-as-of t h.sound))
      (cut-invariant t (kept_values_in c) (history_of c) h.sound.rising h.invariant.consistent c.cutoff k.events c.view (cutoff-done c t q).from h.invariant)))
      (λ q. h.invariant)

  item-booked : (i : Item) → book_of (history_of (item_step n c i)) ≡ book_item i (answer_number (item_call n k.tables i).answer) k.book
  item-booked i = rw (h.tables, item-call h.sound i, ← h.booked) (item-book i h.sound)

  call-booked : (call : Call) → book_of (history_of (cabinet_after n call c)) ≡ (after_call n call k).book
  unfolding after_call take_in withdraw take_in_package
  call-booked (take_in_call t p) = item-booked (taking t p)
  call-booked (withdraw_call t) = item-booked (withdrawing t)
  call-booked (package_call bytes answers) =
      rw (h.tables, decode-encode n c h.sound)
      (by-test₂ (λ (d : Cabinet) (r : PackageReply). book_of (history_of d) ≡ cond (eqb (answer_number r.answer) 0) (book_items (items_of bytes) r.answers k.book) k.book) (eqb (package_refusal n c bytes answers) 0)
      (λ q. rw (← h.booked) (items-book (items_of bytes) (drop (length (items_of bytes)) answers) h.sound))
      (λ q. rw q h.booked))
  call-booked turn_call = turn-kept.1
  call-booked (drain_call lent) =
      by-test (λ (d : Cabinet). book_of (history_of d) ≡ k.book) (eqb (length lent) total_count) (λ q. rw (drained-history h.sound) (drained-claim.same-book ∙ h.booked)) (λ q. h.booked)
  call-booked (cutoff_call t) =
      rw (h.tables, cutoff-call h.sound t)
      (by-test₂ (λ (r : Reply Answer) (d : Cabinet). book_of (history_of d) ≡ if_done r.answer (book_from t k.book) k.book) (eqb (cutoff_refusal c t) 0)
      (λ q. rw (cut-history t c h.sound.placed, ← h.booked) (book-remaining t (history_of c))) (λ q. h.booked))

  -- nothing held is stamped below the cutoff
  pub held-uncut : NoneBelow c.cutoff k.book
  held-uncut = rw (← h.booked) (book-uncut c.cutoff (history_of c) (history-uncut h.sound))

  -- what was dropped and what is held are one sound book
  pub all_sound : SoundBook 0 (k.dropped ++ k.book)
  all_sound =
      both-sound 0 c.cutoff k.dropped k.book h.dropped.sound h.dropped.below held-uncut
      (rw (← h.booked) (sound-book 0 (history_of c) h.sound.rising (history-sound h.sound)))

  cut-dropped : (t : ℕ) → CutoffDone c t → DroppedBy (cut_at t c) t (k.dropped ++ book_below t k.book)
  cut-dropped t done =
      record {
        cut = refl;
        below = more-below t c.cutoff k.dropped k.book done.from h.dropped.below;
        sound = more-sound t 0 k.dropped k.book all_sound;
        fresh =
            kept-as-of t h.sound
            ∙ dropped-fresh t (kept_values_in c) (history_of c) h.sound.rising h.invariant.consistent done.none-waits
            ∙ ap₂ (λ (book : Book) (env : Environment). fresh_end (book_below t book) env) h.booked h.dropped.fresh
            ∙ sym (fresh_end-append k.dropped (book_below t k.book) start);
      }

  item-dropped : (i : Item) → DroppedBy (item_step n c i) k.cutoff k.dropped
  item-dropped i = rw ((item-cutoff n c i).0, (item-cutoff n c i).1) h.dropped

  call_dropped : (call : Call) → DroppedBy (cabinet_after n call c) (after_call n call k).cutoff (after_call n call k).dropped
  unfolding after_call
  call_dropped (take_in_call t p) = item-dropped (taking t p)
  call_dropped (withdraw_call t) = item-dropped (withdrawing t)
  call_dropped (package_call bytes answers) =
      by-test (λ (d : Cabinet). DroppedBy d k.cutoff k.dropped) (eqb (package_refusal n c bytes answers) 0)
      (λ q. rw ((items-cutoff n c (items_of bytes)).0, (items-cutoff n c (items_of bytes)).1) h.dropped) (λ q. h.dropped)
  call_dropped turn_call = go (round_of c)
    where
      go : (x : Step) → DroppedBy (after_step c x) k.cutoff k.dropped
      go idle = h.dropped
      go (turned h' view' e) = h.dropped
  call_dropped (drain_call lent) = by-test (λ (d : Cabinet). DroppedBy d k.cutoff k.dropped) (eqb (length lent) total_count) (λ q. h.dropped) (λ q. h.dropped)
  call_dropped (cutoff_call t) =
      rw (h.tables, cutoff-call h.sound t)
      (by-test₂ (λ (r : Reply Answer) (d : Cabinet). DroppedBy d (if_done r.answer t k.cutoff) (if_done r.answer (k.dropped ++ book_below t k.book) k.dropped)) (eqb (cutoff_refusal c t) 0)
      (λ q. cut-dropped t (cutoff-done c t q)) (λ q. h.dropped))

  pub call-holds : (call : Call) → Holding n (cabinet_after n call c) (after_call n call k)
  call-holds call =
      record { tables = call-tables h.sound call k h.tables; sound = call-sound h.sound call; invariant = call-invariant call; booked = call-booked call; dropped = call_dropped call }

-- ---- lists of calls

pub record Reached (n : ℕ) (k : Ledger) : Type 0 where
  pub cabinet : Cabinet
  pub holding : Holding n cabinet k

pub calls-reached : (n : ℕ) (calls : List Call) (k : Ledger) → Reached n k → Reached n (after_calls n calls k)
calls-reached n [] k r = r
calls-reached n (call ∷ calls) k r =
    calls-reached n calls (after_call n call k) (record { cabinet = cabinet_after n call r.cabinet; holding = call-holds r.holding call })
