-- Demand 3, proved: a theorem about every list of calls on freshly set-up tables.
use mathlib.Core.Path.{◌≡◌, refl, sym, ap, subst, ◌∙◌}
use mathlib.Core.Bool.{true}
use mathlib.Core.List.{List, [], ◌∷◌, ◌++◌}
use Prim.Native.Nat.{ℕ}
use Rattle.machine.specs.Settings.{Environment}
use Rattle.model.specs.History.{start, all_settings}
use Rattle.model.specs.Cabinet.{Cabinet, empty_cabinet}
use Rattle.model.specs.Tables.{Tables, encode, decode}
use Rattle.model.specs.Form.{lengths_fit}
use Rattle.model.specs.Calls.{set_up}
use Rattle.model.specs.Log.{Call, Ledger, after_calls, begun}
use Rattle.model.proofs.Values.{all-value, value-all}
use Rattle.model.proofs.Start.{start-past}
use Rattle.model.proofs.Keeps.{drain-sound}
use Rattle.model.proofs.Tests.{lengths-of}
use Rattle.model.proofs.Tables.{held-count, decode-encode}
use Rattle.model.proofs.Form.{encode-formed}
use Rattle.theory.specs.Demand.{Drains, Demand3}
use Rattle.theory.proofs.Invariant.{Invariant, empty-invariant}
use Rattle.theory.proofs.Calls.{empty-sound, drained, drain-call, drain-events, drain-answered, drain_kept, drained-history}
use Rattle.theory.proofs.Dropped.{sound-rising}
use Rattle.theory.proofs.Reached.{Holding, Reached, drained-claim, held-uncut, all_sound, calls-reached}

pub set-up-holds : (n : ℕ) (T : Tables) → lengths_fit n T ≡ true → Holding n empty_cabinet (begun (set_up n T).tables)
unfolding set_up
set-up-holds n T e =
    record {
      tables = rw e;
      sound = empty-sound n T (lengths-of n T e);
      invariant = subst (λ (env : Environment). Invariant env 0 [] [] (all_settings start)) (sym (value-all start start-past)) empty-invariant;
      booked = refl;
      dropped = record { cut = refl; below = tt; sound = tt; fresh = value-all start start-past };
    }

view_of : (n : ℕ) (c : Cabinet) → (encode n c).view ≡ c.view
unfolding encode
view_of n c = refl

cutoff-of : (n : ℕ) (c : Cabinet) → (encode n c).cutoff ≡ c.cutoff ∷ []
unfolding encode
cutoff-of n c = refl

-- the last drain
drains : (n : ℕ) (c : Cabinet) (k : Ledger) → Holding n c k → Drains n k
drains n c k h =
    let s = h.sound in
    let claim = drained-claim h in
    let back : decode (encode n (drained c)) ≡ drained c = decode-encode n (drained c) (drain-sound s) in
    rw h.tables
    (record {
      answered = drain-answered s;
      booked = rw (drain-call s, back, drained-history s) (claim.same-book ∙ h.booked);
      cut = rw (drain-call s, cutoff-of n (drained c)) (ap (◌∷ []) h.dropped.cut);
      dropped-below = rw (← h.dropped.cut) h.dropped.below;
      held-from = rw (← h.dropped.cut) (held-uncut h);
      in_order = sound-rising 0 (k.dropped ++ k.book) (all_sound h);
      kept-values = drain_kept s ∙ sym (all-value c.kept s.kept-sized) ∙ ap all_settings h.dropped.fresh;
      fresh-lists = rw (drain_kept s, drain-call s, back, drained-history s) (rw h.booked at claim.fresh-lists);
      no-others = rw (drain-call s, back, held-count n (drained c)) (drain-sound s).placed.covers;
      fresh-view = rw (drain_kept s, drain-call s, view_of n (drained c)) (rw h.booked at claim.fresh-view);
      one-turn-each = rw (drain-events s) claim.one-turn-each;
      none-in-vain = rw (drain_kept s, drain-events s) (rw h.booked at claim.none-in-vain);
      form-before = (encode-formed s).form;
      form-after = rw (drain-call s) (encode-formed (drain-sound s)).form;
    })

-- what every list of calls on tables just set up reaches
pub reached : (n : ℕ) (T : Tables) → lengths_fit n T ≡ true → (calls : List Call) → Reached n (after_calls n calls (begun (set_up n T).tables))
reached n T e calls = calls-reached n calls (begun (set_up n T).tables) (record { cabinet = empty_cabinet; holding = set-up-holds n T e })

-- demand 3
pub demand3 : (n : ℕ) (T : Tables) → lengths_fit n T ≡ true → (calls : List Call) → Demand3 n T calls
demand3 n T e calls =
    let r = reached n T e calls in
    drains n r.cabinet (after_calls n calls (begun (set_up n T).tables)) r.holding
