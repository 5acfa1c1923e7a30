-- The calls on the tables of a sound cabinet: what they answer, and that they leave the tables of a sound cabinet.
use mathlib.Core.Path.{◌≡◌, refl, sym, ap}
use mathlib.Core.Bool.{Bool, true, false, cond, not}
use mathlib.Core.List.{List, [], ◌∷◌}
use Prim.Native.Nat.{ℕ, ◌≤◌, ◌<◌}
use native.Mathlib.Omega.{arith}
use borrow.Author.Tests.{ltb-true, ltb-false, eqb-true, eq-eqb, not-false}
use lib.Dec.{eqb, ltb}
use lib.ListN.{length}
use Rattle.general.proofs.Cases.{by-test, by-test₂, both}
use Rattle.model.specs.Answers.{Answer}
use Rattle.model.specs.History.{infinity}
use Rattle.model.specs.Figure.{Step, idle, turned}
use Rattle.model.specs.Drain.{total_count, totals}
use Rattle.model.specs.Cabinet.{Cabinet, empty_cabinet, kept_values_in, history_of, with_history, cut_at}
use Rattle.model.specs.Tables.{Tables, encode}
use Rattle.model.specs.Refusals.{first_of, wrong_length, not_in_form, no_timestamp, below_cutoff, waits_below, unsettled_below, test}
use Rattle.model.specs.Package.{Item, taking, withdrawing, layout_fits, items_of}
use Rattle.model.specs.Calls.{Reply, reply, item_answer, item_call, take_in, withdraw, item_step, item_steps, PackageReply, take_in_package, raise_cutoff, step_reply, round_of, turn, drain_of, drain, TotalsReply, totals_reply, drain_with_totals}
use Rattle.model.specs.Log.{Call, take_in_call, package_call, withdraw_call, turn_call, drain_call, cutoff_call, turn_events, drain_events, step_events, Ledger, after_call}
use Rattle.model.specs.Sound.{Sound}
use Rattle.model.proofs.Cabinet.{with_history-history}
use Rattle.model.proofs.Keeps.{keeps-length, drain-keeps, round-sound, drain-sound}
use Rattle.model.proofs.Items.{none-applies, of-answer, item-sound, items-sound}
use Rattle.model.proofs.Order.{placed_of}
use Rattle.model.proofs.Cutoff.{cut-sound}
use Rattle.model.proofs.Tests.{Lengths}
use Rattle.model.proofs.Tables.{decode-encode}
use Rattle.model.proofs.Form.{encode-formed}
use Rattle.theory.specs.Totals.{DrainAnswered}

-- ---- the cabinet after a call

abbrev pub after_step : Cabinet → Step → Cabinet
after_step c idle = c
after_step c (turned h view e) = with_history c h view

abbrev pub drained : Cabinet → Cabinet
drained c = with_history c (drain_of c).history (drain_of c).view

-- the refusal of a package, or 0
abbrev pub package_refusal : ℕ → Cabinet → List ℕ → List ℕ → ℕ
package_refusal n c bytes answers =
    first_of (wrong_length n (encode n c) (length answers) 512 ∷ not_in_form n (encode n c) ∷ test 3 (not (layout_fits bytes)) ∷ [])

-- the refusal of a cutoff, or 0
abbrev pub cutoff_refusal : Cabinet → ℕ → ℕ
cutoff_refusal c t = first_of (no_timestamp t ∷ below_cutoff c.cutoff t ∷ unsettled_below c t ∷ [])

abbrev pub cabinet_after : ℕ → Call → Cabinet → Cabinet
cabinet_after n (take_in_call t p) c = item_step n c (taking t p)
cabinet_after n (package_call bytes answers) c = cond (eqb (package_refusal n c bytes answers) 0) (item_steps n c (items_of bytes)) c
cabinet_after n (withdraw_call t) c = item_step n c (withdrawing t)
cabinet_after n turn_call c = after_step c (round_of c)
cabinet_after n (drain_call lent) c = cond (eqb (length lent) total_count) (drained c) c
cabinet_after n (cutoff_call t) c = cond (eqb (cutoff_refusal c t) 0) (cut_at t c) c

-- a cabinet with nothing held
pub empty-sound : (n : ℕ) (T : Tables) → Lengths n T → Sound n empty_cabinet
empty-sound n T l =
    record {
      some-capacity = l.some-capacity;
      capacity = l.capacity;
      small = omega arith;
      each = tt;
      placed = placed_of empty_cabinet refl tt tt;
      rising = tt;
      viewed = refl;
      cut = omega arith;
      uncut = tt;
      kept-sized = refl;
    }

-- ---- answers

module _ {n : ℕ} {c : Cabinet} (s : Sound n c) where
  pub item-call : (i : Item) → item_call n (encode n c) i ≡ record { answer = item_answer n c i; tables = encode n (item_step n c i) }
  item-call i =
      rw ((encode-formed s).sized, (encode-formed s).form, decode-encode n c s)
      (ap (λ (T : Tables). record { answer = item_answer n c i; tables = T }) (sym (of-answer (encode n) (item_answer n c i) refl refl)))

  pub turn-call : turn n (encode n c) ≡ step_reply n (encode n c) c (round_of c)
  unfolding turn
  turn-call = rw ((encode-formed s).sized, (encode-formed s).form, decode-encode n c s)

  pub turn-events : turn_events n (encode n c) ≡ step_events (round_of c)
  turn-events = rw ((encode-formed s).sized, (encode-formed s).form, decode-encode n c s)

  pub drain-call : drain n (encode n c) ≡ record { answer = Answer.Done; tables = encode n (drained c) }
  unfolding drain
  drain-call = rw ((encode-formed s).sized, (encode-formed s).form, decode-encode n c s)

  pub drain-events : drain_events n (encode n c) ≡ (drain_of c).events
  drain-events = rw ((encode-formed s).sized, (encode-formed s).form, decode-encode n c s)

  pub totals-call : (lent : List ℕ) → drain_with_totals n (encode n c) lent ≡ cond (eqb (length lent) total_count) (totals_reply Answer.Done (encode n (drained c)) (totals (drain_of c).events)) (totals_reply (Answer.Refused 1) (encode n c) lent)
  unfolding drain_with_totals
  totals-call lent = rw (drain-call, (encode-formed s).sized, (encode-formed s).form, decode-encode n c s) (go _ (eqb (length lent) total_count))
    where
      go : (done : TotalsReply) (b : Bool) → let r = first_of (test 1 (not b) ∷ []) in cond (eqb r 0) done (totals_reply (Answer.Refused r) (encode n c) lent) ≡ cond b done (totals_reply (Answer.Refused 1) (encode n c) lent)
      go done true = refl
      go done false = refl

  pub drain-answered : DrainAnswered n (encode n c)
  drain-answered lent e = rw (totals-call lent, eq-eqb (length lent) total_count e, drain-call, drain-events)

  pub cutoff-call : (t : ℕ) → raise_cutoff n (encode n c) t ≡ cond (eqb (cutoff_refusal c t) 0) (reply Answer.Done (encode n (cut_at t c))) (reply (Answer.Refused (cutoff_refusal c t)) (encode n c))
  unfolding raise_cutoff
  cutoff-call t = rw ((encode-formed s).sized, (encode-formed s).form, decode-encode n c s)

  pub drain_kept : (drain n (encode n c)).tables.kept ≡ c.kept
  unfolding encode
  drain_kept = rw drain-call

  pub drained-history : history_of (drained c) ≡ (drain_of c).history
  drained-history = with_history-history c (drain_of c).history (drain_of c).view s.placed (keeps-length (drain-keeps (kept_values_in c) (history_of c) c.view))

-- ---- what a cutoff that is done tells

-- it is a timestamp, not below the cutoff that there is, and no change below it waits
pub record CutoffDone (c : Cabinet) (t : ℕ) : Type 0 where
  pub below : t < infinity
  pub from : c.cutoff ≤ t
  pub none-waits : waits_below t (history_of c) ≡ false

pub cutoff-done : (c : Cabinet) (t : ℕ) → eqb (cutoff_refusal c t) 0 ≡ true → CutoffDone c t
cutoff-done c t q =
    let none = none-applies (no_timestamp t ∷ below_cutoff c.cutoff t ∷ unsettled_below c t ∷ []) (omega arith) (eqb-true (cutoff_refusal c t) 0 q) in
    record {
      below = ltb-true t infinity (both (ltb 0 t) (not-false _ none.0)).1;
      from = omega (arith, ltb-false t c.cutoff none.1.0);
      none-waits = none.1.1.0;
    }

-- ---- tables

module _ {n : ℕ} {c : Cabinet} (s : Sound n c) where
  pub call-tables : (call : Call) (k : Ledger) → k.tables ≡ encode n c → (after_call n call k).tables ≡ encode n (cabinet_after n call c)
  unfolding after_call take_in withdraw take_in_package
  call-tables (take_in_call t p) k e = rw (e, item-call s (taking t p))
  call-tables (withdraw_call t) k e = rw (e, item-call s (withdrawing t))
  call-tables (package_call bytes answers) k e =
      rw (e, decode-encode n c s)
      (by-test₂ (λ (r : PackageReply) (d : Cabinet). r.tables ≡ encode n d) (eqb (package_refusal n c bytes answers) 0) (λ q. refl) (λ q. refl))
  call-tables turn_call k e = rw (e, turn-call s) (go (round_of c))
    where
      go : (x : Step) → (step_reply n (encode n c) c x).tables ≡ encode n (after_step c x)
      go idle = refl
      go (turned h view event) = refl
  call-tables (drain_call lent) k e =
      rw (e, totals-call s lent) (by-test₂ (λ (r : TotalsReply) (d : Cabinet). r.tables ≡ encode n d) (eqb (length lent) total_count) (λ q. refl) (λ q. refl))
  call-tables (cutoff_call t) k e =
      rw (e, cutoff-call s t) (by-test₂ (λ (r : Reply Answer) (d : Cabinet). r.tables ≡ encode n d) (eqb (cutoff_refusal c t) 0) (λ q. refl) (λ q. refl))

  pub call-sound : (call : Call) → Sound n (cabinet_after n call c)
  call-sound (take_in_call t p) = item-sound (taking t p) s
  call-sound (withdraw_call t) = item-sound (withdrawing t) s
  call-sound (package_call bytes answers) = by-test (Sound n) (eqb (package_refusal n c bytes answers) 0) (λ q. items-sound (items_of bytes) s) (λ q. s)
  call-sound turn_call = go (round_of c) refl
    where
      go : (x : Step) → round_of c ≡ x → Sound n (after_step c x)
      go idle q = s
      go (turned h view event) q = round-sound s q
  call-sound (drain_call lent) = by-test (Sound n) (eqb (length lent) total_count) (λ q. drain-sound s) (λ q. s)
  call-sound (cutoff_call t) = by-test (Sound n) (eqb (cutoff_refusal c t) 0) (λ q. cut-sound t (cutoff-done c t q).below s) (λ q. s)
