-- Withdrawing on tables that are in form, as the model has it.
use mathlib.Core.Path.{◌≡◌, refl, sym, ap, ap₂, subst, ◌∙◌}
use mathlib.Core.Bool.{Bool, true, false}
use mathlib.Core.List.{List}
use mathlib.Core.Option.{none, some}
use Rattle.std.specs.Prelude as prelude
use Rattle.std.specs.Prelude.{Some, None}
use Prim.Native.Nat.{ℕ, ◌<◌}
use native.Mathlib.Omega.{arith}
use lib.Dec.{ltb}
use lib.ListN.{length, get_or, set}
use Rattle.model.specs.Answers.{Answer}
use Rattle.model.specs.History.{is_timestamp, Change, timestamp, withdrawn}
use Rattle.model.specs.Cabinet.{Cabinet, blank, history_of, find, flag, remove}
use Rattle.model.specs.Tables.{Tables, with_withdrawing, flag_number, encode, cutoff_in, held_count, decode}
use Rattle.model.specs.Sound.{Sound}
use Rattle.model.specs.Form.{Formed}
use Rattle.model.specs.Package.{withdrawing}
use Rattle.model.specs.Calls.{reply, item_answer, item_call}
use Rattle.model.proofs.Form.{facts}
use Rattle.model.proofs.Order.{below_at}
use Rattle.model.proofs.Tables.{status-at, withdrawn-at}
use Rattle.model.proofs.Restated.{restated}
use Rattle.search.specs.Searches.{found_of, position_of}
use Rattle.search.proofs.Answers.{found_at, found_nothing}
use Rattle.search.proofs.Model.{history_in, position_in, held-changes, place_of, position-none, position_some, position-change}
use Rattle.tables.proofs.Parts.{item-replied}
use Rattle.withdrawing.specs.Withdrawing.{unsettled_number}
use Rattle.withdrawing.proofs.Flagged.{flag-restates, flag-status, flag-number, find-stamp, flagged-one}

-- ---- the answer, by its tests in order

module _ (n : ℕ) (c : Cabinet) (t : ℕ) where
  no-timestamp : is_timestamp t ≡ false → Answer.Refused 4 ≡ item_answer n c (withdrawing t)
  unfolding item_answer
  no-timestamp e = rw e

  cut : is_timestamp t ≡ true → ltb t c.cutoff ≡ true → Answer.Refused 14 ≡ item_answer n c (withdrawing t)
  unfolding item_answer
  cut stamped e = rw (stamped, e)

  module _ (stamped : is_timestamp t ≡ true) (from : ltb t c.cutoff ≡ false) where
    not-held : find t (history_of c) ≡ none → Answer.Refused 10 ≡ item_answer n c (withdrawing t)
    unfolding item_answer
    not-held e = rw (stamped, from, e)

    module _ {u : Change} (e : find t (history_of c) ≡ some u) where
      already : withdrawn u ≡ true → Answer.Refused 11 ≡ item_answer n c (withdrawing t)
      unfolding item_answer
      already f = rw (stamped, from, e, f)

      not_yet : withdrawn u ≡ false → Answer.Done ≡ item_answer n c (withdrawing t)
      unfolding item_answer
      not_yet f = rw (stamped, from, e, f)

-- ---- the tables

-- a position and its place, in the tables that withdrawing is lent
pub record Withdrawable (T : Tables) (k : ℕ) : Type 0 where
  pub within : k < length T.order
  pub standing : get_or T.order k 0 < length T.status
  pub flagged : get_or T.order k 0 < length T.withdrawn

-- tables with the change at a place withdrawn
abbrev flagged_in : Tables → ℕ → Tables
flagged_in T i = with_withdrawing T (set T.status i (unsettled_number (get_or T.status i 0))) (set T.withdrawn i 1)

removed : (n : ℕ) (c : Cabinet) → Sound n c → (t k : ℕ) → k < length c.order → timestamp (get_or c.changes (get_or c.order k 0) blank) ≡ t → flagged_in (encode n c) (get_or c.order k 0) ≡ encode n (remove t c)
removed n c s t k h e =
    let i = get_or c.order k 0 in
    let old = get_or c.changes i blank in
    let U = encode n c in
    ap₂ (λ (number flag : ℕ). with_withdrawing U (set U.status i number) (set U.withdrawn i flag)) (ap unsettled_number (status-at n c i) ∙ flag-status old) (flag-number old)
    ∙ sym (restated n c i (below_at (length c.changes) c.order k s.placed.below h) (flag old) (flag-restates old))
    ∙ ap (λ (l : List Change). encode n (record { changes = l; order = c.order; view = c.view; cutoff = c.cutoff; kept = c.kept })) (sym (flagged-one c.changes t 0 c.order k s.placed.distinct s.rising h e))

flag-zero : (b : Bool) → (flag_number b ≡ 0 → b ≡ false) × ((flag_number b ≡ 0 → ⊥) → b ≡ true)
flag-zero true = (λ e. absurd (omega arith), λ f. refl)
flag-zero false = (λ e. refl, λ f. absurd (f refl))

-- ---- the replies

-- the timestamp is none
pub no-timestamp-replied : {n : ℕ} {T : Tables} → Formed n T → (t : ℕ) → is_timestamp t ≡ false → reply (Answer.Refused 4) T ≡ item_call n T (withdrawing t)
no-timestamp-replied {n} {T} g t e = item-replied (withdrawing t) g (no-timestamp n (decode T) t e) refl

-- the timestamp is below the cutoff
pub cut-replied : {n : ℕ} {T : Tables} → Formed n T → (t : ℕ) → is_timestamp t ≡ true → ltb t (cutoff_in T) ≡ true → reply (Answer.Refused 14) T ≡ item_call n T (withdrawing t)
unfolding decode
cut-replied {n} {T} g t stamped e = item-replied (withdrawing t) g (cut n (decode T) t stamped e) refl

-- what the search finds, with the count of the held changes
module _ {n : ℕ} {T : Tables} (g : Formed n T) (t : ℕ) {count : ℕ} (counted : count ≡ held_count T) {found : prelude.Option ℕ} (searched : found ≡ found_of (position_of T.order T.timestamps t count)) where
  found_in : {k : ℕ} → found ≡ Some k → position_in T t ≡ some k
  found_in e = ap (position_of T.order T.timestamps t) (sym counted) ∙ found_at _ searched e

  none_in : found ≡ None → position_in T t ≡ none
  none_in e = ap (position_of T.order T.timestamps t) (sym counted) ∙ found_nothing _ searched e

  -- the slots of its place are there
  pub withdrawable : {k : ℕ} → found ≡ Some k → Withdrawable T k
  withdrawable {k} e =
      let l = (facts g).sizes in
      let held = (position_some g t k (found_in e)).0 in
      let small = (facts g).form.small in
      let place = (facts g).form.places k held in
      record { within = omega (arith, l.order); standing = omega (arith, l.status); flagged = omega (arith, l.withdrawn) }

  module _ (stamped : is_timestamp t ≡ true) (uncut : ltb t (cutoff_in T) ≡ false) where
    from : ltb t (decode T).cutoff ≡ false
    unfolding decode
    from = uncut

    -- the timestamp is not held
    pub not-held-replied : found ≡ None → reply (Answer.Refused 10) T ≡ item_call n T (withdrawing t)
    not-held-replied e = item-replied (withdrawing t) g (not-held n (decode T) t stamped from (position-none g t (none_in e))) refl

    module _ {k : ℕ} (e : found ≡ Some k) where
      m : position_in T t ≡ some k
      m = found_in e

      -- the flag of its change
      flag_at : get_or T.withdrawn (get_or T.order k 0) 0 ≡ flag_number (withdrawn (get_or (decode T).changes (get_or T.order k 0) blank))
      flag_at = ap (λ (U : Tables). get_or U.withdrawn (get_or T.order k 0) 0) (sym (facts g).laid) ∙ withdrawn-at n (decode T) (get_or T.order k 0)

      pub already-replied : (get_or T.withdrawn (get_or T.order k 0) 0 ≡ 0 → ⊥) → reply (Answer.Refused 11) T ≡ item_call n T (withdrawing t)
      already-replied f = item-replied (withdrawing t) g (already n (decode T) t stamped from (position-change g t k m) ((flag-zero _).1 (λ z. f (flag_at ∙ z)))) refl

      pub done-replied : get_or T.withdrawn (get_or T.order k 0) 0 ≡ 0 → reply Answer.Done (flagged_in T (get_or T.order k 0)) ≡ item_call n T (withdrawing t)
      done-replied z =
          let here = place_of g k in
          item-replied (withdrawing t) g (not_yet n (decode T) t stamped from (position-change g t k m) ((flag-zero _).0 (sym flag_at ∙ z)))
          (ap (flagged_in T) here
          ∙ subst (λ (U : Tables). flagged_in U (get_or (decode T).order k 0) ≡ encode n (remove t (decode T))) (facts g).laid
          (removed n (decode T) (facts g).sound t k (omega (arith, (position_some g t k m).0, held-changes g, (facts g).sound.placed.counted)) (find-stamp t (history_in T) (position_some g t k m).1)))
