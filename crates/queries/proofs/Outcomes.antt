-- The calls that only read, on tables: refused for the tables, or the answer on tables in form.
use mathlib.Core.Path.{◌≡◌, refl, sym, ap, ap₂, ◌∙◌}
use mathlib.Core.Bool.{Bool, true, false, cond, not, and-true, and-false}
use mathlib.Core.List.{List, [], ◌∷◌}
use mathlib.Core.Option.{Option, none, some}
use Prim.Native.Nat.{ℕ}
use native.Mathlib.Omega.{arith}
use borrow.Author.Tests.{eq-eqb, ne_eqb}
use lib.Dec.{ltb}
use lib.IntN.{ℤ}
use lib.ListN.{length, get_or}
use Rattle.machine.specs.Settings.{setting_count, value_in}
use Rattle.model.specs.Answers.{Answer, Value, Standing}
use Rattle.model.specs.History.{is_timestamp, all_settings}
use Rattle.model.specs.Cabinet.{kept_values_in, history_of, find}
use Rattle.model.specs.Tables.{Tables, held_count, cutoff_in, program_at, decode}
use Rattle.model.specs.Form.{lengths_fit, Formed}
use Rattle.model.specs.Refusals.{test, first_of, no_timestamp, no_time, below_cutoff, no_setting, not_held, fault_of}
use Rattle.model.specs.Calls.{unless_read, current_value, value_as_of, standing_of, standing, plain_reply, plain_run}
use Rattle.model.proofs.Values.{all-value}
use Rattle.model.proofs.Tables.{status-at, withdrawn-at}
use Rattle.model.proofs.Form.{facts}
use Rattle.writers.specs.Writers.{WriteLists}
use Rattle.search.specs.Searches.{PlacesWithin}
use Rattle.writers.proofs.Model.{listed, as-of}
use Rattle.search.proofs.Model.{position_in, placed-stamps, place_of, position-none, position_some}
use Rattle.values.proofs.Model.{kept_in}
use Rattle.fresh.specs.HeldRuns.{held_run}
use Rattle.fresh.proofs.Model.{held-fresh}
use Rattle.tables.proofs.Faults.{faulty, formed-first}
use Rattle.query_answers.specs.Queries.{current_answer, as_of_answer, standing_found, standing_answer}

-- ---- current value

module _ (n : ℕ) (T : Tables) (s : ℕ) where
  pub current-fault : {r : ℕ} → r ≡ fault_of n T → (r ≡ 0 → ⊥) → Value.Refused r ≡ current_value n T s
  unfolding current_value
  current-fault e f = rw (faulty n T e (no_setting s ∷ []) f, ne_eqb _ 0 f)

  pub current-formed : Formed n T → current_answer T.view s ≡ current_value n T s
  unfolding current_value
  current-formed g = rw (formed-first g (no_setting s ∷ []))

-- ---- value as of

-- what the search asks
pub as-of-asks : {n k : ℕ} {T : Tables} → Formed n T → k ≡ held_count T → PlacesWithin k T.order (length T.timestamps) × (length T.writes ≡ length T.timestamps) × WriteLists T.writes T.targets T.written × (length T.kept ≡ setting_count)
as-of-asks g e = rw e (placed-stamps g, omega (arith, (facts g).sizes.writes, (facts g).sizes.timestamps), listed g, (facts g).sizes.kept)

module _ (n : ℕ) (T : Tables) (t s : ℕ) where
  pub as-of-fault : {r : ℕ} → r ≡ fault_of n T → (r ≡ 0 → ⊥) → Value.Refused r ≡ value_as_of n T t s
  unfolding value_as_of
  as-of-fault e f = rw (faulty n T e (no_time t ∷ below_cutoff (cutoff_in T) t ∷ no_setting s ∷ []) f, ne_eqb _ 0 f)

  pub as-of-formed : {k : ℕ} → Formed n T → k ≡ held_count T → as_of_answer T.order T.timestamps T.writes T.targets T.written T.kept (cutoff_in T) k t s ≡ value_as_of n T t s
  unfolding value_as_of
  as-of-formed g e = rw (formed-first g (no_time t ∷ below_cutoff (cutoff_in T) t ∷ no_setting s ∷ []), e, kept_in T, as-of g (value_in T.kept) s t)

-- ---- standing

-- what the search asks
pub standing-asks : {n k : ℕ} {T : Tables} → Formed n T → k ≡ held_count T → PlacesWithin k T.order (length T.timestamps) × (length T.status ≡ length T.timestamps) × (length T.withdrawn ≡ length T.timestamps)
standing-asks g e =
    let l = (facts g).sizes in
    rw e (placed-stamps g, omega (arith, l.status, l.timestamps), omega (arith, l.withdrawn, l.timestamps))

module _ (n : ℕ) (T : Tables) (t : ℕ) where
  pub standing-fault : {r : ℕ} → r ≡ fault_of n T → (r ≡ 0 → ⊥) → Standing.Refused r ≡ standing n T t
  unfolding standing
  standing-fault e f = rw (faulty n T e (no_timestamp t ∷ below_cutoff (cutoff_in T) t ∷ not_held (decode T) t ∷ []) f, ne_eqb _ 0 f)

  pub standing-formed : {k : ℕ} → Formed n T → k ≡ held_count T → standing_answer T.order T.timestamps T.status T.withdrawn (cutoff_in T) k t ≡ standing n T t
  unfolding standing
  standing-formed g e = rw (formed-first g (no_timestamp t ∷ below_cutoff (cutoff_in T) t ∷ not_held (decode T) t ∷ []), e) (go (is_timestamp t) (ltb t (cutoff_in T)) (position_in T t) refl)
    where
      go : (b cut : Bool) (p : Option ℕ) → position_in T t ≡ p → cond (not b) (Standing.Refused 4) (cond cut (Standing.Refused 14) (standing_found T.order T.status T.withdrawn p)) ≡ unless_read (first_of (test 4 (not b) ∷ test 14 cut ∷ not_held (decode T) t ∷ [])) Standing.Refused (standing_of (find t (history_of (decode T))))
      go false cut p q = refl
      go true true p q = refl
      go true false none q = rw (position-none g t q)
      go true false (some k) q =
          let place = get_or (decode T).order k 0 in
          let laid = sym (facts g).laid in
          let here = place_of g k in
          rw (position_some g t k q).1
          (ap₂ Standing.At (ap₂ (λ (U : Tables) (i : ℕ). get_or U.status i 0) laid here ∙ status-at n (decode T) place) (ap₂ (λ (U : Tables) (i : ℕ). get_or U.withdrawn i 0) laid here ∙ withdrawn-at n (decode T) place))

-- ---- plain run

module _ (n : ℕ) (T : Tables) (settings : List ℤ) where
  pub plain-wrong-length : (length settings ≡ setting_count → ⊥) → plain_reply (Answer.Refused 1) settings ≡ plain_run n T settings
  unfolding plain_run
  plain-wrong-length h = rw (ne_eqb _ setting_count h, and-false (lengths_fit n T))

  module _ (l : length settings ≡ setting_count) where
    pub plain-fault : {r : ℕ} → r ≡ fault_of n T → (r ≡ 0 → ⊥) → plain_reply (Answer.Refused r) settings ≡ plain_run n T settings
    unfolding plain_run
    plain-fault e f = rw (eq-eqb _ setting_count l, and-true (lengths_fit n T), ← e, ne_eqb _ 0 f)

    pub plain_done : {k : ℕ} {values : List ℤ} → Formed n T → k ≡ held_count T → values ≡ held_run T.order T.withdrawn (program_at T) T.kept k → plain_reply Answer.Done values ≡ plain_run n T settings
    unfolding plain_run
    plain_done g e h = rw (eq-eqb _ setting_count l, g.sized, g.form) (ap (plain_reply Answer.Done) (h ∙ ap₂ (λ (values : List ℤ) (m : ℕ). held_run T.order T.withdrawn (program_at T) values m) (sym (all-value T.kept (facts g).sizes.kept) ∙ ap all_settings (sym (kept_in T))) e ∙ held-fresh g (kept_values_in (decode T))))
