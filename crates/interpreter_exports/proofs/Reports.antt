-- What an accepted program has, the number of an outcome, and the report of a run.
use mathlib.Core.Path.{◌≡◌, refl, sym, ap, ◌∙◌}
use mathlib.Core.Bool.{Bool, true, false, cond, ◌&&◌}
use mathlib.Core.List.{List, [], ◌∷◌}
use Prim.Native.Nat.{ℕ, zero, suc, ◌+◌, ◌*◌, ◌≤◌}
use native.Mathlib.Omega.{arith}
use borrow.Author.Tests.{eqb-true, not-false}
use lib.Dec.{eqb}
use lib.IntN.{ℤ}
use lib.ListN.{length, take}
use Rattle.machine.specs.Settings.{value_in, entries}
use Rattle.machine.specs.Instruction.{Code}
use Rattle.machine.specs.Form.{all_well_formed}
use Rattle.machine.specs.Run.{Outcome, run}
use Rattle.general.proofs.Cases.{both}
use Rattle.machine.proofs.Form.{length-short}
use Rattle.model.specs.Tables.{settings_of, values_of}
use Rattle.model.specs.Refusals.{wrong_program_length, no_version, malformed}
use Rattle.model.proofs.Items.{none-applies}
use Rattle.model.proofs.Entries.{settings-entries, values-entries, length-entries}
use Rattle.run_record.specs.declared.Run.{Run}
use Rattle.run_record.specs.declared.Lists.{Lists}
use Rattle.run_record.specs.Record.{ending_of, lists, Sized, Ran}
use Rattle.interpreter_exports.specs.Numbers.{refusal_of, outcome_number, run_refusal, over, reported, of_run, report_by, report}

-- a program that is not refused is short and well formed
accepted : (p : Code) → refusal_of p ≡ 0 → (length p.bytes ≤ 256) × (all_well_formed p.bytes ≡ true)
unfolding refusal_of
accepted p e =
    let z = none-applies (wrong_program_length p ∷ no_version p ∷ malformed p ∷ []) (omega arith) e in
    (length-short p.bytes (not-false _ z.0), not-false _ z.1.1.0)

-- ---- the report

module _ (code : Code) (values : List ℤ) (l : Lists) where
  abbrev refusal : ℕ
  refusal = run_refusal code (length l.sources) (length l.seen) (length l.targets) (length l.written)

  -- a refusal leaves the lent lists as they are
  pub refused : {n r : ℕ} → r ≡ refusal → (r ≡ 0 → ⊥) → n ≡ 16777216 + r → reported n l ≡ report code values l
  unfolding report
  refused {r = r} e z u = ap (λ (x : ℕ). reported x l) u ∙ go r z ∙ ap (λ (x : ℕ). report_by x (run (value_in values) code) l) e
    where
      go : (x : ℕ) → (x ≡ 0 → ⊥) → reported (16777216 + x) l ≡ report_by x (run (value_in values) code) l
      go zero z = absurd (z refl)
      go (suc x) z = refl

  -- a run that is not refused has 32 slots in each lent list, and an accepted program
  pub runnable : {r : ℕ} → r ≡ refusal → r ≡ 0 → Sized l × (length code.bytes ≤ 256) × (all_well_formed code.bytes ≡ true)
  runnable e z = go _ refl (sym e ∙ z)
    where
      go : (t : Bool) → (eqb (length l.sources) 32 && eqb (length l.seen) 32 && eqb (length l.targets) 32 && eqb (length l.written) 32) ≡ t → cond t (refusal_of code) 1 ≡ 0 → Sized l × (length code.bytes ≤ 256) × (all_well_formed code.bytes ≡ true)
      go false t q = absurd (omega arith)
      go true t q =
          let w = both _ t in
          let v = both _ w.0 in
          let u = both _ v.0 in
          let a = accepted code q in (
            record { sources = eqb-true _ 32 u.0; seen = eqb-true _ 32 u.1; targets = eqb-true _ 32 v.1; written = eqb-true _ 32 w.1 },
            a.0,
            a.1,
          )

  -- the record and the arrays of a run, copied over the lent lists
  pub ran : {n k : ℕ} {r : Run} {m : Lists} {a c : List ℕ} {b d : List ℤ} → k ≡ refusal → k ≡ 0 → Ran r m (run (value_in values) code) → Sized m
      → a ≡ over (take r.reads m.sources) l.sources → b ≡ over (take r.reads m.seen) l.seen
      → c ≡ over (take r.writes m.targets) l.targets → d ≡ over (take r.writes m.written) l.written
      → n ≡ outcome_number (r.reads + r.writes * 64) (ending_of r) → reported n (lists a b c d) ≡ report code values l
  unfolding report
  ran {r = r} {m} e z h f p q s t u =
      let reads : length (entries r.reads m.sources m.seen) ≡ r.reads = length-entries _ _ _ (omega (arith, h, f)) (omega (arith, h, f)) in
      let writes : length (entries r.writes m.targets m.written) ≡ r.writes = length-entries _ _ _ (omega (arith, h, f)) (omega (arith, h, f)) in
      let sources : settings_of (entries r.reads m.sources m.seen) ≡ take r.reads m.sources = settings-entries _ _ _ (omega (arith, h, f)) in
      let seen : values_of (entries r.reads m.sources m.seen) ≡ take r.reads m.seen = values-entries _ _ _ (omega (arith, h, f)) in
      let targets : settings_of (entries r.writes m.targets m.written) ≡ take r.writes m.targets = settings-entries _ _ _ (omega (arith, h, f)) in
      let written : values_of (entries r.writes m.targets m.written) ≡ take r.writes m.written = values-entries _ _ _ (omega (arith, h, f)) in
      (λ i. reported (u i) (lists (p i) (q i) (s i) (t i)))
      ∙ sym (λ i. reported (outcome_number (reads i + writes i * 64) (ending_of r)) (lists (over (sources i) l.sources) (over (seen i) l.seen) (over (targets i) l.targets) (over (written i) l.written)))
      ∙ ap (λ (o : Outcome). of_run o l) h.outcome
      ∙ ap (λ (x : ℕ). report_by x (run (value_in values) code) l) (sym z ∙ e)
