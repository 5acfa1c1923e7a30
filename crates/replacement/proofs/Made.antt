-- The new lists of a change that does not stand fit their slots.
use mathlib.Core.Path.{◌≡◌, refl, sym, ap, subst}
use mathlib.Core.List.{List}
use Prim.Native.Nat.{ℕ, ◌≤◌}
use native.Mathlib.Omega.{arith}
use lib.ListN.{length, take}
use Rattle.machine.specs.Settings.{Environment, entries, Distinct}
use Rattle.machine.specs.Instruction.{Code}
use Rattle.machine.specs.Run.{Outcome, run}
use Rattle.machine.proofs.Lists.{run-bounded}
use Rattle.run_record.specs.declared.Run.{Run}
use Rattle.run_record.specs.declared.Lists.{Lists}
use Rattle.run_record.specs.Record.{Sized}
use Rattle.writers.specs.Writers.{OfSettings}
use Rattle.values.proofs.Model.{new-settings}
use Rattle.acts.specs.declared.Act.{Act}
use Rattle.acts.specs.declared.Act.TheVariants as act
use Rattle.execution.specs.Executed.{Made}
use Rattle.replacement.specs.Replaced.{Fitting, new_columns}

no-settings : (count : ℕ) (l : List ℕ) → count ≡ 0 → OfSettings (take count l)
no-settings count l e = rw e (record { below = λ i h. absurd (omega (arith, h)) })

-- at most 32 writes, of settings
abbrev pub FirstWrites : Run → Lists → Type 0
FirstWrites r l = (r.writes ≤ 32) × OfSettings (take r.writes l.targets)

module _ {a : Act} {r : Run} {l : Lists} (env : Environment) (p : Code) (moves : a ≡ act.Stand → ⊥) (h : length p.bytes ≤ 256) where
  pub made-writes : length l.written ≡ 32 → Made a r l (run env p) → FirstWrites r l
  made-writes w m = go a refl
    where
      go : (b : Act) → a ≡ b → FirstWrites r l
      go act.Clear e = (omega (arith, (m.cleared e).1), no-settings r.writes l.targets (m.cleared e).1)
      go act.Stand e = absurd (moves e)
      go act.Run e =
          let o = m.ran e in
          let distinct : Distinct (entries r.writes l.targets l.written) = subst Distinct (sym (ap (λ (x : Outcome). x.writes) o.outcome)) (run-bounded env p h).1.distinct in
          (o.writes, new-settings r.writes l.targets l.written (omega (arith, o.writes, w)) distinct)

  made-reads : Made a r l (run env p) → r.reads ≤ 32
  made-reads m = go a refl
    where
      go : (b : Act) → a ≡ b → r.reads ≤ 32
      go act.Clear e = omega (arith, (m.cleared e).0)
      go act.Stand e = absurd (moves e)
      go act.Run e = (m.ran e).reads

  pub made-fits : Sized l → Made a r l (run env p) → Fitting (new_columns r l)
  made-fits z m =
      let w = made-writes z.written m in
      record { reads = made-reads m; writes = w.0; sources = z.sources; seen = z.seen; targets = z.targets; written = z.written; settings = w.1 }
