-- The lists of a change replaced: what each step of the code relies on, from what the steps before it give.
use mathlib.Core.Path.{◌≡◌, subst}
use mathlib.Core.List.{List}
use Prim.Native.Nat.{ℕ, ◌≤◌}
use lib.IntN.{ℤ}
use native.Mathlib.Omega.{arith}
use lib.ListN.{length, get_or, take}
use lib.Seq.{length-take-le}
use Rattle.machine.specs.Settings.{entries}
use Rattle.machine.specs.Instruction.{code}
use Rattle.machine.specs.Run.{run}
use Rattle.run_record.specs.declared.Run.{Run}
use Rattle.run_record.specs.declared.Lists.{Lists}
use Rattle.run_record.specs.Record.{Sized}
use Rattle.model.specs.Tables.{program_in}
use Rattle.values.specs.declared.KnownValues.{KnownValues}
use Rattle.values.specs.Values.{Looked}
use Rattle.values.proofs.Parts.{first-same, first-entries}
use Rattle.uses.specs.declared.SettingUses.{SettingUses}
use Rattle.uses.specs.Columns.{Columns}
use Rattle.storing.specs.Stored.{ListsStorable}
use Rattle.acts.specs.declared.Act.{Act}
use Rattle.acts.specs.declared.Act.TheVariants as act
use Rattle.execution.specs.Executed.{Made}
use Rattle.execution.proofs.Parts.{program-part, program_runs}
use Rattle.propagation.specs.Propagated.{values_at, Propagable}
use Rattle.replacement.specs.Replaced.{Replaceable, new_columns}
use Rattle.replacement.proofs.Made.{FirstWrites, made-writes, made-fits}

module _ {k : ℕ} {C : Columns} {seen written kept : List ℤ} {lengths programs status : List ℕ} {view : List ℤ} {v : KnownValues} {u : SettingUses} (r : Replaceable k C seen written kept lengths programs status view v u) where
  module _ (version : ℕ) {a : Act} (moves : a ≡ act.Stand → ⊥) {new : Run} {l : Lists} {v' : KnownValues} (t : length l.targets ≡ 32) (w : length l.written ≡ 32) (m : Made a new l (run (values_at C written kept k) (code version (program_in lengths programs (get_or C.order k 0)))) × Looked (values_at C written kept k) v v') where
    short : length (program_in lengths programs (get_or C.order k 0)) ≤ 256
    short = subst (λ (p : List ℕ). length p ≤ 256) (program-part r.runnable) (program_runs r.runnable).0

    fits : FirstWrites new l
    fits = made-writes _ _ moves short w m.0

    pub propagable : Propagable k C written kept (take new.writes l.targets) (take new.writes l.written) status view v' u
    propagable =
        let t' : new.writes ≤ length l.targets = omega (arith, fits.0, t) in
        let w' : new.writes ≤ length l.written = omega (arith, fits.0, w) in
        record {
          alterable = record { at = r.at; settings = r.settings; same = first-same new.writes l.targets l.written t' w'; short = omega (arith, length-take-le new.writes l.targets t', fits.0); new-settings = fits.1 };
          lookable = record { placed = r.lookable.placed; listed = r.lookable.listed; kept-sized = r.lookable.kept-sized; right = m.1.right };
          markable = r.markable;
          viewed = r.viewed;
          small = r.small;
        }

    -- the first entries of the arrays that are lent
    pub new-writes : entries (length (take new.writes l.targets)) (take new.writes l.targets) (take new.writes l.written) ≡ entries new.writes l.targets l.written
    new-writes = first-entries new.writes l.targets l.written (omega (arith, fits.0, t)) (omega (arith, fits.0, w))

    pub storable : Sized l → ListsStorable (get_or C.order k 0) (new_columns new l) C.reads C.writes C.sources seen C.targets written
    storable z = r.storable (new_columns new l) (made-fits _ _ moves short z m.0)
