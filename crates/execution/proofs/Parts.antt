-- The program of a place, as the part that the code lends, and its run.
use mathlib.Core.Path.{◌≡◌, ap, subst, ◌∙◌}
use mathlib.Core.Bool.{true}
use mathlib.Core.List.{List}
use Prim.Native.Nat.{ℕ, ◌*◌, ◌≤◌}
use native.Mathlib.Omega.{arith}
use lib.ListN.{length, get_or}
use Rattle.machine.specs.Settings.{Environment}
use Rattle.machine.specs.Instruction.{code}
use Rattle.machine.specs.Form.{all_well_formed}
use Rattle.machine.specs.Run.{run}
use Rattle.run_record.specs.declared.Run.{Run}
use Rattle.run_record.specs.declared.Lists.{Lists}
use Rattle.run_record.specs.Record.{Ran}
use Rattle.model.specs.Tables.{program_in}
use Rattle.general.proofs.Parts.{part, used-part}
use Rattle.values.proofs.Parts.{part_length}
use Rattle.execution.specs.Executed.{Runnable}

module _ {k : ℕ} {order lengths programs : List ℕ} (r : Runnable k order lengths programs) where
  abbrev place : ℕ
  place = get_or order k 0

  abbrev program : List ℕ
  program = part 256 place (8 * get_or lengths place 0) programs

  pub program-part : program ≡ program_in lengths programs place
  program-part = used-part 256 place (8 * get_or lengths place 0) programs

  pub program_runs : (length program ≤ 256) × (all_well_formed program ≡ true)
  program_runs = (omega (arith, part_length 256 place (8 * get_or lengths place 0) programs (omega (arith, r.at, r.blocks, r.short)), r.short), ap all_well_formed program-part ∙ r.formed)

-- a run of the program that was lent is a run of the place's
pub run_of : {r : Run} {l : Lists} (env : Environment) (version : ℕ) {p p' : List ℕ} → p ≡ p' → Ran r l (run env (code version p)) → Ran r l (run env (code version p'))
run_of {r} {l} env version e q = subst (λ (p : List ℕ). Ran r l (run env (code version p))) e q
