-- The run of a change and its new lists, and what they rely on, on the lent lists.
use Rattle.std.specs.Prelude.{◌≡◌, true, List, ℕ, ◌*◌, ◌≤◌, length, get_or}
use Rattle.machine.specs.Form.{all_well_formed}
use Rattle.machine.specs.Run.{Outcome}
use Rattle.run_record.specs.declared.Run.{Run}
use Rattle.run_record.specs.declared.Lists.{Lists}
use Rattle.run_record.specs.Record.{Ran}
use Rattle.model.specs.Tables.{program_in}
use Rattle.acts.specs.declared.Act.{Act}
use Rattle.acts.specs.declared.Act.TheVariants as act
use Rattle.acts.specs.Acts.{Positioned}

-- what the run relies on
pub record Runnable (k : ℕ) (order lengths programs : List ℕ) : Type 0 where
  pub at : Positioned k order (length lengths)
  pub blocks : length programs ≡ 256 * length lengths
  pub short : get_or lengths (get_or order k 0) 0 ≤ 32
  pub formed : all_well_formed (program_in lengths programs (get_or order k 0)) ≡ true

-- the record and the arrays of new lists: none where the change is cleared, and those of its run where it runs
pub record Made (a : Act) (r : Run) (l : Lists) (o : Outcome) : Type 0 where
  pub cleared : a ≡ act.Clear → (r.reads ≡ 0) × (r.writes ≡ 0)
  pub ran : a ≡ act.Run → Ran r l o
