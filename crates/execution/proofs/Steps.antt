-- The new lists that a turn makes, by what it does.
use mathlib.Core.Path.{◌≡◌}
use mathlib.Core.Logic.{◌⊎◌, inl, inr}
use Rattle.machine.specs.Run.{Outcome}
use Rattle.general.proofs.Cases.{impossible}
use Rattle.run_record.specs.declared.Run.{Run}
use Rattle.run_record.specs.declared.Lists.{Lists}
use Rattle.run_record.specs.Record.{Ran}
use Rattle.acts.specs.declared.Act.{Act}
use Rattle.acts.specs.declared.Act.TheVariants as act
use Rattle.execution.specs.Executed.{Made}

module _ {a : Act} {r : Run} {l : Lists} {o : Outcome} where
  pub made-ran : a ≡ act.Run → Ran r l o → Made a r l o
  made-ran e q = record { cleared = λ e'. impossible (cc); ran = λ e'. q }

  pub made_none : (a ≡ act.Clear) ⊎ (a ≡ act.Stand) → r.reads ≡ 0 → r.writes ≡ 0 → Made a r l o
  made_none (inl e) x y = record { cleared = λ e'. (x, y); ran = λ e'. impossible (cc) }
  made_none (inr e) x y = record { cleared = λ e'. (x, y); ran = λ e'. impossible (cc) }
