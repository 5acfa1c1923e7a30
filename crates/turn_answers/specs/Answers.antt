-- What a turn answers of its change, by what is done with it.
use Rattle.std.specs.Prelude.{ℕ}
use Rattle.run_record.specs.declared.Run.{Run}
use Rattle.run_record.specs.Record.{ending_of}
use Rattle.model.specs.Answers.{Turned}
use Rattle.model.specs.Calls.{run_answer}
use Rattle.acts.specs.declared.Act.{Act}
use Rattle.acts.specs.declared.Act.TheVariants as act

-- the answer; where the change ran, by how that run ended
abbrev pub answer_by : Act → Run → ℕ → Turned
answer_by act.Clear r t = Turned.Cleared t
answer_by act.Stand r t = Turned.Stood t
answer_by act.Run r t = run_answer t (ending_of r)
