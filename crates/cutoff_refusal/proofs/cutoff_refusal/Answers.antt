-- The tests of the tables, then those of the cutoff.
use Rattle.tables.proofs.Faults.{faultless}
use Rattle.cutoff_tests.proofs.Model.{testable}
use Rattle.cutoff_refusal.proofs.Judged.{judged}
use Rattle.cutoff_refusal.proofs.cutoff_refusal.Goals as goal

pub refusal_of-requires : goal.refusal_of-requires
refusal_of-requires c = λ z. testable (faultless _ _ c.fault-wrong.ensures z) c.args.timestamp

pub returns : goal.returns
returns c = judged _ _ _ c.fault-wrong.ensures c.refusal_of.ensures
