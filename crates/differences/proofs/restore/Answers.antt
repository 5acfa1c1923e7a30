-- `differences::restore` meets its contract: a turn restores the next setting. Assumes nothing.
use Rattle.std.proofs.Common.{arith, rules, sym, ◌∙◌}
use Rattle.differences.proofs.Changed.{restored-ends, restored-next}
use Rattle.differences.proofs.restore.Goals as goal

pub loop-setting-preserved : goal.loop-setting-preserved
loop-setting-preserved c = restored-next c.args.settings.now c.args.after.now c.loop-setting.before c.loop-setting.setting-index (omega arith) (search rules) ∙ c.loop-setting.invariant

pub returns : goal.returns
returns c = sym (restored-ends c.args.settings.now c.args.after.now c.loop-setting.before c.loop-setting.setting-index (omega arith)) ∙ c.loop-setting.invariant
