use Rattle.std.proofs.Common.{ap, ◌∙◌, eq-eqb, ne_eqb}
use Rattle.machine.specs.Settings.{setting_count}
use Rattle.model.specs.Answers.{Answer}
use Rattle.model.specs.Calls.{plain_reply, start_values}
use Rattle.model.proofs.Start.{all_start}
use Rattle.query_answers.proofs.start_values.Goals as goal

pub returns-then-settings-ne1024 : goal.returns-then-settings-ne1024
unfolding start_values
returns-then-settings-ne1024 c = rw (ne_eqb _ setting_count c.if-settings-ne1024.true)

pub returns : goal.returns
unfolding start_values
returns c = rw (eq-eqb _ setting_count c.if-settings-ne1024.false) (ap (plain_reply Answer.Done) (c.fill_start.ensures ∙ all_start))
