-- `lines::put_turn` meets its contract: of an idle turn and of a refusal nothing is put. Assumes nothing.
use Rattle.std.proofs.Common.{Ok, sym, ap, ◌∙◌}
use Rattle.text.proofs.Pieces.{put_as, put-nothing}
use Rattle.model.specs.Answers.{as_turned}
use Rattle.lines.specs.Lines.{turn_line}
use Rattle.lines.proofs.put_turn.Goals as goal

pub returns-in-Idle-clause-put : goal.returns-in-Idle-clause-put
returns-in-Idle-clause-put c = put_as (put-nothing c.args.at c.args.text.now) (ap (λ answer. turn_line (as_turned answer)) (sym (c.in-Ok.is ∙ ap Ok c.in-Idle.is)))

pub returns-in-Err-clause-put : goal.returns-in-Err-clause-put
returns-in-Err-clause-put c = put_as (put-nothing c.args.at c.args.text.now) (ap (λ answer. turn_line (as_turned answer)) (sym c.in-Err.is))
