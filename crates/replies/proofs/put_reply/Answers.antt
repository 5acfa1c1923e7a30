-- `replies::put_reply` meets its contract: the line of a refused package, or the lines of the entries, of the turns and of the settings. Assumes nothing.
use Rattle.std.proofs.Common.{arith}
use Rattle.text.proofs.Pieces.{put_as, put_then}
use Rattle.model.specs.Answers.{as_done}
use Rattle.model.proofs.Form.{facts}
use Rattle.replies.proofs.Outcomes.{done-number, reply-answered}
use Rattle.replies.proofs.put_reply.Goals as goal

pub put_settings-requires : goal.put_settings-requires
put_settings-requires c =
    let answered = c.requires.answered (done-number _ c.in_default.not-Err) in
    (omega (arith, c.put_turns-end.auto.view, (facts answered.formed).sizes.view), omega (arith, c.requires.answers_len.1))

pub returns-clause-replied : goal.returns-clause-replied
returns-clause-replied c =
    put_as (put_then (put_then c.put_entries-end.ensures.put (omega arith) c.put_turns-end.ensures.put) (omega arith) c.put_settings.ensures.put)
    (reply-answered c.args.bytes.now c.args.answers.now (as_done c.args.answer) _ (done-number _ c.in_default.not-Err) c.put_turns-end.ensures.left)
