-- `listing::put_listing` meets its contract: the lines of the reply to the package. Assumes nothing.
use Rattle.listing.proofs.Replies.{package-answered, listed}
use Rattle.listing.proofs.put_listing.Goals as goal

pub put_reply-requires-clause-answered : goal.put_reply-requires-clause-answered
put_reply-requires-clause-answered c = package-answered _ c.requires.fitting c.args.bytes.now c.args.answers.now c.take_in_anew-answer.ensures c.requires.answers_len.0

pub returns-clause-listed : goal.returns-clause-listed
returns-clause-listed c = listed _ c.requires.fitting c.args.bytes.now c.args.answers.now c.take_in_anew-answer.ensures c.put_reply.ensures.replied
