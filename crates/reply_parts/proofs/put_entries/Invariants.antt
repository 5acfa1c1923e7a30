-- So many lines are put, one for each entry passed.
use Rattle.text.proofs.Below.{Below}
use Rattle.reply_parts.specs.Parts.{entry_of}
use Rattle.reply_parts.proofs.put_entries.Given as goal

abbrev pub invariant-loop-j : goal.invariant-loop-j
invariant-loop-j l = Below (entry_of l.bytes l.answers) 64 0 l.count l.initial.text l.text l.end l.j
