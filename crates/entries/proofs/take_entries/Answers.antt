-- `entries::take_entries` meets its contract: the loop has carried out the entries before its own. Assumes nothing.
use Rattle.std.proofs.Common.{◌∙◌, ap, ◌<◌, arith}
use Rattle.model.specs.Package.{entry_count, entry_at}
use Rattle.packages.proofs.Entries.{laid_out}
use Rattle.entry.proofs.Entry.{bytes-short, entry-inside, body-inside}
use Rattle.entries.proofs.Entries.{entries_none, answer-within, entry_ready, entries_next, entries-taken}
use Rattle.entries.proofs.take_entries.Goals as goal

pub entry_count-count-requires : goal.entry_count-count-requires
entry_count-count-requires c = (laid_out _ c.requires.laid_out).some_bytes

pub entry_at-body-requires : goal.entry_at-body-requires
entry_at-body-requires c = omega (arith, (laid_out _ c.requires.laid_out).few)

pub loop-j-init : goal.loop-j-init
loop-j-init c = entries_none c.requires (c.entry_at-body.ensures ∙ ap entry_at c.entry_count-count.ensures)

pub take_entry-answer-requires : goal.take_entry-answer-requires
take_entry-answer-requires c = entry_ready c.requires c.loop-j.invariant (omega arith)

pub bounds-answers-j : goal.bounds-answers-j
bounds-answers-j c = answer-within c.requires c.loop-j.invariant (omega arith)

pub count_at-requires : goal.count_at-requires
count_at-requires c = entry-inside (entry_ready c.requires c.loop-j.invariant (omega arith))

pub overflow_add-body : goal.overflow_add-body
overflow_add-body c =
    let within : c.loop-j.j < entry_count c.args.bytes.now = omega arith in
    let ready = entry_ready c.requires c.loop-j.invariant within in
    omega (arith, body-inside ready c.count_at.ensures, bytes-short ready)

pub loop-j-preserved : goal.loop-j-preserved
loop-j-preserved c =
    entries_next c.requires c.loop-j.invariant (omega arith) c.take_entry-answer.ensures c.answer_number-number.ensures c.count_at.ensures

pub returns : goal.returns
returns c = entries-taken c.requires c.loop-j.invariant (omega arith)
