-- `reply_parts::put_entries` meets its contract: line by line. Assumes nothing.
use Rattle.std.proofs.Common.{ap, ℕ, ◌<◌, get_or, arith}
use Rattle.text.specs.Pieces.{pieces_below}
use Rattle.text.proofs.Pieces.{put_as}
use Rattle.text.proofs.Below.{below_none, below_next, below_all}
use Rattle.model.specs.Package.{entry_count}
use Rattle.packages.proofs.Entries.{laid_out, entry-within}
use Rattle.lines.specs.Lines.{entry_line}
use Rattle.reply_parts.specs.Parts.{entry_of, entry_lines}
use Rattle.reply_parts.proofs.put_entries.Goals as goal

pub entry_count-count-requires : goal.entry_count-count-requires
entry_count-count-requires c = (laid_out _ c.requires.0).some_bytes

pub loop-j-init : goal.loop-j-init
loop-j-init c = below_none _ _ 0 _ _

pub kind_at-requires : goal.kind_at-requires
kind_at-requires c =
    let below : c.loop-j.j < entry_count c.args.bytes.now = omega (arith, c.entry_count-count.ensures) in
    entry-within _ (laid_out _ c.requires.0) _ below

pub bounds-answers-j : goal.bounds-answers-j
bounds-answers-j c = omega (arith, c.entry_count-count.ensures, (laid_out _ c.requires.0).few, c.requires.1)

pub put_entry-end-requires : goal.put_entry-end-requires
put_entry-end-requires c = omega (arith, c.entry_count-count.ensures, (laid_out _ c.requires.0).few, c.requires.2, c.loop-j.invariant.short, c.loop-j.invariant.same)

pub loop-j-preserved : goal.loop-j-preserved
loop-j-preserved c =
    let e = ap (λ (k : ℕ). entry_line c.loop-j.j k (get_or c.args.answers.now c.loop-j.j 0)) c.kind_at.ensures in
    below_next c.loop-j.invariant c.loop-j-test.true (omega arith) (put_as c.put_entry-end.ensures.put e) c.put_entry-end.ensures.upper_bound c.put_entry-end.auto.text

pub returns-clause-put : goal.returns-clause-put
unfolding entry_lines
returns-clause-put c =
    put_as (below_all c.loop-j.invariant c.loop-j-test.false) (ap (λ (k : ℕ). pieces_below k (entry_of c.args.bytes.now c.args.answers.now)) c.entry_count-count.ensures)

pub returns-clause-upper_bound : goal.returns-clause-upper_bound
returns-clause-upper_bound c = omega (arith, c.loop-j.invariant.short, c.loop-j.invariant.within, c.entry_count-count.ensures, (laid_out _ c.requires.0).few)
