-- `writers::written_at`: where no slot looked through holds the setting, no entry is of it; else an entry of the setting, or the next one down.
use Rattle.std.proofs.Common.{◌≡◌, ◌*◌, ◌∙◌, sym, ap, drop, arith, rules}
use Rattle.machine.specs.Settings.{entries, lookup}
use Rattle.search.specs.Searches.{found_of}
use Rattle.writers.proofs.Named.{not_named}
use Rattle.writers.proofs.Steps.{write-here, write-lower}
use Rattle.writers.proofs.written_at.Goals as goal

pub returns-then-not-names_setting : goal.returns-then-not-names_setting
returns-then-not-names_setting c = sym (ap found_of (not_named c.args.s c.args.place c.args.count c.args.targets.now (drop (32 * c.args.place) c.args.written.now) c.names_setting.ensures c.if-not-names_setting.true))

pub loop-j-preserved : goal.loop-j-preserved
loop-j-preserved c = write-lower c.args.s (32 * c.args.place) c.args.targets.now c.args.written.now c.loop-j.j (omega arith) c.if-targets-start.false ∙ c.loop-j.invariant

pub returns-then-targets-start : goal.returns-then-targets-start
returns-then-targets-start c = let here = ap found_of (write-here c.args.s (32 * c.args.place) c.args.targets.now c.args.written.now c.loop-j.j (omega arith) (omega arith) (omega arith) c.if-targets-start.true ∙ c.loop-j.invariant) in search rules

pub returns : goal.returns
unfolding entries lookup
returns c = let e : c.loop-j.j ≡ 0 = omega arith in ap found_of (rw e at c.loop-j.invariant)
