-- The lengths are tested first, then every table is cleared.
use Rattle.std.proofs.Common.{sym, ◌∙◌}
use Rattle.model.proofs.Tests.{lengths-of}
use Rattle.setup.proofs.Empty.{set-up-refused, all-cleared}
use Rattle.setup.proofs.set_up.Goals as goal

pub returns-then-not-lengths_fit : goal.returns-then-not-lengths_fit
returns-then-not-lengths_fit c = set-up-refused _ _ (sym c.lengths_fit.ensures ∙ c.if-not-lengths_fit.true)

pub fill_start-requires : goal.fill_start-requires
fill_start-requires c = (lengths-of _ _ (sym c.lengths_fit.ensures ∙ c.if-not-lengths_fit.false)).view

pub fill_start-requires-2 : goal.fill_start-requires-2
fill_start-requires-2 c = (lengths-of _ _ (sym c.lengths_fit.ensures ∙ c.if-not-lengths_fit.false)).kept

pub returns : goal.returns
returns c =
    let a = c.clear_changes.ensures in
    let b = c.clear_lists.ensures in
    all-cleared _ _ (sym c.lengths_fit.ensures ∙ c.if-not-lengths_fit.false)
    (record {
      held = a.held;
      timestamps = a.timestamps;
      order = a.order;
      status = a.status;
      withdrawn = a.withdrawn;
      lengths = a.lengths;
      programs = a.programs;
      reads = b.reads;
      writes = b.writes;
      sources = b.sources;
      seen = b.seen;
      targets = b.targets;
      written = b.written;
      view = c.fill_start.ensures;
      versions = a.versions;
      cutoff = a.cutoff;
      kept = c.fill_start-2.ensures;
    })
