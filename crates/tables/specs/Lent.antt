-- What the lent tables show: the record that the calls are defined on.
use Rattle.model.specs.Tables.{Tables as Contents, tables}
use Rattle.tables.specs.declared.Tables.{Tables}

abbrev pub shown : Tables → Contents
shown t =
    tables t.held.now t.timestamps.now t.order.now t.status.now t.withdrawn.now t.lengths.now t.programs.now t.reads.now t.writes.now t.sources.now t.seen.now t.targets.now t.written.now t.view.now t.versions.now t.cutoff.now t.kept.now
