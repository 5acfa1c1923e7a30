-- Each value is noted as known.
use Rattle.std.proofs.Common.{true, false}
use Rattle.std.proofs.Math.ListN.{get_or-replicate}
use Rattle.values.proofs.KnownValues.all.Goals as goal

pub returns-clause-known : goal.returns-clause-known
returns-clause-known c s h = get_or-replicate 1024 s true false h
