-- Altered, then marked, followed and restored.
use Rattle.std.proofs.Common.{refl}
use Rattle.propagation.proofs.Propagates.{propagated}
use Rattle.propagation.proofs.propagate.Goals as goal

pub returns : goal.returns
returns c = propagated c.alter-count.ensures c.mark_settings.ensures c.follow_view.ensures refl c.restore.ensures refl
