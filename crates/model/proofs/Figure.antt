-- What is proved of Figure 1 and of drains: the values as of a timestamp, that the round is the walk, and how a drain ends.
pub use Rattle.model.proofs.AsOf.{AllBelow, NoneBelow, as_of-all-below, as_of-none-below, as_of-append, after_all-append, as_of-first, rising-none-below}
pub use Rattle.model.proofs.Round.{round-walk}
pub use Rattle.model.proofs.Drains.{AllValid, DrainEnds, drain-ends, drain-within, drain-idle, drain-next}
