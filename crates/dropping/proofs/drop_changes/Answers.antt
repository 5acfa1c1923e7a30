-- `dropping::drop_changes` meets its contract: what is relied on of all held changes is so of the first of them. Assumes nothing.
use Rattle.std.proofs.Common.{arith}
use Rattle.search.proofs.Steps.{rank-within}
use Rattle.dropping.proofs.drop_changes.Goals as goal

pub carry_first-requires : goal.carry_first-requires
carry_first-requires c =
    let w = c.requires.0.wrote in
    let n = c.held_count-count.result in
    let within = rank-within c.args.order.now c.args.timestamps.now c.args.timestamp n in (
      record {
        placed = record { long = omega (arith, w.placed.long); below = λ j q. w.placed.below j (omega arith) };
        listed = w.listed;
        settings = λ j q. w.settings j (omega arith);
      },
      omega arith,
    )

pub renumber-requires : goal.renumber-requires
renumber-requires c =
    let d = c.requires.0 in
    let n = c.held_count-count.result in
    let within = rank-within c.args.order.now c.args.timestamps.now c.args.timestamp n in
    record {
      some-remain = omega arith;
      long = omega (arith, d.stamped.long);
      below = λ k h. omega (arith, d.stamped.below k (omega arith), d.capacity);
    }
