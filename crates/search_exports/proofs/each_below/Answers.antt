-- `search_exports::each_below`: all are below the limit, or some is not.
use Rattle.std.proofs.Common.{◌↔◌, ◌<◌, IsTrue, EachIndex, slice_index, rules}
use Rattle.search_exports.proofs.Refusals.{each-below}
use Rattle.search_exports.proofs.each_below.Goals as goal

pub returns : goal.returns
returns c = let h : IsTrue c.all.result ↔ EachIndex c.args.list.now (λ k. slice_index c.args.list.now k < c.args.limit) = search rules in each-below c.args.limit c.args.list.now c.all.result h
