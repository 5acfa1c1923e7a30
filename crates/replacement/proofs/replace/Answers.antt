-- The new lists, what follows from them, and they are stored.
use Rattle.std.proofs.Common.{◌≡◌, length, rules}
use Rattle.run_record.specs.Record.{Sized}
use Rattle.replacement.proofs.Replaces.{propagable, new-writes, storable}
use Rattle.replacement.proofs.replace.Goals as goal

pub propagate-requires : goal.propagate-requires
propagate-requires c =
    let t : length c.new_lists-run.new.lists.targets ≡ 32 = search rules in
    let w : length c.new_lists-run.new.lists.written ≡ 32 = search rules in
    propagable c.requires.1 _ c.requires.0 t w c.new_lists-run.ensures

pub put_lists-requires : goal.put_lists-requires
put_lists-requires c =
    let z : Sized c.new_lists-run.new.lists = search rules in
    storable c.requires.1 _ c.requires.0 z.targets z.written c.new_lists-run.ensures z

pub returns : goal.returns
returns c =
    let z : Sized c.new_lists-run.new.lists = search rules in
    record { arrays = _; sized = z; made = c.new_lists-run.ensures.0; follows = rw (new-writes c.requires.1 _ c.requires.0 z.targets z.written c.new_lists-run.ensures) at c.propagate.ensures; put = c.put_lists.ensures }
