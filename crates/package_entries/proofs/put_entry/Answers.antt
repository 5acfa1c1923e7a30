use Rattle.std.proofs.Common.{arith}
use Rattle.text.proofs.Pieces.{put_then}
use Rattle.package_entries.proofs.put_entry.Goals as goal

pub returns : goal.returns
returns c = put_then c.put_little_endian-end.ensures (omega arith) c.put.ensures
