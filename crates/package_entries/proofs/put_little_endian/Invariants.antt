-- the bytes before the index are put
use Rattle.package_entries.proofs.Numbers.{Written}
use Rattle.package_entries.proofs.put_little_endian.Given as goal

abbrev pub invariant-loop-byte : goal.invariant-loop-byte
invariant-loop-byte l = Written l.number l.size l.part l.rest l.byte-index
