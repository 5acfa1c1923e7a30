use Rattle.std.proofs.Common.{◌≡◌, ap, length, ℕ, arith}
use Rattle.text.proofs.Pieces.{copied}
use Rattle.model.specs.Package.{number_bytes}
use Rattle.package_entries.proofs.Numbers.{written_next, written_all}
use Rattle.package_entries.proofs.put_little_endian.Goals as goal

pub loop-byte-preserved : goal.loop-byte-preserved
loop-byte-preserved c =
    let long : length c.loop-byte.part ≡ c.args.size = omega (arith, c.loop-byte.auto.part) in
    written_next c.loop-byte.invariant (omega arith) long

pub returns : goal.returns
returns c =
    let long : length c.loop-byte.part ≡ c.args.size = omega (arith, c.loop-byte.auto.part) in
    let e = written_all c.loop-byte.invariant (omega arith) long in
    let n : length (number_bytes c.args.size c.args.number) ≡ c.args.size = omega (arith, ap (length {A = ℕ}) e) in
    rw n at (copied c.args.at (number_bytes c.args.size c.args.number) c.args.bytes.now c.loop-byte.part e)
