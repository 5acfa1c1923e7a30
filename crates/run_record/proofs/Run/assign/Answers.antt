-- `run_record::Run::assign` meets its contract: the eight picks are the registers with one set.
use Rattle.std.proofs.Common.{◌≡◌, refl, [], ◌∷◌, length, rules}
use Rattle.bytecode.proofs.Numbers.{◌then◌}
use Rattle.run_record.proofs.Registers.{picks}
use Rattle.run_record.proofs.Run.assign.Goals as goal

pub returns : goal.returns
returns c =
    let r = c.args.self in
    let eight : length r.registers ≡ 8 = search rules in
    let set =
    picks r.registers
    (c.pick.result ∷ c.pick-2.result ∷ c.pick-3.result ∷ c.pick-4.result ∷ c.pick-5.result ∷ c.pick-6.result ∷ c.pick-7.result ∷ c.pick-8.result ∷ [])
    c.args.a eight refl c.requires c.ranges.v
    ((c.pick.ensures, search rules)
    then (c.pick-2.ensures, search rules)
    then (c.pick-3.ensures, search rules)
    then (c.pick-4.ensures, search rules)
    then (c.pick-5.ensures, search rules)
    then (c.pick-6.ensures, search rules)
    then (c.pick-7.ensures, search rules)
    then (c.pick-8.ensures, search rules)
    then tt) in
    λ i. record { version = r.version; registers = set i; place = r.place; reads = r.reads; writes = r.writes; status = r.status }
