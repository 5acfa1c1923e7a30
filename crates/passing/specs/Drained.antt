-- A drain of tables in form: what it leaves.
use Rattle.std.specs.Prelude.{List, ℕ, length}
use Rattle.model.specs.Drain.{totals}
use Rattle.model.specs.Cabinet.{with_history}
use Rattle.model.specs.Tables.{Tables, encode, decode}
use Rattle.model.specs.Calls.{Reply, drain_of}

-- the totals and the tables after a drain of tables in form; their capacity is the length of the order list
abbrev pub drained : Tables → Reply (List ℕ)
drained T =
    let c = decode T in
    let d = drain_of c in
    record { answer = totals d.events; tables = encode (length T.order) (with_history c d.history d.view) }
