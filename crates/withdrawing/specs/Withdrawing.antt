-- What withdrawing is lent of the tables, and what it makes of a status.
use Rattle.std.specs.Prelude.{cond, List, ℕ, eqb}
use Rattle.model.specs.Tables.{Tables, tables}

-- the tables with those that withdrawing is lent
abbrev pub with_lent : Tables → List ℕ → List ℕ → List ℕ → List ℕ → List ℕ → List ℕ → Tables
with_lent T held timestamps order status withdrawn cutoff =
    tables held timestamps order status withdrawn T.lengths T.programs T.reads T.writes T.sources T.seen T.targets T.written T.view T.versions cutoff T.kept

-- Valid becomes Invalid
abbrev pub unsettled_number : ℕ → ℕ
unsettled_number s = cond (eqb s 1) 2 s
