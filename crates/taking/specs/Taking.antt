-- What taking in is lent of the tables, and what its parts store, as functions of the lent lists.
use Rattle.std.specs.Prelude.{List, ◌∷◌, ◌++◌, ℕ, ◌+◌, length, take, drop}
use Rattle.std.proofs.Math.Seq.{slice}
use Rattle.model.specs.Tables.{Tables, tables}

-- the tables with those that taking in is lent
abbrev pub with_lent : Tables → List ℕ → List ℕ → List ℕ → List ℕ → List ℕ → List ℕ → List ℕ → Tables
with_lent T held timestamps order lengths programs versions cutoff =
    tables held timestamps order T.status T.withdrawn lengths programs T.reads T.writes T.sources T.seen T.targets T.written T.view versions cutoff T.kept

-- the place of number count entered at a position of the first count entries of the order list: those from there on move up by one
abbrev pub entered : ℕ → ℕ → List ℕ → List ℕ
entered count position order = take position order ++ (count ∷ (slice position count order ++ drop (count + 1) order))

-- a list with another written over it from a slot on
abbrev pub copied : List ℕ → ℕ → List ℕ → List ℕ
copied source at destination = take at destination ++ source ++ drop (at + length source) destination
