-- What carrying out an entry of a package is lent of the tables, and requires.
use Rattle.std.specs.Prelude.{◌≡◌, true, List, ℕ, ◌<◌}
use Rattle.model.specs.Tables.{Tables, tables}
use Rattle.model.specs.Package.{entry_count, body_at, layout_fits}
use Rattle.tables.specs.Parts.{PartFormed}

-- the tables with those that the entries are lent: what items alter, and the cutoff
abbrev pub with_lent : Tables → List ℕ → List ℕ → List ℕ → List ℕ → List ℕ → List ℕ → List ℕ → List ℕ → List ℕ → Tables
with_lent T held timestamps order status withdrawn lengths programs versions cutoff =
    tables held timestamps order status withdrawn lengths programs T.reads T.writes T.sources T.seen T.targets T.written T.view versions cutoff T.kept

-- what carrying out entry j requires, whose body begins at `body`
pub record EntryReady (bytes : List ℕ) (j body : ℕ) (part : Tables → Tables) : Type 0 where
  pub laid_out : layout_fits bytes ≡ true
  pub within : j < entry_count bytes
  pub begins : body ≡ body_at bytes j
  pub formed : PartFormed part
