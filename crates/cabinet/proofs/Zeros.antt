-- The tables that the program lends, all zeros, have the right lengths.
use mathlib.Core.Path.{◌≡◌}
use mathlib.Core.Bool.{true}
use Prim.Native.Nat.{ℕ}
use native.Mathlib.Omega.{arith}
use lib.IntN.{pos}
use lib.ListN.{replicate, length-replicate}
use Rattle.model.specs.Tables.{Tables, tables}
use Rattle.model.specs.Form.{lengths_fit}
use Rattle.model.proofs.Tests.{lengths-fit}
use Rattle.replies.specs.Replies.{capacity}

abbrev zeros : Tables
zeros =
    tables (replicate 1 0) (replicate 128 0) (replicate 128 0) (replicate 128 0) (replicate 128 0) (replicate 128 0) (replicate 32768 0) (replicate 128 0) (replicate 128 0) (replicate 4096 0) (replicate 4096 (pos 0)) (replicate 4096 0) (replicate 4096 (pos 0)) (replicate 1024 (pos 0)) (replicate 128 0) (replicate 1 0) (replicate 1024 (pos 0))

pub zeros-fit : lengths_fit capacity zeros ≡ true
zeros-fit =
    lengths-fit capacity zeros
    (record {
      some-capacity = omega arith;
      capacity = omega arith;
      held = length-replicate {A = ℕ} 1 0;
      timestamps = length-replicate {A = ℕ} 128 0;
      order = length-replicate {A = ℕ} 128 0;
      status = length-replicate {A = ℕ} 128 0;
      withdrawn = length-replicate {A = ℕ} 128 0;
      lengths = length-replicate {A = ℕ} 128 0;
      programs = length-replicate {A = ℕ} 32768 0;
      reads = length-replicate {A = ℕ} 128 0;
      writes = length-replicate {A = ℕ} 128 0;
      sources = length-replicate {A = ℕ} 4096 0;
      seen = length-replicate 4096 (pos 0);
      targets = length-replicate {A = ℕ} 4096 0;
      written = length-replicate 4096 (pos 0);
      view = length-replicate 1024 (pos 0);
      versions = length-replicate {A = ℕ} 128 0;
      cutoff = length-replicate {A = ℕ} 1 0;
      kept = length-replicate 1024 (pos 0);
    })
