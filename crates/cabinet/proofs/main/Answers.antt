-- The tables that `cabinet::main` lends have the right lengths.
use mathlib.Core.Path.{sym}
use Prim.Native.Nat.{ℕ}
use native.Mathlib.Nat.{le_of_eq}
use lib.ListN.{length-replicate}
use Rattle.cabinet.proofs.Zeros.{zeros-fit}
use Rattle.cabinet.proofs.main.Goals as goal

pub put_listing-end-requires : goal.put_listing-end-requires
put_listing-end-requires c = record {
  fitting = zeros-fit;
  answers_len = (length-replicate {A = ℕ} 512 0, le_of_eq (sym (length-replicate {A = ℕ} 131072 0)));
}
