-- Set up on tables: refused with the tables as they were, or the tables of an empty cabinet.
use mathlib.Core.Path.{◌≡◌, ap, ◌∙◌}
use mathlib.Core.Bool.{true, false}
use Prim.Native.Nat.{ℕ, ◌-◌, ◌*◌}
use native.Mathlib.Omega.{arith}
use lib.IntN.{pos}
use lib.ListN.{length, replicate}
use Rattle.model.specs.Answers.{Answer}
use Rattle.model.specs.History.{start, all_settings}
use Rattle.model.specs.Cabinet.{empty_cabinet}
use Rattle.model.specs.Tables.{Tables, tables, encode}
use Rattle.model.specs.Form.{lengths_fit}
use Rattle.model.specs.Calls.{reply, set_up}
use Rattle.model.proofs.Tests.{lengths-of}

-- as many zeros, counted otherwise
recounted : {A : Type 0} (z : A) {k m : ℕ} → k ≡ m → replicate k z ≡ replicate m z
recounted z e = ap (λ (i : ℕ). replicate i z) e

-- the tables of an empty cabinet are zeros, but for the view and the kept values
empty-tables : (n : ℕ) → encode n empty_cabinet ≡ tables (replicate 1 0) (replicate n 0) (replicate n 0) (replicate n 0) (replicate n 0) (replicate n 0) (replicate (256 * n) 0) (replicate n 0) (replicate n 0) (replicate (32 * n) 0) (replicate (32 * n) (pos 0)) (replicate (32 * n) 0) (replicate (32 * n) (pos 0)) (all_settings start) (replicate n 0) (replicate 1 0) (all_settings start)
unfolding encode
empty-tables n =
    let one : n - 0 ≡ n = omega arith in
    let bytes : 256 * n - 0 ≡ 256 * n = omega arith in
    let slots : 32 * n - 0 ≡ 32 * n = omega arith in
    let column = recounted {A = ℕ} 0 one in
    let settings = recounted {A = ℕ} 0 slots in
    let values = recounted (pos 0) slots in
    λ j. tables (replicate 1 0) (column j) (column j) (column j) (column j) (column j) (recounted {A = ℕ} 0 bytes j) (column j) (column j) (settings j) (values j) (settings j) (values j) (all_settings start) (column j) (replicate 1 0) (all_settings start)

-- the tables U are the tables T cleared: zeros, as many as there were, and the view and the kept values are the start
pub record Cleared (T U : Tables) : Type 0 where
  pub held : U.held ≡ replicate (length T.held) 0
  pub timestamps : U.timestamps ≡ replicate (length T.timestamps) 0
  pub order : U.order ≡ replicate (length T.order) 0
  pub status : U.status ≡ replicate (length T.status) 0
  pub withdrawn : U.withdrawn ≡ replicate (length T.withdrawn) 0
  pub lengths : U.lengths ≡ replicate (length T.lengths) 0
  pub programs : U.programs ≡ replicate (length T.programs) 0
  pub reads : U.reads ≡ replicate (length T.reads) 0
  pub writes : U.writes ≡ replicate (length T.writes) 0
  pub sources : U.sources ≡ replicate (length T.sources) 0
  pub seen : U.seen ≡ replicate (length T.seen) (pos 0)
  pub targets : U.targets ≡ replicate (length T.targets) 0
  pub written : U.written ≡ replicate (length T.written) (pos 0)
  pub view : U.view ≡ all_settings start
  pub versions : U.versions ≡ replicate (length T.versions) 0
  pub cutoff : U.cutoff ≡ replicate (length T.cutoff) 0
  pub kept : U.kept ≡ all_settings start

module _ (n : ℕ) (T : Tables) where
  pub set-up-refused : lengths_fit n T ≡ false → reply (Answer.Refused 1) T ≡ set_up n T
  unfolding set_up
  set-up-refused e = rw e

  pub all-cleared : {U : Tables} → lengths_fit n T ≡ true → Cleared T U → reply Answer.Done U ≡ set_up n T
  unfolding set_up
  all-cleared e c =
      let g = lengths-of n T e in
      rw (e, empty-tables n)
      (λ j.
      reply Answer.Done
      (tables ((c.held ∙ recounted 0 g.held) j) ((c.timestamps ∙ recounted 0 g.timestamps) j) ((c.order ∙ recounted 0 g.order) j) ((c.status ∙ recounted 0 g.status) j) ((c.withdrawn ∙ recounted 0 g.withdrawn) j) ((c.lengths ∙ recounted 0 g.lengths) j) ((c.programs ∙ recounted 0 g.programs) j) ((c.reads ∙ recounted 0 g.reads) j) ((c.writes ∙ recounted 0 g.writes) j) ((c.sources ∙ recounted 0 g.sources) j) ((c.seen ∙ recounted (pos 0) g.seen) j) ((c.targets ∙ recounted 0 g.targets) j) ((c.written ∙ recounted (pos 0) g.written) j) (c.view j) ((c.versions ∙ recounted 0 g.versions) j) ((c.cutoff ∙ recounted 0 g.cutoff) j) (c.kept j)))
