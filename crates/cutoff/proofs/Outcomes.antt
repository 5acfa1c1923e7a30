-- The cutoff by outcome: refused with the tables as they were, or done.
use mathlib.Core.Path.{◌≡◌, ap}
use Prim.Native.Nat.{ℕ}
use borrow.Author.Tests.{eq-eqb, ne_eqb}
use Rattle.model.specs.Answers.{Answer}
use Rattle.model.specs.Cabinet.{cut_at}
use Rattle.model.specs.Tables.{Tables, encode, decode}
use Rattle.model.specs.Calls.{reply, raise_cutoff}
use Rattle.cutoff_refusal.specs.CutoffRefusal.{Judged}

module _ (n : ℕ) (T : Tables) (t : ℕ) {r : ℕ} (q : Judged n T t r) where
  pub cutoff-refused : (r ≡ 0 → ⊥) → reply (Answer.Refused r) T ≡ raise_cutoff n T t
  unfolding raise_cutoff
  cutoff-refused f = rw (← q.first, ne_eqb r 0 f)

  pub cutoff-done : r ≡ 0 → {U : Tables} → U ≡ encode n (cut_at t (decode T)) → reply Answer.Done U ≡ raise_cutoff n T t
  unfolding raise_cutoff
  cutoff-done z {U} u = rw (← q.first, eq-eqb r 0 z) (ap (reply Answer.Done) u)
