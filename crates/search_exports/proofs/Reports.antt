-- What the searches report, by outcome.
use mathlib.Core.Path.{◌≡◌}
use mathlib.Core.List.{List}
use Prim.Native.Nat.{ℕ}
use borrow.Author.Tests.{eq-eqb}
use lib.IntN.{ℤ}
use lib.ListN.{length, get_or}
use Rattle.general.specs.Lists.{tabulate}
use Rattle.search.specs.Searches.{found_of}
use Rattle.writers.specs.Writers.{previous_write}
use Rattle.search_exports.specs.Answers.{table_refusal, number_of, search_report, searches_report}

module _ (settings : List ℕ) (position : ℕ) (order writes targets : List ℕ) (written answers : List ℤ) where
  -- the number of the i-th setting's previous write
  abbrev pub found_at : ℕ → ℤ
  found_at i = number_of (found_of (previous_write order writes targets written (get_or settings i 0) position))

  pub searched : length settings ≡ length answers → {r : ℕ} → r ≡ table_refusal position order writes (length targets) (length written) → r ≡ 0 → {after : List ℤ} → after ≡ tabulate (length answers) found_at → search_report 0 after ≡ searches_report settings position order writes targets written answers
  unfolding searches_report
  searched one_each e z h = rw (eq-eqb (length settings) (length answers) one_each, ← e, z, h, one_each)
