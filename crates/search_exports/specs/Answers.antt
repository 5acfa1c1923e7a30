-- Answers of the exported search as numbers.
use Rattle.std.specs.Prelude.{Bool, cond, ◌&&◌, List, ℕ, zero, suc, ◌*◌, eqb, ltb, leb, ℤ, pos, length, get_or, take, Option, Some, None}
use Rattle.general.specs.Lists.{all_below, tabulate}
use Rattle.search.specs.Searches.{found_of}
use Rattle.writers.specs.Writers.{previous_write}

-- is each of a list below a limit
abbrev pub each_below : ℕ → List ℕ → Bool
each_below limit l = all_below (length l) (λ i. ltb (get_or l i 0) limit)

-- 1 where a table has a wrong length, else 2 where one of the first entries of the order list is no place or a count is above 32, else 0
unfoldable pub table_refusal : ℕ → List ℕ → List ℕ → ℕ → ℕ → ℕ
table_refusal position order writes targets written =
    cond ((leb (length writes) 4096 && leb position (length order)) && (eqb targets (32 * length writes) && eqb written (32 * length writes)))
    (cond (each_below (length writes) (take position order) && each_below 33 writes) 0 2)
    1

-- a found value, or 2^32
abbrev pub number_of : Option ℤ → ℤ
number_of (Some v) = v
number_of None = pos 4294967296

-- what the searches give their caller: a number, and what the lent answers hold
pub record Report : Type 0 where
  pub number : ℕ
  pub answers : List ℤ

abbrev pub search_report : ℕ → List ℤ → Report
search_report number answers = record { number = number; answers = answers }

-- the answers of searches that are not refused, else those that were there
abbrev pub report_by : ℕ → List ℤ → List ℤ → Report
report_by zero found answers = search_report 0 found
report_by (suc refusal) found answers = search_report (suc refusal) answers

-- 1 where there is not one answer for each setting, else the refusal of the tables, else each setting's previous write
unfoldable pub searches_report : List ℕ → ℕ → List ℕ → List ℕ → List ℕ → List ℤ → List ℤ → Report
searches_report settings position order writes targets written answers =
    report_by (cond (eqb (length settings) (length answers)) (table_refusal position order writes (length targets) (length written)) 1)
    (tabulate (length settings) (λ i. number_of (found_of (previous_write order writes targets written (get_or settings i 0) position))))
    answers
