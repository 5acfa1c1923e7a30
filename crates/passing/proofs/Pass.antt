-- A drain's pass up the order list, change by change.
use mathlib.Core.Path.{◌≡◌}
use mathlib.Core.List.{List}
use Prim.Native.Nat.{ℕ, ◌+◌, ◌<◌, ◌≤◌}
use native.Mathlib.Omega.{arith}
use lib.ListN.{replicate}
use Rattle.model.specs.Answers.{Turned}
use Rattle.model.specs.Drain.{total_count}
use Rattle.model.specs.Tables.{Tables, held_count}
use Rattle.model.specs.Calls.{reply}
use Rattle.search.specs.Searches.{is_waiting}
use Rattle.search.proofs.First.{none_first}
use Rattle.values.specs.declared.KnownValues.{KnownValues}
use Rattle.uses.specs.declared.SettingUses.{SettingUses}
use Rattle.turns.specs.Turns.{Going}
use Rattle.totals.specs.Counted.{counted_in}
use Rattle.drain_steps.specs.Passed.{Passed}
use Rattle.passing.specs.Drained.{drained}
use Rattle.passing.proofs.Drains.{Draining, drain-begins, drain-passed, drain-ends-here}

-- `counted` has the totals of the turns so far, which have gone up to position k
pub record Passing (T₀ T : Tables) (counted : List ℕ) (k : ℕ) (v : KnownValues) (u : SettingUses) : Type 0 where
  pub within : k ≤ held_count T
  pub drains : Draining T₀ T counted
  pub going : Going k T v u

-- before the first change
pub pass-begins :
    {T : Tables} {counted : List ℕ} {first : ℕ} {v : KnownValues} {u : SettingUses} →
    first ≤ held_count T →
    Going first T v u →
    counted ≡ replicate total_count 0 →
    Passing T T counted first v u
pass-begins {T} h p z = record { within = h; drains = drain-begins T p.formed z; going = p }

-- one change further
pub pass-next :
    {T₀ T U : Tables} {counted counted' : List ℕ} {k : ℕ} {v v' : KnownValues} {u u' : SettingUses} {a : Turned} →
    Passing T₀ T counted k v u →
    k < held_count U →
    Passed a T U × Going (k + 1) U v' u' →
    counted' ≡ counted_in a counted →
    Passing T₀ U counted' (k + 1) v' u'
pass-next p h s c = record { within = omega arith; drains = drain-passed _ p.drains.formed p.drains s.0 c; going = s.1 }

-- past the last change
pub pass-ends :
    {T₀ T : Tables} {counted : List ℕ} {k : ℕ} {v : KnownValues} {u : SettingUses} →
    held_count T ≤ k →
    Passing T₀ T counted k v u →
    reply counted T ≡ drained T₀
pass-ends {T = T} l p =
    drain-ends-here _ p.drains.formed p.drains (none_first (is_waiting T.order T.status) (held_count T) (λ j h. p.going.passed j (omega arith)))
