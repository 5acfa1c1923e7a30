-- Laws of the test that seen values hold, entry by entry.
use mathlib.Core.Path.{◌≡◌, sym, ◌∙◌}
use mathlib.Core.Bool.{Bool, true, false, ◌&&◌}
use mathlib.Core.List.{List}
use Prim.Native.Nat.{ℕ, suc, ◌+◌, ◌-◌, ◌<◌, ◌≤◌}
use native.Mathlib.Numerals.{add-one}
use native.Mathlib.Omega.{arith}
use lib.IntN.{ℤ, pos}
use lib.ListN.{length, get_or, drop}
use lib.Seq.{drop-cons}
use mir.Syntax.{w32}
use mir.Val.{of_z}
use Rattle.machine.specs.Settings.{Environment, entries}
use Rattle.model.specs.History.{eq_z, all_hold}
use Rattle.model.proofs.Values.{eq_z-refl, other-bits}

-- do the entries from the i-th on hold
abbrev pub rest_hold : List ℕ → List ℤ → Environment → ℕ → Bool
rest_hold sources seen env i = all_hold (entries (length sources - i) (drop i sources) (drop i seen)) env

module _ (sources : List ℕ) (seen : List ℤ) (env : Environment) where
  pub rest_all : rest_hold sources seen env 0 ≡ all_hold (entries (length sources) sources seen) env
  rest_all = let e : length sources - 0 ≡ length sources = omega arith in rw e

  module _ (i : ℕ) where
    -- none is left
    pub rest-ends : length sources ≤ i → rest_hold sources seen env i ≡ true
    unfolding entries
    rest-ends h = let e : length sources - i ≡ 0 = omega arith in rw e

    -- this turn's setting and value, and the value as of the position
    module _ {s : ℕ} {u v : ℤ} (h : i < length sources) (g : length sources ≡ length seen) (p : s ≡ get_or sources i 0) (q : u ≡ get_or seen i (pos 0)) (r : v ≡ env s) where
      rest-first : rest_hold sources seen env i ≡ (eq_z u v && rest_hold sources seen env (i + 1))
      unfolding entries
      rest-first =
          let e : length sources - i ≡ suc (length sources - (i + 1)) = omega arith in
          let k : i < length seen = omega arith in
          rw (e, drop-cons sources i 0, drop-cons seen i (pos 0), add-one, r, p, q)

      -- the i-th holds
      pub rest-holds : v ≡ u → rest_hold sources seen env (i + 1) ≡ rest_hold sources seen env i
      rest-holds e = sym (rest-first ∙ rw (e, eq_z-refl u))

      -- it does not
      pub rest-fails : (of_z w32 v ≡ of_z w32 u → ⊥) → false ≡ rest_hold sources seen env i
      rest-fails n = sym (rest-first ∙ rw (other-bits u v (λ e. n (sym e))))
