-- One step of the search for a writer, counting down.
use mathlib.Core.Path.{◌≡◌, refl, sym, ap, ◌∙◌}
use mathlib.Core.Bool.{true, false, cond}
use mathlib.Core.List.{List, [], ◌∷◌}
use mathlib.Core.Option.{Option, none, some}
use Prim.Native.Nat.{ℕ, zero, suc, ◌+◌, ◌-◌, ◌<◌, ◌≤◌}
use native.Mathlib.Numerals.{sub-one}
use native.Mathlib.Omega.{arith}
use borrow.Author.Tests.{eq-eqb, ne_eqb}
use lib.Dec.{eqb}
use lib.IntN.{ℤ, pos}
use lib.ListN.{length, get_or, drop, length-drop}
use lib.Seq.{get_or-drop}
use Rattle.general.proofs.Cases.{true-is-not-false}
use Rattle.machine.specs.Settings.{◌or_if◌, entries, lookup}
use Rattle.model.specs.Tables.{list_in}
use Rattle.std.specs.Prelude as prelude
use Rattle.std.specs.Prelude.{is_some}
use Rattle.search.specs.Searches.{found_of}
use Rattle.writers.specs.Writers.{previous_write}

-- ---- a write list, from its last entry

module _ (s : ℕ) where
  -- the last of some entries is of the setting
  last-here : (k : ℕ) (settings : List ℕ) (values : List ℤ) → k < length settings → k < length values → get_or settings k 0 ≡ s → lookup (entries (suc k) settings values) s ≡ some (get_or values k (pos 0))
  unfolding entries lookup
  last-here k [] values h g e = absurd (omega arith)
  last-here k (x ∷ settings) [] h g e = absurd (omega arith)
  last-here zero (x ∷ settings) (v ∷ values) h g e = rw (eq-eqb x s e)
  last-here (suc k) (x ∷ settings) (v ∷ values) h g e = rw (last-here k settings values (omega arith) (omega arith) e)

  -- the last of some entries is of another setting
  last-other : (k : ℕ) (settings : List ℕ) (values : List ℤ) → (get_or settings k 0 ≡ s → ⊥) → lookup (entries (suc k) settings values) s ≡ lookup (entries k settings values) s
  unfolding entries lookup
  last-other zero [] values n = refl
  last-other zero (x ∷ settings) [] n = refl
  last-other zero (x ∷ settings) (v ∷ values) n = rw (ne_eqb x s n)
  last-other (suc k) [] values n = refl
  last-other (suc k) (x ∷ settings) [] n = refl
  last-other (suc k) (x ∷ settings) (v ∷ values) n = ap (λ (later : Option ℤ). later or_if cond (eqb x s) (some v) none) (last-other k settings values n)

-- the value that the first j entries from a start on give a setting
abbrev pub first_writes : ℕ → ℕ → List ℕ → List ℤ → ℕ → Option ℤ
first_writes s start targets written j = lookup (entries j (drop start targets) (drop start written)) s

module _ (s start : ℕ) (targets : List ℕ) (written : List ℤ) where
  -- the entry below j is of the setting
  pub write-here : (j : ℕ) → 0 < j → start + j ≤ length targets → start + j ≤ length written → get_or targets (start + (j - 1)) 0 ≡ s → some (get_or written (start + (j - 1)) (pos 0)) ≡ first_writes s start targets written j
  write-here zero h a b e = absurd (omega arith)
  write-here (suc j) h a b e =
      rw (sub-one, ← get_or-drop)
      (sym (last-here s j (drop start targets) (drop start written) (simp length-drop (omega arith)) (simp length-drop (omega arith)) (get_or-drop start targets j 0 ∙ (rw sub-one at e))))

  -- the entry below j is of another setting
  pub write-lower : (j : ℕ) → 0 < j → (get_or targets (start + (j - 1)) 0 ≡ s → ⊥) → first_writes s start targets written (j - 1) ≡ first_writes s start targets written j
  write-lower zero h n = absurd (omega arith)
  write-lower (suc j) h n = rw sub-one (sym (last-other s j (drop start targets) (drop start written) (λ e. (rw sub-one at n) (sym (get_or-drop start targets j 0) ∙ e))))

-- ---- the previous write of a setting

-- what was found stands before another
or-if-here : (rest x : Option ℤ) {w : prelude.Option ℤ} → w ≡ found_of x → is_some w ≡ true → w ≡ found_of (x or_if rest)
or-if-here rest none p q = true-is-not-false (sym q ∙ ap is_some p)
or-if-here rest (some v) p q = p

-- where nothing was found, another stands
or-if-next : (rest x : Option ℤ) {w : prelude.Option ℤ} → w ≡ found_of x → is_some w ≡ false → (x or_if rest) ≡ rest
or-if-next rest none p q = refl
or-if-next rest (some v) p q = true-is-not-false (sym (ap is_some p) ∙ q)

module _ (order writes targets : List ℕ) (written : List ℤ) (s : ℕ) where
  -- the value that the change below k writes to the setting
  abbrev write_below : ℕ → Option ℤ
  write_below k = lookup (list_in writes targets written (get_or order (k - 1) 0)) s

  -- the change below k writes the setting
  pub previous-here : (k : ℕ) {w : prelude.Option ℤ} → 0 < k → w ≡ found_of (write_below k) → is_some w ≡ true → w ≡ found_of (previous_write order writes targets written s k)
  unfolding previous_write
  previous-here zero h p q = absurd (omega arith)
  previous-here (suc k) h p q = or-if-here _ _ (rw sub-one at p) q

  -- the change below k does not write the setting
  pub previous-lower : (k : ℕ) {w : prelude.Option ℤ} → 0 < k → w ≡ found_of (write_below k) → is_some w ≡ false → previous_write order writes targets written s (k - 1) ≡ previous_write order writes targets written s k
  unfolding previous_write
  previous-lower zero h p q = absurd (omega arith)
  previous-lower (suc k) h p q = rw sub-one (sym (or-if-next _ _ (rw sub-one at p) q))
