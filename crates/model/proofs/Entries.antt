-- Laws of lists of entries that stand as two columns.
use mathlib.Core.Path.{◌≡◌, refl, sym, ap, ◌∙◌}
use mathlib.Core.Bool.{Bool, true, false, cond, not, ◌||◌}
use mathlib.Core.List.{List, [], ◌∷◌}
use Prim.Native.Nat.{ℕ, zero, suc, ◌≤◌}
use native.Mathlib.Omega.{arith}
use borrow.Author.Tests.{ltb-true, lt-ltb, not-true}
use lib.Dec.{eqb, ltb}
use lib.IntN.{ℤ}
use lib.ListN.{length, take, length-map}
use lib.Seq.{length-take-le}
use Rattle.machine.specs.Settings.{setting_count, Entry, entry, named, entries, Distinct}
use Rattle.general.proofs.Cases.{both}
use Rattle.model.specs.Tables.{settings_of, values_of}
use Rattle.model.specs.Form.{holds, distinct_settings}

-- entries depend on the first k slots
pub entries-take : (k : ℕ) (settings : List ℕ) (values : List ℤ) → entries k (take k settings) (take k values) ≡ entries k settings values
unfolding entries
entries-take zero settings values = refl
entries-take (suc k) [] values = refl
entries-take (suc k) (s ∷ settings) [] = refl
entries-take (suc k) (s ∷ settings) (v ∷ values) = ap (entry s v ∷◌) (entries-take k settings values)

-- a list comes back from its columns
pub entries-columns : (l : List Entry) → entries (length l) (settings_of l) (values_of l) ≡ l
unfolding entries
entries-columns [] = refl
entries-columns (e ∷ l) = ap (e ∷◌) (entries-columns l)

pub settings-entries : (k : ℕ) (settings : List ℕ) (values : List ℤ) → k ≤ length values → settings_of (entries k settings values) ≡ take k settings
unfolding entries
settings-entries zero settings values h = refl
settings-entries (suc k) [] values h = refl
settings-entries (suc k) (s ∷ settings) [] h = absurd (omega arith)
settings-entries (suc k) (s ∷ settings) (v ∷ values) h = ap (s ∷◌) (settings-entries k settings values (omega arith))

pub values-entries : (k : ℕ) (settings : List ℕ) (values : List ℤ) → k ≤ length settings → values_of (entries k settings values) ≡ take k values
unfolding entries
values-entries zero settings values h = refl
values-entries (suc k) [] values h = absurd (omega arith)
values-entries (suc k) (s ∷ settings) [] h = refl
values-entries (suc k) (s ∷ settings) (v ∷ values) h = ap (v ∷◌) (values-entries k settings values (omega arith))

pub length-entries : (k : ℕ) (settings : List ℕ) (values : List ℤ) → k ≤ length settings → k ≤ length values → length (entries k settings values) ≡ k
length-entries k settings values h q =
    sym (length-map (entries k settings values) (λ (e : Entry). e.setting)) ∙ ap length (settings-entries k settings values q) ∙ length-take-le k settings h

-- ---- distinct settings

pub holds_named : (s : ℕ) (l : List Entry) → holds s (settings_of l) ≡ named s l
unfolding named
holds_named s [] = refl
holds_named s (e ∷ l) = rw (holds_named s l) (go (eqb e.setting s))
  where
    go : (t : Bool) → (t || named s l) ≡ cond t true (named s l)
    go true = refl
    go false = refl

pub distinct_of : (l : List Entry) → distinct_settings (settings_of l) ≡ true → Distinct l
unfolding Distinct
distinct_of [] h = tt
distinct_of (e ∷ l) h =
    let p = both (ltb e.setting setting_count) h in
    let q = both (not (holds e.setting (settings_of l))) p.1 in
    (ltb-true e.setting setting_count p.0, sym (holds_named e.setting l) ∙ not-true _ q.0, distinct_of l q.1)

pub distinct-fits : (l : List Entry) → Distinct l → distinct_settings (settings_of l) ≡ true
unfolding Distinct
distinct-fits [] h = refl
distinct-fits (e ∷ l) h = rw (lt-ltb e.setting setting_count h.0, holds_named e.setting l, h.1, distinct-fits l h.2)
