-- Laws of a list of entries that stands in two arrays.
use mathlib.Core.Path.{◌≡◌, refl, sym, ap, ◌∙◌}
use mathlib.Core.List.{List, [], ◌∷◌, ◌++◌}
use Prim.Native.Nat.{ℕ, zero, suc, ◌+◌, ◌≤◌, ◌<◌}
use native.Mathlib.Numerals.{add-one}
use native.Mathlib.Omega.{arith}
use lib.IntN.{ℤ, pos}
use lib.ListN.{length, get_or, set}
use lib.Seq.{set-get_or}
use Rattle.machine.specs.Settings.{setting_count, Entry, entry, entries, Distinct, carry}

-- each of the first k of a list of distinct entries is of a setting: what a caller of `carry` shows of the write list of a run
pub entries-of-settings : (k i : ℕ) (ss : List ℕ) (vs : List ℤ) → Distinct (entries k ss vs) → i < k → k ≤ length ss → k ≤ length vs → get_or ss i 0 < setting_count
unfolding entries Distinct
entries-of-settings zero i ss vs d h a b = absurd (omega arith)
entries-of-settings (suc k) i [] vs d h a b = absurd (omega arith)
entries-of-settings (suc k) i (x ∷ ss) [] d h a b = absurd (omega arith)
entries-of-settings (suc k) zero (x ∷ ss) (v ∷ vs) d h a b = d.0
entries-of-settings (suc k) (suc i) (x ∷ ss) (v ∷ vs) d h a b = entries-of-settings k i ss vs d.2 (omega arith) (omega arith) (omega arith)

-- an entry more, stored behind the first k
pub entries-stored : (k : ℕ) (ss : List ℕ) (vs : List ℤ) (s : ℕ) (v : ℤ) → k < length ss → k < length vs → entries (k + 1) (set ss k s) (set vs k v) ≡ entries k ss vs ++ (entry s v ∷ [])
unfolding entries
entries-stored k ss vs s v h g = rw add-one (go k ss vs h g)
  where
    go : (k : ℕ) (ss : List ℕ) (vs : List ℤ) → k < length ss → k < length vs → entries (suc k) (set ss k s) (set vs k v) ≡ entries k ss vs ++ (entry s v ∷ [])
    go k [] vs h g = absurd (omega arith)
    go k (x ∷ ss) [] h g = absurd (omega arith)
    go zero (x ∷ ss) (y ∷ vs) h g = refl
    go (suc k) (x ∷ ss) (y ∷ vs) h g = ap (λ (l : List Entry). entry x y ∷ l) (go k ss vs (omega arith) (omega arith))

-- the last of some writes is carried last
carry-last : (w : List Entry) (e : Entry) (values : List ℤ) → carry (w ++ (e ∷ [])) values ≡ set (carry w values) e.setting e.value
unfolding carry
carry-last [] e values = refl
carry-last (x ∷ w) e values = carry-last w e (set values x.setting x.value)

-- an entry more is carried by one store
pub carry-stored : (k : ℕ) (ss : List ℕ) (vs values : List ℤ) → k < length ss → k < length vs → set (carry (entries k ss vs) values) (get_or ss k 0) (get_or vs k (pos 0)) ≡ carry (entries (k + 1) ss vs) values
carry-stored k ss vs values h g =
    sym (carry-last (entries k ss vs) (entry (get_or ss k 0) (get_or vs k (pos 0))) values)
    ∙ ap (λ (w : List Entry). carry w values) (sym (entries-stored k ss vs (get_or ss k 0) (get_or vs k (pos 0)) h g) ∙ rw (set-get_or ss, set-get_or vs))
