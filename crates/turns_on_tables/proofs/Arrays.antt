-- What holds of the known values and the uses holds of the arrays that they are lent as, and what holds of these of them.
use Rattle.std.proofs.Common.{◌≡◌, ◌∙◌, refl, sym, ap, subst, Bool, false, List, map, replicate, ℕ, ◌+◌, ◌<◌, ℤ, length, get_or, set, arith}
use Rattle.std.proofs.lemmas.List.{get_or-map, map-set, length-map, length-replicate}
use Rattle.std.proofs.Math.Nat.{zero-add}
use Rattle.std.proofs.Math.Numerals.{add-one}
use Rattle.std.proofs.Math.Seq.{paste, paste-suc}
use Rattle.values.specs.declared.KnownValues.{KnownValues}
use Rattle.uses.specs.declared.SettingUses.{SettingUses}
use Rattle.model.specs.Tables.{Tables}
use Rattle.turns.specs.Turns.{Going, Turnable}
use Rattle.turns_on_tables.specs.Arrays.{says_known, values_in, uses_in}

-- ---- flags and numbers

-- one flag more is set
pub flags-next : (known : List ℕ) (flags : List Bool) (i : ℕ) → length known ≡ 1024 → i < 1024 → flags ≡ paste (replicate 1024 false) 0 (map says_known known) i → set flags i (says_known (get_or known i 0)) ≡ paste (replicate 1024 false) 0 (map says_known known) (i + 1)
flags-next known flags i sized within e =
    let d = replicate 1024 false in
    let s = map says_known known in
    ap (λ (l : List Bool). set l i (says_known (get_or known i 0))) e
    ∙ ap (λ (b : Bool). set (paste d 0 s i) i b) (sym (get_or-map says_known known i 0 false (omega (arith, sized))))
    ∙ ap (λ (k : ℕ). set (paste d 0 s i) k (get_or s i false)) (sym (zero-add i))
    ∙ paste-suc d 0 s i false (omega (arith, zero-add i, length-replicate 1024 false)) (omega (arith, sized, length-map known says_known))
    ∙ rw (add-one i) refl

-- one number more is stored
pub numbers-next : (before known : List ℕ) (flags : List Bool) (i n : ℕ) → length before ≡ 1024 → length flags ≡ 1024 → i < 1024 → map says_known known ≡ paste (map says_known before) 0 flags i → says_known n ≡ get_or flags i false → map says_known (set known i n) ≡ paste (map says_known before) 0 flags (i + 1)
numbers-next before known flags i n sized long within e said =
    let d = map says_known before in
    map-set says_known known i n
    ∙ ap (λ (l : List Bool). set l i (says_known n)) e
    ∙ ap (λ (b : Bool). set (paste d 0 flags i) i b) said
    ∙ ap (λ (k : ℕ). set (paste d 0 flags i) k (get_or flags i false)) (sym (zero-add i))
    ∙ paste-suc d 0 flags i false (omega (arith, zero-add i, sized, length-map before says_known)) (omega (arith, long))
    ∙ rw (add-one i) refl

-- ---- the values and the uses

-- known values by their flags
abbrev pub flagged : List Bool → List ℤ → List ℤ → KnownValues
flagged flags before after = record { known = flags; before = before; after = after }

-- what a turn needs of the arrays, of the values that are made of them
pub turnable_made : {noted : Bool} {k : ℕ} {T : Tables} (known : List ℕ) {flags : List Bool} {before after : List ℤ} {u : SettingUses} → flags ≡ map says_known known → Turnable noted k T (values_in known before after) u → Turnable noted k T (flagged flags before after) u
turnable_made {noted} {k} {T} known {flags} {before} {after} {u} e h =
    subst (λ (l : List Bool). Turnable noted k T (flagged l before after) u) (sym e) h

-- what a turn leaves in the values, of the arrays that they are stored in
pub going_stored : {k : ℕ} {T : Tables} (known : List ℕ) {v : KnownValues} {u : SettingUses} → map says_known known ≡ v.known → Going k T v u → Going k T (values_in known v.before v.after) (uses_in u.readers u.writers u.settled)
going_stored {k} {T} known {v} {u} e h =
    subst (λ (l : List Bool). Going k T (flagged l v.before v.after) u) (sym e) h
