-- Laws of environments and of lists of entries.
use mathlib.Core.Path.{◌≡◌, refl, sym, ap, ◌∙◌}
use mathlib.Core.Bool.{Bool, true, false, cond}
use mathlib.Core.Option.{Option, none, some}
use mathlib.Core.List.{List, [], ◌∷◌, ◌++◌}
use Prim.Native.Nat.{ℕ, suc, ◌<◌}
use borrow.Author.Tests.{eqb-true, eqb-false, ne_eqb}
use lib.Dec.{eqb}
use lib.IntN.{ℤ, pos}
use lib.ListN.{length, set, length-set}
use lib.Seq.{get_or-set_same, get_or-set_other}
use Rattle.machine.specs.Settings.{setting_count, Environment, value_in, Entry, entry, named, replace_first, ◌or_if◌, ◌or_else◌, is_some, lookup, Holds, Distinct, after, carry}
use Rattle.general.proofs.Cases.{true-is-not-false}

-- ---- carrying writes

-- a setting's value by the first of two lists that gives it one
pub or-if-else : (x y : Option ℤ) (d : ℤ) → ((x or_if y) or_else d) ≡ (x or_else (y or_else d))
or-if-else none y d = refl
or-if-else (some v) y d = refl

-- the first entry of a write list carried in before the others
pub after_first : (e : Entry) (writes : List Entry) (env : Environment) (s : ℕ) → after (e ∷ writes) env s ≡ after writes (λ t. cond (eqb e.setting t) e.value (env t)) s
unfolding lookup
after_first e writes env s = or-if-else (lookup writes s) _ (env s) ∙ ap (λ v. lookup writes s or_else v) (go (eqb e.setting s))
  where
    go : (t : Bool) → ((cond t (some e.value) none) or_else env s) ≡ cond t e.value (env s)
    go true = refl
    go false = refl

-- a setting is given a value where the list names it
pub lookup-named : (l : List Entry) (s : ℕ) → is_some (lookup l s) ≡ named s l
unfolding lookup named
lookup-named [] s = refl
lookup-named (e ∷ l) s = go (lookup l s) (lookup-named l s) (eqb e.setting s)
  where
    go : (x : Option ℤ) → is_some x ≡ named s l → (t : Bool) → is_some (x or_if cond t (some e.value) none) ≡ cond t true (named s l)
    go none h true = refl
    go none h false = h
    go (some v) h true = refl
    go (some v) h false = h

-- carrying a write list into a list of values carries it into the environment that the list gives
pub carry-after : (writes : List Entry) (values : List ℤ) (s : ℕ) → s < length values → value_in (carry writes values) s ≡ after writes (value_in values) s
unfolding carry lookup
carry-after [] values s h = refl
carry-after (e ∷ writes) values s h =
    carry-after writes (set values e.setting e.value) s (rw length-set h)
    ∙ ap (λ v. lookup writes s or_else v) (set-one (eqb e.setting s) refl)
    ∙ sym (after_first e writes (value_in values) s)
  where
    set-one : (t : Bool) → eqb e.setting s ≡ t → value_in (set values e.setting e.value) s ≡ cond t e.value (value_in values s)
    set-one true q =
        let w : e.setting ≡ s = eqb-true e.setting s q in
        rw w (get_or-set_same values s e.value (pos 0) h)
    set-one false q = get_or-set_other values e.setting s e.value (pos 0) (λ w. eqb-false e.setting s q (sym w))

pub length-carry : (writes : List Entry) (values : List ℤ) → length (carry writes values) ≡ length values
unfolding carry
length-carry [] values = refl
length-carry (e ∷ writes) values = length-carry writes (set values e.setting e.value) ∙ length-set values e.setting e.value

-- ---- an entry more

pub holds-before : (env : Environment) (l r : List Entry) → Holds env (l ++ r) → Holds env l
unfolding Holds
holds-before env [] r h = tt
holds-before env (e ∷ l) r h = (h.0, holds-before env l r h.1)

pub holds-last : (env : Environment) (l : List Entry) (s : ℕ) (v : ℤ) → Holds env (l ++ (entry s v ∷ [])) → env s ≡ v
unfolding Holds
holds-last env [] s v h = h.0
holds-last env (e ∷ l) s v h = holds-last env l s v h.1

pub holds_more : (env : Environment) (l : List Entry) (s : ℕ) (v : ℤ) → Holds env l → env s ≡ v → Holds env (l ++ (entry s v ∷ []))
unfolding Holds
holds_more env [] s v h q = (q, tt)
holds_more env (e ∷ l) s v h q = (h.0, holds_more env l s v h.1 q)

-- two environments that a list holds in agree on the settings that it names
pub holds-both : (env env' : Environment) (s : ℕ) (l : List Entry) → Holds env l → Holds env' l → named s l ≡ true → env' s ≡ env s
unfolding Holds named
holds-both env env' s [] h h' t = true-is-not-false (sym t)
holds-both env env' s (e ∷ l) h h' t = go (eqb e.setting s) refl t (holds-both env env' s l h.1 h'.1)
  where
    go : (b : Bool) → eqb e.setting s ≡ b → cond b true (named s l) ≡ true → (named s l ≡ true → env' s ≡ env s) → env' s ≡ env s
    go true q t ih = let w : e.setting ≡ s = eqb-true e.setting s q in cc (h.0, h'.0)
    go false q t ih = ih t

named_more : (s t : ℕ) (v : ℤ) (l : List Entry) → named s l ≡ false → eqb t s ≡ false → named s (l ++ (entry t v ∷ [])) ≡ false
unfolding named
named_more s t v [] h n = ap (λ (b : Bool). cond b true false) n
named_more s t v (e ∷ l) h n = go (eqb e.setting s) h (named_more s t v l)
  where
    go : (b : Bool) → cond b true (named s l) ≡ false → (named s l ≡ false → eqb t s ≡ false → named s (l ++ (entry t v ∷ [])) ≡ false) → cond b true (named s (l ++ (entry t v ∷ []))) ≡ false
    go true h ih = h
    go false h ih = ih h n

pub distinct_more : (s : ℕ) (v : ℤ) (l : List Entry) → s < setting_count → named s l ≡ false → Distinct l → Distinct (l ++ (entry s v ∷ []))
unfolding Distinct named
distinct_more s v [] b h d = (b, refl, tt)
distinct_more s v (e ∷ l) b h d = go (eqb e.setting s) refl h (distinct_more s v l)
  where
    go : (t : Bool) → eqb e.setting s ≡ t → cond t true (named s l) ≡ false → (s < setting_count → named s l ≡ false → Distinct l → Distinct (l ++ (entry s v ∷ []))) → Distinct (e ∷ (l ++ (entry s v ∷ [])))
    go true q h ih = true-is-not-false h
    go false q h ih = (d.0, named_more e.setting s v l d.1 (ne_eqb s e.setting (λ w. eqb-false e.setting s q (sym w))), ih b h d.2)

-- ---- an entry's value replaced

pub length-replaced : (s : ℕ) (v : ℤ) (l : List Entry) → length (replace_first s v l) ≡ length l
unfolding replace_first
length-replaced s v [] = refl
length-replaced s v (e ∷ l) = go (eqb e.setting s) (length-replaced s v l)
  where
    go : (t : Bool) → length (replace_first s v l) ≡ length l → length (cond t (entry s v ∷ l) (e ∷ replace_first s v l)) ≡ suc (length l)
    go true ih = refl
    go false ih = ap suc ih

-- the same settings stand in the list
named-replaced : (s t : ℕ) (v : ℤ) (l : List Entry) → named t (replace_first s v l) ≡ named t l
unfolding replace_first named
named-replaced s t v [] = refl
named-replaced s t v (e ∷ l) = go (eqb e.setting s) refl (named-replaced s t v l)
  where
    go : (b : Bool) → eqb e.setting s ≡ b → named t (replace_first s v l) ≡ named t l → named t (cond b (entry s v ∷ l) (e ∷ replace_first s v l)) ≡ named t (e ∷ l)
    go true q ih = let w : e.setting ≡ s = eqb-true e.setting s q in rw w
    go false q ih = ap (λ (b : Bool). cond (eqb e.setting t) true b) ih

pub distinct-replaced : (s : ℕ) (v : ℤ) (l : List Entry) → Distinct l → Distinct (replace_first s v l)
unfolding replace_first Distinct
distinct-replaced s v [] d = tt
distinct-replaced s v (e ∷ l) d = go (eqb e.setting s) refl (distinct-replaced s v l d.2)
  where
    go : (b : Bool) → eqb e.setting s ≡ b → Distinct (replace_first s v l) → Distinct (cond b (entry s v ∷ l) (e ∷ replace_first s v l))
    go true q ih = let w : e.setting ≡ s = eqb-true e.setting s q in (rw (← w) d.0, rw (← w) d.1, d.2)
    go false q ih = (d.0, named-replaced s e.setting v l ∙ d.1, ih)
