-- Settings, their values, and lists of settings with values (document 01, "Settings and stamps").
use Rattle.std.specs.Prelude.{Bool, true, false, cond, List, [], ◌∷◌, ◌≡◌, ℕ, zero, suc, ◌≤◌, ◌<◌, eqb, ℤ, pos, length, get_or, set}
use Rattle.std.proofs.Math.Option.{Option, none, some}

-- the number of settings: 64 ports of 16 fields
abbrev pub setting_count : ℕ
setting_count = 1024

-- a value for every setting
abbrev pub Environment : Type 0
Environment = ℕ → ℤ

-- the environment that a list of values gives; 0 past its end
abbrev pub value_in : List ℤ → Environment
value_in values s = get_or values s (pos 0)

-- one value for every setting
abbrev pub everywhere : ℤ → Environment
everywhere v s = v

-- a setting with the value that was seen in it, or written to it
pub record Entry : Type 0 where
  pub setting : ℕ
  pub value : ℤ

abbrev pub entry : ℕ → ℤ → Entry
entry s v = record { setting = s; value = v }

-- the first of two that is there
infixr 20 ◌or_if◌ ◌or_else◌
abbrev pub ◌or_if◌ : Option ℤ → Option ℤ → Option ℤ
none or_if y = y
some v or_if y = some v

abbrev pub ◌or_else◌ : Option ℤ → ℤ → ℤ
none or_else d = d
some v or_else d = v

abbrev pub is_some : Option ℤ → Bool
is_some none = false
is_some (some v) = true

-- does a list of entries name the setting
unfoldable pub named : ℕ → List Entry → Bool
named s [] = false
named s (e ∷ l) = cond (eqb e.setting s) true (named s l)

-- the value of the first entry that names the setting; 0 where none does
unfoldable pub first_value : ℕ → List Entry → ℤ
first_value s [] = pos 0
first_value s (e ∷ l) = cond (eqb e.setting s) e.value (first_value s l)

-- the list with the value v in the first entry that names the setting
unfoldable pub replace_first : ℕ → ℤ → List Entry → List Entry
replace_first s v [] = []
replace_first s v (e ∷ l) = cond (eqb e.setting s) (entry s v ∷ l) (e ∷ replace_first s v l)

-- the first k entries of a list that stands as two columns, settings and values
unfoldable pub entries : ℕ → List ℕ → List ℤ → List Entry
entries zero settings values = []
entries (suc k) [] values = []
entries (suc k) (s ∷ settings) [] = []
entries (suc k) (s ∷ settings) (v ∷ values) = entry s v ∷ entries k settings values

-- each entry has the environment's value
unfoldable pub Holds : Environment → List Entry → Type 0
Holds env [] = Unit {0}
Holds env (e ∷ l) = (env e.setting ≡ e.value) × Holds env l

-- each entry is of a setting, and no setting stands twice
unfoldable pub Distinct : List Entry → Type 0
Distinct [] = Unit {0}
Distinct (e ∷ l) = (e.setting < setting_count) × (named e.setting l ≡ false) × Distinct l

-- a list that the tables can hold
pub record Bounded (l : List Entry) : Type 0 where
  pub short : length l ≤ 32
  pub distinct : Distinct l

-- the value that a list gives a setting: that of the last entry that names it
unfoldable pub lookup : List Entry → ℕ → Option ℤ
lookup [] s = none
lookup (e ∷ l) s = lookup l s or_if (cond (eqb e.setting s) (some e.value) none)

-- the environment after a write list is carried into it
abbrev pub after : List Entry → Environment → Environment
after writes env s = lookup writes s or_else env s

-- a write list carried into a list of values, entry by entry
unfoldable pub carry : List Entry → List ℤ → List ℤ
carry [] values = values
carry (e ∷ writes) values = carry writes (set values e.setting e.value)
