-- A list of settings that is looked through for one, and what a list that does not name it gives.
use mathlib.Core.Path.{◌≡◌, refl, sym, ap, ◌∙◌}
use mathlib.Core.Bool.{Bool, false}
use mathlib.Core.List.{List, [], ◌∷◌}
use mathlib.Core.Option.{none}
use Prim.Native.Nat.{ℕ, zero, suc, ◌+◌, ◌-◌, ◌*◌}
use native.Mathlib.Omega.{arith}
use lib.Dec.{eqb}
use lib.IntN.{ℤ}
use lib.ListN.{take, drop}
use Rattle.machine.specs.Settings.{entries, lookup}
use Rattle.general.proofs.Cases.{neither}
use Rattle.model.specs.Form.{holds}
use Rattle.model.specs.Tables.{slots}

-- the first slots of a place, as they are lent
pub lent-first : (place count : ℕ) (l : List ℕ) → take (32 * place + count - 32 * place) (drop (32 * place) l) ≡ slots 32 place count l
lent-first place count l =
    let e : 32 * place + count - 32 * place ≡ count = omega arith in
    ap (λ (m : ℕ). take m (drop (32 * place) l)) e

-- entries that do not name a setting give it no value
unnamed : (s count : ℕ) (settings : List ℕ) (values : List ℤ) → holds s (take count settings) ≡ false → lookup (entries count settings values) s ≡ none
unfolding entries lookup
unnamed s zero settings values e = refl
unnamed s (suc count) [] values e = refl
unnamed s (suc count) (x ∷ settings) [] e = refl
unnamed s (suc count) (x ∷ settings) (v ∷ values) e =
    let n = neither (eqb x s) e in
    rw (unnamed s count settings values n.1, n.0)

-- the list of a place, as it is lent, gives no value to a setting that it does not name
pub not_named : (s place count : ℕ) (settings : List ℕ) (values : List ℤ) {found : Bool} → found ≡ holds s (take (32 * place + count - 32 * place) (drop (32 * place) settings)) → found ≡ false → lookup (entries count (drop (32 * place) settings) values) s ≡ none
not_named s place count settings values p e = unnamed s count (drop (32 * place) settings) values (ap (holds s) (sym (lent-first place count settings)) ∙ sym p ∙ e)
