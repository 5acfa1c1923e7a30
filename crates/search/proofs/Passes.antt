-- The walk up a history past changes that are Valid.
use mathlib.Core.Path.{◌≡◌, refl, ap}
use mathlib.Core.List.{List, [], ◌∷◌, ◌++◌}
use Prim.Native.Nat.{ℕ, zero, suc, ◌≤◌, ◌<◌}
use native.Mathlib.Omega.{arith}
use lib.IntN.{ℤ}
use lib.ListN.{length, get_or, take}
use Rattle.machine.specs.Settings.{Environment, after}
use Rattle.model.specs.History.{New, Valid, Invalid, change, status, History, after_all}
use Rattle.model.specs.Cabinet.{blank}
use Rattle.model.specs.Figure.{Event, Step, idle, turned}
use Rattle.model.specs.Walk.{pass, walk}
use Rattle.model.proofs.Figure.{AllValid}

-- the changes before the one whose turn it is
abbrev pub passes : History → Step → Step
passes [] s = s
passes (c ∷ h) s = pass c (passes h s)

pub passes-turned : (a h : History) (view : List ℤ) (e : Event) → passes a (turned h view e) ≡ turned (a ++ h) view e
passes-turned [] h view e = refl
passes-turned (c ∷ a) h view e = ap (pass c) (passes-turned a h view e)

-- past Valid changes the walk is that of the rest, on the settings that they leave
pub walk-past : (env : Environment) (view : List ℤ) (a h : History) → AllValid a → walk env view (a ++ h) ≡ passes a (walk (after_all a env) view h)
walk-past env view [] h v = refl
walk-past env view (change t p New w l ∷ a) h v = absurd v
walk-past env view (change t p Invalid w l ∷ a) h v = absurd v
walk-past env view (change t p Valid w l ∷ a) h v = ap (pass (change t p Valid w l)) (walk-past (after l.writes env) view a h v)

-- where every change is Valid there is no turn
pub walk-valid : (env : Environment) (view : List ℤ) (h : History) → AllValid h → walk env view h ≡ idle
walk-valid env view [] v = refl
walk-valid env view (change t p New w l ∷ h) v = absurd v
walk-valid env view (change t p Invalid w l ∷ h) v = absurd v
walk-valid env view (change t p Valid w l ∷ h) v = ap (pass (change t p Valid w l)) (walk-valid (after l.writes env) view h v)

-- the first m changes are Valid
pub all_valid : (h : History) (m : ℕ) → m ≤ length h → ((j : ℕ) → j < m → status (get_or h j blank) ≡ Valid) → AllValid (take m h)
all_valid h zero l v = tt
all_valid [] (suc m) l v = tt
all_valid (change t p Valid w k ∷ h) (suc m) l v = all_valid h m (omega arith) (λ j q. v (suc j) (omega arith))
all_valid (change t p New w k ∷ h) (suc m) l v = let e : New ≡ Valid = v 0 (omega arith) in let z : ◌≡◌ {A = ℕ} 0 1 = cc in omega arith
all_valid (change t p Invalid w k ∷ h) (suc m) l v = let e : Invalid ≡ Valid = v 0 (omega arith) in let z : ◌≡◌ {A = ℕ} 0 1 = cc in omega arith
