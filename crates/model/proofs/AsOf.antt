-- The values as of a timestamp, in a history by rising timestamp.
use mathlib.Core.Path.{◌≡◌, refl}
use mathlib.Core.Bool.{cond}
use mathlib.Core.List.{[], ◌∷◌, ◌++◌, map}
use Prim.Native.Nat.{ℕ, ◌<◌, ◌≤◌}
use native.Mathlib.Omega.{arith}
use lib.Dec.{ltb}
use borrow.Author.Tests.{lt-ltb, le-ltb}
use Rattle.machine.specs.Settings.{Environment}
use Rattle.model.specs.History.{Change, timestamp, History, after_change, after_all, as_of}
use Rattle.model.specs.Sound.{Rising, NoneUnder}

-- every change is stamped below t
abbrev pub AllBelow : ℕ → History → Type 0
AllBelow t [] = Unit {0}
AllBelow t (c ∷ h) = (timestamp c < t) × AllBelow t h

-- every change is stamped t or above
abbrev pub NoneBelow : ℕ → History → Type 0
NoneBelow t h = NoneUnder t (map timestamp h)

pub as_of-all-below : (t : ℕ) (h : History) (env : Environment) → AllBelow t h → as_of t h env ≡ after_all h env
as_of-all-below t [] env k = refl
as_of-all-below t (c ∷ h) env k = rw (lt-ltb (timestamp c) t k.0) (as_of-all-below t h (after_change c env) k.1)

pub as_of-none-below : (t : ℕ) (h : History) (env : Environment) → NoneBelow t h → as_of t h env ≡ env
as_of-none-below t [] env k = refl
as_of-none-below t (c ∷ h) env k = rw (le-ltb (timestamp c) t k.0) (as_of-none-below t h env k.1)

pub as_of-append : (t : ℕ) (a h : History) (env : Environment) → as_of t (a ++ h) env ≡ as_of t h (as_of t a env)
as_of-append t [] h env = refl
as_of-append t (c ∷ a) h env = as_of-append t a h (cond (ltb (timestamp c) t) (after_change c env) env)

pub after_all-append : (a h : History) (env : Environment) → after_all (a ++ h) env ≡ after_all h (after_all a env)
after_all-append [] h env = refl
after_all-append (c ∷ a) h env = after_all-append a h (after_change c env)

pub rising-none-below : (t b : ℕ) (h : History) → t ≤ b → Rising b h → NoneBelow t h
rising-none-below t b [] q r = tt
rising-none-below t b (c ∷ h) q r = (omega arith, rising-none-below t (timestamp c) h (omega arith) r.2)

-- the values as of the first change of a rising history are those that it starts from
pub as_of-first : (c : Change) (h : History) (env : Environment) → Rising (timestamp c) h → as_of (timestamp c) (c ∷ h) env ≡ env
as_of-first c h env r =
    let t = timestamp c in
    as_of-none-below t (c ∷ h) env (omega arith, rising-none-below t t h (omega arith) r)
