-- The parts of a place's slots, as the code takes them: those that are used, and those behind them. A place has as many slots as the width.
use mathlib.Core.Path.{◌≡◌, ap}
use mathlib.Core.List.{List}
use Prim.Native.Nat.{ℕ, ◌+◌, ◌-◌, ◌*◌}
use native.Mathlib.Omega.{arith}
use lib.ListN.{take, drop}

-- the first slots of a place, from their start to their end
abbrev pub part : {A : Type 0} → ℕ → ℕ → ℕ → List A → List A
part width place count l = take (width * place + count - width * place) (drop (width * place) l)

module _ {A : Type 0} (width place count : ℕ) (l : List A) where
  pub used-part : part width place count l ≡ take count (drop (width * place) l)
  used-part = let e : width * place + count - width * place ≡ count = omega arith in ap (λ (n : ℕ). take n (drop (width * place) l)) e

  pub rest_part : take (width * place + width - (width * place + count)) (drop (width * place + count) l) ≡ take (width - count) (drop (width * place + count) l)
  rest_part = let e : width * place + width - (width * place + count) ≡ width - count = omega arith in ap (λ (n : ℕ). take n (drop (width * place + count) l)) e
