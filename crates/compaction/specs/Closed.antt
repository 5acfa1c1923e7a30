-- What a cutoff leaves of the tables, as functions of the lent lists: the places that remain, tables closed up to them, and the order list by their new numbers.
use Rattle.std.specs.Prelude.{◌≡◌, cond, List, [], ◌∷◌, ◌++◌, map, ℕ, zero, suc, ◌+◌, ◌-◌, ◌*◌, ◌<◌, ◌≤◌, ltb, length, get_or, take, drop, replicate}

-- the places below a limit whose timestamps are not below t, by rising number
unfoldable pub remaining_below : ℕ → List ℕ → ℕ → List ℕ
remaining_below t timestamps zero = []
remaining_below t timestamps (suc i) =
    cond (ltb (get_or timestamps i 0) t) (remaining_below t timestamps i) (remaining_below t timestamps i ++ (i ∷ []))

-- those of the first count places stand first in a list, and another has for each place how many of them are before it
pub record Remaining (t : ℕ) (timestamps : List ℕ) (count found : ℕ) (places numbers : List ℕ) : Type 0 where
  pub counted : found ≡ length (remaining_below t timestamps count)
  pub listed : take found places ≡ remaining_below t timestamps count
  pub numbered : (i : ℕ) → i < count → get_or numbers i 0 ≡ length (remaining_below t timestamps i)

-- a block of slots copied down within a list
abbrev pub moved : {A : Type 0} → ℕ → ℕ → ℕ → List A → List A
moved from to size l = take to l ++ take size (drop from l) ++ drop (to + size) l

-- the blocks of some places, one after the other
abbrev pub gathered : {A : Type 0} → ℕ → List A → List ℕ → List A
gathered width l [] = []
gathered width l (i ∷ places) = take width (drop (width * i) l) ++ gathered width l places

-- a table of blocks closed up to some places: zeros behind them
unfoldable pub closed : {A : Type 0} → ℕ → A → List ℕ → List A → List A
closed width z places l = gathered width l places ++ replicate (length l - width * length places) z

-- the first count of some places, below 4,096, have blocks in a table, and none is before its new place
pub record Closable {A : Type 0} (width count : ℕ) (places : List ℕ) (l : List A) : Type 0 where
  pub small : count ≤ 4096
  pub long : count ≤ length places
  pub below : (j : ℕ) → j < count → get_or places j 0 < 4096
  pub behind : (j : ℕ) → j < count → j ≤ get_or places j 0
  pub within : (j : ℕ) → j < count → width * get_or places j 0 + width ≤ length l

-- the first count entries of an order list without the first of them, by their new numbers: zeros behind them
unfoldable pub renumbered_by : List ℕ → ℕ → ℕ → List ℕ → List ℕ
renumbered_by numbers first count order =
    map (λ i. get_or numbers i 0) (take (count - first) (drop first order)) ++ replicate (length order - (count - first)) 0

-- those entries are places below 4,096
pub record Renumberable (first count : ℕ) (order : List ℕ) : Type 0 where
  pub some-remain : first ≤ count
  pub long : count ≤ length order
  pub below : (k : ℕ) → k < count → get_or order k 0 < 4096
