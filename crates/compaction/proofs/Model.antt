-- The tables of a cabinet closed up to the places that a cutoff leaves are those of the changes that remain.
use mathlib.Core.Path.{◌≡◌, refl, sym, ap, ap₂, ◌∙◌}
use mathlib.Core.Bool.{cond}
use mathlib.Core.List.{List, [], ◌∷◌, ◌++◌, map, append-nil}
use Prim.Native.Nat.{ℕ, zero, suc, ◌+◌, ◌-◌, ◌*◌, ◌<◌, ◌≤◌}
use native.Mathlib.Nat.{mul-le-mul_left}
use native.Mathlib.Omega.{arith}
use borrow.Author.Tests.{lt-ltb, le-ltb}
use lib.Dec.{ltb}
use lib.ListN.{length, get_or, take, drop, length-append, length-map, length-drop}
use lib.Seq.{take-suc, take-length, take_at, drop-append-le}
use Rattle.general.proofs.Cases.{by-test₂}
use Rattle.model.specs.History.{Change, timestamp}
use Rattle.model.specs.Cabinet.{blank, changes_at, remaining, closed_to, renumbered}
use Rattle.model.specs.Sound.{Below}
use Rattle.model.specs.Tables.{pad, column, padded, blocks}
use Rattle.model.proofs.Figure.{AllBelow, NoneBelow}
use Rattle.model.proofs.Blocks.{Fits, fits-at, padded-append, blocks-length, blocks-slots, blocks-unused, slots-pad, pad-length}
use Rattle.compaction.specs.Closed.{remaining_below, gathered, closed, renumbered_by}
use Rattle.compaction.proofs.Moves.{gathered-append, gathered-length}
use Rattle.compaction.proofs.Places.{remaining-at}

remaining-append : (t : ℕ) (a b : List Change) → remaining t (a ++ b) ≡ remaining t a ++ remaining t b
remaining-append t [] b = refl
remaining-append t (c ∷ a) b = by-test₂ (λ (x y : List Change). x ≡ y ++ remaining t b) (ltb (timestamp c) t) (λ q. remaining-append t a b) (λ q. ap (c ∷◌) (remaining-append t a b))

module _ (t : ℕ) (changes : List Change) (timestamps : List ℕ) (stamped : (i : ℕ) → get_or timestamps i 0 ≡ timestamp (get_or changes i blank)) where
  -- one place more
  remaining-more : (i : ℕ) → i < length changes → remaining t (take (suc i) changes) ≡ cond (ltb (get_or timestamps i 0) t) (remaining t (take i changes)) (remaining t (take i changes) ++ (get_or changes i blank ∷ []))
  remaining-more i h =
      let c = get_or changes i blank in
      ap (remaining t) (take-suc changes i blank h)
      ∙ remaining-append t (take i changes) (c ∷ [])
      ∙ rw (stamped i) (by-test₂ (λ (x y : List Change). remaining t (take i changes) ++ x ≡ y) (ltb (timestamp c) t) (λ q. append-nil (remaining t (take i changes))) (λ q. refl))

  -- as many places remain as changes
  pub closed-to : (i : ℕ) → i ≤ length changes → length (remaining_below t timestamps i) ≡ closed_to t changes i
  unfolding remaining_below
  closed-to zero h = refl
  closed-to (suc i) h =
      let ih = closed-to i (omega arith) in
      rw (remaining-more i h) (by-test₂ (λ (x : List ℕ) (y : List Change). length x ≡ length y) (ltb (get_or timestamps i 0) t) (λ q. ih) (λ q. length-append (remaining_below t timestamps i) (i ∷ []) ∙ rw ih (sym (length-append (remaining t (take i changes)) (get_or changes i blank ∷ [])))))

  -- ---- blocks

  module _ {A : Type 0} (n width : ℕ) (z : A) (f : Change → List A) (k : Fits width f changes) (small : length changes ≤ n) where
    abbrev table : List A
    table = blocks n width z f changes

    table-length : length table ≡ width * n
    table-length = blocks-length n width z f changes k small

    -- the block of a place
    block_at : (i : ℕ) → i < length changes → take width (drop (width * i) table) ≡ pad width z (f (get_or changes i blank))
    block_at i h =
        slots-pad n width i (length (f (get_or changes i blank))) table table-length (omega arith) (fits-at width f changes i k h) z (blocks-unused n width z f changes i k h)
        ∙ ap (pad width z) (blocks-slots n width z f changes i k h)

    gathered-first : (i : ℕ) → i ≤ length changes → gathered width table (remaining_below t timestamps i) ≡ padded width z f (remaining t (take i changes))
    unfolding remaining_below
    gathered-first zero h = refl
    gathered-first (suc i) h =
        let ih = gathered-first i (omega arith) in
        let c = get_or changes i blank in
        let more : gathered width table (remaining_below t timestamps i ++ (i ∷ [])) ≡ padded width z f (remaining t (take i changes) ++ (c ∷ [])) =
        gathered-append width table (remaining_below t timestamps i) (i ∷ [])
        ∙ ap₂ (λ (x y : List A). x ++ (y ++ [])) ih (block_at i h)
        ∙ sym (padded-append n width z f (remaining t (take i changes)) (c ∷ [])) in
        rw (remaining-more i h) (by-test₂ (λ (x : List ℕ) (y : List Change). gathered width table x ≡ padded width z f y) (ltb (get_or timestamps i 0) t) (λ q. ih) (λ q. more))

    -- a table of blocks closed up is that of the changes that remain
    pub blocks-closed : closed width z (remaining_below t timestamps (length changes)) table ≡ blocks n width z f (remaining t changes)
    unfolding closed
    blocks-closed =
        let places = remaining_below t timestamps (length changes) in
        let front : gathered width table places ≡ padded width z f (remaining t changes) = gathered-first (length changes) (omega arith) ∙ ap (λ (l : List Change). padded width z f (remaining t l)) (take-length changes) in
        let size : length (gathered width table places) ≡ width * length places = gathered-length width table places (λ j h. let m = mul-le-mul_left width (remaining-at t timestamps (length changes) j h).1 in let one : width * suc (get_or places j 0) ≡ width * get_or places j 0 + width = omega arith in omega (arith, table-length, mul-le-mul_left width small)) in
        rw (← size, table-length, front)

  -- ---- columns

  module _ {A : Type 0} (n : ℕ) (z : A) (f : Change → A) where
    -- a column is blocks of one slot
    single : (l : List Change) → padded 1 z (λ c. f c ∷ []) l ≡ map f l
    single [] = refl
    single (c ∷ l) = ap (f c ∷◌) (single l)

    column-blocks : (l : List Change) → blocks n 1 z (λ c. f c ∷ []) l ≡ column n z f l
    column-blocks l = let one : 1 * n ≡ n = omega arith in rw (one, single l)

    ones : (l : List Change) → Fits 1 (λ c. f c ∷ []) l
    ones [] = tt
    ones (c ∷ l) = (omega arith, ones l)

    pub column-closed : length changes ≤ n → closed 1 z (remaining_below t timestamps (length changes)) (column n z f changes) ≡ column n z f (remaining t changes)
    column-closed small = rw (← column-blocks changes, ← column-blocks (remaining t changes)) (blocks-closed n 1 z (λ c. f c ∷ []) (ones changes) small)

  -- ---- the order list

  module _ (numbers : List ℕ) (numbered : (i : ℕ) → i < length changes → get_or numbers i 0 ≡ length (remaining_below t timestamps i)) where
    -- of places whose changes all remain
    renumbered-all : (order : List ℕ) → Below (length changes) order → NoneBelow t (changes_at changes order) → map (λ i. get_or numbers i 0) order ≡ renumbered t changes order
    renumbered-all [] b a = refl
    renumbered-all (i ∷ order) b a =
        rw (le-ltb (timestamp (get_or changes i blank)) t a.0)
        (ap₂ ◌∷◌ (numbered i b.0 ∙ closed-to i (omega (arith, b.0))) (renumbered-all order b.1 a.1))

    -- the first are dropped, and the others remain
    renumbered-from : (order : List ℕ) (first : ℕ) → Below (length changes) order → AllBelow t (take first (changes_at changes order)) → NoneBelow t (drop first (changes_at changes order)) → map (λ i. get_or numbers i 0) (drop first order) ≡ renumbered t changes order
    renumbered-from [] zero b l a = refl
    renumbered-from [] (suc first) b l a = refl
    renumbered-from (i ∷ order) zero b l a = renumbered-all (i ∷ order) b a
    renumbered-from (i ∷ order) (suc first) b l a = rw (lt-ltb (timestamp (get_or changes i blank)) t l.0) (renumbered-from order first b.1 l.1 a)

    pub order-renumbered : (n : ℕ) (order : List ℕ) (first : ℕ) → length order ≡ length changes → length order ≤ n → first ≤ length order → Below (length changes) order → AllBelow t (take first (changes_at changes order)) → NoneBelow t (drop first (changes_at changes order)) → renumbered_by numbers first (length changes) (pad n 0 order) ≡ pad n 0 (renumbered t changes order)
    unfolding renumbered_by
    order-renumbered n order first counted small within b l a =
        let left = length changes - first in
        let size : length (drop first order) ≡ left = length-drop first order ∙ ap (◌- first) counted in
        let entries : take left (drop first (pad n 0 order)) ≡ drop first order = ap (take left) (drop-append-le first order _ within) ∙ take_at (drop first order) _ left size in
        let new = renumbered-from order first b l a in
        let count : length (renumbered t changes order) ≡ left = ap length (sym new) ∙ length-map (drop first order) (λ i. get_or numbers i 0) ∙ size in
        rw (entries, new, pad-length n 0 order small, count)
