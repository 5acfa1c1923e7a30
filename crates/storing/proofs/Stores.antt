-- A list stored into the slots of a place, element by element; where zeros stand already nothing is stored.
use mathlib.Core.Path.{◌≡◌, refl, sym, ap, ◌∙◌}
use mathlib.Core.List.{List, ◌++◌}
use Prim.Native.Nat.{ℕ, zero, suc, ◌+◌, ◌-◌, ◌*◌, ◌<◌, ◌≤◌}
use native.Mathlib.Numerals.{add-one}
use native.Mathlib.Omega.{arith}
use lib.ListN.{length, get_or, set, take, drop, length-set, get_or-eq_default}
use lib.Seq.{drop-cons, paste, paste-zero, paste-suc, length_paste_head, get_or_at, set-get_or, take_all, get_or-take, length-take-le}
use Rattle.model.specs.Tables.{pad}
use Rattle.model.proofs.Blocks.{pad-length, pad-get}
use Rattle.storing.specs.Stored.{replaced_by, Storable}

-- the first j elements of s stand in l from index at on, and the rest of l is d's
pub record Pasted {A : Type 0} (d : List A) (at : ℕ) (s : List A) (j : ℕ) (l : List A) : Type 0 where
  pub long : length l ≡ length d
  pub so_far : l ≡ paste d at s j

pub pasted-none : {A : Type 0} (d : List A) (at : ℕ) (s : List A) → Pasted d at s 0 d
pasted-none d at s = record { long = refl; so_far = paste-zero d at s }

module _ {A : Type 0} (z : A) (d : List A) (at : ℕ) (s : List A) {j : ℕ} {l : List A} (p : Pasted d at s j l) where
  module _ (h : at + j < length d) (g : j < length s) where
    -- one store more
    pasted-next : {l' : List A} {v : A} → l' ≡ set l (at + j) v → v ≡ get_or s j z → Pasted d at s (j + 1) l'
    pasted-next e q =
        record {
          long = ap length e ∙ length-set l (at + j) _ ∙ p.long;
          so_far = e ∙ rw (p.so_far, q, add-one) (paste-suc d at s j z h g);
        }

    -- no store, where d has the element already
    pasted-kept : get_or d (at + j) z ≡ get_or s j z → Pasted d at s (j + 1) l
    pasted-kept q =
        pasted-next (sym (set-get_or l (at + j) z))
        (ap (λ (x : List A). get_or x (at + j) z) (p.so_far ∙ ap (take at d ++ take j s ++◌) (drop-cons d (at + j) z h))
        ∙ get_or_at (take at d ++ take j s) (get_or d (at + j) z) (drop (suc (at + j)) d) z (at + j) (length_paste_head d at s j (omega arith) (omega arith))
        ∙ q)

-- ---- the 32 slots of a place

module _ {A : Type 0} {z : A} {place old : ℕ} {list : List A} {count : ℕ} {d : List A} (r : Storable z place old list count d) where
  abbrev block : List A
  block = pad 32 z (take count list)

  abbrev at : ℕ
  at = 32 * place

  taken : length (take count list) ≡ count
  taken = length-take-le count list (omega (arith, r.short, r.long))

  block-length : length block ≡ 32
  block-length = pad-length 32 z (take count list) (omega (arith, taken, r.short))

  behind : (j : ℕ) → count ≤ j → get_or block j z ≡ z
  behind j q = pad-get 32 z (take count list) j ∙ get_or-eq_default (take count list) z {n = j} (omega (arith, taken))

  module _ {j : ℕ} {x x' : List A} (p : Pasted d at block j x) {v : A} (e : x' ≡ set x (at + j) v) where
    -- an element of the list
    pub block-next : j < count → v ≡ get_or list j z → Pasted d at block (j + 1) x'
    block-next q w =
        pasted-next z d at block p (omega (arith, r.room, r.short)) (omega (arith, block-length, r.short)) e
        (w ∙ sym (pad-get 32 z (take count list) j ∙ get_or-take count list j z q))

    -- a zero behind it
    pub block-zero : count ≤ j → j < old → v ≡ z → Pasted d at block (j + 1) x'
    block-zero q b w = pasted-next z d at block p (omega (arith, r.room, r.old-short)) (omega (arith, block-length, r.old-short)) e (w ∙ sym (behind j q))

  -- the zeros that stand already
  zeros-kept : (m : ℕ) {j : ℕ} {x : List A} → Pasted d at block j x → count ≤ j → old ≤ j → j + m ≡ 32 → x ≡ paste d at block 32
  zeros-kept zero {j} p c o e = let w : j ≡ 32 = omega arith in p.so_far ∙ ap (paste d at block) w
  zeros-kept (suc m) {j} p c o e =
      zeros-kept m (pasted-kept z d at block p (omega (arith, r.room)) (omega (arith, block-length)) (r.unused.empty j o (omega arith) ∙ sym (behind j c))) (omega arith) (omega arith) (omega arith)

  -- all of it
  pub block-end : {j : ℕ} {x : List A} → Pasted d at block j x → count ≤ j → old ≤ j → j ≤ 32 → x ≡ replaced_by z place (take count list) d
  unfolding replaced_by
  block-end {j} p c o h = zeros-kept (32 - j) p c o (omega arith) ∙ ap (λ (y : List A). take at d ++ y ++ drop (at + 32) d) (take_all 32 block (omega (arith, block-length)))
