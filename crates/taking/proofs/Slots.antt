-- Laws of the tables' layout: a change more, and a place entered into the order list.
use mathlib.Core.Path.{◌≡◌, sym, ap, ap₂, ◌∙◌}
use mathlib.Core.List.{List, [], ◌∷◌, ◌++◌, append_assoc}
use Prim.Native.Nat.{ℕ, zero, suc, ◌+◌, ◌-◌, ◌*◌, ◌≤◌, ◌<◌}
use native.Mathlib.Nat.{mul-le-mul_left}
use native.Mathlib.Omega.{arith}
use lib.ListN.{length, get_or, set, take, drop, replicate, length-append, length-drop, replicate-append-replicate, get_or-eq_default}
use lib.Seq.{length-take-le, take-append_seam, take-append-le, drop-append-add, set-get_or, drop-drop, paste-zero}
use Rattle.model.specs.History.{Change}
use Rattle.model.specs.Cabinet.{blank}
use Rattle.model.specs.Tables.{pad, column, blocks}
use Rattle.model.proofs.Blocks.{column-get, column-append, Fits, blocks-rest, blocks-append}
use Rattle.taking.specs.Taking.{entered}

drop-replicate : {A : Type 0} (m k : ℕ) (z : A) → drop m (replicate k z) ≡ replicate (k - m) z
drop-replicate zero k z = let e : k ≡ k - 0 = omega arith in ap (λ (j : ℕ). replicate j z) e
drop-replicate (suc m) zero z = let e : 0 ≡ 0 - suc m = omega arith in ap (λ (j : ℕ). replicate j z) e
drop-replicate (suc m) (suc k) z = let e : k - m ≡ suc k - suc m = omega arith in drop-replicate m k z ∙ ap (λ (j : ℕ). replicate j z) e

-- ---- a change more

-- a column in which its slot is 0 stays as it is
pub column-more : {A : Type 0} (n : ℕ) (z : A) (f : Change → A) (changes : List Change) (c : Change) → f blank ≡ z → f c ≡ z → length changes < n → column n z f changes ≡ column n z f (changes ++ (c ∷ []))
column-more n z f changes c b e h =
    sym (column-append n z f changes c h ∙ ap (set (column n z f changes) (length changes)) (e ∙ sym unused) ∙ set-get_or (column n z f changes) (length changes) z)
  where
    unused : get_or (column n z f changes) (length changes) z ≡ z
    unused = column-get n z f changes (length changes) b ∙ ap f (get_or-eq_default changes blank {n = length changes} (omega arith)) ∙ b

module _ {A : Type 0} (n width : ℕ) (z : A) (f : Change → List A) (changes : List Change) (c : Change) (k : Fits width f changes) (h : length changes < n) where
  abbrev start : ℕ
  start = width * length changes

  unused-from : (m : ℕ) → drop (start + m) (blocks n width z f changes) ≡ replicate (width * n - start - m) z
  unused-from m =
      sym (drop-drop m start (blocks n width z f changes)) ∙ ap (drop m) (blocks-rest n width z f changes k) ∙ drop-replicate m (width * n - start) z

  -- the used slots of its block are written
  pub blocks_more : length (f c) ≤ width → take start (blocks n width z f changes) ++ f c ++ drop (start + length (f c)) (blocks n width z f changes) ≡ blocks n width z f (changes ++ (c ∷ []))
  blocks_more q =
      sym (blocks-append n width z f changes c k q h
      ∙ ap (take start l ++ pad width z (f c) ++◌) (unused-from width)
      ∙ ap (◌++ replicate (width * n - start - width) z) (sym (append_assoc (take start l) (f c) (replicate (width - length (f c)) z)))
      ∙ append_assoc (take start l ++ f c) (replicate (width - length (f c)) z) (replicate (width * n - start - width) z)
      ∙ ap (take start l ++ f c ++◌) (replicate-append-replicate (width - length (f c)) (width * n - start - width) z ∙ ap (λ (m : ℕ). replicate m z) sum ∙ sym (unused-from (length (f c)))))
    where
      l : List A
      l = blocks n width z f changes

      sum : width - length (f c) + (width * n - start - width) ≡ width * n - start - length (f c)
      sum = omega (arith, mul-le-mul_left width h)

  -- none, where its list is empty
  pub blocks-none-more : f c ≡ [] → blocks n width z f changes ≡ blocks n width z f (changes ++ (c ∷ []))
  blocks-none-more e =
      paste-zero (blocks n width z f changes) start []
      ∙ ap (λ (s : List A). take start (blocks n width z f changes) ++ s ++ drop (start + length s) (blocks n width z f changes)) (sym e)
      ∙ blocks_more (rw e (omega arith))

-- ---- a place more in the order list

module _ (n position : ℕ) (order : List ℕ) (r : position ≤ length order) where
  abbrev zeros : List ℕ
  zeros = replicate (n - length order) 0

  -- the order list with the next place
  abbrev longer : List ℕ
  longer = take position order ++ (length order ∷ drop position order)

  one-longer : n - length order - 1 ≡ n - length longer
  one-longer = simp (length-append, length-drop) (omega (arith, length-take-le position order r))

  -- one zero less
  zeros-left : drop (length order + 1) (order ++ zeros) ≡ replicate (n - length longer) 0
  zeros-left = drop-append-add order zeros 1 ∙ drop-replicate 1 (n - length order) 0 ∙ ap (λ (m : ℕ). replicate m 0) one-longer

  pub order-more : entered (length order) position (pad n 0 order) ≡ pad n 0 longer
  order-more =
      ap₂ (λ (below above : List ℕ). below ++ (length order ∷ (drop position above ++ drop (length order + 1) (order ++ zeros)))) (take-append-le position order zeros r) (take-append_seam order zeros)
      ∙ ap (λ (rest : List ℕ). take position order ++ (length order ∷ (drop position order ++ rest))) zeros-left
      ∙ sym (append_assoc (take position order) (length order ∷ drop position order) (replicate (n - length longer) 0))
