-- Laws of the tables' layout: padded lists, columns and blocks.
use mathlib.Core.Path.{◌≡◌, refl, sym, ap, ap₂, subst, ◌∙◌}
use mathlib.Core.List.{List, [], ◌∷◌, ◌++◌, map, append_assoc, map-append}
use Prim.Native.Nat.{ℕ, zero, suc, ◌+◌, ◌-◌, ◌*◌, ◌≤◌, ◌<◌}
use native.Mathlib.Nat.{mul-le-mul_left}
use native.Mathlib.Omega.{arith}
use lib.ListN.{length, get_or, set, take, drop, replicate, length-append, length-drop, length-set, length-map, length-replicate, take-append-drop, replicate-append-replicate, get_or-map, get_or-append}
use lib.Seq.{take_at, drop_at, set-append_seam, set-append_left, set_split, split_at, append_snoc, take-append_seam, drop-append_seam, get_or-append-add, get_or-take, length-take-le, drop-drop, take-add, ext_get_or}
use Rattle.model.specs.History.{Change}
use Rattle.model.specs.Cabinet.{blank}
use Rattle.model.specs.Tables.{pad, column, padded, blocks, slots}
use Rattle.model.specs.Form.{rest_of}

-- ---- padded lists

module _ {A : Type 0} (n : ℕ) (z : A) where
  pub pad-length : (l : List A) → length l ≤ n → length (pad n z l) ≡ n
  pad-length l h = simp (length-append, length-replicate) (omega arith)

  -- the zeros change no slot
  pub pad-get : (l : List A) (i : ℕ) → get_or (pad n z l) i z ≡ get_or l i z
  pad-get l i = go l i (n - length l)
    where
      go : (l : List A) (i m : ℕ) → get_or (l ++ replicate m z) i z ≡ get_or l i z
      go [] i zero = refl
      go [] zero (suc m) = refl
      go [] (suc i) (suc m) = go [] i m
      go (a ∷ l) zero m = refl
      go (a ∷ l) (suc i) m = go l i m

  -- a list with zeros from the k-th slot on is its first k elements, padded
  pub pad-is : (k : ℕ) (l : List A) → length l ≡ n → k ≤ n → drop k l ≡ replicate (n - k) z → l ≡ pad n z (take k l)
  pad-is k l e h q = rw (length-take-le k l (omega arith), ← q) (sym (take-append-drop k l))

  -- an element more takes the place of the first zero
  pad-append : (l : List A) (a : A) → length l < n → pad n z (l ++ (a ∷ [])) ≡ set (pad n z l) (length l) a
  pad-append l a h =
      let fewer : n - length (l ++ (a ∷ [])) ≡ n - suc (length l) = simp length-append (omega arith) in
      let one : n - length l ≡ suc (n - suc (length l)) = omega arith in
      rw (fewer, one, append_snoc, set-append_seam)

-- ---- columns

map-set : {A B : Type 0} (f : A → B) (l : List A) (i : ℕ) (a : A) → map f (set l i a) ≡ set (map f l) i (f a)
map-set f [] i a = refl
map-set f (x ∷ l) zero a = refl
map-set f (x ∷ l) (suc i) a = ap (f x ∷◌) (map-set f l i a)

module _ {A : Type 0} (n : ℕ) (z : A) (f : Change → A) (changes : List Change) where
  pub column-length : length changes ≤ n → length (column n z f changes) ≡ n
  column-length h = pad-length n z (map f changes) (rw length-map h)

  map_get : (i : ℕ) → f blank ≡ z → get_or (map f changes) i z ≡ f (get_or changes i blank)
  map_get i e = rw (← e) (get_or-map f changes i blank)

  -- the slot of a place, held or not
  pub column-get : (i : ℕ) → f blank ≡ z → get_or (column n z f changes) i z ≡ f (get_or changes i blank)
  column-get i e = pad-get n z (map f changes) i ∙ map_get i e

  -- zeros behind the held places
  pub column-rest : drop (length changes) (column n z f changes) ≡ replicate (n - length changes) z
  column-rest = rw (drop_at (map f changes) _ (length changes) (length-map changes f), length-map)

  -- a list is a column by its slots
  pub column-is : (l : List A) → f blank ≡ z → length l ≡ n → length changes ≤ n → ((i : ℕ) → i < length changes → get_or l i z ≡ f (get_or changes i blank)) → drop (length changes) l ≡ replicate (n - length changes) z → l ≡ column n z f changes
  column-is l b e h each rest = pad-is n z (length changes) l e h rest ∙ ap (pad n z) same
    where
      front : length (take (length changes) l) ≡ length changes
      front = length-take-le (length changes) l (omega arith)

      same : take (length changes) l ≡ map f changes
      same =
          ext_get_or z (take (length changes) l) (map f changes) (front ∙ sym (length-map changes f))
          (λ i q. let q' : i < length changes = rw front at q in get_or-take (length changes) l i z q' ∙ each i q' ∙ sym (map_get i b))

  -- one change replaced is one store
  pub column-set : (i : ℕ) (c : Change) → i < length changes → column n z f (set changes i c) ≡ set (column n z f changes) i (f c)
  column-set i c h = rw (map-set f changes i c, length-set, set-append_left (map f changes) _ i (f c) (rw length-map h))

  -- one change more is one store
  pub column-append : (c : Change) → length changes < n → column n z f (changes ++ (c ∷ [])) ≡ set (column n z f changes) (length changes) (f c)
  column-append c h = rw (map-append, pad-append n z (map f changes) (f c) (rw length-map h), length-map)

-- ---- blocks

-- every list is at most as long as its block
abbrev pub Fits : {A : Type 0} → ℕ → (Change → List A) → List Change → Type 0
Fits width f [] = Unit {0}
Fits width f (c ∷ changes) = (length (f c) ≤ width) × Fits width f changes

module _ {A : Type 0} (width : ℕ) (f : Change → List A) where
  pub fits-at : (changes : List Change) (i : ℕ) → Fits width f changes → i < length changes → length (f (get_or changes i blank)) ≤ width
  fits-at [] i k h = absurd (omega arith)
  fits-at (c ∷ changes) zero k h = k.0
  fits-at (c ∷ changes) (suc i) k h = fits-at changes i k.1 (omega arith)

  fits-before : (before later : List Change) → Fits width f (before ++ later) → Fits width f before
  fits-before [] later k = tt
  fits-before (c ∷ before) later k = (k.0, fits-before before later k.1)

  fits-append : (changes : List Change) (c : Change) → Fits width f changes → length (f c) ≤ width → Fits width f (changes ++ (c ∷ []))
  fits-append [] c k h = (h, tt)
  fits-append (d ∷ changes) c k h = (k.0, fits-append changes c k.1 h)

  fits-set : (changes : List Change) (i : ℕ) (c : Change) → Fits width f changes → length (f c) ≤ width → Fits width f (set changes i c)
  fits-set [] i c k h = tt
  fits-set (d ∷ changes) zero c k h = (h, k.1)
  fits-set (d ∷ changes) (suc i) c k h = (k.0, fits-set changes i c k.1 h)

-- the middle of three parts overwritten
overwrite : {A : Type 0} (before old new later : List A) (i k : ℕ) → length before ≡ i → length old ≡ k → take i (before ++ (old ++ later)) ++ new ++ drop (i + k) (before ++ (old ++ later)) ≡ before ++ (new ++ later)
overwrite before old new later i k e q =
    rw (← drop-drop k i, take_at before (old ++ later) i e, drop_at before (old ++ later) i e, drop_at old later k q) (append_assoc before new later)

module _ {A : Type 0} (n width : ℕ) (z : A) (f : Change → List A) where
  padded-length : (changes : List Change) → Fits width f changes → length (padded width z f changes) ≡ width * length changes
  padded-length [] k = omega arith
  padded-length (c ∷ changes) k =
      rw (length-append (pad width z (f c)), pad-length width z (f c) k.0, padded-length changes k.1) (omega arith)

  pub padded-append : (before later : List Change) → padded width z f (before ++ later) ≡ padded width z f before ++ padded width z f later
  padded-append [] later = refl
  padded-append (c ∷ before) later = rw (padded-append before later, append_assoc (pad width z (f c)))

  pub blocks-length : (changes : List Change) → Fits width f changes → length changes ≤ n → length (blocks n width z f changes) ≡ width * n
  blocks-length changes k h = pad-length (width * n) z (padded width z f changes) (rw (padded-length changes k) (mul-le-mul_left width h))

  padded-same : (a b : List Change) → map f a ≡ map f b → padded width z f a ≡ padded width z f b
  padded-same [] [] e = refl
  padded-same [] (d ∷ b) e = cc
  padded-same (c ∷ a) [] e = cc
  padded-same (c ∷ a) (d ∷ b) e =
      let here : f c ≡ f d = cc in
      let rest : map f a ≡ map f b = cc in
      ap₂ (λ (x y : List A). pad width z x ++ y) here (padded-same a b rest)

  -- the same lists of each place
  pub blocks-same : (a b : List Change) → map f a ≡ map f b → blocks n width z f a ≡ blocks n width z f b
  blocks-same a b e = ap (pad (width * n) z) (padded-same a b e)

  padded-at : f blank ≡ [] → (changes : List Change) (i j : ℕ) → Fits width f changes → j < width → get_or (padded width z f changes) (width * i + j) z ≡ get_or (f (get_or changes i blank)) j z
  padded-at b [] i j k q = rw b
  padded-at b (c ∷ changes) zero j k q =
      let here : width * 0 + j ≡ j = omega arith in
      rw (here, get_or-append (pad width z (f c)) (padded width z f changes) z j (rw (pad-length width z (f c) k.0) q)) (pad-get width z (f c) j)
  padded-at b (c ∷ changes) (suc i) j k q =
      let later : width * suc i + j ≡ length (pad width z (f c)) + (width * i + j) = omega (arith, pad-length width z (f c) k.0) in
      rw (later, get_or-append-add (pad width z (f c))) (padded-at b changes i j k.1 q)

  -- a slot of a place, held or not
  pub blocks_at : f blank ≡ [] → (changes : List Change) (i j : ℕ) → Fits width f changes → j < width → get_or (blocks n width z f changes) (width * i + j) z ≡ get_or (f (get_or changes i blank)) j z
  blocks_at b changes i j k q = pad-get (width * n) z (padded width z f changes) (width * i + j) ∙ padded-at b changes i j k q

  -- zeros behind the held places
  pub blocks-rest : (changes : List Change) → Fits width f changes → drop (width * length changes) (blocks n width z f changes) ≡ replicate (width * n - width * length changes) z
  blocks-rest changes k = rw (drop_at (padded width z f changes) _ (width * length changes) (padded-length changes k), padded-length changes k)

  -- what stands behind a block: the blocks of the later places, and zeros
  abbrev behind : ℕ → List Change → List A
  behind i later = padded width z f later ++ replicate (width * n - width * (i + suc (length later))) z

  -- a table of blocks, taken apart at a place
  split : (before : List Change) (c : Change) (later : List Change) → Fits width f (before ++ c ∷ later) → blocks n width z f (before ++ c ∷ later) ≡ padded width z f before ++ (pad width z (f c) ++ behind (length before) later)
  split before c later k =
      rw (padded-length (before ++ c ∷ later) k, length-append, padded-append before (c ∷ later)) (simp append_assoc)

  module _ (changes : List Change) (i : ℕ) (k : Fits width f changes) (h : i < length changes) where
    parts : changes ≡ take i changes ++ get_or changes i blank ∷ drop (suc i) changes
    parts = split_at changes i blank h

    front : length (padded width z f (take i changes)) ≡ width * i
    front = rw (padded-length (take i changes) (fits-before width f (take i changes) _ (subst (Fits width f) parts k)), length-take-le i changes (omega arith))

    held : blocks n width z f changes ≡ padded width z f (take i changes) ++ (pad width z (f (get_or changes i blank)) ++ behind (length (take i changes)) (drop (suc i) changes))
    held = ap (blocks n width z f) parts ∙ split (take i changes) (get_or changes i blank) (drop (suc i) changes) (subst (Fits width f) parts k)

    block-length : length (pad width z (f (get_or changes i blank))) ≡ width
    block-length = pad-length width z (f (get_or changes i blank)) (fits-at width f changes i k h)

    -- the table from the place's block on
    from_place : drop (width * i) (blocks n width z f changes) ≡ pad width z (f (get_or changes i blank)) ++ behind (length (take i changes)) (drop (suc i) changes)
    from_place = ap (drop (width * i)) held ∙ drop_at (padded width z f (take i changes)) _ (width * i) front

    from-slots : drop (width * i) (blocks n width z f changes) ≡ f (get_or changes i blank) ++ (replicate (width - length (f (get_or changes i blank))) z ++ behind (length (take i changes)) (drop (suc i) changes))
    from-slots = from_place ∙ append_assoc (f (get_or changes i blank)) _ _

    -- the used slots of a place
    pub blocks-slots : slots width i (length (f (get_or changes i blank))) (blocks n width z f changes) ≡ f (get_or changes i blank)
    blocks-slots = rw (from-slots, take-append_seam)

    -- its other slots
    pub blocks-unused : rest_of width i (length (f (get_or changes i blank))) (blocks n width z f changes) ≡ replicate (width - length (f (get_or changes i blank))) z
    blocks-unused =
        let used = length (f (get_or changes i blank)) in
        rw (← drop-drop used (width * i), from-slots, drop-append_seam) (take_at (replicate (width - used) z) _ (width - used) (length-replicate (width - used) z))

    -- one change replaced is one block overwritten
    pub blocks-set : (c : Change) → length (f c) ≤ width → blocks n width z f (set changes i c) ≡ take (width * i) (blocks n width z f changes) ++ pad width z (f c) ++ drop (width * i + width) (blocks n width z f changes)
    blocks-set c q =
        rw (held, overwrite _ (pad width z (f (get_or changes i blank))) (pad width z (f c)) _ (width * i) width front block-length, set_split changes i c h)
        (split (take i changes) c (drop (suc i) changes) (subst (Fits width f) (set_split changes i c h) (fits-set width f changes i c k q)))

  -- one change more is one block overwritten
  pub blocks-append : (changes : List Change) (c : Change) → Fits width f changes → length (f c) ≤ width → length changes < n → blocks n width z f (changes ++ (c ∷ [])) ≡ take (width * length changes) (blocks n width z f changes) ++ pad width z (f c) ++ drop (width * length changes + width) (blocks n width z f changes)
  blocks-append changes c k q h =
      rw (unused, overwrite _ (replicate width z) (pad width z (f c)) _ (width * length changes) width (padded-length changes k) (length-replicate width z))
      (split changes c [] (fits-append width f changes c k q))
    where
      unused : blocks n width z f changes ≡ padded width z f changes ++ (replicate width z ++ behind (length changes) [])
      unused =
          let rest = width * n - width * (length changes + 1) in
          let e : width * n - width * length changes ≡ width + rest = omega (arith, mul-le-mul_left width h) in
          rw (padded-length changes k, e, replicate-append-replicate width rest z)

  padded-is : (changes : List Change) (l : List A) → ((i : ℕ) → i < length changes → slots width i width l ≡ pad width z (f (get_or changes i blank))) → take (width * length changes) l ≡ padded width z f changes
  padded-is [] l each = let none : width * 0 ≡ 0 = omega arith in rw none
  padded-is (c ∷ changes) l each =
      let none : width * 0 ≡ 0 = omega arith in
      let next : (i : ℕ) → width * suc i ≡ width + width * i = λ i. omega arith in
      rw (next (length changes), take-add width (width * length changes) l)
      (ap₂ ◌++◌ (rw none at (each 0 (omega arith))) (padded-is changes (drop width l) (λ i q. rw (drop-drop (width * i) width l, ← next i) (each (suc i) (omega arith)))))

  -- a list is a table of blocks by its blocks
  pub blocks_is : (changes : List Change) (l : List A) → length l ≡ width * n → length changes ≤ n → ((i : ℕ) → i < length changes → slots width i width l ≡ pad width z (f (get_or changes i blank))) → drop (width * length changes) l ≡ replicate (width * n - width * length changes) z → l ≡ blocks n width z f changes
  blocks_is changes l e h each rest = pad-is (width * n) z (width * length changes) l e (mul-le-mul_left width h) rest ∙ ap (pad (width * n) z) (padded-is changes l each)

-- ---- the slots of a place, in any table of blocks

module _ {A : Type 0} (n width i k : ℕ) (l : List A) (e : length l ≡ width * n) (h : i < n) (q : k ≤ width) where
  pub slots-room : k ≤ length (drop (width * i) l)
  slots-room = simp length-drop (omega (arith, mul-le-mul_left width h))

  pub slots_length : length (slots width i k l) ≡ k
  slots_length = length-take-le k (drop (width * i) l) slots-room

  pub rest_of-length : length (rest_of width i k l) ≡ width - k
  rest_of-length = length-take-le (width - k) (drop (width * i + k) l) (simp length-drop (omega (arith, mul-le-mul_left width h)))

  -- a block is its used slots, padded
  pub slots-pad : (z : A) → rest_of width i k l ≡ replicate (width - k) z → slots width i width l ≡ pad width z (slots width i k l)
  slots-pad z r =
      let sum : k + (width - k) ≡ width = omega arith in
      rw (slots_length, ← r, ← drop-drop k (width * i) l, ← take-add k (width - k) (drop (width * i) l), sum)
