-- The layout of a package: its tests in the order of the code, and what it tells of entries and bodies.
use mathlib.Core.Path.{◌≡◌}
use mathlib.Core.Bool.{Bool, true, false, ◌&&◌, and_assoc, and-true}
use mathlib.Core.List.{List}
use Prim.Native.Nat.{ℕ, zero, suc, ◌+◌, ◌-◌, ◌*◌, ◌≤◌, ◌<◌}
use native.Mathlib.Numerals.{add-one}
use native.Mathlib.Omega.{arith}
use borrow.Author.Tests.{leb-true, eqb-true, le-leb, lt-leb}
use lib.Dec.{eqb, leb}
use lib.ListN.{length, get_or}
use Rattle.general.specs.Lists.{all_below}
use Rattle.general.proofs.Cases.{both}
use Rattle.model.specs.Package.{entry_count, entry_at, count_of, entry_fits, count_before, body_at, layout_fits}

-- ---- the instructions before a body

-- those of one entry more
pub counts-next : (bytes : List ℕ) (j : ℕ) → count_before bytes (j + 1) ≡ count_before bytes j + count_of bytes j
unfolding count_before
counts-next bytes j = rw add-one

-- a count is a byte
pub counts-small : (bytes : List ℕ) → ((i : ℕ) → get_or bytes i 0 < 256) → (j : ℕ) → count_before bytes j ≤ 255 * j
unfolding count_before
counts-small bytes small zero = omega arith
counts-small bytes small (suc j) = omega (arith, counts-small bytes small j, small (entry_at j + 9))

-- they do not fall
counts-rise : (bytes : List ℕ) (j d : ℕ) → count_before bytes j ≤ count_before bytes (j + d)
unfolding count_before
counts-rise bytes j zero = let e : j + 0 ≡ j = omega arith in rw e (omega arith)
counts-rise bytes j (suc d) = let e : j + suc d ≡ suc (j + d) = omega arith in rw e (omega (arith, counts-rise bytes j d))

-- ---- the tests

-- at least the two bytes of the entry count, at most 65,535
abbrev pub right_length : List ℕ → Bool
right_length bytes = leb 2 (length bytes) && leb (length bytes) 65535

module _ (bytes : List ℕ) where
  -- the first two tests
  pub wrong-length : right_length bytes ≡ false → false ≡ layout_fits bytes
  unfolding layout_fits
  wrong-length e = rw (← and_assoc (leb 2 (length bytes)) (leb (length bytes) 65535), e)

  module _ (e : right_length bytes ≡ true) {count : ℕ} (k : count ≡ entry_count bytes) where
    -- the third
    pub too_many : 512 < count → false ≡ layout_fits bytes
    unfolding layout_fits
    too_many h = rw (← and_assoc (leb 2 (length bytes)) (leb (length bytes) 65535), e, ← k, lt-leb count 512 h)

    module _ (few : count ≤ 512) where
      -- the fourth
      pub cut_short : length bytes < entry_at count → false ≡ layout_fits bytes
      unfolding layout_fits
      cut_short h = rw (← and_assoc (leb 2 (length bytes)) (leb (length bytes) 65535), e, ← k, le-leb count 512 few, lt-leb (entry_at count) (length bytes) h)

      -- the last two
      pub bodies-tell : {r : Bool} → entry_at count ≤ length bytes → r ≡ (all_below count (entry_fits bytes) && eqb (length bytes) (entry_at count + 8 * count_before bytes count)) → r ≡ layout_fits bytes
      unfolding layout_fits
      bodies-tell h q = rw (← and_assoc (leb 2 (length bytes)) (leb (length bytes) 65535), e, ← k, le-leb count 512 few, le-leb (entry_at count) (length bytes) h, and-true) q

-- ---- what the layout tells

-- at most 65,535 bytes, at most 512 entries, and bodies that end where the bytes do
pub record LaidOut (bytes : List ℕ) : Type 0 where
  pub some_bytes : 2 ≤ length bytes
  pub short : length bytes ≤ 65535
  pub few : entry_count bytes ≤ 512
  pub within : entry_at (entry_count bytes) ≤ length bytes
  pub filled : length bytes ≡ body_at bytes (entry_count bytes)

-- what the test of the layout tells
pub laid_out : (bytes : List ℕ) → layout_fits bytes ≡ true → LaidOut bytes
unfolding layout_fits
laid_out bytes e =
    let n = entry_count bytes in
    let some = both (leb 2 (length bytes)) e in
    let short = both (leb (length bytes) 65535) some.1 in
    let few = both (leb n 512) short.1 in
    let within = both (leb (entry_at n) (length bytes)) few.1 in
    let entries = both (all_below n (entry_fits bytes)) within.1 in
    record {
      some_bytes = leb-true _ _ some.0;
      short = leb-true _ _ short.0;
      few = leb-true _ _ few.0;
      within = leb-true _ _ within.0;
      filled = eqb-true _ _ (both (eqb (length bytes) (body_at bytes n)) entries.1).0;
    }

module _ (bytes : List ℕ) where
  -- bodies begin behind the entries
  pub body-first : body_at bytes 0 ≡ entry_at (entry_count bytes)
  unfolding count_before
  body-first = omega arith

  -- each follows the one before it
  pub body-next : (j : ℕ) → body_at bytes (j + 1) ≡ body_at bytes j + 8 * count_of bytes j
  body-next j = omega (arith, counts-next bytes j)

  module _ (fits : LaidOut bytes) (j : ℕ) (h : j < entry_count bytes) where
    -- an entry is within the bytes
    pub entry-within : entry_at j + 12 ≤ length bytes
    entry-within = omega (arith, fits.within)

    -- and so is its body
    pub body-within : body_at bytes j + 8 * count_of bytes j ≤ length bytes
    body-within =
        let e : j + 1 + (entry_count bytes - (j + 1)) ≡ entry_count bytes = omega arith in
        omega (arith, fits.filled, body-next j, rw e at (counts-rise bytes (j + 1) (entry_count bytes - (j + 1))))
