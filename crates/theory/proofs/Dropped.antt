-- The book of what cutoffs have dropped: it is sound, stamped below the cutoff, and its fresh run leaves the kept values.
use mathlib.Core.Path.{◌≡◌, refl}
use mathlib.Core.List.{List, [], ◌∷◌, ◌++◌, map}
use Prim.Native.Nat.{ℕ, ◌≤◌, ◌<◌}
use native.Mathlib.Omega.{arith}
use borrow.Author.Tests.{ltb-true}
use lib.Dec.{ltb}
use lib.IntN.{ℤ}
use Rattle.machine.specs.Settings.{Environment, value_in}
use Rattle.general.proofs.Cases.{by-test}
use Rattle.model.specs.History.{start, change, timestamp, History}
use Rattle.model.specs.Book.{booked, Book, booked_at, book_of, fresh_after, fresh_end, book_below, RisingBook}
use Rattle.model.specs.Sound.{NoneUnder}
use Rattle.theory.specs.Demand.{AllBelow, NoneBelow}
use Rattle.theory.proofs.Filling.{SoundBook}

-- by the cutoff and the kept values of a cabinet, and the last cutoff answered done
pub record Dropped (cutoff : ℕ) (kept : List ℤ) (last : ℕ) (dropped : Book) : Type 0 where
  pub cut : cutoff ≡ last
  pub below : AllBelow cutoff dropped
  pub sound : SoundBook 0 dropped
  pub fresh : value_in kept ≡ fresh_end dropped start

-- below 0 there is nothing
pub below-zero : (dropped : Book) → AllBelow 0 dropped → dropped ≡ []
below-zero [] a = refl
below-zero (b ∷ dropped) a = absurd (omega (arith, a.0))

-- a fresh run goes on where it stood
pub fresh_end-append : (dropped book : Book) (env : Environment) → fresh_end (dropped ++ book) env ≡ fresh_end book (fresh_end dropped env)
fresh_end-append [] book env = refl
fresh_end-append (b ∷ dropped) book env = fresh_end-append dropped book (fresh_after b env)

-- ---- dropped and held

pub book-uncut : (t : ℕ) (h : History) → NoneUnder t (map timestamp h) → NoneBelow t (book_of h)
book-uncut t [] n = tt
book-uncut t (change u p s w l ∷ h) n = (n.0, book-uncut t h n.1)

rises-from : (a u t : ℕ) (book : Book) → u < t → NoneBelow t book → SoundBook a book → SoundBook u book
rises-from a u t [] h n s = tt
rises-from a u t (booked v p w ∷ book) h n s = (omega (arith, n.0), s.1, s.2, s.3)

pub both-sound : (a t : ℕ) (dropped book : Book) → SoundBook a dropped → AllBelow t dropped → NoneBelow t book → SoundBook a book → SoundBook a (dropped ++ book)
both-sound a t [] book s b n k = k
both-sound a t (booked u p w ∷ dropped) book s b n k = (s.0, s.1, s.2, both-sound u t dropped book s.3 b.1 n (rises-from a u t book b.0 n k))

pub sound-rising : (a : ℕ) (book : Book) → SoundBook a book → RisingBook a book
sound-rising a [] s = tt
sound-rising a (booked t p w ∷ book) s = (s.0, sound-rising t book s.3)

-- ---- more dropped

module _ (t : ℕ) where
  book_below-below : (book : Book) → AllBelow t (book_below t book)
  book_below-below [] = tt
  book_below-below (b ∷ book) =
      let rest = book_below-below book in
      by-test (AllBelow t) (ltb (booked_at b) t) (λ q. (ltb-true (booked_at b) t q, rest)) (λ q. rest)

  pub more-below : (a : ℕ) (dropped book : Book) → a ≤ t → AllBelow a dropped → AllBelow t (dropped ++ book_below t book)
  more-below a [] book q b = book_below-below book
  more-below a (d ∷ dropped) book q b = (omega (arith, b.0), more-below a dropped book q b.1)

  book_below-sound : (a b : ℕ) (book : Book) → a ≤ b → SoundBook b book → SoundBook a (book_below t book)
  book_below-sound a b [] q s = tt
  book_below-sound a b (booked u p w ∷ book) q s =
      by-test (SoundBook a) (ltb u t) (λ e. (omega (arith, s.0), s.1, s.2, book_below-sound u u book (omega arith) s.3))
      (λ e. book_below-sound a u book (omega (arith, s.0)) s.3)

  pub more-sound : (a : ℕ) (dropped book : Book) → SoundBook a (dropped ++ book) → SoundBook a (dropped ++ book_below t book)
  more-sound a [] book s = book_below-sound a a book (omega arith) s
  more-sound a (booked u p w ∷ dropped) book s = (s.0, s.1, s.2, more-sound u dropped book s.3)
