-- Pieces put by rising number.
use mathlib.Core.Path.{◌≡◌, refl, sym, subst, ◌∙◌}
use mathlib.Core.List.{List}
use Prim.Native.Nat.{ℕ, ◌+◌, ◌*◌, ◌≤◌, ◌<◌}
use native.Mathlib.Numerals.{add-one}
use native.Mathlib.Omega.{arith}
use lib.ListN.{length}
use Rattle.text.specs.Pieces.{Put, pieces_below}
use Rattle.text.proofs.Pieces.{put-nothing, put_then}

-- the first j of count pieces are put, each of at most so many bytes
pub record Below (piece : ℕ → List ℕ) (width at count : ℕ) (before after : List ℕ) (end j : ℕ) : Type 0 where
  pub within : j ≤ count
  pub put : Put at (pieces_below j piece) before after end
  pub short : end ≤ at + width * j
  pub same : length after ≡ length before

pub below_none : (piece : ℕ → List ℕ) (width at count : ℕ) (text : List ℕ) → Below piece width at count text text at 0
below_none piece width at count text = record { within = omega arith; put = put-nothing at text; short = omega arith; same = refl }

module _ {piece : ℕ → List ℕ} {width at count : ℕ} {before after : List ℕ} {end j : ℕ} (b : Below piece width at count before after end j) where
  -- one piece more
  pub below_next : {last : List ℕ} {r : ℕ} → j < count → at ≤ length before → Put end (piece j) after last r → r ≤ end + width → length last ≡ length after → Below piece width at count before last r (j + 1)
  below_next {last} {r} h room p short same =
      record {
        within = omega (arith, h);
        put = subst (λ (k : ℕ). Put at (pieces_below k piece) before last r) (sym (add-one j)) (put_then b.put room p);
        short = omega (arith, b.short, short);
        same = same ∙ b.same;
      }

  -- all pieces
  pub below_all : count ≤ j → Put at (pieces_below count piece) before after end
  below_all h = let e : j ≡ count = omega (arith, h, b.within) in subst (λ (k : ℕ). Put at (pieces_below k piece) before after end) e b.put
