-- Pieces of text put one after another.
use mathlib.Core.Path.{◌≡◌, refl, sym, ap, ap₂, subst, ◌∙◌}
use mathlib.Core.List.{List, [], ◌++◌, append_assoc, append-nil}
use Prim.Native.Nat.{ℕ, ◌+◌, ◌-◌, ◌≤◌}
use native.Mathlib.Omega.{arith}
use borrow.Rule.Slice.PartMut.{put_mid, Post-is}
use lib.ListN.{length, take, drop, length-append, take-append-drop}
use lib.Seq.{take_at, drop-append-add, drop-drop, length-take-le}
use Rattle.text.specs.Pieces.{with_piece, Put}

-- a piece by another name
pub put_as : {at end : ℕ} {p q before after : List ℕ} → Put at p before after end → p ≡ q → Put at q before after end
put_as {at} {end} {before = before} {after = after} h e = subst (λ (l : List ℕ). Put at l before after end) e h

-- nothing put
pub put-nothing : (at : ℕ) (buffer : List ℕ) → Put at [] buffer buffer at
unfolding with_piece
put-nothing at buffer =
    let e : at + 0 ≡ at = omega arith in
    record {
      ends = sym e;
      holds = sym (ap₂ (λ (l : List ℕ) (k : ℕ). l ++ drop k buffer) (append-nil (take at buffer)) e ∙ take-append-drop at buffer);
    }

-- two pieces, one after the other, are one
module _ {at : ℕ} {p before after : List ℕ} {end : ℕ} (h : Put at p before after end) (room : at ≤ length before) where
  reaches : length (take at before ++ p) ≡ end
  reaches = length-append (take at before) p ∙ ap (λ (k : ℕ). k + length p) (length-take-le at before room) ∙ sym h.ends

  first : take end after ≡ take at before ++ p
  unfolding with_piece
  first = ap (take end) h.holds ∙ take_at (take at before ++ p) _ end reaches

  rest : (k : ℕ) → drop (end + k) after ≡ drop (end + k) before
  unfolding with_piece
  rest k =
      ap₂ (λ (m : ℕ) (l : List ℕ). drop (m + k) l) (sym reaches) h.holds
      ∙ drop-append-add (take at before ++ p) _ k
      ∙ drop-drop k (at + length p) before
      ∙ ap (λ (m : ℕ). drop (m + k) before) (sym h.ends)

  pub put_then : {q last : List ℕ} {r : ℕ} → Put end q after last r → Put at (p ++ q) before last r
  unfolding with_piece
  put_then {q} g =
      let e : end + length q ≡ at + length (p ++ q) = let s = length-append p q in omega (arith, h.ends, s) in
      record {
        ends = g.ends ∙ e;
        holds =
            g.holds
            ∙ ap₂ (λ (l m : List ℕ). l ++ q ++ m) first (rest (length q))
            ∙ ap₂ (λ (l : List ℕ) (k : ℕ). l ++ drop k before) (append_assoc (take at before) p q) e;
      }

-- a piece copied to what lies between a place and the end of the piece
pub copied : (at : ℕ) (piece buffer last : List ℕ) → last ≡ piece → Put at piece buffer (put_mid at (at + length piece - at) buffer last) (at + length piece)
unfolding with_piece
copied at piece buffer last e =
    record {
      ends = refl;
      holds = ap₂ (λ (l m : List ℕ). take at buffer ++ (l ++ m)) e (Post-is at (at + length piece) buffer (omega arith)) ∙ sym (append_assoc (take at buffer) piece _);
    }
