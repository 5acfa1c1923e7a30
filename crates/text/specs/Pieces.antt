-- Text as bytes, and pieces of text put into a buffer.
use Rattle.std.specs.Prelude.{◌≡◌, List, [], ◌∷◌, ◌++◌, ℕ, zero, suc, ◌+◌, length, take, drop}
use Prim.Native.Char.{code}
use Prim.Native.String.{String}
use Prim.Native.String as string

-- the bytes of an ASCII text
abbrev pub ascii : String → List ℕ
ascii string.[] = []
ascii (string.◌∷◌ c s) = code c ∷ ascii s

-- a buffer with a piece put at a place
unfoldable pub with_piece : ℕ → List ℕ → List ℕ → List ℕ
with_piece at piece buffer = take at buffer ++ piece ++ drop (at + length piece) buffer

-- a buffer before and after a piece is put at a place, and where the piece ends
pub record Put (at : ℕ) (piece before after : List ℕ) (end : ℕ) : Type 0 where
  pub ends : end ≡ at + length piece
  pub holds : after ≡ with_piece at piece before

-- the first so many pieces, by rising number
abbrev pub pieces_below : ℕ → (ℕ → List ℕ) → List ℕ
pieces_below zero piece = []
pieces_below (suc n) piece = pieces_below n piece ++ piece n
