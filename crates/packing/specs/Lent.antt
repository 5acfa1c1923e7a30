-- What the lent tables have that a package is made of.
use Rattle.std.specs.Prelude.{◌≡◌, List, ℕ, ◌*◌, ◌≤◌, length}
use Rattle.search.specs.Searches.{PlacesWithin}
use Rattle.package_parts.specs.Parts.{AtMost}

-- the first count places of the order list have a timestamp, a flag of 0 or 1, a program of at most 32 instructions, and a version of 0 or 1
pub record HeldParts (count : ℕ) (order timestamps withdrawn lengths programs versions : List ℕ) : Type 0 where
  pub small : count ≤ 4096
  pub placed : PlacesWithin count order (length timestamps)
  pub flags : length withdrawn ≡ length timestamps
  pub flag : AtMost 1 withdrawn
  pub sizes : length lengths ≡ length timestamps
  pub short : AtMost 32 lengths
  pub blocks : length programs ≡ 256 * length timestamps
  pub versioned : length versions ≡ length timestamps
  pub version : AtMost 1 versions
