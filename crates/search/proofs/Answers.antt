-- What the answers of the searches say.
use mathlib.Core.Path.{◌≡◌, refl}
use mathlib.Core.Option.{Option, none, some}
use Rattle.std.specs.Prelude as prelude
use Rattle.std.specs.Prelude.{Some, None}
use Rattle.search.specs.Searches.{found_of}

pub found_at : {A : Type 0} (x : Option A) {f : prelude.Option A} {k : A} → f ≡ found_of x → f ≡ Some k → x ≡ some k
found_at none p q = cc
found_at (some j) p q = cc

pub found_nothing : {A : Type 0} (x : Option A) {f : prelude.Option A} → f ≡ found_of x → f ≡ None → x ≡ none
found_nothing none p q = refl
found_nothing (some j) p q = cc
