-- A sound cabinet is laid out in tables in form, and tables in form hold a sound cabinet, of which they are the layout.
use mathlib.Core.Path.{◌≡◌}
use Prim.Native.Nat.{ℕ}
use Rattle.model.specs.Cabinet.{Cabinet}
use Rattle.model.specs.Tables.{Tables, encode, decode}
use Rattle.model.specs.Form.{Formed}
use Rattle.model.specs.Sound.{Sound}
use Rattle.model.proofs.Tests.{Lengths, FormTests, lengths-of, lengths-fit, form_of, form-fits}
use Rattle.model.proofs.Encode.{lengths-encode, form-encode}
use Rattle.model.proofs.Decode.{sound-decode, encode-back}

pub encode-formed : {n : ℕ} {c : Cabinet} → Sound n c → Formed n (encode n c)
encode-formed {n} {c} s =
    record { sized = lengths-fit n (encode n c) (lengths-encode n c s); form = form-fits n (encode n c) (form-encode n c s) }

-- what proofs use of tables in form: their lengths, their form by place, the sound cabinet that they hold, and that they are its layout
pub record FormFacts (n : ℕ) (T : Tables) : Type 0 where
  pub sizes : Lengths n T
  pub form : FormTests n T
  pub sound : Sound n (decode T)
  pub laid : encode n (decode T) ≡ T

-- That the places are distinct, and that the order list has every held place, follows from the rising timestamps.
pub facts : {n : ℕ} {T : Tables} → Formed n T → FormFacts n T
facts {n} {T} g =
    let l = lengths-of n T g.sized in
    let f = form_of n T g.form in
    record { sizes = l; form = f; sound = sound-decode n T l f; laid = encode-back n T l f }
