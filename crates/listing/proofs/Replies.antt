-- What the calls before a reply leave, and the listing by them.
use mathlib.Core.Path.{◌≡◌, refl, sym, ap, subst, ◌∙◌}
use mathlib.Core.Bool.{Bool, true, false, cond, not}
use mathlib.Core.List.{List}
use Prim.Native.Nat.{ℕ}
use native.Mathlib.Omega.{arith}
use borrow.Author.Tests.{eq-eqb}
use lib.Dec.{eqb}
use lib.ListN.{length}
use Rattle.text.specs.Pieces.{Put}
use Rattle.text.proofs.Pieces.{put_as}
use Rattle.model.specs.Answers.{Answer}
use Rattle.model.specs.Tables.{Tables}
use Rattle.model.specs.Form.{lengths_fit, Formed}
use Rattle.model.specs.Package.{layout_fits}
use Rattle.model.specs.Calls.{answer_number, set_up, PackageReply, package_reply, take_in_package}
use Rattle.model.specs.Log.{package_call, after_call, begun}
use Rattle.theory.proofs.AnyTables.{set-up-formed, calls-keep-form}
use Rattle.replies.specs.Replies.{capacity, reply_lines}
use Rattle.replies.specs.Putting.{Answered}
use Rattle.listing.specs.Listing.{listing}

-- an answered package on tables in form is laid out as one
laid_out : (T : Tables) (bytes lent : List ℕ) → Formed capacity T → length lent ≡ 512 → answer_number (take_in_package capacity T bytes lent).answer ≡ 0 → layout_fits bytes ≡ true
unfolding take_in_package
laid_out T bytes lent g sized = rw (g.sized, g.form, eq-eqb (length lent) 512 sized) (go _ (layout_fits bytes))
  where
    go : (done : PackageReply) (b : Bool) → answer_number (cond (eqb (cond (not b) 3 0) 0) done (package_reply (Answer.Refused (cond (not b) 3 0)) T lent)).answer ≡ 0 → b ≡ true
    go done true z = refl
    go done false z = absurd (omega arith)

-- a package taken in on tables just set up
module _ (T : Tables) (fit : lengths_fit capacity T ≡ true) (bytes lent : List ℕ) {b : Answer} {U : Tables} {answers : List ℕ} (f : package_reply b U answers ≡ take_in_package capacity (set_up capacity T).tables bytes lent) where
  package-formed : Formed capacity U
  unfolding after_call
  package-formed = subst (Formed capacity) (ap (λ (r : PackageReply). r.tables) (sym f)) (calls-keep-form capacity (package_call bytes lent) (begun (set_up capacity T).tables) (set-up-formed capacity T fit))

  -- what the reply relies on
  pub package-answered : length lent ≡ 512 → answer_number b ≡ 0 → Answered bytes U
  package-answered sized z =
      record {
        layout = laid_out (set_up capacity T).tables bytes lent (set-up-formed capacity T fit) sized (ap (λ (r : PackageReply). answer_number r.answer) (sym f) ∙ z);
        formed = package-formed;
      }

  -- the lines of the reply are the listing
  pub listed : {before after : List ℕ} {end : ℕ} → Put 0 (reply_lines bytes (package_reply b U answers)) before after end → Put 0 (listing T bytes lent) before after end
  unfolding listing
  listed p = put_as p (ap (reply_lines bytes) f)
