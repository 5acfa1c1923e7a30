-- The lines of a reply, by its answer.
use mathlib.Core.Path.{◌≡◌, refl, ap, ◌∙◌}
use mathlib.Core.List.{List, ◌++◌}
use Prim.Native.Nat.{ℕ}
use borrow.Author.Tests.{eq-eqb}
use lib.IntN.{ℤ}
use Rattle.std.specs.Prelude.{Result, Ok, Err}
use Rattle.model.specs.declared.Refusal.{Refusal}
use Rattle.model.specs.Answers.{Answer, as_done}
use Rattle.model.specs.Tables.{Tables}
use Rattle.model.specs.Calls.{answer_number, package_reply, drain}
use Rattle.model.specs.Log.{drain_turns}
use Rattle.reply_parts.specs.Parts.{entry_lines, setting_lines}
use Rattle.replies.specs.Replies.{capacity, turn_lines, reply_lines}

-- an answer that is no refusal
pub done-number : (a : Result (Unit {0}) Refusal) → ((refusal : Refusal) → a ≡ Err refusal → ⊥) → answer_number (as_done a) ≡ 0
done-number (Ok done) h = refl
done-number (Err refusal) h = absurd (h refusal refl)

pub reply-answered : (bytes answers : List ℕ) (a : Answer) (T : Tables) {view : List ℤ} → answer_number a ≡ 0 → view ≡ (drain capacity T).tables.view → entry_lines bytes answers ++ turn_lines (drain_turns capacity T) ++ setting_lines view ≡ reply_lines bytes (package_reply a T answers)
reply-answered bytes answers a T z v = ap (λ (view : List ℤ). entry_lines bytes answers ++ turn_lines (drain_turns capacity T) ++ setting_lines view) v ∙ rw (eq-eqb (answer_number a) 0 z)
