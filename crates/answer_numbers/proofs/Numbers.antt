-- From the number of an answer to that of a call's reply.
use mathlib.Core.Path.{◌≡◌, ap, ◌∙◌}
use mathlib.Core.List.{List}
use Prim.Native.Nat.{ℕ}
use Rattle.model.specs.Tables.{Tables}
use Rattle.model.specs.Calls.{reply}
use Rattle.answer_numbers.specs.Numbers.{numbered}

pub same_number : {A : Type 0} {slice : List A} {r k : ℕ} → r ≡ k → numbered r slice ≡ numbered k slice
same_number {slice = slice} e = ap (λ k. numbered k slice) e

pub same_answer : {A : Type 0} {T : Tables} {a b : A} → a ≡ b → reply a T ≡ reply b T
same_answer {A} {T} e = ap (λ (a : A). reply a T) e

-- what is made of a reply is made of the call that gives it
pub of-call : {R S : Type 0} (made : R → S) {s : S} {r called : R} → s ≡ made r → r ≡ called → s ≡ made called
of-call made e h = e ∙ ap made h
