-- What the tests of a program to take in answer.
use Rattle.std.specs.Prelude.{cond, List, [], ◌∷◌, ℕ}
use Rattle.machine.specs.Instruction.{Code}
use Rattle.model.specs.Answers.{Answer}
use Rattle.model.specs.Refusals.{Test, no_timestamp, below_cutoff, wrong_program_length, no_version, malformed, same_program}

-- refusals 4, 14, 6, 13 and 7, which the timestamp, the cutoff and the program decide
abbrev pub argument_tests : ℕ → ℕ → Code → List Test
argument_tests cutoff t p = no_timestamp t ∷ below_cutoff cutoff t ∷ wrong_program_length p ∷ no_version p ∷ malformed p ∷ []

-- the answer to a program whose timestamp is held with some program: the same, or refusal 8
abbrev pub compared_answer : Code → Code → Answer
compared_answer program p = cond (same_program program p) Answer.Held (Answer.Refused 8)
