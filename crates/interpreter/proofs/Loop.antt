-- The run of a program, one instruction at a time, on any environment: what a loop over `effect` and `perform` needs, and what a turn of it keeps.
use mathlib.Core.Path.{◌≡◌, refl, sym, ap, subst⁻¹, ◌∙◌}
use mathlib.Core.Bool.{true, false}
use mathlib.Core.List.{List}
use Prim.Native.Nat.{ℕ, zero, suc, ◌+◌, ◌-◌, ◌≤◌, ◌<◌}
use native.Mathlib.Decide.{dec_lt}
use native.Mathlib.Omega.{arith}
use borrow.Author.Tests.{leb-true, le-leb}
use lib.Dec.{eqb}
use lib.IntN.{ℤ, pos, negsuc}
use lib.ListN.{length}
use lib.Signed.{lt_z}
use mir.Facts.{to_z-of_z}
use mir.Syntax.{w32}
use mir.Val.{SFits}
use Rattle.std.specs.Prelude.{Option, Some, None, IfSome, unwrap_or}
use Rattle.words.specs.Words.{is_zero}
use Rattle.machine.specs.declared.Effect.{Effect}
use Rattle.machine.specs.declared.Instruction.{Instruction}
use Rattle.machine.specs.Settings.{setting_count, Environment, entries, everywhere}
use Rattle.machine.specs.Instruction.{instruction_at, instructions_from, instruction_count, program_of, Code}
use Rattle.machine.specs.Form.{is_distance, all_well_formed}
use Rattle.machine.specs.Run.{register_in, effect, State, perform, step, wanted, Outcome, continue, run_from, run_program, run}
use Rattle.general.proofs.Cases.{by-test, true-is-not-false}
use Rattle.machine.proofs.Form.{Parts, parts_at}
use Rattle.machine.proofs.Step.{perform-wanted}
use Rattle.run_record.specs.declared.Lists.{Lists}
use Rattle.run_record.specs.declared.Run.{Run}
use Rattle.run_record.specs.declared.Status.{Status}
use Rattle.run_record.specs.declared.Status.TheVariants.{Going, Stopped, Faulted}
use Rattle.run_record.specs.Record.{begun, ended, Performable, state_of, is_going, outcome_of, proceed, Ready, Stepped, Ran}
use Rattle.bytecode.proofs.Numbers.{◌then◌, in-range, read}
use Rattle.instruction_effects.specs.Effects.{distance_of, Operands}
use Rattle.instruction_effects.proofs.Effects.{effect-at, effect-skips}

-- ---- what the instructions of a well-formed program allow

module _ (bytes : List ℕ) (f : all_well_formed bytes ≡ true) {place : ℕ} (h : place < instruction_count bytes) where
  -- the effect of the instruction can be computed
  pub operands : Operands (instruction_at bytes place)
  operands = let p = parts_at bytes f place h in record { known = p.known; a = p.a; b = p.b; c = p.c; shift = p.shift }

  -- a distance within the program is one within 32 places
  distance-fits : length bytes ≤ 256 → (n : ℤ) → is_distance n place (instruction_count bytes) ≡ true → is_distance n place 32 ≡ true
  distance-fits s (pos n) e = le-leb (place + 1 + n) 32 (omega (arith, leb-true (place + 1 + n) (instruction_count bytes) e))
  distance-fits s (negsuc n) e = true-is-not-false (sym e)

  -- so is the distance that an operation passes over
  passed-fits : (operation : ℕ) (n x : ℤ) → place < 32 → is_distance n place 32 ≡ true → is_distance (distance_of operation n x) place 32 ≡ true
  passed-fits operation n x b e =
      let P : ℤ → Type 0 = λ d. is_distance d place 32 ≡ true in
      let none : P (pos 0) = le-leb (place + 1 + 0) 32 (omega arith) in
      by-test P (eqb operation 15) (λ t. by-test P (lt_z x (pos 0)) (λ u. e) (λ u. none))
      (λ t. by-test P (eqb operation 16) (λ u. by-test P (is_zero x) (λ v. e) (λ v. none)) (λ u. e))

  -- and carried out
  pub performable : length bytes ≤ 256 → (registers : List ℤ) → Performable place (effect (instruction_at bytes place) registers)
  unfolding effect
  performable s registers = go (dec_lt i.operation 15)
    where
      i : Instruction
      i = instruction_at bytes place

      p : Parts (instruction_count bytes) place i
      p = parts_at bytes f place h

      go : Dec (i.operation < 15) → Performable place (effect i registers)
      go (yes q) =
          let a = p.a in
          in-range (λ k. Performable place (effect-at i registers k)) 0 15 (tt then a then a then a then a then a then a then a then a then a then a then a then a then tt then tt then tt) i.operation (omega arith) q
      go (no q) =
          let o : 15 ≤ i.operation = omega arith in
          subst⁻¹ (Performable place) (effect-skips i registers o p.known) (passed-fits i.operation i.n (register_in registers i.b) (omega arith) (distance-fits s i.n (p.skip o)))

-- ---- where a run stands

not-going : (s : Status) → (s ≡ Going → ⊥) → is_going s ≡ false
not-going Going g = absurd (g refl)
not-going Stopped g = refl
not-going (Faulted f) g = refl

-- the definition run on the instructions from the record's place on
abbrev pub onward : Environment → List ℕ → Run → Lists → Outcome
onward env bytes r l = run_from env r.place (instructions_from bytes r.place (instruction_count bytes - r.place)) 0 (state_of r l)

-- before an instruction: the definition run from here on is the definition run on the whole
pub record Reached (env : Environment) (code : Code) (r : Run) (l : Lists) : Type 0 where
  pub rest : onward env code.bytes r l ≡ run env code
  pub going : r.status ≡ Going
  pub within : r.place ≤ 32
  pub reads : r.reads ≤ r.place
  pub writes : r.writes ≤ r.place

-- passing over k instructions
passes : (env : Environment) (bytes : List ℕ) (place count k : ℕ) (state : State) → run_from env place (instructions_from bytes place count) k state ≡ run_from env (place + k) (instructions_from bytes (place + k) (count - k)) 0 state
unfolding run_from instructions_from
passes env bytes place count zero state =
    let p : place ≡ place + 0 = omega arith in
    let n : count ≡ count - 0 = omega arith in
    λ i. run_from env (p i) (instructions_from bytes (p i) (n i)) 0 state
passes env bytes place zero (suc k) state =
    let n : 0 ≡ 0 - suc k = omega arith in
    λ i. run_from env (place + suc k) (instructions_from bytes (place + suc k) (n i)) 0 state
passes env bytes place (suc count) (suc k) state =
    let p : suc place + k ≡ place + suc k = omega arith in
    let n : count - k ≡ suc count - suc k = omega arith in
    passes env bytes (suc place) count k state ∙ (λ i. run_from env (p i) (instructions_from bytes (p i) (n i)) 0 state)

-- what the setting that an effect wants tells of its value
pub asked : (env : Environment) (e : Effect) {v : ℤ} (s : Option ℕ) → SFits w32 v → unwrap_or s setting_count ≡ wanted e → IfSome s (λ k. v ≡ env k) → wanted e < setting_count → read v ≡ env (wanted e)
asked env e (Some k) i q f b = to_z-of_z i ∙ f ∙ ap env q
asked env e None i q f b = absurd (omega arith)

module _ (env : Environment) (code : Code) (b : length code.bytes ≤ 256) where
  -- a record that has reached an instruction can take it
  pub ready : {r : Run} {l : Lists} → Reached env code r l → r.place < instruction_count code.bytes → Ready r
  ready h p = record { going = h.going; placed = omega arith; reads = h.reads; writes = h.writes }

  -- at the start
  pub begins : {l : Lists} → Reached env code (begun code.version) l
  unfolding run run_program program_of entries
  begins {l} =
      let n : instruction_count code.bytes - 0 ≡ instruction_count code.bytes = omega arith in
      record { rest = λ i. run_from env 0 (instructions_from code.bytes 0 (n i)) 0 (state_of (begun code.version) l); going = refl; within = omega arith; reads = omega arith; writes = omega arith }

  -- past the last instruction
  pub ends : {r : Run} {l : Lists} → Reached env code r l → instruction_count code.bytes ≤ r.place → Ran r l (run env code)
  unfolding run_from instructions_from
  ends {r} {l} h p =
      let n : 0 ≡ instruction_count code.bytes - r.place = omega arith in
      record {
        outcome = ap (λ (s : Status). outcome_of (ended r s r.writes) l) h.going ∙ (λ i. run_from env r.place (instructions_from code.bytes r.place (n i)) 0 (state_of r l)) ∙ h.rest;
        placed = h.within;
        reads = omega arith;
        writes = omega arith;
      }

  -- one turn: e is the effect of the instruction, v the value of the setting that it wants, and r' and l' follow
  module _ {r r' : Run} {l l' : Lists} (h : Reached env code r l) (p : r.place < instruction_count code.bytes) {e : Effect} {v : ℤ} (q : e ≡ effect (instruction_at code.bytes r.place) r.registers) (w : wanted e < setting_count → v ≡ env (wanted e)) (s : Stepped r (perform (everywhere v) e (state_of r l)) r' l') where
    -- how the instructions after this one run
    abbrev rest : ℕ → State → Outcome
    rest = run_from env (suc r.place) (instructions_from code.bytes (suc r.place) (instruction_count code.bytes - suc r.place))

    -- what follows the instruction is what the definition leaves
    turn : proceed rest r.place r' l' ≡ run env code
    unfolding run_from instructions_from step
    turn =
        let n : suc (instruction_count code.bytes - suc r.place) ≡ instruction_count code.bytes - r.place = omega arith in
        let one : perform (everywhere v) e (state_of r l) ≡ step env (instruction_at code.bytes r.place) (state_of r l) = rw (perform-wanted env e (state_of r l) v w, q) in
        s.follows rest ∙ ap (continue rest r.place) one ∙ (λ i. run_from env r.place (instructions_from code.bytes r.place (n i)) 0 (state_of r l)) ∙ h.rest

    -- the record goes on
    pub goes_on : r'.status ≡ Going → Reached env code r' l'
    goes_on g =
        let up = s.rises g in
        let at : suc r.place + (r'.place - (r.place + 1)) ≡ r'.place = omega arith in
        let n : instruction_count code.bytes - suc r.place - (r'.place - (r.place + 1)) ≡ instruction_count code.bytes - r'.place = omega arith in
        record {
          rest = sym (passes env code.bytes (suc r.place) (instruction_count code.bytes - suc r.place) (r'.place - (r.place + 1)) (state_of r' l') ∙ (λ i. run_from env (at i) (instructions_from code.bytes (at i) (n i)) 0 (state_of r' l'))) ∙ (rw g at turn);
          going = g;
          within = s.within;
          reads = omega (arith, s.reads);
          writes = omega (arith, s.writes);
        }

    -- the record has ended
    pub has_ended : (r'.status ≡ Going → ⊥) → Ran r' l' (run env code)
    has_ended g = record { outcome = rw (not-going r'.status g) at turn; placed = s.within; reads = omega (arith, s.reads); writes = omega (arith, s.writes) }
