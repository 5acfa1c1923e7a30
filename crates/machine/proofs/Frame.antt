-- A run is determined by what it read: it saw what the environment holds, and on an environment that holds the same it is the same run.
use mathlib.Core.Path.{◌≡◌, refl, ap, ◌∙◌}
use mathlib.Core.List.{List, [], ◌∷◌}
use Prim.Native.Nat.{ℕ, suc, zero}
use lib.Dec.{eqb}
use lib.IntN.{nat_abs}
use Rattle.machine.specs.declared.Effect.{Effect}
use Rattle.machine.specs.declared.Effect.TheVariants.{Halt, Assign, Load, Store, Skip}
use Rattle.machine.specs.Settings.{setting_count, Environment, Entry, entry, named, Holds}
use Rattle.machine.specs.Instruction.{Program, program_of, Code}
use Rattle.machine.specs.Form.{is_below}
use Rattle.machine.specs.Run.{effect, Fault, State, Next, stops, faults, goes, enter, with_register, with_reads, once_written, load, store, perform, step, Outcome, continue, run_from, start, run_program, run}
use Rattle.general.proofs.Cases.{by-test, by-test₂}
use Rattle.machine.proofs.Settings.{holds-before, holds-last, holds_more, holds-both}

-- the read list after an instruction
abbrev pub reads_of : Next → List Entry
reads_of (stops state) = state.reads
reads_of (faults fault earlier) = earlier
reads_of (goes skipped state) = state.reads

-- a second use of a written setting leaves the read list as it is
reads-once : (P : List Entry → Type 0) (fault : Fault) (state allowed : State) → P state.reads → P allowed.reads → P (reads_of (once_written fault state allowed))
reads-once P fault state allowed h h' = by-test (λ x. P (reads_of x)) (eqb state.version 0) (λ t. h) (λ t. h')

-- ---- what a run saw is what the environment holds

module _ (env : Environment) where
  enter-holds : (s : ℕ) (l : List Entry) → Holds env l → Holds env (enter s (env s) l)
  unfolding enter
  enter-holds s l h = by-test (Holds env) (named s l) (λ t. h) (λ t. holds_more env l s (env s) h refl)

  pub perform-holds : (e : Effect) (state : State) → Holds env state.reads → Holds env (reads_of (perform env e state))
  unfolding perform load store
  perform-holds Halt state h = h
  perform-holds (Assign a v) state h = h
  perform-holds (Load a s) state h =
      by-test (λ x. Holds env (reads_of x)) (is_below s setting_count)
      (λ t. by-test (λ x. Holds env (reads_of x)) (named (nat_abs s) state.writes) (λ t. reads-once (Holds env) _ state _ h h) (λ t. enter-holds (nat_abs s) state.reads h))
      (λ t. h)
  perform-holds (Store s v) state h =
      by-test (λ x. Holds env (reads_of x)) (is_below s setting_count)
      (λ t. by-test (λ x. Holds env (reads_of x)) (named (nat_abs s) state.writes) (λ t. reads-once (Holds env) _ state _ h h) (λ t. h))
      (λ t. h)
  perform-holds (Skip n) state h = h

  continue-holds : (rest : ℕ → State → Outcome) (place : ℕ) → ((k : ℕ) (state : State) → Holds env state.reads → Holds env (rest k state).reads) → (x : Next) → Holds env (reads_of x) → Holds env (continue rest place x).reads
  continue-holds rest place ih (stops state) h = h
  continue-holds rest place ih (faults fault earlier) h = h
  continue-holds rest place ih (goes skipped state) h = ih skipped state h

  run_from-holds : (place : ℕ) (p : Program) (k : ℕ) (state : State) → Holds env state.reads → Holds env (run_from env place p k state).reads
  unfolding run_from step
  run_from-holds place [] k state h = h
  run_from-holds place (i ∷ p) (suc k) state h = run_from-holds (suc place) p k state h
  run_from-holds place (i ∷ p) zero state h =
      continue-holds (run_from env (suc place) p) place (run_from-holds (suc place) p) (step env i state) (perform-holds (effect i state.registers) state h)

  -- each value seen is the environment's
  pub run_holds : (p : Code) → Holds env (run env p).reads
  unfolding run run_program Holds
  run_holds p = run_from-holds 0 (program_of p.bytes) 0 (start p.version) tt

-- ---- a run on an environment that holds what was seen

module _ (env env' : Environment) where
  enter-same : (s : ℕ) (l : List Entry) → Holds env l → Holds env' (enter s (env s) l) → env' s ≡ env s
  unfolding enter
  enter-same s l h =
      by-test (λ k. Holds env' k → env' s ≡ env s) (named s l)
      (λ t h'. holds-both env env' s l h h' t)
      (λ t h'. holds-last env' l s (env s) h')

  -- the reads before an effect are the first of those after it
  perform-before : (e : Effect) (state : State) → Holds env' (reads_of (perform env e state)) → Holds env' state.reads
  unfolding perform load store enter
  perform-before Halt state = λ h. h
  perform-before (Assign a v) state = λ h. h
  perform-before (Load a s) state =
      by-test (λ x. Holds env' (reads_of x) → Holds env' state.reads) (is_below s setting_count)
      (λ t. by-test (λ x. Holds env' (reads_of x) → Holds env' state.reads) (named (nat_abs s) state.writes) (λ t. reads-once (λ l. Holds env' l → Holds env' state.reads) _ state _ (λ h. h) (λ h. h))
      (λ t. by-test (λ l. Holds env' l → Holds env' state.reads) (named (nat_abs s) state.reads) (λ t h. h) (λ t. holds-before env' state.reads (entry (nat_abs s) (env (nat_abs s)) ∷ []))))
      (λ t h. h)
  perform-before (Store s v) state =
      by-test (λ x. Holds env' (reads_of x) → Holds env' state.reads) (is_below s setting_count)
      (λ t. by-test (λ x. Holds env' (reads_of x) → Holds env' state.reads) (named (nat_abs s) state.writes) (λ t. reads-once (λ l. Holds env' l → Holds env' state.reads) _ state _ (λ h. h) (λ h. h)) (λ t h. h))
      (λ t h. h)
  perform-before (Skip n) state = λ h. h

  perform-same : (e : Effect) (state : State) → Holds env state.reads → Holds env' (reads_of (perform env e state)) → perform env' e state ≡ perform env e state
  unfolding perform load
  perform-same Halt state h = λ h'. refl
  perform-same (Assign a v) state h = λ h'. refl
  perform-same (Load a s) state h =
      by-test₂ (λ x y. Holds env' (reads_of y) → x ≡ y) (is_below s setting_count)
      (λ t. by-test₂ (λ x y. Holds env' (reads_of y) → x ≡ y) (named (nat_abs s) state.writes) (λ t h'. refl)
      (λ t h'. ap (λ v. goes 0 (with_register a v (with_reads (enter (nat_abs s) v state.reads) state))) (enter-same (nat_abs s) state.reads h h')))
      (λ t h'. refl)
  perform-same (Store s v) state h = λ h'. refl
  perform-same (Skip n) state h = λ h'. refl

  continue-before : (rest : ℕ → State → Outcome) (place : ℕ) → ((k : ℕ) (state : State) → Holds env' (rest k state).reads → Holds env' state.reads) → (x : Next) → Holds env' (continue rest place x).reads → Holds env' (reads_of x)
  continue-before rest place ih (stops state) h = h
  continue-before rest place ih (faults fault earlier) h = h
  continue-before rest place ih (goes skipped state) h = ih skipped state h

  run_from-before : (place : ℕ) (p : Program) (k : ℕ) (state : State) → Holds env' (run_from env place p k state).reads → Holds env' state.reads
  unfolding run_from step
  run_from-before place [] k state h = h
  run_from-before place (i ∷ p) (suc k) state h = run_from-before (suc place) p k state h
  run_from-before place (i ∷ p) zero state h =
      perform-before (effect i state.registers) state (continue-before (run_from env (suc place) p) place (run_from-before (suc place) p) (step env i state) h)

  continue-same : (rest' rest : ℕ → State → Outcome) (place : ℕ) → ((k : ℕ) (state : State) → Holds env state.reads → Holds env' (rest k state).reads → rest' k state ≡ rest k state) → (x : Next) → Holds env (reads_of x) → Holds env' (continue rest place x).reads → continue rest' place x ≡ continue rest place x
  continue-same rest' rest place ih (stops state) h h' = refl
  continue-same rest' rest place ih (faults fault earlier) h h' = refl
  continue-same rest' rest place ih (goes skipped state) h h' = ih skipped state h h'

  run_from-same : (place : ℕ) (p : Program) (k : ℕ) (state : State) → Holds env state.reads → Holds env' (run_from env place p k state).reads → run_from env' place p k state ≡ run_from env place p k state
  unfolding run_from step
  run_from-same place [] k state h h' = refl
  run_from-same place (i ∷ p) (suc k) state h h' = run_from-same (suc place) p k state h h'
  run_from-same place (i ∷ p) zero state h h' =
      ap (continue (run_from env' (suc place) p) place)
      (perform-same (effect i state.registers) state h (continue-before (run_from env (suc place) p) place (run_from-before (suc place) p) (step env i state) h'))
      ∙ continue-same (run_from env' (suc place) p) (run_from env (suc place) p) place (run_from-same (suc place) p) (step env i state) (perform-holds env (effect i state.registers) state h) h'

  -- a run on an environment that holds each value seen is the same run
  pub run-same : (p : Code) → Holds env' (run env p).reads → run env' p ≡ run env p
  unfolding run run_program Holds
  run-same p h = run_from-same 0 (program_of p.bytes) 0 (start p.version) tt h
