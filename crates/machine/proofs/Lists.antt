-- The lists of a run: at most one entry for each instruction, each of a setting, no setting twice; a faulted run writes nothing.
use mathlib.Core.Path.{◌≡◌, refl, sym, ap, ◌∙◌}
use mathlib.Core.Bool.{true, false}
use mathlib.Core.List.{List, [], ◌∷◌, ◌++◌}
use Prim.Native.Nat.{ℕ, suc, zero, ◌+◌, ◌≤◌, ◌<◌}
use native.Mathlib.Omega.{arith}
use borrow.Author.Tests.{ltb-true}
use lib.Dec.{eqb}
use lib.IntN.{ℤ, pos, negsuc, nat_abs}
use lib.ListN.{length, length-append}
use Rattle.machine.specs.declared.Effect.{Effect}
use Rattle.machine.specs.declared.Effect.TheVariants.{Halt, Assign, Load, Store, Skip}
use Rattle.machine.specs.Settings.{setting_count, Environment, Entry, entry, named, replace_first, Holds, Distinct, Bounded}
use Rattle.machine.specs.Instruction.{Program, instruction_count, instructions_from, program_of, Code}
use Rattle.machine.specs.Form.{is_below}
use Rattle.machine.specs.Run.{effect, Fault, State, Next, stops, faults, goes, enter, once_written, load, store, perform, step, Outcome, continue, run_from, start, run_program, run}
use Rattle.general.proofs.Cases.{by-test, true-is-not-false}
use Rattle.machine.proofs.Settings.{distinct_more, length-replaced, distinct-replaced}
use Rattle.machine.proofs.Frame.{reads_of, run_holds, run-same}

-- both lists have at most k entries, distinct
pub record Within (k : ℕ) (reads writes : List Entry) : Type 0 where
  pub reads_short : length reads ≤ k
  pub writes_short : length writes ≤ k
  pub reads-distinct : Distinct reads
  pub writes-distinct : Distinct writes

within_more : {j k : ℕ} {r w : List Entry} → j ≤ k → Within j r w → Within k r w
within_more q h =
    record { reads_short = omega (arith, h.reads_short); writes_short = omega (arith, h.writes_short); reads-distinct = h.reads-distinct; writes-distinct = h.writes-distinct }

setting-below : (s : ℤ) → is_below s setting_count ≡ true → nat_abs s < setting_count
setting-below (pos n) t = ltb-true n setting_count t
setting-below (negsuc n) t = true-is-not-false (sym t)

module _ (k s : ℕ) (v : ℤ) (r w : List Entry) (b : s < setting_count) (h : Within k r w) where
  read_more : named s r ≡ false → Within (suc k) (r ++ (entry s v ∷ [])) w
  read_more n =
      record { reads_short = simp length-append (omega (arith, h.reads_short)); writes_short = omega (arith, h.writes_short); reads-distinct = distinct_more s v r b n h.reads-distinct; writes-distinct = h.writes-distinct }

  write-more : named s w ≡ false → Within (suc k) r (w ++ (entry s v ∷ []))
  write-more n =
      record { reads_short = omega (arith, h.reads_short); writes_short = simp length-append (omega (arith, h.writes_short)); reads-distinct = h.reads-distinct; writes-distinct = distinct_more s v w b n h.writes-distinct }

  write_again : Within k r (replace_first s v w)
  write_again =
      record { reads_short = h.reads_short; writes_short = rw length-replaced h.writes_short; reads-distinct = h.reads-distinct; writes-distinct = distinct-replaced s v w h.writes-distinct }

-- no writes are distinct
unwritten : {k : ℕ} {r w : List Entry} → Within k r w → Within k r []
unfolding Distinct
unwritten h = record { reads_short = h.reads_short; writes_short = omega arith; reads-distinct = h.reads-distinct; writes-distinct = tt }

-- the write list after an instruction
abbrev writes_of : Next → List Entry
writes_of (stops state) = state.writes
writes_of (faults fault earlier) = []
writes_of (goes skipped state) = state.writes

-- a second use of a written setting
once-within : (fault : Fault) (state allowed : State) (k : ℕ) → Within k state.reads state.writes → Within k allowed.reads allowed.writes → Within k (reads_of (once_written fault state allowed)) (writes_of (once_written fault state allowed))
once-within fault state allowed k h h' =
    by-test (λ x. Within k (reads_of x) (writes_of x)) (eqb state.version 0) (λ t. unwritten h) (λ t. h')

-- an instruction adds one entry at most
perform-within : (env : Environment) (e : Effect) (state : State) (k : ℕ) → Within k state.reads state.writes → Within (suc k) (reads_of (perform env e state)) (writes_of (perform env e state))
unfolding perform load store enter
perform-within env Halt state k h = within_more (omega arith) h
perform-within env (Assign a v) state k h = within_more (omega arith) h
perform-within env (Load a s) state k h =
    by-test (λ x. Within (suc k) (reads_of x) (writes_of x)) (is_below s setting_count)
    (λ t. by-test (λ x. Within (suc k) (reads_of x) (writes_of x)) (named (nat_abs s) state.writes) (λ u. once-within _ state _ (suc k) (within_more (omega arith) h) (within_more (omega arith) h))
    (λ u. by-test (λ l. Within (suc k) l state.writes) (named (nat_abs s) state.reads) (λ w. within_more (omega arith) h)
    (read_more k (nat_abs s) (env (nat_abs s)) state.reads state.writes (setting-below s t) h)))
    (λ t. unwritten (within_more (omega arith) h))
perform-within env (Store s v) state k h =
    by-test (λ x. Within (suc k) (reads_of x) (writes_of x)) (is_below s setting_count)
    (λ t. by-test (λ x. Within (suc k) (reads_of x) (writes_of x)) (named (nat_abs s) state.writes)
    (λ u. once-within _ state _ (suc k) (within_more (omega arith) h) (within_more (omega arith) (write_again k (nat_abs s) v state.reads state.writes (setting-below s t) h)))
    (write-more k (nat_abs s) v state.reads state.writes (setting-below s t) h))
    (λ t. unwritten (within_more (omega arith) h))
perform-within env (Skip n) state k h = within_more (omega arith) h

continue-within : (rest : ℕ → State → Outcome) (place j k : ℕ) → j ≤ k → ((n : ℕ) (state : State) → Within j state.reads state.writes → Within k (rest n state).reads (rest n state).writes) → (x : Next) → Within j (reads_of x) (writes_of x) → Within k (continue rest place x).reads (continue rest place x).writes
continue-within rest place j k q ih (stops state) h = within_more q h
continue-within rest place j k q ih (faults fault earlier) h = within_more q h
continue-within rest place j k q ih (goes skipped state) h = ih skipped state h

run_from-within : (env : Environment) (place : ℕ) (p : Program) (n k : ℕ) (state : State) → Within k state.reads state.writes → Within (k + length p) (run_from env place p n state).reads (run_from env place p n state).writes
unfolding run_from step
run_from-within env place [] n k state h = within_more (omega arith) h
run_from-within env place (i ∷ p) (suc n) k state h = within_more (omega arith) (run_from-within env (suc place) p n k state h)
run_from-within env place (i ∷ p) zero k state h =
    continue-within (run_from env (suc place) p) place (suc k) (k + suc (length p)) (omega arith)
    (λ n' state' h'. within_more (omega arith) (run_from-within env (suc place) p n' (suc k) state' h'))
    (step env i state) (perform-within env (effect i state.registers) state k h)

length-instructions : (bytes : List ℕ) (place count : ℕ) → length (instructions_from bytes place count) ≡ count
unfolding instructions_from
length-instructions bytes place zero = refl
length-instructions bytes place (suc count) = ap suc (length-instructions bytes (suc place) count)

-- the lists of a run fit the tables
pub run-bounded : (env : Environment) (p : Code) → length p.bytes ≤ 256 → Bounded (run env p).reads × Bounded (run env p).writes
unfolding run run_program program_of Distinct
run-bounded env p h =
    let none : Within 0 [] [] = record { reads_short = omega arith; writes_short = omega arith; reads-distinct = tt; writes-distinct = tt } in
    let w = run_from-within env 0 (program_of p.bytes) 0 0 (start p.version) none in
    let n = length-instructions p.bytes 0 (instruction_count p.bytes) in
    (record { short = omega (arith, w.reads_short, n); distinct = w.reads-distinct }, record { short = omega (arith, w.writes_short, n); distinct = w.writes-distinct })

-- ---- a run reads settings only

module _ (env env' : Environment) (agree : (s : ℕ) → s < setting_count → env' s ≡ env s) where
  holds_agree : (l : List Entry) → Distinct l → Holds env l → Holds env' l
  unfolding Distinct Holds
  holds_agree [] d h = tt
  holds_agree (e ∷ l) d h = (agree e.setting d.0 ∙ h.0, holds_agree l d.2 h.1)

  -- runs on environments that agree on every setting are the same
  pub run_agree : (p : Code) → length p.bytes ≤ 256 → run env' p ≡ run env p
  run_agree p h = run-same env env' p (holds_agree _ (run-bounded env p h).0.distinct (run_holds env p))
