-- What the test of a program's form tells.
use mathlib.Core.Path.{◌≡◌, refl, sym, ap, ◌∙◌}
use mathlib.Core.Bool.{Bool, true, false, ◌&&◌}
use mathlib.Core.List.{List, [], ◌∷◌}
use Prim.Native.Nat.{ℕ, zero, suc, ◌+◌, ◌-◌, ◌*◌, ◌/◌, ◌%◌, ◌≤◌, ◌<◌}
use native.Mathlib.Decide.{dec_lt}
use native.Mathlib.Omega.{arith}
use borrow.Author.Tests.{ltb-true, leb-true, le-leb, eqb-true, eq-eqb}
use lib.Dec.{ltb, leb}
use lib.ListN.{length, get_or, drop, get_or-eq_default}
use lib.Seq.{get_or-drop}
use Rattle.machine.specs.declared.Instruction.{Instruction}
use Rattle.machine.specs.Instruction.{instruction_at, instruction_count}
use Rattle.machine.specs.declared.Format.{Format}
use Rattle.machine.specs.declared.Operand.{Operand}
use Rattle.machine.specs.declared.Operand.TheVariants.{Distance}
use Rattle.general.specs.Lists.{all_below}
use Rattle.machine.specs.Form.{register, formats, unknown, format_of, is_below, is_distance, operand_fits, is_well_formed, length_fits, all_well_formed}
use Rattle.general.proofs.Cases.{both, true-is-not-false}

-- a test that every place below k passes
pub all-below : (k : ℕ) (test : ℕ → Bool) → all_below k test ≡ true → (i : ℕ) → i < k → test i ≡ true
unfolding all_below
all-below zero test e i h = absurd (omega arith)
all-below (suc k) test e i h = go (all-below k test (both (all_below k test) e).0 i) (dec_lt i k)
  where
    go : (i < k → test i ≡ true) → Dec (i < k) → test i ≡ true
    go ih (yes q) = ih q
    go ih (no q) = let w : k ≡ i = omega arith in rw w at (both (all_below k test) e).1

pub below_all : (k : ℕ) (test : ℕ → Bool) → ((i : ℕ) → i < k → test i ≡ true) → all_below k test ≡ true
unfolding all_below
below_all zero test h = refl
below_all (suc k) test h = rw (below_all k test (λ i q. h i (omega arith)), h k (omega arith))

-- one that some place fails
pub not_all_below : (k : ℕ) (test : ℕ → Bool) (i : ℕ) → i < k → test i ≡ false → all_below k test ≡ false
not_all_below k test i h q = go (all_below k test) refl
  where
    go : (b : Bool) → all_below k test ≡ b → b ≡ false
    go true e = true-is-not-false (sym (all-below k test e i h) ∙ q)
    go false e = refl

-- ---- the length of a program

pub length-short : (bytes : List ℕ) → length_fits bytes ≡ true → length bytes ≤ 256
unfolding length_fits
length-short bytes e = leb-true _ _ (both _ e).0

pub length-eights : (bytes : List ℕ) → length_fits bytes ≡ true → 8 * (length bytes / 8) ≡ length bytes
unfolding length_fits
length-eights bytes e = omega (arith, eqb-true (length bytes % 8) 0 (both (leb (length bytes) 256) e).1)

pub length-fits : (bytes : List ℕ) (k : ℕ) → k ≤ 32 → length bytes ≡ 8 * k → length_fits bytes ≡ true
unfolding length_fits
length-fits bytes k h e = rw (le-leb (length bytes) 256 (omega arith), eq-eqb (length bytes % 8) 0 (omega arith))

-- ---- the parts of a well-formed instruction

-- no limit of the table is above a register's: one computed test
limited : List Format → Bool
limited [] = true
limited (f ∷ l) = leb f.a register && (leb f.b register && (leb f.c register && limited l))

limits : (l : List Format) → limited l ≡ true → (k : ℕ) → ((get_or l k unknown).a ≤ register) × ((get_or l k unknown).b ≤ register) × ((get_or l k unknown).c ≤ register)
unfolding limited
limits [] e k = omega arith
limits (f ∷ l) e zero =
    let ea = both (leb f.a register) e in
    let eb = both (leb f.b register) ea.1 in
    (leb-true f.a register ea.0, leb-true f.b register eb.0, leb-true f.c register (both (leb f.c register) eb.1).0)
limits (f ∷ l) e (suc k) = limits l (both (leb f.c register) (both (leb f.b register) (both (leb f.a register) e).1).1).1 k

-- the operations from 15 on take n for a distance
skips : (k : ℕ) → 0 < (get_or (drop 15 formats) k unknown).a → (get_or (drop 15 formats) k unknown).n ≡ Distance
skips zero h = refl
skips (suc zero) h = refl
skips (suc (suc zero)) h = refl
skips (suc (suc (suc k))) h = absurd (omega arith)

skip-operand : (operation : ℕ) → 15 ≤ operation → 0 < (format_of operation).a → (format_of operation).n ≡ Distance
skip-operand operation h q =
    let e : 15 + (operation - 15) ≡ operation = omega arith in
    let d = get_or-drop 15 formats (operation - 15) unknown ∙ ap format_of e in
    sym (ap (λ (f : Format). f.n) d) ∙ skips (operation - 15) (rw d q)

known-operation : (operation : ℕ) → 0 < (format_of operation).a → operation < 18
known-operation operation h = go (dec_lt operation 18)
  where
    go : Dec (operation < 18) → operation < 18
    go (yes q) = q
    go (no q) = absurd (let e : format_of operation ≡ unknown = get_or-eq_default formats unknown {n = operation} (omega arith) in omega (arith, ap (λ (f : Format). f.a) e))

pub record Parts (count place : ℕ) (i : Instruction) : Type 0 where
  pub known : i.operation < 18
  pub a : i.a < register
  pub b : i.b < register
  pub c : i.c < register
  pub shift : i.operation ≡ 6 → is_below i.n 32 ≡ true
  pub skip : 15 ≤ i.operation → is_distance i.n place count ≡ true

pub parts : (count place : ℕ) (i : Instruction) → is_well_formed count place i ≡ true → Parts count place i
unfolding is_well_formed limited
parts count place i e =
    let f = format_of i.operation in
    let ea = both (ltb i.a f.a) e in
    let eb = both (ltb i.b f.b) ea.1 in
    let ec = both (ltb i.c f.c) eb.1 in
    let l = limits formats refl i.operation in
    let ha : i.a < f.a = ltb-true i.a f.a ea.0 in
    let hb : i.b < f.b = ltb-true i.b f.b eb.0 in
    let hc : i.c < f.c = ltb-true i.c f.c ec.0 in
    record {
      known = known-operation i.operation (omega arith);
      a = omega (arith, l.0);
      b = omega (arith, l.1);
      c = omega (arith, l.2);
      shift = λ s. sym (ap (λ (o : ℕ). operand_fits (format_of o).n i.n place count) s) ∙ ec.1;
      skip = λ h. sym (ap (λ (k : Operand). operand_fits k i.n place count) (skip-operand i.operation h (omega arith))) ∙ ec.1;
    }

-- each instruction of a well-formed program
pub parts_at : (bytes : List ℕ) → all_well_formed bytes ≡ true → (place : ℕ) → place < instruction_count bytes → Parts (instruction_count bytes) place (instruction_at bytes place)
unfolding all_well_formed
parts_at bytes e place h = parts (instruction_count bytes) place (instruction_at bytes place) (all-below (instruction_count bytes) (λ p. is_well_formed (instruction_count bytes) p (instruction_at bytes p)) e place h)
