-- Laws of the masks: the eight bytes of an instruction have no bit of its operation's mask, and its reach is within the program, where it is well formed.
use mathlib.Core.Path.{◌≡◌, refl, sym, ap, ap₂, ◌∙◌}
use mathlib.Core.Bool.{Bool, true, false, ◌&&◌, and-true, and-false}
use mathlib.Core.List.{List}
use Prim.Native.Nat.{ℕ, suc, ◌+◌, ◌-◌, ◌*◌, ◌/◌, ◌%◌, ◌^◌, ◌≤◌, ◌<◌}
use native.Mathlib.Nat.{mod-lt, mod-eq_of_lt}
use native.Mathlib.Numerals.{add-one}
use native.Mathlib.Omega.{arith}
use borrow.Author.Tests.{ltb-true, ltb-false, eqb-true, eqb-false, lt-ltb, le-ltb, eq-eqb, ne_eqb}
use lib.Bits.{bit_and, bit_or, and_block, and_mask, and_zero_r}
use lib.Dec.{ltb, eqb}
use lib.IntN.{ℤ, pos, negsuc}
use lib.ListN.{get_or}
use lib.Pow.{pow_pos, split, high_ones, shr_mod}
use mir.Syntax.{w8}
use mir.Val.{Fits, sel}
use Rattle.words.specs.Words.{number_of, is_zero}
use Rattle.machine.specs.declared.Operand.{Operand}
use Rattle.machine.specs.declared.Operand.TheVariants.{Unused, Number, Bits, Setting, Distance}
use Rattle.machine.specs.Instruction.{word_at, instruction_at}
use Rattle.general.specs.Lists.{all_below}
use Rattle.machine.specs.Form.{register, unused, is_below, operand_fits, is_well_formed}
use Rattle.machine.proofs.Form.{parts}
use Rattle.bytecode.specs.Masks.{encoding_at, pattern_limit, joined, mask_of, reach_of}
use Rattle.general.proofs.Bits.{or-zero}
use Rattle.bytecode.proofs.Bounds.{distance-below}
use Rattle.bytecode.proofs.Numbers.{◌then◌, in-range}

-- ---- parts

-- a number of j + k bits is below 2^k where the upper j are 0
upper-zero : (j k x : ℕ) → x < 2 ^ (j + k) → eqb (bit_and x (2 ^ (j + k) - 2 ^ k)) 0 ≡ ltb x (2 ^ k)
upper-zero j k x h =
    ap (λ (n : ℕ). eqb n 0)
    (ap₂ bit_and (sym (split x k)) (high_ones j k ∙ omega arith)
    ∙ and_block k (x / 2 ^ k) (2 ^ j - 1) (x % 2 ^ k) 0 (mod-lt x (pow_pos k)) (pow_pos k)
    ∙ ap₂ (λ (p q : ℕ). p * 2 ^ k + q) (and_mask (x / 2 ^ k) j ∙ shr_mod j k h) (and_zero_r (x % 2 ^ k)))
    ∙ go (x / 2 ^ k * 2 ^ k) (x % 2 ^ k) (split x k) (mod-lt x (pow_pos k)) mod-eq_of_lt (ltb x (2 ^ k)) refl
  where
    go : (t r : ℕ) → t + r ≡ x → r < 2 ^ k → (x < 2 ^ k → r ≡ x) → (b : Bool) → ltb x (2 ^ k) ≡ b → eqb (t + 0) 0 ≡ b
    go t r e l m true q = eq-eqb (t + 0) 0 (omega (arith, m (ltb-true x (2 ^ k) q)))
    go t r e l m false q = ne_eqb (t + 0) 0 (λ z. omega (arith, ltb-false x (2 ^ k) q))

-- the limit of a register's number, or of an unused part
abbrev limit : Bool → ℕ
limit true = register
limit false = unused

byte-below : (t : Bool) (x : ℕ) → x < 256 → eqb (bit_and x (256 - limit t)) 0 ≡ ltb x (limit t)
byte-below true x h = upper-zero 5 3 x h
byte-below false x h = upper-zero 8 0 x h

byte_mask : (t : Bool) → 256 - limit t < 256
byte_mask true = omega arith
byte_mask false = omega arith

-- the bits of two parts, the lower one a byte
byte-first : (x m y n : ℕ) → y < 256 → n < 256 → eqb (bit_and (x * 256 + y) (m * 256 + n)) 0 ≡ (eqb (bit_and y n) 0 && eqb (bit_and x m) 0)
byte-first x m y n h k = ap (λ (p : ℕ). eqb p 0) (and_block 8 x m y n h k) ∙ go (bit_and x m) (bit_and y n) (eqb (bit_and y n) 0) (eqb (bit_and x m) 0) refl refl
  where
    go : (p q : ℕ) (t u : Bool) → eqb q 0 ≡ t → eqb p 0 ≡ u → eqb (p * 256 + q) 0 ≡ (t && u)
    go p q true true e f = eq-eqb (p * 256 + q) 0 (omega (arith, eqb-true q 0 e, eqb-true p 0 f))
    go p q true false e f = ne_eqb (p * 256 + q) 0 (λ z. eqb-false p 0 f (omega arith))
    go p q false u e f = ne_eqb (p * 256 + q) 0 (λ z. eqb-false q 0 e (omega arith))

-- a pattern is below a limit where its number is
pattern-below : (n bound : ℕ) → bound ≤ 2 ^ 31 → ltb n bound ≡ is_below (number_of n) bound
unfolding number_of
pattern-below n bound b = go (ltb n (2 ^ 31)) refl
  where
    go : (t : Bool) → ltb n (2 ^ 31) ≡ t → ltb n bound ≡ is_below (sel t (pos n) (negsuc (2 ^ 32 - suc n))) bound
    go true e = refl
    go false e = le-ltb n bound (omega (arith, ltb-false n (2 ^ 31) e))

-- 0 is the number below 1
zero-below : (z : ℤ) → is_below z 1 ≡ is_zero z
zero-below (pos n) = go (eqb n 0) refl
  where
    go : (t : Bool) → eqb n 0 ≡ t → ltb n 1 ≡ t
    go true e = lt-ltb n 1 (omega (arith, eqb-true n 0 e))
    go false e = le-ltb n 1 (omega (arith, eqb-false n 0 e))
zero-below (negsuc n) = refl

-- ---- an instruction

-- a test after others is the last of them
last : (x y z t u : Bool) → ((x && (y && (z && t))) && u) ≡ (x && (y && (z && (t && u))))
last true true true t u = refl
last true true false t u = refl
last true false z t u = refl
last false y z t u = refl

-- the tests of n and of its reach r are that of its kind
record OperandFits (kind : Operand) (r n place count : ℕ) : Type 0 where
  same : (eqb (bit_and n (4294967296 - pattern_limit kind)) 0 && ltb r (count - place)) ≡ operand_fits kind (number_of n) place count

module _ (a b c n place count : ℕ) (ha : a < 256) (hb : b < 256) (hc : c < 256) (hn : n < 2 ^ 32) (inside : place < count) where
  -- an operand that is no distance reaches nothing
  below : (j k : ℕ) → n < 2 ^ (j + k) → (eqb (bit_and n (2 ^ (j + k) - 2 ^ k)) 0 && ltb 0 (count - place)) ≡ ltb n (2 ^ k)
  below j k h = ap₂ ◌&&◌ (upper-zero j k n h) (lt-ltb 0 (count - place) (omega arith)) ∙ and-true (ltb n (2 ^ k))

  none : OperandFits Unused 0 n place count
  none = record { same = below 32 0 hn ∙ pattern-below n 1 (omega arith) ∙ zero-below (number_of n) }

  number : OperandFits Number 0 n place count
  number = record { same = below 0 32 hn ∙ lt-ltb n (2 ^ 32) hn }

  bits : OperandFits Bits 0 n place count
  bits = record { same = below 27 5 hn ∙ pattern-below n 32 (omega arith) }

  setting : OperandFits Setting 0 n place count
  setting = record { same = below 22 10 hn ∙ pattern-below n 1024 (omega arith) }

  distance : OperandFits Distance n n place count
  unfolding number_of
  distance = record { same = ap (λ t. t && ltb n (count - place)) (upper-zero 1 31 n hn) ∙ go (ltb n (2 ^ 31)) }
    where
      go : (t : Bool) → (t && ltb n (count - place)) ≡ operand_fits Distance (sel t (pos n) (negsuc (2 ^ 32 - suc n))) place count
      go true = distance-below (pos n) place count
      go false = refl

  -- by a format: x, y and z say whether a, b and c are registers
  masked : {kind : Operand} {r operation : ℕ} (x y z : Bool) → OperandFits kind r n place count → operation < 256
      → (eqb (bit_and (joined operation a b c n) (joined 0 (256 - limit x) (256 - limit y) (256 - limit z) (4294967296 - pattern_limit kind))) 0 && ltb r (count - place))
      ≡ (ltb a (limit x) && (ltb b (limit y) && (ltb c (limit z) && operand_fits kind (number_of n) place count)))
  masked {kind} {r} {operation} x y z e h =
      let mn = 4294967296 - pattern_limit kind in
      let mc = mn * 256 + (256 - limit z) in
      let mb = mc * 256 + (256 - limit y) in
      let ma = mb * 256 + (256 - limit x) in
      let nc = n * 256 + c in
      let nb = nc * 256 + b in
      let na = nb * 256 + a in
      rw (
        byte-first na ma operation 0 h (omega arith),
        and_zero_r operation,
        byte-first nb mb a (256 - limit x) ha (byte_mask x),
        byte-below x a ha,
        byte-first nc mc b (256 - limit y) hb (byte_mask y),
        byte-below y b hb,
        byte-first n mn c (256 - limit z) hc (byte_mask z),
        byte-below z c hc,
      )
      (last (ltb a (limit x)) (ltb b (limit y)) (ltb c (limit z)) _ (ltb r (count - place))
      ∙ ap (λ t. ltb a (limit x) && (ltb b (limit y) && (ltb c (limit z) && t))) e.same)

  -- by an operation: the tests by mask and reach are those of the definition
  abbrev tested : ℕ → Type 0
  tested operation =
      operation < 256
      → (eqb (bit_and (joined operation a b c n) (mask_of operation)) 0 && ltb (reach_of operation n) (count - place))
      ≡ is_well_formed count place (record { operation = operation; a = a; b = b; c = c; n = number_of n })

  pub by_mask : (operation : ℕ) → operation < 18 → tested operation
  unfolding is_well_formed
  by_mask operation =
      in-range tested 0 18
      (masked false false false none
      then masked true false false number
      then masked true true false none
      then masked true true true none
      then masked true true true none
      then masked true true false none
      then masked true true false bits
      then masked true true false none
      then masked true true true none
      then masked true true true none
      then masked true true true none
      then masked true false false setting
      then masked true true false none
      then masked true false false setting
      then masked true true false none
      then masked false true false distance
      then masked false true false distance
      then masked false false false distance
      then tt)
      operation (omega arith)

-- ---- a program

abbrev pub passes : List ℕ → ℕ → ℕ → Bool
passes bytes count place = is_well_formed count place (instruction_at bytes place)

-- a number that names no operation
pub unknown-fails : (bytes : List ℕ) (count place : ℕ) → 17 < get_or bytes (place * 8) 0 → passes bytes count place ≡ false
unfolding instruction_at
unknown-fails bytes count place h = go (passes bytes count place) refl
  where
    go : (t : Bool) → passes bytes count place ≡ t → t ≡ false
    go true e = absurd (omega (arith, (parts count place (instruction_at bytes place) e).known))
    go false e = refl

module _ (bytes : List ℕ) (byte : (i : ℕ) → Fits w8 (get_or bytes i 0)) (count place : ℕ) (inside : place < count) (known : get_or bytes (place * 8) 0 < 18) where
  -- the bits of an instruction that break its mask, and its reach
  abbrev broken : ℕ
  broken = bit_and (encoding_at bytes (place * 8)) (mask_of (get_or bytes (place * 8) 0))

  abbrev reach : ℕ
  reach = reach_of (get_or bytes (place * 8) 0) (word_at bytes (place * 8 + 4))

  tested_at : (eqb broken 0 && ltb reach (count - place)) ≡ passes bytes count place
  unfolding instruction_at
  tested_at =
      let at = place * 8 in
      let a = get_or bytes (at + 1) 0 in
      let b = get_or bytes (at + 2) 0 in
      let c = get_or bytes (at + 3) 0 in
      let n = word_at bytes (at + 4) in
      let e : encoding_at bytes at ≡ joined (get_or bytes at 0) a b c n = omega arith in
      let short : n < 2 ^ 32 = omega (arith, (byte (at + 4)).fits, (byte (at + 4 + 1)).fits, (byte (at + 4 + 2)).fits, (byte (at + 4 + 3)).fits) in
      ap (λ (x : ℕ). eqb (bit_and x (mask_of (get_or bytes at 0))) 0 && ltb reach (count - place)) e
      ∙ by_mask a b c n place count (byte (at + 1)).fits (byte (at + 2)).fits (byte (at + 3)).fits short inside (get_or bytes at 0) known (omega arith)

  pub too_far : count - place ≤ reach → passes bytes count place ≡ false
  too_far h = sym tested_at ∙ ap (λ t. eqb broken 0 && t) (le-ltb reach (count - place) h) ∙ and-false (eqb broken 0)

  -- the bits that break a mask are gathered: none are where every instruction passes
  pub gathered : (any : ℕ) → eqb any 0 ≡ all_below place (passes bytes count) → reach < count - place → eqb (bit_or any broken) 0 ≡ all_below (place + 1) (passes bytes count)
  unfolding all_below
  gathered any e h =
      or-zero any broken
      ∙ ap₂ ◌&&◌ e (sym (and-true (eqb broken 0)) ∙ ap (λ t. eqb broken 0 && t) (sym (lt-ltb reach (count - place) h)) ∙ tested_at)
      ∙ ap (λ (k : ℕ). all_below k (passes bytes count)) (sym (add-one place))
