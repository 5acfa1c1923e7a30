-- The registers with one set, as eight picks.
use mathlib.Core.Path.{◌≡◌, sym, ◌∙◌}
use mathlib.Core.List.{List, map}
use Prim.Native.Nat.{ℕ, ◌<◌}
use native.Mathlib.Omega.{arith}
use borrow.Author.Tests.{eqb-true, eqb-false}
use lib.Dec.{eqb}
use lib.IntN.{ℤ, pos}
use lib.ListN.{length, get_or, set, length-set, length-map, get_or-map}
use lib.Seq.{get_or-set_same, get_or-set_other, ext_get_or}
use lib.Signed.{mag}
use mir.Facts.{to_z-of_z}
use mir.Syntax.{w32}
use mir.Val.{SFits}
use Rattle.general.proofs.Cases.{by-test}
use Rattle.run_record.specs.Record.{pick}
use Rattle.bytecode.proofs.Numbers.{Each, in-range, read}

-- the number in place i is the pick for register i, of v and of a register that fits
abbrev pub PickedAt : List ℤ → List ℤ → ℕ → ℤ → ℕ → Type 0
PickedAt registers picked a v i = (get_or picked i (pos 0) ≡ pick a i (read v) (read (get_or registers i (pos 0)))) × (mag (get_or registers i (pos 0)) < 2147483648)

-- eight picks, one for each register, are the registers with v in register a
pub picks : (registers picked : List ℤ) (a : ℕ) {v : ℤ} → length registers ≡ 8 → length picked ≡ 8 → a < 8 → SFits w32 v → Each (PickedAt registers picked a v) 0 8 → map read picked ≡ set registers a v
picks registers picked a {v} l m h f e =
    ext_get_or (pos 0) (map read picked) (set registers a v) (simp (length-map, length-set) (m ∙ sym l))
    (λ i q. get_or-map read picked i (pos 0) ∙ at i (in-range (PickedAt registers picked a v) 0 8 e i (omega arith) (omega (arith, length-map picked read))))
  where
    at : (i : ℕ) → PickedAt registers picked a v i → read (get_or picked i (pos 0)) ≡ get_or (set registers a v) i (pos 0)
    at i (e, g) =
        let w : SFits w32 (get_or registers i (pos 0)) = record { sfits = g } in
        rw (e, to_z-of_z f, to_z-of_z w)
        (by-test (λ (x : ℤ). read x ≡ get_or (set registers a v) i (pos 0)) (eqb a i)
        (λ t. let q : a ≡ i = eqb-true a i t in to_z-of_z f ∙ rw q (sym (get_or-set_same registers i v (pos 0) (omega arith))))
        (λ t. to_z-of_z w ∙ sym (get_or-set_other registers a i v (pos 0) (λ q. eqb-false a i t (sym q)))))
