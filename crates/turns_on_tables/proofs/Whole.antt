-- A callee is lent the number of changes held in place of its table: what holds of all the lent tables holds of what it is lent, and what it ensures of that holds of them.
use mathlib.Core.Path.{◌≡◌, refl, sym, ap, subst, ◌∙◌}
use mathlib.Core.List.{List, [], ◌∷◌}
use Prim.Native.Nat.{ℕ}
use lib.IntN.{ℤ}
use native.Mathlib.Omega.{arith}
use lib.ListN.{length, get_or}
use Rattle.model.specs.Tables.{Tables, tables, held_count, with_turn}
use Rattle.model.specs.Form.{Formed}
use Rattle.model.proofs.Form.{facts}
use Rattle.turns.specs.Turns.{with_lent, WithSome}

-- a list of one entry
alone : (l : List ℕ) → length l ≡ 1 → (get_or l 0 0 ∷ []) ≡ l
alone [] e = absurd (omega arith)
alone (x ∷ []) e = refl
alone (x ∷ y ∷ l) e = absurd (omega arith)

-- the tables with another list of the number of changes held
abbrev with_held : Tables → List ℕ → Tables
with_held T held =
    tables held T.timestamps T.order T.status T.withdrawn T.lengths T.programs T.reads T.writes T.sources T.seen T.targets T.written T.view T.versions T.cutoff T.kept

-- what a callee is lent of the tables, with the cutoff of some others
abbrev pub lent : Tables → ℕ → Tables → Tables
lent T count others =
    with_lent others count T.timestamps T.order T.status T.withdrawn T.lengths T.programs T.reads T.writes T.sources T.seen T.targets T.written T.view T.versions T.kept

module _ {n : ℕ} {T : Tables} (g : Formed n T) {count : ℕ} (c : count ≡ held_count T) where
  counted-alone : (count ∷ []) ≡ T.held
  counted-alone = ap (◌∷ []) c ∙ alone T.held (facts g).sizes.held

  of-lent : (fits : Tables → Type 0) → fits T → fits (lent T count T)
  of-lent fits = subst (λ (held : List ℕ). fits (with_held T held)) (sym counted-alone)

  -- what a callee requires
  pub lend : (fits : Tables → Type 0) → fits T → WithSome (λ (others : Tables). fits (lent T count others))
  lend fits h = record { others = T; so = of-lent fits h }

  -- what a callee ensures, with the tables that it alters
  pub told : (needs : Tables → Type 0) (gives : Tables → Tables → Type 0) {status reads writes sources : List ℕ} {seen : List ℤ} {targets : List ℕ} {written view : List ℤ} → ((others : Tables) → needs (lent T count others) → gives (with_turn (lent T count others) status reads writes sources seen targets written view) (lent T count others)) → needs T → gives (with_turn T status reads writes sources seen targets written view) T
  told needs gives {status} {reads} {writes} {sources} {seen} {targets} {written} {view} ensured h =
      subst (λ (held : List ℕ). gives (with_turn (with_held T held) status reads writes sources seen targets written view) (with_held T held)) counted-alone (ensured T (of-lent needs h))
