-- The run of held changes on a list of values is the fresh run over the book of the cabinet that the tables hold.
use mathlib.Core.Path.{◌≡◌, refl, sym, ap, ap₂, subst, ◌∙◌}
use mathlib.Core.Bool.{true, false}
use mathlib.Core.List.{List, [], ◌∷◌, ◌++◌}
use Prim.Native.Nat.{ℕ, zero, suc, ◌≤◌}
use native.Mathlib.Omega.{arith}
use lib.IntN.{pos}
use lib.ListN.{length, get_or, take}
use lib.Seq.{take-suc, take_all}
use Rattle.machine.specs.Settings.{setting_count, Environment, value_in, Entry, ◌or_else◌, lookup, after, carry}
use Rattle.machine.specs.Instruction.{Code}
use Rattle.machine.specs.Run.{run}
use Rattle.machine.proofs.Settings.{carry-after, length-carry}
use Rattle.machine.proofs.Lists.{run_agree}
use Rattle.general.specs.Lists.{tabulate}
use Rattle.model.specs.History.{run_lists, Change, change, program, withdrawn, History, all_settings}
use Rattle.model.specs.Book.{fresh_after, fresh_end, booked_as, book_of}
use Rattle.model.specs.Cabinet.{Cabinet, blank, history_of}
use Rattle.model.specs.Tables.{Tables, flag_number, encode, held_count, decode, program_at}
use Rattle.model.specs.Sound.{Sound}
use Rattle.model.proofs.Values.{value-all_settings}
use Rattle.general.proofs.Tabulate.{length-tabulate, tabulate-is}
use Rattle.model.proofs.Order.{changes_at-length, changes_at-get, below_at}
use Rattle.model.proofs.Tables.{length-short, sound-at, held-count, order-at, withdrawn-at, program-back}
use Rattle.model.specs.Form.{Formed}
use Rattle.model.proofs.Form.{facts}
use Rattle.fresh.specs.HeldRuns.{run_place, held_run, HeldPrograms}

-- tables in form have what the code relies on
pub held-programs : {n k : ℕ} {T : Tables} → Formed n T → k ≡ held_count T → HeldPrograms k T.order T.withdrawn T.lengths T.programs T.versions
held-programs {n} {k} {T} formed e =
    let g = (facts formed).sizes in
    let f = (facts formed).form in
    record {
      limit = held_count T;
      small = omega (arith, g.capacity, f.small);
      placed = record { long = omega (arith, g.order, f.small); below = λ j h. f.places j (omega arith) };
      flags = omega (arith, g.withdrawn, f.small);
      programmed =
          record {
            sizes = omega (arith, g.lengths, f.small);
            blocks = omega (arith, g.programs, f.small);
            short = λ i h. (f.programs i h).short;
            formed = λ i h. (f.programs i h).formed;
          };
      versioned = omega (arith, g.versions, f.small);
    }

-- ---- a run on the list of an environment's values

module _ (env : Environment) where
  -- a run on the list is the run on the environment
  pub run-all_settings : (p : Code) → length p.bytes ≤ 256 → run (value_in (all_settings env)) p ≡ run env p
  run-all_settings p h = run_agree env (value_in (all_settings env)) (value-all_settings env) p h

  -- writes carried into the list are carried into the environment
  pub carry-all_settings : (writes : List Entry) → carry writes (all_settings env) ≡ all_settings (after writes env)
  carry-all_settings writes =
      let l = carry writes (all_settings env) in
      let size : length l ≡ setting_count = length-carry writes (all_settings env) ∙ length-tabulate setting_count env in
      sym (tabulate-is l (after writes env) (pos 0) (λ s h. ap (λ v. lookup writes s or_else v) (sym (value-all_settings env s (omega arith))) ∙ sym (carry-after writes (all_settings env) s (rw (length-tabulate setting_count env) (omega arith)))))
      ∙ ap (λ (k : ℕ). tabulate k (after writes env)) size

  -- a change run on the list
  place-fresh : (flags : List ℕ) (programs : ℕ → Code) (place : ℕ) (x : Change) → get_or flags place 0 ≡ flag_number (withdrawn x) → programs place ≡ program x → length (program x).bytes ≤ 256 → run_place flags programs place (all_settings env) ≡ all_settings (fresh_after (booked_as x) env)
  unfolding run_lists lookup
  place-fresh flags programs place (change t p s true l) f e h = rw f
  place-fresh flags programs place (change t p s false l) f e h = rw (f, e, run-all_settings p h) (carry-all_settings (run env p).writes)

-- ---- the order list, one change after the other

-- the last change of a history is run last
fresh-last : (h : History) (x : Change) (env : Environment) → fresh_end (book_of (h ++ (x ∷ []))) env ≡ fresh_after (booked_as x) (fresh_end (book_of h) env)
fresh-last [] x env = refl
fresh-last (y ∷ h) x env = fresh-last h x (fresh_after (booked_as y) env)

module _ (n : ℕ) (c : Cabinet) (s : Sound n c) (env : Environment) where
  -- the first changes of the order list are the first of the history
  held_first : (k : ℕ) → k ≤ length c.order → held_run (encode n c).order (encode n c).withdrawn (program_at (encode n c)) (all_settings env) k ≡ all_settings (fresh_end (book_of (take k (history_of c))) env)
  unfolding held_run
  held_first zero h = refl
  held_first (suc k) h =
      let first = take k (history_of c) in
      let i = get_or c.order k 0 in
      let x = get_or c.changes i blank in
      let held = below_at (length c.changes) c.order k s.placed.below h in
      ap₂ (run_place (encode n c).withdrawn (program_at (encode n c))) (order-at n c k) (held_first k (omega arith))
      ∙ place-fresh (fresh_end (book_of first) env) (encode n c).withdrawn (program_at (encode n c)) i x (withdrawn-at n c i) (program-back n c s i held) (length-short (program x).bytes (sound-at c.changes i s.each held).sized)
      ∙ ap all_settings (sym (fresh-last first x env))
      ∙ ap (λ l. all_settings (fresh_end (book_of (first ++ (l ∷ []))) env)) (sym (changes_at-get c.changes c.order k h))
      ∙ ap (λ l. all_settings (fresh_end (book_of l) env)) (sym (take-suc (history_of c) k blank (rw (changes_at-length c.changes c.order) h)))

  held-encoded : held_run (encode n c).order (encode n c).withdrawn (program_at (encode n c)) (all_settings env) (held_count (encode n c)) ≡ all_settings (fresh_end (book_of (history_of c)) env)
  held-encoded =
      ap (held_run (encode n c).order (encode n c).withdrawn (program_at (encode n c)) (all_settings env)) (held-count n c ∙ sym s.placed.counted)
      ∙ held_first (length c.order) (omega arith)
      ∙ ap (λ h. all_settings (fresh_end (book_of h) env)) (take_all (length c.order) (history_of c) (omega (arith, changes_at-length c.changes c.order)))

-- the held changes of tables in form, run on the values of an environment, give those at the end of the fresh run over their book
pub held-fresh : {n : ℕ} {T : Tables} → Formed n T → (env : Environment) → held_run T.order T.withdrawn (program_at T) (all_settings env) (held_count T) ≡ all_settings (fresh_end (book_of (history_of (decode T))) env)
held-fresh {n} {T} g env =
    subst (λ (U : Tables). held_run U.order U.withdrawn (program_at U) (all_settings env) (held_count U) ≡ all_settings (fresh_end (book_of (history_of (decode T))) env)) (facts g).laid
    (held-encoded n (decode T) (facts g).sound env)
