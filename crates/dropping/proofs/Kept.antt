-- The kept values with the writes of the dropped changes carried into them are the values as of the cutoff.
use mathlib.Core.Path.{◌≡◌, refl, sym, ap, ◌∙◌}
use Prim.Native.Nat.{ℕ, zero, suc, ◌≤◌, ◌<◌}
use native.Mathlib.Omega.{arith}
use lib.IntN.{ℤ, pos}
use lib.ListN.{length, get_or, take}
use mathlib.Core.List.{List}
use Rattle.machine.specs.Settings.{setting_count, Environment, value_in, Entry, ◌or_else◌, lookup}
use Rattle.machine.proofs.Settings.{carry-after}
use Rattle.general.specs.Lists.{tabulate}
use Rattle.model.specs.History.{after_all, as_of, all_settings}
use Rattle.model.specs.Tables.{Tables, held_count, list_in}
use Rattle.model.specs.Form.{Formed}
use Rattle.model.proofs.Form.{facts}
use Rattle.general.proofs.Tabulate.{tabulate-is}
use Rattle.search.proofs.Steps.{rank-within}
use Rattle.search.proofs.Split.{after_next, split-as-of}
use Rattle.writers.proofs.Model.{wrote}
use Rattle.search.proofs.Model.{history_in, rank_in, history-length, rank-splits}
use Rattle.carrying.specs.Carrying.{carried_first}
use Rattle.carrying.proofs.Carried.{carried-length}

module _ {n : ℕ} {T : Tables} (g : Formed n T) where
  abbrev carried_in : ℕ → List ℤ
  carried_in k = carried_first (list_in T.writes T.targets T.written) T.order T.kept k

  carried-size : (k : ℕ) → length (carried_in k) ≡ setting_count
  carried-size k = carried-length _ T.order T.kept k ∙ (facts g).sizes.kept

  -- after the first changes, one after the other
  carried-value : (k : ℕ) → k ≤ held_count T → (s : ℕ) → s < setting_count → value_in (carried_in k) s ≡ after_all (take k (history_in T)) (value_in T.kept) s
  unfolding carried_first
  carried-value zero h s q = refl
  carried-value (suc k) h s q =
      let env = value_in T.kept in
      let writes = list_in T.writes T.targets T.written (get_or T.order k 0) in
      carry-after writes (carried_in k) s (omega (arith, carried-size k))
      ∙ ap (λ v. lookup writes s or_else v) (carried-value k (omega arith) s q)
      ∙ ap (λ (l : List Entry). lookup l s or_else after_all (take k (history_in T)) env s) (wrote g k h)
      ∙ ap (λ (e : Environment). e s) (sym (after_next (history_in T) k env (omega (arith, history-length g))))

  -- the changes below a timestamp leave the values as of it
  pub kept-as-of : (t : ℕ) → carried_in (rank_in T t) ≡ all_settings (as_of t (history_in T) (value_in T.kept))
  kept-as-of t =
      let k = rank_in T t in
      let env = as_of t (history_in T) (value_in T.kept) in
      sym (tabulate-is (carried_in k) env (pos 0) (λ s q. ap (λ (e : Environment). e s) (split-as-of t (history_in T) k (value_in T.kept) (rank-splits g t)) ∙ sym (carried-value k (rank-within T.order T.timestamps t (held_count T)) s (omega (arith, carried-size k)))))
      ∙ ap (λ (m : ℕ). tabulate m env) (carried-size k)
