-- `write_lists::carry` meets its contract: a turn carries the next entry. Assumes nothing.
use Rattle.std.proofs.Common.{◌≡◌, refl, ◌∙◌, rules, List, ℕ, ℤ, pos, ◌+◌, ◌<◌, length, get_or, length-append}
use Rattle.std.proofs.Math.ListN.{set}
use Rattle.std.proofs.lemmas.Slice.Zip.{zip_turn}
use Rattle.machine.specs.Settings.{entries, carry}
use Rattle.machine.proofs.Entries.{carry-stored}
use Rattle.write_lists.proofs.carry.Goals as goal

pub loop-s-init : goal.loop-s-init
unfolding entries carry
loop-s-init c = refl

-- one entry more
carry-turn : (settings : List ℕ) (values into₀ : List ℤ) {into : List ℤ} {n m s : ℕ} {v : ℤ} → into ≡ carry (entries n settings values) into₀ → n < length settings → n < length values → s ≡ get_or settings n 0 → v ≡ get_or values n (pos 0) → m ≡ n + 1 → set into s v ≡ carry (entries m settings values) into₀
carry-turn settings values into₀ {n = n} e h g p q r = rw (e, p, q, r) (carry-stored n settings values into₀ h g)

pub loop-s-preserved : goal.loop-s-preserved
loop-s-preserved c =
    let t = zip_turn c.args.settings.now c.args.values.now c.loop-s.yielded _ _ c.next.new.self _ (search rules) (search rules) c.loop-s.yielded_by (c.in-Some.s, c.in-Some.v) c.in-Some.is c.next.ensures.steps in
    carry-turn c.args.settings.now c.args.values.now c.args.into.now c.loop-s.invariant t.0 t.1 (t.2 0) (search rules ∙ t.3 (pos 0)) (simp length-append)
