-- The record and the arrays after an effect, one law for each way that the code leaves them.
use mathlib.Core.Path.{◌≡◌, refl, sym}
use mathlib.Core.Bool.{Bool, true, false, cond}
use Prim.Native.Nat.{ℕ, ◌+◌, ◌-◌, ◌≤◌, ◌<◌}
use native.Mathlib.Omega.{arith}
use borrow.Author.Tests.{eq-eqb, ne_eqb}
use lib.IntN.{ℤ, nat_abs}
use lib.ListN.{set, take}
use Rattle.std.specs.Prelude.{Option, eqb}
use Rattle.std.specs.List.{position}
use Rattle.machine.specs.declared.Effect.TheVariants.{Halt, Assign, Load, Store, Skip}
use Rattle.machine.specs.Settings.{setting_count, Environment, named, first_value, replace_first, entries}
use Rattle.machine.specs.Form.{is_below}
use Rattle.machine.specs.Run.{State, faults, goes, enter, with_register, with_reads, with_writes, load, store, perform, setting_or}
use Rattle.run_record.specs.declared.Fault.{Fault}
use Rattle.run_record.specs.declared.Fault.TheVariants.{NoSetting, ReadsWritten, WritesTwice}
use Rattle.run_record.specs.declared.Lists.{Lists}
use Rattle.run_record.specs.declared.Run.{Run}
use Rattle.run_record.specs.declared.Status.TheVariants.{Going, Stopped, Faulted}
use Rattle.run_record.specs.Record.{assigned, advanced, ended, entered_read, entered_write, lists, with_read, with_write, Sized, fault_of, state_of, Ready, Stepped}
use Rattle.bytecode.proofs.Numbers.{below-limit}
use Rattle.run_record.proofs.FirstPlaces.{Searched, searched}
use Rattle.machine.proofs.Entries.{entries-stored}

-- ---- the number of a setting, or 1,024

-- 1,024 stands for a number that is no setting
setting-out : (s : ℤ) {k : ℕ} → k ≡ setting_or s → setting_count ≤ k → is_below s setting_count ≡ false
setting-out s {k} q h = go (is_below s setting_count) refl q
  where
    go : (b : Bool) → is_below s setting_count ≡ b → k ≡ cond b (nat_abs s) setting_count → b ≡ false
    go true t q = absurd (omega (arith, below-limit s setting_count t))
    go false t q = refl

-- any other stands for itself
setting-in : (s : ℤ) {k : ℕ} → k ≡ setting_or s → k < setting_count → (is_below s setting_count ≡ true) × (nat_abs s ≡ k)
setting-in s {k} q h = go (is_below s setting_count) q
  where
    go : (b : Bool) → k ≡ cond b (nat_abs s) setting_count → (b ≡ true) × (nat_abs s ≡ k)
    go true q = (refl, sym q)
    go false q = absurd (omega arith)

-- ---- the ways on

-- the record broken off by a fault
broken-off : (r : Run) (l : Lists) → Ready r → (f : Fault) → Stepped r (faults (fault_of f) (state_of r l).reads) (ended r (Faulted f) 0) l
unfolding entries
broken-off r l h f =
    record { follows = λ rest. refl; rises = λ w. absurd (cc); within = omega arith; reads = omega arith; writes = omega arith }

-- the record past k more instructions, from a record f at the same place
past : (r f : Run) (l : Lists) (k : ℕ) {state : State} → f.status ≡ Going → f.place ≡ r.place → r.place + 1 + k ≤ 32 → f.reads ≤ r.place + 1 → f.writes ≤ r.place + 1 → state_of f l ≡ state → Stepped r (goes k state) (advanced f k) l
past r f l k g p b x y w =
    record {
      follows = λ rest. let d : f.place + 1 + k - (r.place + 1) ≡ k = omega arith in rw g (λ i. rest (d i) (w i));
      rises = λ w. omega arith;
      within = omega arith;
      reads = x;
      writes = y;
    }

-- ---- where a setting stands

module _ {r : Run} {l : Lists} (h : Ready r) (z : Sized l) {k : ℕ} {found : Option ℕ} where
  -- in the read list
  pub in-reads : found ≡ position (λ x. eqb x k) (take r.reads l.sources) → Searched k r.reads l.sources l.seen found
  in-reads e = rw e (searched k r.reads l.sources l.seen (omega arith) (omega arith))

  -- in the write list
  pub in-writes : found ≡ position (λ x. eqb x k) (take r.writes l.targets) → Searched k r.writes l.targets l.written found
  in-writes e = rw e (searched k r.writes l.targets l.written (omega arith) (omega arith))

-- ---- the ways of an effect

module _ (env : Environment) (r : Run) (l : Lists) (h : Ready r) where
  -- the run stops
  pub halts : Stepped r (perform env Halt (state_of r l)) (ended r Stopped r.writes) l
  unfolding perform
  halts = record { follows = λ rest. refl; rises = λ w. absurd (cc); within = omega arith; reads = omega arith; writes = omega arith }

  -- register a is set to v
  pub assigns : (a : ℕ) (v : ℤ) → Stepped r (perform env (Assign a v) (state_of r l)) (advanced (assigned r a v) 0) l
  unfolding perform
  assigns a v = past r (assigned r a v) l 0 h.going refl (omega arith) (omega arith) (omega arith) refl

  -- n more instructions are passed over
  pub skips : (n : ℤ) → r.place + 1 + nat_abs n ≤ 32 → Stepped r (perform env (Skip n) (state_of r l)) (advanced r (nat_abs n)) l
  unfolding perform
  skips n b = past r r l (nat_abs n) h.going refl b (omega arith) (omega arith) refl

  -- a load, where k is the setting of number s, or 1,024
  module _ (a : ℕ) (s : ℤ) {k : ℕ} (c : k ≡ setting_or s) where
    -- there is no such setting
    pub load-of-none : setting_count ≤ k → Stepped r (perform env (Load a s) (state_of r l)) (ended r (Faulted NoSetting) 0) l
    unfolding perform
    load-of-none b = rw (setting-out s c b) (broken-off r l h NoSetting)

    -- the run has written it, in version 0
    pub load-of-written : k < setting_count → r.version ≡ 0 → named k (state_of r l).writes ≡ true → Stepped r (perform env (Load a s) (state_of r l)) (ended r (Faulted ReadsWritten) 0) l
    unfolding perform load
    load-of-written b v t = let j = setting-in s c b in rw (j.0, j.1, t, eq-eqb _ _ v) (broken-off r l h ReadsWritten)

    -- the run has written it, and reads it back
    pub load-back : {w : ℤ} → k < setting_count → (r.version ≡ 0 → ⊥) → named k (state_of r l).writes ≡ true → first_value k (state_of r l).writes ≡ w → Stepped r (perform env (Load a s) (state_of r l)) (advanced (assigned r a w) 0) l
    unfolding perform load
    load-back {w} b v t q =
        let j = setting-in s c b in
        rw (j.0, j.1, t, ne_eqb _ _ v, q) (past r (assigned r a w) l 0 h.going refl (omega arith) (omega arith) (omega arith) refl)

    -- the run has read it before
    pub load_again : k < setting_count → named k (state_of r l).writes ≡ false → named k (state_of r l).reads ≡ true → Stepped r (perform env (Load a s) (state_of r l)) (advanced (assigned r a (env k)) 0) l
    unfolding perform load enter
    load_again b t u = let j = setting-in s c b in rw (j.0, j.1, t, u) (past r (assigned r a (env k)) l 0 h.going refl (omega arith) (omega arith) (omega arith) refl)

    -- the run reads it for the first time
    pub load-first : Sized l → k < setting_count → named k (state_of r l).writes ≡ false → named k (state_of r l).reads ≡ false → Stepped r (perform env (Load a s) (state_of r l)) (advanced (assigned (entered_read r) a (env k)) 0) (with_read r.reads k (env k) l)
    unfolding perform load enter
    load-first z b t u =
        let j = setting-in s c b in
        let more = entries-stored r.reads l.sources l.seen k (env k) (omega arith) (omega arith) in
        rw (j.0, j.1, t, u)
        (past r (assigned (entered_read r) a (env k)) _ 0 h.going refl (omega arith) (omega arith) (omega arith)
        (λ i. with_register a (env k) (with_reads (more i) (state_of r l))))

  -- a store, where k is the setting of number s, or 1,024
  module _ (s v : ℤ) {k : ℕ} (c : k ≡ setting_or s) where
    -- there is no such setting
    pub store-to-none : setting_count ≤ k → Stepped r (perform env (Store s v) (state_of r l)) (ended r (Faulted NoSetting) 0) l
    unfolding perform
    store-to-none b = rw (setting-out s c b) (broken-off r l h NoSetting)

    -- the run has written it before, in version 0
    pub store-again : k < setting_count → r.version ≡ 0 → named k (state_of r l).writes ≡ true → Stepped r (perform env (Store s v) (state_of r l)) (ended r (Faulted WritesTwice) 0) l
    unfolding perform store
    store-again b u t = let j = setting-in s c b in rw (j.0, j.1, t, eq-eqb _ _ u) (broken-off r l h WritesTwice)

    -- the run has written it before, and replaces the value
    pub store-over : (place : ℕ) → k < setting_count → (r.version ≡ 0 → ⊥) → named k (state_of r l).writes ≡ true → entries r.writes l.targets (set l.written place v) ≡ replace_first k v (state_of r l).writes → Stepped r (perform env (Store s v) (state_of r l)) (advanced r 0) (lists l.sources l.seen l.targets (set l.written place v))
    unfolding perform store
    store-over place b u t q =
        let j = setting-in s c b in
        rw (j.0, j.1, t, ne_eqb _ _ u)
        (past r r _ 0 h.going refl (omega arith) (omega arith) (omega arith)
        (λ i. with_writes (q i) (state_of r l)))

    -- the run writes it for the first time
    pub store-first : Sized l → k < setting_count → named k (state_of r l).writes ≡ false → Stepped r (perform env (Store s v) (state_of r l)) (advanced (entered_write r) 0) (with_write r.writes k v l)
    unfolding perform store
    store-first z b t =
        let j = setting-in s c b in
        let more = entries-stored r.writes l.targets l.written k v (omega arith) (omega arith) in
        rw (j.0, j.1, t)
        (past r (entered_write r) _ 0 h.going refl (omega arith) (omega arith) (omega arith)
        (λ i. with_writes (more i) (state_of r l)))
