-- What the tests of the tables' lengths and of their form say.
use mathlib.Core.Path.{◌≡◌, refl, ap, ap₂}
use mathlib.Core.Bool.{Bool, true, false, not, ◌&&◌, ◌||◌, or-true}
use mathlib.Core.List.{List, [], ◌∷◌}
use Prim.Native.Nat.{ℕ, zero, suc, ◌-◌, ◌*◌, ◌≤◌, ◌<◌}
use native.Mathlib.Omega.{arith}
use borrow.Author.Tests.{leb-true, ltb-true, eqb-true, le-leb, lt-ltb, eq-eqb, ne_eqb}
use lib.Dec.{eqb, leb, ltb}
use lib.IntN.{ℤ, pos}
use lib.ListN.{length, get_or, drop, replicate}
use Rattle.words.specs.Words.{is_zero}
use Rattle.words.specs.Meaning.{is_zero-only}
use Rattle.machine.specs.Settings.{setting_count}
use Rattle.machine.specs.Form.{all_well_formed}
use Rattle.general.proofs.Cases.{both, either}
use Rattle.machine.proofs.Form.{all-below, below_all}
use Rattle.model.specs.History.{infinity, is_timestamp}
use Rattle.model.specs.Tables.{Tables, held_count, cutoff_in, slots, program_at}
use Rattle.model.specs.Form.{every, lengths_fit, all_zero, all_zero_z, rest_of, head_fits, program_fits, distinct_settings, list_fits, timestamp_of, order_fits, unused_fits, in_form, length_tests, unused_tests, form_tests}

-- ---- several tests

-- one of several tests that all pass, counted from 0
pub every-at : (tests : List Bool) (k : ℕ) → every tests ≡ true → get_or tests k true ≡ true
every-at [] k e = refl
every-at (b ∷ tests) zero e = (both b e).0
every-at (b ∷ tests) (suc k) e = every-at tests k (both b e).1

-- ---- zeros

pub zeros : (l : List ℕ) (k : ℕ) → length l ≡ k → all_zero l ≡ true → l ≡ replicate k 0
zeros l k h e = rw (← h) (go l e)
  where
    go : (l : List ℕ) → all_zero l ≡ true → l ≡ replicate (length l) 0
    go [] e = refl
    go (x ∷ l) e = ap₂ ◌∷◌ (eqb-true x 0 (both _ e).0) (go l (both (eqb x 0) e).1)

pub zeros-pass : (k : ℕ) → all_zero (replicate k 0) ≡ true
zeros-pass zero = refl
zeros-pass (suc k) = zeros-pass k

pub zeros_z : (l : List ℤ) (k : ℕ) → length l ≡ k → all_zero_z l ≡ true → l ≡ replicate k (pos 0)
zeros_z l k h e = rw (← h) (go l e)
  where
    go : (l : List ℤ) → all_zero_z l ≡ true → l ≡ replicate (length l) (pos 0)
    go [] e = refl
    go (x ∷ l) e = ap₂ ◌∷◌ (is_zero-only x (both _ e).0) (go l (both (is_zero x) e).1)

pub zeros_z-pass : (k : ℕ) → all_zero_z (replicate k (pos 0)) ≡ true
zeros_z-pass zero = refl
zeros_z-pass (suc k) = zeros_z-pass k

-- ---- lengths

-- what lengths_fit tests
pub record Lengths (n : ℕ) (T : Tables) : Type 0 where
  pub some-capacity : 1 ≤ n
  pub capacity : n ≤ 4096
  pub held : length T.held ≡ 1
  pub timestamps : length T.timestamps ≡ n
  pub order : length T.order ≡ n
  pub status : length T.status ≡ n
  pub withdrawn : length T.withdrawn ≡ n
  pub lengths : length T.lengths ≡ n
  pub programs : length T.programs ≡ 256 * n
  pub reads : length T.reads ≡ n
  pub writes : length T.writes ≡ n
  pub sources : length T.sources ≡ 32 * n
  pub seen : length T.seen ≡ 32 * n
  pub targets : length T.targets ≡ 32 * n
  pub written : length T.written ≡ 32 * n
  pub view : length T.view ≡ setting_count
  pub versions : length T.versions ≡ n
  pub cutoff : length T.cutoff ≡ 1
  pub kept : length T.kept ≡ setting_count

pub lengths-of : (n : ℕ) (T : Tables) → lengths_fit n T ≡ true → Lengths n T
unfolding lengths_fit
lengths-of n T e =
    let test : (k : ℕ) → get_or (length_tests n T) k true ≡ true = λ k. every-at (length_tests n T) k e in
    record {
      some-capacity = leb-true _ _ (test 0);
      capacity = leb-true _ _ (test 1);
      held = eqb-true _ _ (test 2);
      timestamps = eqb-true _ _ (test 3);
      order = eqb-true _ _ (test 4);
      status = eqb-true _ _ (test 5);
      withdrawn = eqb-true _ _ (test 6);
      lengths = eqb-true _ _ (test 7);
      programs = eqb-true _ _ (test 8);
      reads = eqb-true _ _ (test 9);
      writes = eqb-true _ _ (test 10);
      sources = eqb-true _ _ (test 11);
      seen = eqb-true _ _ (test 12);
      targets = eqb-true _ _ (test 13);
      written = eqb-true _ _ (test 14);
      view = eqb-true _ _ (test 15);
      versions = eqb-true _ _ (test 16);
      cutoff = eqb-true _ _ (test 17);
      kept = eqb-true _ _ (test 18);
    }

pub lengths-fit : (n : ℕ) (T : Tables) → Lengths n T → lengths_fit n T ≡ true
unfolding lengths_fit
lengths-fit n T g =
    rw (le-leb _ _ g.some-capacity, le-leb _ _ g.capacity, eq-eqb _ _ g.held, eq-eqb _ _ g.timestamps, eq-eqb _ _ g.order, eq-eqb _ _ g.status, eq-eqb _ _ g.withdrawn, eq-eqb _ _ g.lengths, eq-eqb _ _ g.programs, eq-eqb _ _ g.reads, eq-eqb _ _ g.writes, eq-eqb _ _ g.sources, eq-eqb _ _ g.seen, eq-eqb _ _ g.targets, eq-eqb _ _ g.written, eq-eqb _ _ g.view, eq-eqb _ _ g.versions, eq-eqb _ _ g.cutoff, eq-eqb _ _ g.kept)

-- ---- form, by place

-- what head_fits tests
pub record Head (T : Tables) (i : ℕ) : Type 0 where
  pub above : 0 < get_or T.timestamps i 0
  pub below : get_or T.timestamps i 0 < infinity
  pub status : get_or T.status i 0 ≤ 2
  pub withdrawn : get_or T.withdrawn i 0 ≤ 1
  pub new : get_or T.status i 0 ≡ 0 → (get_or T.reads i 0 ≡ 0) × (get_or T.writes i 0 ≡ 0)
  pub version : get_or T.versions i 0 ≤ 1

head_of : (T : Tables) (i : ℕ) → head_fits T.timestamps T.status T.withdrawn T.reads T.writes T.versions i ≡ true → Head T i
head_of T i e =
    let t = get_or T.timestamps i 0 in
    let s = get_or T.status i 0 in
    let r = get_or T.reads i 0 in
    let e0 = both (is_timestamp t) e in
    let e1 = both (leb s 2) e0.1 in
    let e2 = both (leb (get_or T.withdrawn i 0) 1) e1.1 in
    let e3 = both (not (eqb s 0) || (eqb r 0 && eqb (get_or T.writes i 0) 0)) e2.1 in
    record {
      above = ltb-true _ _ (both _ e0.0).0;
      below = ltb-true _ _ (both (ltb 0 t) e0.0).1;
      status = leb-true _ _ e1.0;
      withdrawn = leb-true _ _ e2.0;
      new =
          λ q.
          let none = both (eqb r 0) (either (not (eqb s 0)) e3.0 (ap not (eq-eqb s 0 q))) in
          (eqb-true _ _ none.0, eqb-true _ _ none.1);
      version = leb-true _ _ (both _ e3.1).0;
    }

head-fits : (T : Tables) (i : ℕ) → Head T i → head_fits T.timestamps T.status T.withdrawn T.reads T.writes T.versions i ≡ true
head-fits T i h =
    rw (lt-ltb _ _ h.above, lt-ltb _ _ h.below, le-leb _ _ h.status, le-leb _ _ h.withdrawn, go (eqb (get_or T.status i 0) 0) refl, le-leb _ _ h.version)
  where
    go : (b : Bool) → eqb (get_or T.status i 0) 0 ≡ b → (not b || (eqb (get_or T.reads i 0) 0 && eqb (get_or T.writes i 0) 0)) ≡ true
    go false q = refl
    go true q = let none = h.new (eqb-true _ 0 q) in rw (none.0, none.1)

-- what program_fits tests
pub record Programmed (T : Tables) (i : ℕ) : Type 0 where
  pub short : get_or T.lengths i 0 ≤ 32
  pub formed : all_well_formed (program_at T i).bytes ≡ true
  pub rest : all_zero (rest_of 256 i (8 * get_or T.lengths i 0) T.programs) ≡ true

program-of : (T : Tables) (i : ℕ) → program_fits T.lengths T.programs i ≡ true → Programmed T i
program-of T i e =
    let e0 = both (leb (get_or T.lengths i 0) 32) e in
    let e1 = both (all_well_formed (program_at T i).bytes) e0.1 in
    record { short = leb-true _ _ e0.0; formed = e1.0; rest = (both _ e1.1).0 }

program-fits : (T : Tables) (i : ℕ) → Programmed T i → program_fits T.lengths T.programs i ≡ true
program-fits T i h = rw (le-leb _ _ h.short, h.formed, h.rest)

-- what list_fits tests
pub record TestedList (counts settings : List ℕ) (values : List ℤ) (i : ℕ) : Type 0 where
  pub short : get_or counts i 0 ≤ 32
  pub distinct : distinct_settings (slots 32 i (get_or counts i 0) settings) ≡ true
  pub settings-rest : all_zero (rest_of 32 i (get_or counts i 0) settings) ≡ true
  pub values-rest : all_zero_z (rest_of 32 i (get_or counts i 0) values) ≡ true

list_of : (counts settings : List ℕ) (values : List ℤ) (i : ℕ) → list_fits counts settings values i ≡ true → TestedList counts settings values i
list_of counts settings values i e =
    let c = get_or counts i 0 in
    let e0 = both (leb c 32) e in
    let e1 = both (distinct_settings (slots 32 i c settings)) e0.1 in
    let e2 = both (all_zero (rest_of 32 i c settings)) e1.1 in
    record { short = leb-true _ _ e0.0; distinct = e1.0; settings-rest = e2.0; values-rest = (both _ e2.1).0 }

list-fits : (counts settings : List ℕ) (values : List ℤ) (i : ℕ) → TestedList counts settings values i → list_fits counts settings values i ≡ true
list-fits counts settings values i h = rw (le-leb _ _ h.short, h.distinct, h.settings-rest, h.values-rest)

previous : (k : ℕ) → suc k - 1 ≡ k
previous k = omega arith

order-place : (T : Tables) (n k : ℕ) → order_fits T.order T.timestamps n k ≡ true → get_or T.order k 0 < n
order-place T n k e = ltb-true _ _ (both _ e).0

order-rising : (T : Tables) (n k : ℕ) → order_fits T.order T.timestamps n (suc k) ≡ true → timestamp_of T.order T.timestamps k < timestamp_of T.order T.timestamps (suc k)
order-rising T n k e =
    let later = either (eqb (suc k) 0) (both (ltb (get_or T.order (suc k) 0) n) e).1 (ne_eqb (suc k) 0 (λ q. omega arith)) in
    ltb-true _ _ (rw (previous k) at later)

order-fits : (T : Tables) (n k : ℕ) → get_or T.order k 0 < n → ((j : ℕ) → suc j ≡ k → timestamp_of T.order T.timestamps j < timestamp_of T.order T.timestamps k) → order_fits T.order T.timestamps n k ≡ true
order-fits T n zero h r = rw (lt-ltb _ _ h)
order-fits T n (suc k) h r =
    rw (lt-ltb _ _ h, previous k, lt-ltb _ _ (r k refl)) (or-true (eqb (suc k) 0))

-- ---- the slots of places that are not held

-- what unused_fits tests
pub record Unused (T : Tables) (k : ℕ) : Type 0 where
  pub timestamps : all_zero (drop k T.timestamps) ≡ true
  pub order : all_zero (drop k T.order) ≡ true
  pub status : all_zero (drop k T.status) ≡ true
  pub withdrawn : all_zero (drop k T.withdrawn) ≡ true
  pub lengths : all_zero (drop k T.lengths) ≡ true
  pub programs : all_zero (drop (256 * k) T.programs) ≡ true
  pub reads : all_zero (drop k T.reads) ≡ true
  pub writes : all_zero (drop k T.writes) ≡ true
  pub sources : all_zero (drop (32 * k) T.sources) ≡ true
  pub seen : all_zero_z (drop (32 * k) T.seen) ≡ true
  pub targets : all_zero (drop (32 * k) T.targets) ≡ true
  pub written : all_zero_z (drop (32 * k) T.written) ≡ true
  pub versions : all_zero (drop k T.versions) ≡ true

unused-of : (T : Tables) (k : ℕ) → unused_fits T k ≡ true → Unused T k
unused-of T k e =
    let test : (j : ℕ) → get_or (unused_tests T k) j true ≡ true = λ j. every-at (unused_tests T k) j e in
    record { timestamps = test 0; order = test 1; status = test 2; withdrawn = test 3; lengths = test 4; programs = test 5; reads = test 6; writes = test 7; sources = test 8; seen = test 9; targets = test 10; written = test 11; versions = test 12 }

unused-fits : (T : Tables) (k : ℕ) → Unused T k → unused_fits T k ≡ true
unused-fits T k u = rw (u.timestamps, u.order, u.status, u.withdrawn, u.lengths, u.programs, u.reads, u.writes, u.sources, u.seen, u.targets, u.written, u.versions)

-- ---- form

-- what in_form tests
pub record FormTests (n : ℕ) (T : Tables) : Type 0 where
  pub small : held_count T ≤ n
  pub heads : (i : ℕ) → i < held_count T → Head T i
  pub places : (k : ℕ) → k < held_count T → get_or T.order k 0 < held_count T
  pub rising : (k : ℕ) → suc k < held_count T → timestamp_of T.order T.timestamps k < timestamp_of T.order T.timestamps (suc k)
  pub programs : (i : ℕ) → i < held_count T → Programmed T i
  pub reads : (i : ℕ) → i < held_count T → TestedList T.reads T.sources T.seen i
  pub writes : (i : ℕ) → i < held_count T → TestedList T.writes T.targets T.written i
  pub unused : Unused T (held_count T)
  pub cut : cutoff_in T < infinity
  pub uncut : (i : ℕ) → i < held_count T → cutoff_in T ≤ get_or T.timestamps i 0

pub form_of : (n : ℕ) (T : Tables) → in_form n T ≡ true → FormTests n T
unfolding in_form
form_of n T e =
    let k = held_count T in
    let test : (j : ℕ) → get_or (form_tests n T) j true ≡ true = λ j. every-at (form_tests n T) j e in
    record {
      small = leb-true _ _ (test 0);
      heads = λ i h. head_of T i (all-below _ _ (test 1) i h);
      places = λ i h. order-place T k i (all-below _ _ (test 2) i h);
      rising = λ i h. order-rising T k i (all-below _ _ (test 2) (suc i) h);
      programs = λ i h. program-of T i (all-below _ _ (test 3) i h);
      reads = λ i h. list_of T.reads T.sources T.seen i (all-below _ _ (test 4) i h);
      writes = λ i h. list_of T.writes T.targets T.written i (all-below _ _ (test 5) i h);
      unused = unused-of T k (test 6);
      cut = ltb-true _ _ (test 7);
      uncut = λ i h. leb-true _ _ (all-below _ _ (test 8) i h);
    }

pub form-fits : (n : ℕ) (T : Tables) → FormTests n T → in_form n T ≡ true
unfolding in_form
form-fits n T f =
    let k = held_count T in
    let heads = below_all k _ (λ i h. head-fits T i (f.heads i h)) in
    let order = below_all k _ (λ i h. order-fits T k i (f.places i h) (λ j e. rw (← e) (f.rising j (omega arith)))) in
    let programs = below_all k _ (λ i h. program-fits T i (f.programs i h)) in
    let reads = below_all k _ (λ i h. list-fits T.reads T.sources T.seen i (f.reads i h)) in
    let writes = below_all k _ (λ i h. list-fits T.writes T.targets T.written i (f.writes i h)) in
    let uncut = below_all k _ (λ i h. le-leb _ _ (f.uncut i h)) in
    rw (le-leb _ _ f.small, heads, order, programs, reads, writes, unused-fits T k f.unused, lt-ltb _ _ f.cut, uncut)
