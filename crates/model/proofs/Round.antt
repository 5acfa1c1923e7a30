-- On a history by rising timestamp the round that is printed in Figure 1 is the walk up the history.
use mathlib.Core.Path.{◌≡◌, refl, sym, ap, ap₂, ◌∙◌, fun_ext}
use mathlib.Core.Bool.{Bool, true, false, cond, not, ◌&&◌, ◌||◌, and-true, and-false, or-false}
use mathlib.Core.List.{List, [], ◌∷◌, map}
use mathlib.Core.Option.{Option, none, some}
use Prim.Native.Nat.{ℕ, ◌<◌, ◌≤◌}
use native.Mathlib.Omega.{arith}
use lib.Dec.{leb, ltb}
use lib.IntN.{ℤ}
use borrow.Author.Tests.{lt-ltb, le-ltb, eq-eqb, ne_eqb, le-leb, lt-leb}
use Rattle.machine.specs.Settings.{Environment, value_in, ◌or_else◌, lookup, after}
use Rattle.machine.specs.Instruction.{Code}
use Rattle.machine.specs.Run.{run}
use Rattle.general.proofs.Cases.{by-test, by-test₂, impossible}
use Rattle.model.specs.History.{infinity, Status, New, Valid, Invalid, Lists, empty, run_lists, Change, change, timestamp, lists, History, after_change, as_of, all_settings, eq_z, all_hold}
use Rattle.model.specs.Figure.{Event, ran, stood, cleared, Step, turned, lowest_waiting, writes, next_writer, last_writer_after, added, removed, changed, changeset, reads_any, mark, mark_update, mark_future, update_view, replace, install, rerun, execute, round_at, round}
use Rattle.model.specs.Walk.{differs, close, mark_live, live_at_end, pass, settle, retry, walk}
use Rattle.model.specs.Sound.{Rising}
use Rattle.model.proofs.Values.{eq_z-refl, eq_z-sym}
use Rattle.model.proofs.AsOf.{NoneBelow, rising-none-below, as_of-first}

-- ---- the changeset: the settings whose values after the old and after the new lists differ

changed-differs : (old new : Option ℤ) (v : ℤ) → (added old new v || (removed old new v || changed old new)) ≡ not (eq_z (old or_else v) (new or_else v))
changed-differs none none v = ap not (sym (eq_z-refl v))
changed-differs none (some b) v = or-false (not (eq_z b v)) ∙ ap not (eq_z-sym b v)
changed-differs (some a) none v = or-false (not (eq_z a v))
changed-differs (some a) (some b) v = ap not (eq_z-sym b a)

changeset-differs : (old new : Lists) (env : Environment) (x : ℕ) → changeset old new env x ≡ differs old new env x
changeset-differs old new env x = changed-differs (lookup old.writes x) (lookup new.writes x) (env x)

-- ---- marking

-- no setting's next writer is stamped below u where no change is
next-above : (h : History) (x t u : ℕ) → u ≤ infinity → NoneBelow u h → u ≤ next_writer h x t
next-above [] x t u m n = m
next-above (c ∷ h) x t u m n = by-test (u ≤◌) (ltb t (timestamp c) && writes c x) (λ e. n.0) (λ e. next-above h x t u m n.1)

-- above a change that writes a setting nothing is up to the setting's next writer; above any other change nothing alters
close-next : (live wrote : Bool) (t u next : ℕ) → t < u → ((live && not wrote) && leb u next) ≡ (live && leb u (cond wrote t next))
close-next true true t u next q = sym (lt-leb u t q)
close-next true false t u next q = refl
close-next false wrote t u next q = refl

-- Figure 1 marks the changes above t as the walk does, if for each of them the settings of the set up to the next writer are the live ones
module _ (whole : History) (t : ℕ) (set : ℕ → Bool) (new : Change) where
  mark-later : (live : ℕ → Bool) (b : ℕ) (h : History) → t ≤ b → Rising b h → ((x u : ℕ) → b < u → (live x && leb u (next_writer h x t)) ≡ (set x && leb u (next_writer whole x t))) → map (λ u. replace t new (mark_future whole t set u)) h ≡ mark_live live h
  mark-later live b [] q r k = refl
  mark-later live b (change u p s w l ∷ h) q r k = ap₂ ◌∷◌ first (mark-later (close live l) u h (omega arith) r.2 later)
    where
      above : ltb t u ≡ true
      above = lt-ltb t u (omega arith)

      later : (x v : ℕ) → u < v → (close live l x && leb v (next_writer h x t)) ≡ (set x && leb v (next_writer whole x t))
      later x v m = close-next (live x) (writes (change u p s w l) x) u v (next_writer h x t) m ∙ (rw above at (k x v (omega arith)))

      up_to : (x : ℕ) → u ≤ next_writer (change u p s w l ∷ h) x t
      up_to x = next-above (change u p s w l ∷ h) x t u (omega arith) (omega arith, rising-none-below u u h (omega arith) r.2)

      same_live : (λ (x : ℕ). set x && leb u (next_writer whole x t)) ≡ live
      same_live = fun_ext (λ x. sym (k x u r.0) ∙ ap (live x &&◌) (le-leb _ _ (up_to x)) ∙ and-true (live x))

      first : replace t new (mark_future whole t set (change u p s w l)) ≡ mark_update (reads_any live l.reads) (change u p s w l)
      first = rw (ne_eqb u t (omega arith), above, same_live)

-- ---- the view

-- of an earlier writer it matters only whether it is up to t
last-same : (last last' : ℕ) (h : History) (x t : ℕ) → leb last t ≡ leb last' t → leb (last_writer_after last h x) t ≡ leb (last_writer_after last' h x) t
last-same last last' [] x t e = e
last-same last last' (c ∷ h) x t e =
    last-same (cond (writes c x) (timestamp c) last) (cond (writes c x) (timestamp c) last') h x t
    (by-test₂ (λ a b. leb a t ≡ leb b t) (writes c x) (λ q. refl) (λ q. e))

-- a setting of the set whose last writer is not above t, and no other, is live at the end
live-last : (in_set : Bool) (live : ℕ → Bool) (last : ℕ) (h : History) (x t b : ℕ) → t ≤ b → Rising b h → live x ≡ (in_set && leb last t) → (in_set && leb (last_writer_after last h x) t) ≡ live_at_end live h x
live-last in_set live last [] x t b q r e = sym e
live-last in_set live last (c ∷ h) x t b q r e =
    live-last in_set (close live (lists c)) (cond (writes c x) (timestamp c) last) h x t (timestamp c) (omega arith) r.2 (go (writes c x))
  where
    go : (wrote : Bool) → (live x && not wrote) ≡ (in_set && leb (cond wrote (timestamp c) last) t)
    go true = and-false (live x) ∙ sym (and-false in_set) ∙ ap (in_set &&◌) (sym (lt-leb (timestamp c) t (omega arith)))
    go false = and-true (live x) ∙ e

-- ---- the change whose turn it is stands first

module _ (env : Environment) (view : List ℤ) (t : ℕ) (p : Code) (s : Status) (w : Bool) (old new : Lists) (h : History) (r : Rising t h) where
  install-marks : map (λ u. replace t (change t p Valid w new) (mark_future (change t p s w old ∷ h) t (changeset old new env) u)) (change t p s w old ∷ h) ≡ (change t p Valid w new ∷ mark_live (differs old new env) h)
  install-marks =
      ap₂ ◌∷◌ (rw (eq-eqb t t refl))
      (mark-later (change t p s w old ∷ h) t (changeset old new env) (change t p Valid w new) (differs old new env) t h (omega arith) r
      (λ x u m. rw (le-ltb t t (omega arith), changeset-differs)))

  install-view : update_view (change t p s w old ∷ h) t (changeset old new env) (after new.writes env) view ≡ all_settings (λ x. cond (live_at_end (differs old new env) h x) (after new.writes env x) (value_in view x))
  install-view =
      ap all_settings
      (fun_ext (λ x. ap (λ (y : Bool). cond y (after new.writes env x) (value_in view x))
      (live-last (changeset old new env x) (differs old new env) (cond (writes (change t p s w old) x) t 0) h x t t (omega arith) r (up_to x))))
    where
      up_to : (x : ℕ) → differs old new env x ≡ (changeset old new env x && leb (cond (writes (change t p s w old) x) t 0) t)
      up_to x =
          rw (le-leb (cond (writes (change t p s w old) x) t 0) t (by-test (◌≤ t) (writes (change t p s w old) x) (λ q. omega arith) (λ q. omega arith)), and-true, changeset-differs)

  install-first : (e : Event) → install (change t p s w old ∷ h) view env t p w old new e ≡ settle env view t p w old new h e
  install-first e = ap₂ (λ g v. turned g v e) install-marks install-view

replace-later : (t : ℕ) (new : Change) (b : ℕ) (h : History) → t ≤ b → Rising b h → map (replace t new) h ≡ h
replace-later t new b [] q r = refl
replace-later t new b (c ∷ h) q r = rw (ne_eqb (timestamp c) t (omega arith)) (ap (c ∷◌) (replace-later t new (timestamp c) h (omega arith) r.2))

rerun-first : (env : Environment) (view : List ℤ) (t : ℕ) (p : Code) (old : Lists) (h : History) → Rising t h → (holds : Bool) → rerun holds (change t p Invalid false old ∷ h) view env t p old ≡ retry holds env view t p old h
rerun-first env view t p old h r true = rw (eq-eqb t t refl) (ap (λ g. turned (change t p Valid false old ∷ g) view (stood t)) (replace-later t (change t p Valid false old) t h (omega arith) r))
rerun-first env view t p old h r false = install-first env view t p Invalid false old (run_lists env p) h r (ran t (run env p))

-- ---- a change before the one whose turn it is stays, and alters nothing of the round

mark-false : (s : Status) → mark false s ≡ s
mark-false New = refl
mark-false Valid = refl
mark-false Invalid = refl

mark-past : (whole : History) (t : ℕ) (set : ℕ → Bool) (new c : Change) → timestamp c < t → replace t new (mark_future whole t set c) ≡ c
mark-past whole t set new (change u p s w l) q = rw (ne_eqb u t (omega arith), le-ltb t u (omega arith), mark-false s)

module _ (view : List ℤ) (upto : Environment) (c : Change) (h : History) (t : ℕ) (q : timestamp c < t) where
  mark-same : (set : ℕ → Bool) (u : Change) → mark_future (c ∷ h) t set u ≡ mark_future h t set u
  mark-same set u = rw (le-ltb t (timestamp c) (omega arith))

  view-same : (set : ℕ → Bool) (new : Environment) → update_view (c ∷ h) t set new view ≡ update_view h t set new view
  view-same set new =
      ap all_settings
      (fun_ext (λ x. ap (λ (y : Bool). cond (set x && y) (new x) (value_in view x))
      (last-same (cond (writes c x) (timestamp c) 0) 0 h x t
      (by-test (λ a. leb a t ≡ leb 0 t) (writes c x) (λ e. le-leb (timestamp c) t (omega arith) ∙ sym (le-leb 0 t (omega arith))) (λ e. refl)))))

  install-past : (p : Code) (w : Bool) (old new : Lists) (e : Event) → install (c ∷ h) view upto t p w old new e ≡ pass c (install h view upto t p w old new e)
  install-past p w old new e =
      let set = changeset old new upto in
      ap₂ (λ g v. turned g v e)
      (ap₂ ◌∷◌ (mark-past (c ∷ h) t set (change t p Valid w new) c q) (ap (λ f. map f h) (fun_ext (λ u. ap (replace t (change t p Valid w new)) (mark-same set u)))))
      (view-same set (after new.writes upto))

  rerun-past : (p : Code) (old : Lists) (holds : Bool) → rerun holds (c ∷ h) view upto t p old ≡ pass c (rerun holds h view upto t p old)
  rerun-past p old true = rw (ne_eqb (timestamp c) t (omega arith))
  rerun-past p old false = install-past p false old (run_lists upto p) (ran t (run upto p))

execute-past : (view : List ℤ) (upto : Environment) (c : Change) (h : History) (d : Change) → timestamp c < timestamp d → execute (c ∷ h) view upto d ≡ pass c (execute h view upto d)
execute-past view upto c h (change t p s true old) q = install-past view upto c h t q p true old empty (cleared t)
execute-past view upto c h (change t p New false old) q = install-past view upto c h t q p false old (run_lists upto p) (ran t (run upto p))
execute-past view upto c h (change t p Invalid false old) q = rerun-past view upto c h t q p old (all_hold old.reads upto)
execute-past view upto c h (change t p Valid false old) q = refl

-- ---- the round

-- whatever waits for a turn is stamped above a
abbrev pub WaitsAbove : ℕ → History → Type 0
WaitsAbove a h = (d : Change) → lowest_waiting h ≡ some d → a < timestamp d

pub rising-waits : (b : ℕ) (h : History) → Rising b h → WaitsAbove b h
rising-waits b [] r d q = impossible (cc)
rising-waits b (change t p New w l ∷ h) r d q = let z : change t p New w l ≡ d = cc in rw (← z) r.0
rising-waits b (change t p Invalid w l ∷ h) r d q = let z : change t p Invalid w l ≡ d = cc in rw (← z) r.0
rising-waits b (change t p Valid w l ∷ h) r d q = let z = rising-waits t h r.2 d q in omega arith

round-past : (env : Environment) (view : List ℤ) (c : Change) (h : History) (waiting : Option Change) → ((d : Change) → waiting ≡ some d → timestamp c < timestamp d) → round_at env (c ∷ h) view waiting ≡ pass c (round_at (after_change c env) h view waiting)
round-past env view c h none above = refl
round-past env view c h (some d) above =
    rw (lt-ltb (timestamp c) (timestamp d) (above d refl)) (execute-past view (as_of (timestamp d) h (after_change c env)) c h d (above d refl))

round-first : (env : Environment) (view : List ℤ) (c : Change) (h : History) {s : Step} → Rising (timestamp c) h → execute (c ∷ h) view env c ≡ s → round_at env (c ∷ h) view (some c) ≡ s
round-first env view c h r e = rw (as_of-first c h env r) e

-- on a history by rising timestamp, the round of Figure 1 is the walk
pub round-walk : (env : Environment) (h : History) (view : List ℤ) (b : ℕ) → Rising b h → round env h view ≡ walk env view h
unfolding round
round-walk env [] view b r = refl
round-walk env (change t p Valid w l ∷ h) view b r =
    round-past env view (change t p Valid w l) h (lowest_waiting h) (rising-waits t h r.2)
    ∙ ap (pass (change t p Valid w l)) (round-walk (after l.writes env) h view t r.2)
round-walk env (change t p New true l ∷ h) view b r =
    round-first env view (change t p New true l) h r.2 (install-first env view t p New true l empty h r.2 (cleared t))
round-walk env (change t p New false l ∷ h) view b r =
    round-first env view (change t p New false l) h r.2 (install-first env view t p New false l (run_lists env p) h r.2 (ran t (run env p)))
round-walk env (change t p Invalid true l ∷ h) view b r =
    round-first env view (change t p Invalid true l) h r.2 (install-first env view t p Invalid true l empty h r.2 (cleared t))
round-walk env (change t p Invalid false l ∷ h) view b r =
    round-first env view (change t p Invalid false l) h r.2 (rerun-first env view t p l h r.2 (all_hold l.reads env))
