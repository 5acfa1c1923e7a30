-- The tables of a cabinet with one change restated: its status and its flag may differ, and nothing else.
use mathlib.Core.Path.{◌≡◌, ap}
use mathlib.Core.List.{List, [], ◌∷◌, map}
use Prim.Native.Nat.{ℕ, ◌/◌, ◌<◌}
use lib.IntN.{pos}
use lib.ListN.{length, get_or, set, length-set}
use lib.Seq.{map-set_same}
use Rattle.machine.specs.Instruction.{Code}
use Rattle.model.specs.History.{Lists, Change, timestamp, program, status, withdrawn, lists}
use Rattle.model.specs.Cabinet.{Cabinet, blank}
use Rattle.model.specs.Tables.{tables, with_withdrawing, status_number, flag_number, pad, settings_of, values_of, encode}
use Rattle.model.proofs.Blocks.{column-set, blocks-same}

pub record Restates (new old : Change) : Type 0 where
  pub stamped : timestamp new ≡ timestamp old
  pub programmed : program new ≡ program old
  pub listed : lists new ≡ lists old

module _ (n : ℕ) (c : Cabinet) (i : ℕ) (h : i < length c.changes) (new : Change) (r : Restates new (get_or c.changes i blank)) where
  abbrev changes' : List Change
  changes' = set c.changes i new

  -- what does not tell status or flag
  same : {B : Type 0} (g : ℕ → Code → Lists → B) → map (λ d. g (timestamp d) (program d) (lists d)) changes' ≡ map (λ d. g (timestamp d) (program d) (lists d)) c.changes
  same g = map-set_same (λ d. g (timestamp d) (program d) (lists d)) c.changes i new blank (rw (r.stamped, r.programmed, r.listed))

  pub restated : encode n (record { changes = changes'; order = c.order; view = c.view; cutoff = c.cutoff; kept = c.kept }) ≡ with_withdrawing (encode n c) (set (encode n c).status i (status_number (status new))) (set (encode n c).withdrawn i (flag_number (withdrawn new)))
  unfolding encode
  restated =
      let held = ap (◌∷ []) (length-set c.changes i new) in
      let timestamps = ap (pad n 0) (same (λ t p l. t)) in
      let status = column-set n 0 (λ d. status_number (status d)) c.changes i new h in
      let withdrawn = column-set n 0 (λ d. flag_number (withdrawn d)) c.changes i new h in
      let lengths = ap (pad n 0) (same (λ t p l. length p.bytes / 8)) in
      let programs = blocks-same n 256 0 (λ d. (program d).bytes) changes' c.changes (same (λ t p l. p.bytes)) in
      let reads = ap (pad n 0) (same (λ t p l. length l.reads)) in
      let writes = ap (pad n 0) (same (λ t p l. length l.writes)) in
      let sources = blocks-same n 32 0 (λ d. settings_of (lists d).reads) changes' c.changes (same (λ t p l. settings_of l.reads)) in
      let seen = blocks-same n 32 (pos 0) (λ d. values_of (lists d).reads) changes' c.changes (same (λ t p l. values_of l.reads)) in
      let targets = blocks-same n 32 0 (λ d. settings_of (lists d).writes) changes' c.changes (same (λ t p l. settings_of l.writes)) in
      let written = blocks-same n 32 (pos 0) (λ d. values_of (lists d).writes) changes' c.changes (same (λ t p l. values_of l.writes)) in
      let versions = ap (pad n 0) (same (λ t p l. p.version)) in
      λ j. tables (held j) (timestamps j) (encode n c).order (status j) (withdrawn j) (lengths j) (programs j) (reads j) (writes j) (sources j) (seen j) (targets j) (written j) c.view (versions j) (encode n c).cutoff c.kept
