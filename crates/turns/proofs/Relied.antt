-- What the code of a turn relies on at a position of tables in form.
use mathlib.Core.Path.{◌≡◌, sym, ◌∙◌}
use Prim.Native.Nat.{ℕ, ◌+◌, ◌<◌, ◌≤◌}
use native.Mathlib.Omega.{arith}
use lib.ListN.{length, get_or}
use Rattle.model.specs.Tables.{Tables, held_count, slots}
use Rattle.model.specs.Form.{Formed}
use Rattle.model.proofs.Form.{facts}
use Rattle.writers.specs.Writers.{OfSettings, WriteLists}
use Rattle.writers.proofs.Model.{tested-settings, placed-writes, listed}
use Rattle.values.specs.declared.KnownValues.{KnownValues}
use Rattle.values.specs.Values.{history_lists, values_below, Known, Lookable}
use Rattle.values.proofs.Model.{program-formed}
use Rattle.acts.specs.Acts.{Positioned, Decidable}
use Rattle.execution.specs.Executed.{Runnable}
use Rattle.storing.specs.Stored.{NewLists, ListsStorable}
use Rattle.uses.specs.Columns.{columns_of}
use Rattle.uses.specs.declared.SettingUses.{SettingUses}
use Rattle.uses.specs.Uses.{Uses}
use Rattle.marking_laws.proofs.Model.{empty-rests, markable}
use Rattle.replacement.specs.Replaced.{Fitting, Replaceable}

-- a position of the order list and its place are within the tables
pub record Slots (T : Tables) (k : ℕ) : Type 0 where
  pub few : held_count T ≤ 4096
  pub position : k < held_count T
  pub order : k < length T.order
  pub place : get_or T.order k 0 < 4096
  pub timestamps : get_or T.order k 0 < length T.timestamps
  pub status : get_or T.order k 0 < length T.status
  pub writes : get_or T.order k 0 < length T.writes
  pub versions : get_or T.order k 0 < length T.versions

module _ {n : ℕ} {T : Tables} (g : Formed n T) (k : ℕ) (h : k < held_count T) where
  abbrev place : ℕ
  place = get_or T.order k 0

  place-held : place < held_count T
  place-held = (facts g).form.places k h

  at_place : {places : ℕ} → places ≡ n → Positioned k T.order places
  at_place e =
      record {
        ordered = omega (arith, h, (facts g).form.small, (facts g).sizes.order);
        small = omega (arith, e, (facts g).sizes.capacity);
        place = omega (arith, e, place-held, (facts g).form.small);
      }

  pub slots-of : Slots T k
  slots-of =
      let z = (facts g).sizes in
      let small = (facts g).form.small in
      record {
        few = omega (arith, small, z.capacity);
        position = h;
        order = omega (arith, h, small, z.order);
        place = omega (arith, place-held, small, z.capacity);
        timestamps = omega (arith, place-held, small, z.timestamps);
        status = omega (arith, place-held, small, z.status);
        writes = omega (arith, place-held, small, z.writes);
        versions = omega (arith, place-held, small, z.versions);
      }

  pub decidable : Decidable k T.order T.status T.withdrawn T.reads T.sources T.seen (length T.writes)
  decidable =
      let l = (facts g).sizes in
      record {
        at = at_place l.writes;
        status-slots = l.status ∙ sym l.writes;
        flag-slots = l.withdrawn ∙ sym l.writes;
        read-counts = l.reads ∙ sym l.writes;
        source-slots = omega (arith, l.sources, l.writes);
        seen-slots = omega (arith, l.seen, l.writes);
        short = ((facts g).form.reads place place-held).short;
        settings = tested-settings _ ((facts g).form.reads place place-held).distinct;
      }

  pub runnable : Runnable k T.order T.lengths T.programs
  runnable =
      record {
        at = at_place (facts g).sizes.lengths;
        blocks = omega (arith, (facts g).sizes.programs, (facts g).sizes.lengths);
        short = ((facts g).form.programs place place-held).short;
        formed = program-formed g k h;
      }

  pub write-settings : OfSettings (slots 32 place (get_or T.writes place 0) T.targets)
  write-settings = tested-settings _ ((facts g).form.writes place place-held).distinct

  pub lookable : {v : KnownValues} → Known (values_below T.order T.writes T.targets T.written T.kept k) v → Lookable k (history_lists T.order T.writes T.targets T.written T.kept) v
  lookable q = record { placed = placed-writes g k (omega (arith, h)); listed = listed g; kept-sized = (facts g).sizes.kept; right = q }

  storable : (l : NewLists) → Fitting l → ListsStorable place l T.reads T.writes T.sources T.seen T.targets T.written
  storable l f =
      let z = (facts g).sizes in
      let p = at_place z.writes in
      let read_short = ((facts g).form.reads place place-held).short in
      let write-short = ((facts g).form.writes place place-held).short in
      let rests = empty-rests g in
      record {
        read =
            record {
              counted = omega (arith, place-held, (facts g).form.small, z.reads);
              of-settings = record { small = omega (arith, p.place, p.small); short = f.reads; old-short = read_short; long = omega (arith, f.sources); room = omega (arith, place-held, (facts g).form.small, z.sources); unused = record { empty = rests.sources place } };
              of_values = record { small = omega (arith, p.place, p.small); short = f.reads; old-short = read_short; long = omega (arith, f.seen); room = omega (arith, place-held, (facts g).form.small, z.seen); unused = record { empty = rests.seen place } };
            };
        wrote =
            record {
              counted = p.place;
              of-settings = record { small = omega (arith, p.place, p.small); short = f.writes; old-short = write-short; long = omega (arith, f.targets); room = omega (arith, place-held, (facts g).form.small, z.targets); unused = record { empty = rests.targets place } };
              of_values = record { small = omega (arith, p.place, p.small); short = f.writes; old-short = write-short; long = omega (arith, f.written); room = omega (arith, place-held, (facts g).form.small, z.written); unused = record { empty = rests.written place } };
            };
      }

  -- for `replace`
  pub replaceable :
      {v : KnownValues} {u : SettingUses} →
      Known (values_below T.order T.writes T.targets T.written T.kept k) v →
      Uses (k + 1) T u →
      Replaceable k (columns_of T) T.seen T.written T.kept T.lengths T.programs T.status T.view v u
  replaceable q u =
      record {
        runnable = runnable;
        at = at_place (facts g).sizes.writes;
        settings = write-settings;
        lookable = lookable q;
        markable = markable g u;
        viewed = (facts g).sizes.view;
        small = omega (arith, h, (facts g).form.small, (facts g).sizes.capacity);
        storable = storable;
      }

  -- for `carry_place`
  pub carriable : (get_or T.order k 0 < length T.writes) × WriteLists T.writes T.targets T.written × OfSettings (slots 32 place (get_or T.writes place 0) T.targets)
  carriable = (slots-of.writes, listed g, write-settings)
