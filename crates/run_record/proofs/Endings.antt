-- How a record's run ended, by how it stands.
use mathlib.Core.Path.{◌≡◌, refl}
use mathlib.Core.Bool.{true, false}
use Rattle.machine.specs.Run.{Fault, completed, faulted}
use Rattle.run_record.specs.declared.Status.{Status}
use Rattle.run_record.specs.declared.Status.TheVariants.{Going, Stopped, Faulted}
use Rattle.run_record.specs.declared.Run.{Run}
use Rattle.run_record.specs.Record.{fault_of, is_whole, ending_at, ending_of}

-- still going, at the end of its program, or stopped
pub ending-whole : (r : Run) → is_whole r.status ≡ true → ending_of r ≡ completed
ending-whole r h = go r.status h
  where
    go : (s : Status) → is_whole s ≡ true → ending_at s r.place ≡ completed
    go Going h = refl
    go Stopped h = refl
    go (Faulted f) h = absurd (cc)

-- broken off at its place
pub ending-faulted : (r : Run) → is_whole r.status ≡ false → (fault : Fault) × (ending_of r ≡ faulted fault r.place)
ending-faulted r h = go r.status h
  where
    go : (s : Status) → is_whole s ≡ false → (fault : Fault) × (ending_at s r.place ≡ faulted fault r.place)
    go Going h = absurd (cc)
    go Stopped h = absurd (cc)
    go (Faulted f) h = (fault_of f, refl)
