-- A read of each type answers with a record exactly where that record stands in the log as a valid item: one theorem,
-- at each type. Assumes nothing.
use mathlib.Core.Path.{◌≡◌}
use mathlib.Core.Logic.{◌↔◌}
use mathlib.Core.List.{List}
use Prim.Native.Nat.{ℕ}
use Rattle.fields.specs.Numbers.{Bytes}
use Rattle.ethernet.specs.declared.status.Status.{Status}
use Rattle.headers.specs.Types.{ethernet_status}
use Rattle.objects.specs.Items.{known, Stands}
use Rattle.outcomes.specs.Answers as told
use Rattle.outcomes.specs.Reads.{look_at, record_at}
use Rattle.outcomes.proofs.Reading.{read_exact}

module _ (s : List ℕ) (at : ℕ) (bs : Bytes s) where
  pub status_exact : (r : Status) → (((look_at s at 103).told ≡ told.Record) × (record_at ethernet_status s at ≡ r)) ↔ Stands s at (known ethernet_status r)
  status_exact r = read_exact ethernet_status s at bs r
