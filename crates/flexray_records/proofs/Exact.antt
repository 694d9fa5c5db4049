-- A read of each type answers with a record exactly where that record stands in the log as a valid item: one theorem,
-- at each type. Assumes nothing.
use mathlib.Core.Path.{◌≡◌}
use mathlib.Core.Logic.{◌↔◌}
use mathlib.Core.List.{List}
use Prim.Native.Nat.{ℕ}
use Rattle.fields.specs.Numbers.{Bytes}
use Rattle.flexray.specs.declared.receive.Receive.{Receive}
use Rattle.headers.specs.Types.{receive}
use Rattle.objects.specs.Items.{known, Stands}
use Rattle.outcomes.specs.Answers as told
use Rattle.outcomes.specs.Reads.{look_at, record_at}
use Rattle.outcomes.proofs.Reading.{read_exact}

module _ (s : List ℕ) (at : ℕ) (bs : Bytes s) where
  pub receive_exact : (r : Receive) → (((look_at s at 50).told ≡ told.Record) × (record_at receive s at ≡ r)) ↔ Stands s at (known receive r)
  receive_exact r = read_exact receive s at bs r
