-- A read of each type answers with a record exactly where that record stands in the log as a valid item: one theorem,
-- at each type. Assumes nothing.
use mathlib.Core.Path.{◌≡◌}
use mathlib.Core.Logic.{◌↔◌}
use mathlib.Core.List.{List}
use Prim.Native.Nat.{ℕ}
use Rattle.fields.specs.Numbers.{Bytes}
use Rattle.lin.specs.declared.message.Message.{Message}
use Rattle.lin.specs.declared.wake_up.WakeUp.{WakeUp}
use Rattle.headers.specs.Types.{lin_message, wake_up}
use Rattle.objects.specs.Items.{known, Stands}
use Rattle.outcomes.specs.Answers as told
use Rattle.outcomes.specs.Reads.{look_at, record_at}
use Rattle.outcomes.proofs.Reading.{read_exact}

module _ (s : List ℕ) (at : ℕ) (bs : Bytes s) where
  pub message_exact : (r : Message) → (((look_at s at 57).told ≡ told.Record) × (record_at lin_message s at ≡ r)) ↔ Stands s at (known lin_message r)
  message_exact r = read_exact lin_message s at bs r

  pub wake_up_exact : (r : WakeUp) → (((look_at s at 62).told ≡ told.Record) × (record_at wake_up s at ≡ r)) ↔ Stands s at (known wake_up r)
  wake_up_exact r = read_exact wake_up s at bs r
