-- A read of each type answers with a record exactly where that record stands in the log as a valid item: one theorem,
-- at each type. Assumes nothing.
use mathlib.Core.Path.{◌≡◌}
use mathlib.Core.Logic.{◌↔◌}
use mathlib.Core.List.{List}
use Prim.Native.Nat.{ℕ}
use Rattle.fields.specs.Numbers.{Bytes}
use Rattle.can.specs.declared.message.Message.{Message}
use Rattle.can.specs.declared.overload.Overload.{Overload}
use Rattle.can.specs.declared.statistic.Statistic.{Statistic}
use Rattle.can.specs.declared.message_two.MessageTwo.{MessageTwo}
use Rattle.can.specs.declared.fd_message.FdMessage.{FdMessage}
use Rattle.headers.specs.Types.{can_message, overload, statistic, message_two, fd_message}
use Rattle.objects.specs.Items.{known, Stands}
use Rattle.outcomes.specs.Answers as told
use Rattle.outcomes.specs.Reads.{look_at, record_at}
use Rattle.outcomes.proofs.Reading.{read_exact}

module _ (s : List ℕ) (at : ℕ) (bs : Bytes s) where
  pub message_exact : (r : Message) → (((look_at s at 1).told ≡ told.Record) × (record_at can_message s at ≡ r)) ↔ Stands s at (known can_message r)
  message_exact r = read_exact can_message s at bs r

  pub overload_exact : (r : Overload) → (((look_at s at 3).told ≡ told.Record) × (record_at overload s at ≡ r)) ↔ Stands s at (known overload r)
  overload_exact r = read_exact overload s at bs r

  pub statistic_exact : (r : Statistic) → (((look_at s at 4).told ≡ told.Record) × (record_at statistic s at ≡ r)) ↔ Stands s at (known statistic r)
  statistic_exact r = read_exact statistic s at bs r

  pub message_two_exact : (r : MessageTwo) → (((look_at s at 86).told ≡ told.Record) × (record_at message_two s at ≡ r)) ↔ Stands s at (known message_two r)
  message_two_exact r = read_exact message_two s at bs r

  pub fd_message_exact : (r : FdMessage) → (((look_at s at 100).told ≡ told.Record) × (record_at fd_message s at ≡ r)) ↔ Stands s at (known fd_message r)
  fd_message_exact r = read_exact fd_message s at bs r
