-- What a front's own writer leaves is what a record that has it leaves, and so for a message in a message 2. Assumes
-- nothing.
use mathlib.Core.List.{List}
use Prim.Native.Nat.{ℕ}
use Rattle.fields.specs.Written.{Wrote}
use Rattle.fields.specs.Slots.{bytes_of}
use Rattle.can.specs.declared.front.Front.{Front}
use Rattle.can.specs.declared.message.Message.{Message}
use Rattle.can.specs.Tables.{front_slots, data_slots, message_slots}

module _ {A : Type 0} (r : A) {at : ℕ} {x y : List ℕ} where
  pub front_written : (front : A → Front) → Wrote at (bytes_of (front_slots (λ f. f)) (front r)) x y → Wrote at (bytes_of (front_slots front) r) x y
  unfolding bytes_of
  front_written front w = w

  pub message_written : (message : A → Message) → Wrote at (bytes_of message_slots (message r)) x y → Wrote at (bytes_of (data_slots message) r) x y
  unfolding bytes_of message_slots
  message_written message w = w
