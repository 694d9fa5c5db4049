-- The slots of the CAN records, row by row of 01 and W-208: what Fields reads, the other way round.
use Rattle.std.specs.Prelude.{[], ◌∷◌, leb}
use Rattle.fields.specs.Rules.{rule}
use Rattle.fields.specs.Slots.{Slots, number, numbers, reserved, end, ◌▸◌, joined}
use Rattle.headers.specs.Form.{Form, ruleless}
use Rattle.can.specs.declared.front.Front.{Front}
use Rattle.can.specs.declared.message.Message.{Message}
use Rattle.can.specs.declared.overload.Overload.{Overload}
use Rattle.can.specs.declared.statistic.Statistic.{Statistic}
use Rattle.can.specs.declared.message_two.MessageTwo.{MessageTwo}
use Rattle.can.specs.declared.fd_message.FdMessage.{FdMessage}
use Rattle.can.specs.Fields.{most_valid}

-- what types 1, 86 and 100 begin with
abbrev pub front_slots : {A : Type 0} → (A → Front) → Slots A
front_slots front =
    number 2 (λ r. (front r).channel)  --  0
    ▸ number 1 (λ r. (front r).flags)  --  2
    ▸ number 1 (λ r. (front r).dlc)  --  3
    ▸ number 4 (λ r. (front r).id)  --  4
    ▸ end

-- what types 1 and 86 begin with
abbrev pub data_slots : {A : Type 0} → (A → Message) → Slots A
data_slots message =
    joined (front_slots (λ r. let m = message r in record { channel = m.channel; flags = m.flags; dlc = m.dlc; id = m.id }))  --  0
    (numbers 1 8 (λ r. (message r).bytes)  --  8
    ▸ end)

unfoldable pub message_slots : Slots Message
message_slots = data_slots (λ r. r)

abbrev pub message_form : Form Message
message_form = ruleless message_slots

unfoldable pub overload_slots : Slots Overload
overload_slots =
    number 2 (λ r. r.channel)  --  0
    ▸ reserved 2  --  2
    ▸ end

abbrev pub overload_form : Form Overload
overload_form = ruleless overload_slots

-- the six counters of frames
unfoldable pub counter_slots : Slots Statistic
counter_slots =
    number 4 (λ r. r.standard_data)  --  4
    ▸ number 4 (λ r. r.extended_data)  --  8
    ▸ number 4 (λ r. r.standard_remote)  -- 12
    ▸ number 4 (λ r. r.extended_remote)  -- 16
    ▸ number 4 (λ r. r.errors)  -- 20
    ▸ number 4 (λ r. r.overloads)  -- 24
    ▸ end

unfoldable pub statistic_slots : Slots Statistic
statistic_slots =
    number 2 (λ r. r.channel)  --  0
    ▸ number 2 (λ r. r.load)  --  2 in 1/100 percent
    ▸ counter_slots

abbrev pub statistic_form : Form Statistic
statistic_form = ruleless statistic_slots

unfoldable pub message_two_slots : Slots MessageTwo
message_two_slots =
    joined (data_slots (λ r. r.message))  --  0
    (number 4 (λ r. r.frame_length)  -- 16
    ▸ number 1 (λ r. r.bit_count)  -- 20
    ▸ reserved 3  -- 21
    ▸ end)

abbrev pub message_two_form : Form MessageTwo
message_two_form = ruleless message_two_slots

-- of CAN FD, what stands between the front and the data bytes
unfoldable pub timing_slots : Slots FdMessage
timing_slots =
    number 4 (λ r. r.frame_length)  --  8
    ▸ number 1 (λ r. r.bit_count)  -- 12 of the arbitration phase
    ▸ number 1 (λ r. r.fd_flags)  -- 13
    ▸ number 1 (λ r. r.valid_bytes)  -- 14
    ▸ reserved 5  -- 15
    ▸ end

unfoldable pub fd_message_slots : Slots FdMessage
fd_message_slots =
    joined (front_slots (λ r. record { channel = r.channel; flags = r.flags; dlc = r.dlc; id = r.id }))  --  0
    (joined timing_slots  --  8
    (numbers 1 64 (λ r. r.bytes)  -- 20
    ▸ reserved 4  -- 84
    ▸ end))

abbrev pub fd_message_form : Form FdMessage
fd_message_form =
    record {
      slots = fd_message_slots;
      rules = λ r. rule 14 (leb r.valid_bytes most_valid) ∷ [];
      Extra = λ r. Unit;
    }
