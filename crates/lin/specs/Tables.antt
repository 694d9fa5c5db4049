-- The slots of the LIN records, row by row of 01: what Fields reads, the other way round.
use Rattle.std.specs.Prelude.{ℕ, [], ◌∷◌}
use Rattle.fields.specs.Rules.{rule}
use Rattle.fields.specs.Slots.{Slots, number, numbers, reserved, end, rest, ◌▸◌, joined}
use Rattle.headers.specs.Form.{Form, ruleless}
use Rattle.lin.specs.declared.message.Message.{Message}
use Rattle.lin.specs.declared.wake_up.WakeUp.{WakeUp}
use Rattle.lin.specs.Fields.{tail_ok}
use Rattle.lin.specs.Tail.{tail, FitTail}

-- what both LIN records begin with (001, 3.1.4)
unfoldable pub bus_slots : {A : Type 0} → (A → ℕ) → (A → ℕ) → (A → ℕ) → Slots A
bus_slots start baud channel =
    number 8 start  --  0
    ▸ number 4 baud  --  8
    ▸ number 2 channel  -- 12
    ▸ reserved 2  -- 14
    ▸ end

-- where and when, and the break before the frame (001, 3.1.5)
unfoldable pub synch_slots : Slots Message
synch_slots =
    joined (bus_slots (λ r. r.start) (λ r. r.baud) (λ r. r.channel))  --  0
    (number 8 (λ r. r.breaking)  -- 16 break length
    ▸ number 8 (λ r. r.delimiter)  -- 24 delimiter length
    ▸ end)

-- which frame it is (001, 3.1.6)
unfoldable pub descriptor_slots : Slots Message
descriptor_slots =
    number 2 (λ r. r.supplier)  -- 32
    ▸ number 2 (λ r. r.message)  -- 34
    ▸ number 1 (λ r. r.nad)  -- 36
    ▸ number 1 (λ r. r.id)  -- 37
    ▸ number 1 (λ r. r.dlc)  -- 38
    ▸ number 1 (λ r. r.model)  -- 39 checksum model
    ▸ end

-- the checksum, and how the frame came about
unfoldable pub status_slots : Slots Message
status_slots =
    number 2 (λ r. r.checksum)  -- 120
    ▸ number 1 (λ r. r.direction)  -- 122
    ▸ number 1 (λ r. r.simulated)  -- 123
    ▸ number 1 (λ r. r.triggered)  -- 124 event-triggered
    ▸ number 1 (λ r. r.index)  -- 125
    ▸ number 1 (λ r. r.associated)  -- 126 associated id
    ▸ end

-- the slave's state machine
unfoldable pub machine_slots : Slots Message
machine_slots =
    number 1 (λ r. r.machine)  -- 127
    ▸ number 1 (λ r. r.state)  -- 128
    ▸ reserved 3  -- 129
    ▸ end

unfoldable pub message_slots : Slots Message
message_slots =
    joined synch_slots  --   0
    (joined descriptor_slots  --  32
    (numbers 8 9 (λ r. r.stamps)  --  40
    ▸ numbers 1 8 (λ r. r.bytes)  -- 112
    ▸ joined status_slots  -- 120
    (joined machine_slots  -- 127
    (rest (λ r. tail r.tail)))))  -- 132

abbrev pub message_form : Form Message
message_form =
    record {
      slots = message_slots;
      rules = λ r. rule 136 (tail_ok r.tail) ∷ [];
      Extra = λ r. FitTail r.tail;
    }

unfoldable pub wake_up_slots : Slots WakeUp
wake_up_slots =
    joined (bus_slots (λ r. r.start) (λ r. r.baud) (λ r. r.channel))  --  0
    (number 1 (λ r. r.info)  -- 16 length info
    ▸ number 1 (λ r. r.signal)  -- 17
    ▸ number 1 (λ r. r.external)  -- 18
    ▸ reserved 1  -- 19
    ▸ end)

abbrev pub wake_up_form : Form WakeUp
wake_up_form = ruleless wake_up_slots
