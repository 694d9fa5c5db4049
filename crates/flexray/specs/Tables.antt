-- The slots of FlexRay receive, row by row of 01: what Fields reads, the other way round.
use Rattle.std.specs.Prelude.{[], ◌∷◌}
use Rattle.fields.specs.Rules.{rule}
use Rattle.fields.specs.Slots.{Slots, number, numbers, reserved, end, ◌▸◌, joined}
use Rattle.headers.specs.Form.{Form}
use Rattle.flexray.specs.declared.receive.Receive.{Receive}
use Rattle.flexray.specs.Fields.{counts_ok}

-- the channel, and whom it is from
unfoldable pub origin_slots : Slots Receive
origin_slots =
    number 2 (λ r. r.channel)  --  0
    ▸ number 2 (λ r. r.version)  --  2
    ▸ number 2 (λ r. r.mask)  --  4
    ▸ number 1 (λ r. r.direction)  --  6
    ▸ reserved 1  --  7 skipped
    ▸ number 4 (λ r. r.client)  --  8
    ▸ number 4 (λ r. r.cluster)  -- 12
    ▸ end

-- the slot, and how much came in it
unfoldable pub slot_slots : Slots Receive
slot_slots =
    number 2 (λ r. r.id)  -- 16 frame id
    ▸ number 2 (λ r. r.crca)  -- 18
    ▸ number 2 (λ r. r.crcb)  -- 20
    ▸ number 2 (λ r. r.total)  -- 22 byte count
    ▸ number 2 (λ r. r.stored)  -- 24 data count
    ▸ number 1 (λ r. r.cycle)  -- 26
    ▸ reserved 1  -- 27 skipped
    ▸ end

-- what the communication controller says
unfoldable pub controller_slots : Slots Receive
controller_slots =
    number 4 (λ r. r.tag)  -- 28
    ▸ number 4 (λ r. r.state)  -- 32
    ▸ number 4 (λ r. r.flags)  -- 36
    ▸ reserved 4  -- 40
    ▸ end

unfoldable pub receive_slots : Slots Receive
receive_slots =
    joined origin_slots  --  0
    (joined slot_slots  -- 16
    (joined controller_slots  -- 28
    (numbers 1 254 (λ r. r.bytes)  -- 44
    ▸ end)))

abbrev pub receive_form : Form Receive
receive_form =
    record {
      slots = receive_slots;
      rules = λ r. rule 24 (counts_ok r.total r.stored) ∷ [];
      Extra = λ r. Unit;
    }
