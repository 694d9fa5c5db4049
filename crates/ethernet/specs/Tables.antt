-- The slots of the Ethernet records, row by row of 01: what Fields reads, the other way round.
use Rattle.std.specs.Prelude.{ℕ, List, length}
use Rattle.fields.specs.Slots.{Slot, number, reserved, derived, Slots, end, rest, ◌▸◌, joined}
use Rattle.headers.specs.Form.{Form, ruleless}
use Rattle.ethernet.specs.declared.status.Status.{Status}
use Rattle.ethernet.specs.declared.frame.Frame.{Frame}
use Rattle.ethernet.specs.declared.frame_error.FrameError.{FrameError}
use Rattle.ethernet.specs.Fields.{structure_length, Framed}

-- the eight bytes of a status
unfoldable pub eight_slots : Slots Status
eight_slots =
    number 1 (λ r. r.link)  --  4
    ▸ number 1 (λ r. r.phy)  --  5
    ▸ number 1 (λ r. r.duplex)  --  6
    ▸ number 1 (λ r. r.mdi)  --  7
    ▸ number 1 (λ r. r.connector)  --  8
    ▸ number 1 (λ r. r.clock)  --  9
    ▸ number 1 (λ r. r.pairs)  -- 10
    ▸ number 1 (λ r. r.hardware)  -- 11
    ▸ end

unfoldable pub status_slots : Slots Status
status_slots =
    number 2 (λ r. r.channel)  --  0
    ▸ number 2 (λ r. r.flags)  --  2
    ▸ joined eight_slots  --  4
    (number 4 (λ r. r.bitrate)  -- 12
    ▸ end)

abbrev pub status_form : Form Status
status_form = ruleless status_slots

-- frames and errors: the structure length, and where the frame was seen
unfoldable pub origin_slots : {A : Type 0} → (A → Frame) → Slots A
origin_slots frame =
    derived 2 (λ f. structure_length)  --  0
    ▸ number 2 (λ f. (frame f).flags)  --  2
    ▸ number 2 (λ f. (frame f).channel)  --  4
    ▸ number 2 (λ f. (frame f).hardware)  --  6
    ▸ end

-- how it was sent; n is the frame length
unfoldable pub transmission_slots : {A : Type 0} → (A → Frame) → (A → ℕ) → Slots A
transmission_slots frame n =
    number 8 (λ f. (frame f).duration)  --  8
    ▸ number 4 (λ f. (frame f).checksum)  -- 16
    ▸ number 2 (λ f. (frame f).direction)  -- 20
    ▸ derived 2 n  -- 22
    ▸ number 4 (λ f. (frame f).handle)  -- 24
    ▸ end

-- the whole body: they differ in the slot at 28 alone
unfoldable pub event_slots : {A : Type 0} → (A → Frame) → Slot A → (A → List ℕ) → Slots A
event_slots frame last bytes =
    joined (origin_slots frame)  --  0
    (joined (transmission_slots frame (λ f. length (bytes f)))  --  8
    (last  -- 28
    ▸ rest bytes))  -- 32

unfoldable pub frame_slots : Slots (Framed Frame)
frame_slots = event_slots (λ f. f.value) (reserved 4) (λ f. f.bytes)

unfoldable pub error_slots : Slots (Framed FrameError)
error_slots = event_slots (λ e. e.value.frame) (number 4 (λ e. e.value.code)) (λ e. e.bytes)

abbrev pub frame_form : Form (Framed Frame)
frame_form = ruleless frame_slots

abbrev pub error_form : Form (Framed FrameError)
error_form = ruleless error_slots
