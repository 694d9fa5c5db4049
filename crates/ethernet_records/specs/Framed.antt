-- 01, types 120 to 123: the frame's bytes stand beside the record. On reading they are a part of the log, which
-- `objects::frame` hands out; on writing they are lent.
use Rattle.std.specs.Prelude.{ℕ, ◌≡◌, List, drop}
use Rattle.headers.specs.Format.{body_of}
use Rattle.ethernet.specs.Fields.{structure_length, Framed}
use Rattle.headers.specs.Types.{Kind, number_of}
use Rattle.objects.specs.Kinds.{format_of, Record}
use Rattle.objects.specs.Views.{frame_at}
use Rattle.outcomes.specs.Answers as told
use Rattle.outcomes.specs.Reads.{look_at, record_at}

-- a record and its frame
abbrev pub framed : {A : Type 0} → A → List ℕ → Framed A
framed v bs = record { value = v; bytes = bs }

-- a record's frame; other types have none
abbrev pub frame_bytes : (k : Kind) → Record k → List ℕ
frame_bytes k r = (format_of k).frame r

-- a read of type k gives the part a of a record, and the view the frame b
abbrev pub Gives : List ℕ → ℕ → (k : Kind) {A : Type 0} → (Record k → A) → A → List ℕ → Type 0
Gives s at k pick a b = ((look_at s at (number_of k)).told ≡ told.Record) × (pick (record_at k s at) ≡ a) × (frame_at s at ≡ b)

-- the frame's bytes that stand in an object: what is behind the header and the structure
abbrev pub bytes_in : List ℕ → List ℕ
bytes_in o = drop structure_length (body_of o)
