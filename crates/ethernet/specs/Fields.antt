-- 01, types 103 and 120 to 123: where the fields of the Ethernet records stand. Offsets and lengths from the header's
-- end.
use Rattle.std.specs.Prelude.{ℕ, ◌-◌, List, [], ◌∷◌, eqb, leb, length, drop}
use Rattle.fields.specs.Numbers.{num}
use Rattle.fields.specs.Rules.{Gap, gap, Rule, rule}
use Rattle.headers.specs.declared.header.Header.{Header}
use Rattle.headers.specs.TypeFormat.{Format, simple}
use Rattle.ethernet.specs.declared.status.Status.{Status}
use Rattle.ethernet.specs.declared.frame.Frame.{Frame}
use Rattle.ethernet.specs.declared.frame_error.FrameError.{FrameError}

-- type 103: Ethernet status, 16 bytes; the eight bytes are in document 003's order
unfoldable pub status_of : Header → List ℕ → Status
status_of h b = record {
  header = h;
  channel = num 2 b 0;
  flags = num 2 b 2;
  link = num 1 b 4;
  phy = num 1 b 5;
  duplex = num 1 b 6;
  mdi = num 1 b 7;
  connector = num 1 b 8;
  clock = num 1 b 9;
  pairs = num 1 b 10;
  hardware = num 1 b 11;
  bitrate = num 4 b 12;
}

abbrev pub status_format : Format
status_format = simple Status (λ r. r.header) status_of []

-- the bytes between the header and the frame
abbrev pub structure_length : ℕ
structure_length = 32

abbrev pub longest_frame : ℕ
longest_frame = 1612

-- types 120 and 121: Ethernet frame and forwarded frame, 32 + n bytes
unfoldable pub frame_of : Header → List ℕ → Frame
frame_of h b = record {
  header = h;
  flags = num 2 b 2;
  channel = num 2 b 4;
  hardware = num 2 b 6;
  duration = num 8 b 8;
  checksum = num 4 b 16;
  direction = num 2 b 20;
  handle = num 4 b 24;
}

-- types 122 and 123: Ethernet error and forwarded error, 32 + n bytes
unfoldable pub error_of : Header → List ℕ → FrameError
error_of h b = record { frame = frame_of h b; code = num 4 b 28 }

-- a record, and the frame's bytes that are lent beside it
pub record Framed (A : Type 0) : Type 0 where
  pub value : A
  pub bytes : List ℕ

abbrev pub frame_in : Header → List ℕ → Framed Frame
frame_in h b = record { value = frame_of h b; bytes = drop structure_length b }

abbrev pub error_in : Header → List ℕ → Framed FrameError
error_in h b = record { value = error_of h b; bytes = drop structure_length b }

-- 9: structure length not 32; frame length not what the size leaves behind header and structure
abbrev pub length_rules : List ℕ → List Rule
length_rules b =
    rule 0 (eqb (num 2 b 0) structure_length)
    ∷ rule 22 (eqb (num 2 b 22) (length b - structure_length))
    ∷ []

-- what frames and errors share; on writing, a frame above 1,612 bytes is 9
abbrev pub event_format : (A : Type 0) → (A → Frame) → (Header → List ℕ → Framed A) → List Gap → Format
event_format A pick of gaps =
    record {
      Record = Framed A;
      header = λ f. (pick f.value).header;
      of = of;
      gaps = gaps;
      rules = length_rules;
      content = λ f. leb (length f.bytes) longest_frame;
      frame = λ f. f.bytes;
    }

abbrev pub frame_format : Format
frame_format = event_format Frame (λ r. r) frame_in (gap 28 4 ∷ [])

-- the code stands where a frame has reserved bytes
abbrev pub error_format : Format
error_format = event_format FrameError (λ e. e.frame) error_in []
