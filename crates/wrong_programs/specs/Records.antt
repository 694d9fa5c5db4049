-- 01, "What a reader of the contracts must find" and "Slips of the pen": wrong readers and writers of records.
use Rattle.std.specs.Prelude.{ℕ, ◌+◌, ◌-◌, List, ◌++◌, length, take, drop}
use Rattle.fields.specs.Numbers.{part, num, zeros}
use Rattle.headers.specs.Format.{length_at, header_of, body_of}
use Rattle.headers.specs.Types.{Kind, overload, lin_message, fd_message}
use Rattle.objects.specs.Kinds.{Record, format_of}
use Rattle.objects.specs.Items.{Item, padded}
use Rattle.outcomes.specs.Answers.{Written, Used}
use Rattle.outcomes.specs.Reads.{record_in}
use Rattle.outcomes.specs.Writes.{buffer_of}

-- reads one constant record
abbrev pub constant : (k : Kind) → Record k → List ℕ → ℕ → Record k
constant k r s at = r

-- reads every LIN message as one with an exact rate, whose body has 152 bytes
abbrev pub exact_rate : List ℕ → ℕ → Record lin_message
exact_rate s at = record_in lin_message (part (length_at (drop at s) + 152) s at)

-- W-202: reads the body of every overload at 32
abbrev pub body_at32 : List ℕ → ℕ → Record overload
body_at32 s at = (format_of overload).of (header_of (drop at s)) (drop (at + 32) s)

-- W-202: takes the original time stamp for the time stamp
abbrev pub original_stamp : List ℕ → ℕ → Record overload
original_stamp s at =
    let o = drop at s in
    (format_of overload).of (record { unit = (header_of o).unit; origin = (header_of o).origin; version = (header_of o).version; stamp = num 8 o 32 }) (body_of o)

-- answers success and leaves the buffer as it was
abbrev pub writes_nothing : Item → List ℕ → Written × List ℕ
writes_nothing i out = (Used (length (padded i)), out)

-- W-208: clears the data bytes behind the valid ones
abbrev pub valid_alone : List ℕ → ℕ → Record fd_message
valid_alone s at =
    let r = record_in fd_message (drop at s) in
    record {
      header = r.header;
      channel = r.channel;
      flags = r.flags;
      dlc = r.dlc;
      id = r.id;
      frame_length = r.frame_length;
      bit_count = r.bit_count;
      fd_flags = r.fd_flags;
      valid_bytes = r.valid_bytes;
      bytes = take r.valid_bytes r.bytes ++ zeros (64 - r.valid_bytes);
    }

-- W-208: writes what it is given, of whatever type
abbrev pub writes_all : Item → List ℕ → Written × List ℕ
writes_all i out = (Used (length (padded i)), buffer_of 0 (padded i) out)
