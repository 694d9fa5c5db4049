-- W-201: what the line of a record of type 1, 3 or 4 tells.
use Rattle.std.specs.Prelude.{ℕ, ◌*◌, ◌-◌, ◌/◌, ◌%◌, Bool, cond, List, ◌++◌, take, replicate, eqb, leb}
use Rattle.headers.specs.declared.header.Header.{Header}
use Rattle.can.specs.declared.message.Message.{Message}
use Rattle.can.specs.declared.overload.Overload.{Overload}
use Rattle.can.specs.declared.statistic.Statistic.{Statistic}
use Rattle.asc_lines.specs.declared.told.Head.{Head}
use Rattle.asc_lines.specs.declared.told.Frame.{Frame}
use Rattle.asc_lines.specs.declared.told.Counts.{Counts}
use Rattle.asc_lines.specs.declared.told.Told.{Told}
use Rattle.asc_lines.specs.Told.{of_message, of_overload, of_statistic, shown}

-- whole seconds of a stamp, and the nanoseconds over: unit 1 is ten microseconds, unit 2 a nanosecond (any other is 7)
unfoldable pub seconds_of : ℕ → ℕ → ℕ
seconds_of unit stamp = cond (eqb unit 1) (stamp / 100000) (stamp / 1000000000)

unfoldable pub nanos_of : ℕ → ℕ → ℕ
nanos_of unit stamp = cond (eqb unit 1) (stamp % 100000 * 10000) (stamp % 1000000000)

-- the time and the channel
unfoldable pub head_told : Header → ℕ → Head
head_told h channel =
    record { seconds = seconds_of h.unit h.stamp; nanos = nanos_of h.unit h.stamp; channel = channel }

-- bits 0 and 7 of the flags, which are a byte
abbrev pub is_sent : ℕ → Bool
is_sent flags = eqb (flags % 2) 1

abbrev pub is_remote : ℕ → Bool
is_remote flags = leb 128 flags

-- the first k of eight bytes, and zeros
unfoldable pub kept : ℕ → List ℕ → List ℕ
kept k bs = take k bs ++ replicate (8 - k) 0

-- bit 31 of the id is dropped and says extended
unfoldable pub frame_told : Message → Frame
frame_told r =
    record {
      id = r.id % 2147483648;
      extended = leb 2147483648 r.id;
      sent = is_sent r.flags;
      remote = is_remote r.flags;
      dlc = r.dlc;
      bytes = kept (shown (is_remote r.flags) r.dlc) r.bytes;
    }

unfoldable pub counts_told : Statistic → Counts
counts_told r =
    record {
      load = r.load;
      standard_data = r.standard_data;
      extended_data = r.extended_data;
      standard_remote = r.standard_remote;
      extended_remote = r.extended_remote;
      errors = r.errors;
      overloads = r.overloads;
    }

-- what has a line
pub data Event : Type 0 where
  message : Message → Event
  overload : Overload → Event
  statistic : Statistic → Event

unfoldable pub tells : Event → Told
tells (message r) = of_message (head_told r.header r.channel) (frame_told r)
tells (overload r) = of_overload (head_told r.header r.channel)
tells (statistic r) = of_statistic (head_told r.header r.channel) (counts_told r)
