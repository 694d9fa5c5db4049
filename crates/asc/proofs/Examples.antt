-- Texts that are lines and texts that are none, and the lines of records, each computed. Assumes nothing.
use Prim.Native.Nat.{ℕ}
use Prim.Native.String.{String}
use Rattle.std.specs.Prelude.{Result}
use mathlib.Core.Path.{◌≡◌, refl}
use mathlib.Core.Bool.{Bool, true, false}
use mathlib.Core.List.{List, [], ◌∷◌}
use Rattle.digits.specs.Digits.{glyph, fixed, fewest, decimal, hex}
use Rattle.digits.specs.Pairs.{pairs, bytes_in, filled}
use Rattle.digits.specs.Reading.{digit, scan, number}
use Rattle.digits.specs.Text.{text, labelled}
use Rattle.headers.specs.declared.header.Origin.TheVariants.{First, Second}
use Rattle.headers.specs.declared.header.Header.{Header}
use Rattle.asc_lines.specs.declared.told.Head.{Head}
use Rattle.asc_lines.specs.declared.told.Told.{Told}
use Rattle.headers.specs.Refused.{Refused}
use Rattle.asc_lines.specs.Told.{of_message, of_overload, of_statistic, shown}
use Rattle.asc_lines.specs.Lines.{head_of, id_of, frame_of, load_of, counts_of, rest_of, line_of}
use Rattle.asc_lines.specs.Reading.{seconds_in, nanos_in, channel_in, head_in, id_in, mid_in, dlc_in, frame_in, count_in, whole_in, load_in, counts_in, candidate, possible_time, same, line_in}
use Rattle.asc.specs.Lines.{told, no_line, line_read}
use Rattle.asc.specs.Tells.{seconds_of, nanos_of, head_told, kept, frame_told, counts_told, Event, message, overload, statistic, tells}

-- a text, and what reading it gives
pub record Row : Type 0 where
  pub reads : List ℕ
  pub gives : Result Told Refused

unfoldable pub line : String → Told → Row
line s t = record { reads = text s; gives = told t }

unfoldable pub none : String → Row
none s = record { reads = text s; gives = no_line }

unfoldable pub head : ℕ → ℕ → ℕ → Head
head seconds nanos channel = record { seconds = seconds; nanos = nanos; channel = channel }

-- a message at a second on channel 2
unfoldable pub can : ℕ → Bool → Bool → Bool → ℕ → List ℕ → Told
can id extended sent remote dlc bytes =
    of_message (head 1 0 2) (record { id = id; extended = extended; sent = sent; remote = remote; dlc = dlc; bytes = bytes })

-- a statistic at 1.01 seconds on channel 1, in the line's order
unfoldable pub counts : ℕ → ℕ → ℕ → ℕ → ℕ → ℕ → ℕ → Told
counts d r xd xr e o load =
    of_statistic (head 1 10000000 1)
    (record {
      load = load;
      standard_data = d;
      extended_data = xd;
      standard_remote = r;
      extended_remote = xr;
      errors = e;
      overloads = o;
    })

unfoldable pub none_of_eight : List ℕ
none_of_eight = 0 ∷ 0 ∷ 0 ∷ 0 ∷ 0 ∷ 0 ∷ 0 ∷ 0 ∷ []

unfoldable pub two_of_eight : List ℕ
two_of_eight = 0x01 ∷ 0x23 ∷ 0 ∷ 0 ∷ 0 ∷ 0 ∷ 0 ∷ 0 ∷ []

unfoldable pub eight : List ℕ
eight = 0x01 ∷ 0x23 ∷ 0x45 ∷ 0x67 ∷ 0x89 ∷ 0xAB ∷ 0xCD ∷ 0xEF ∷ []

unfoldable pub messages : List Row
messages =
    line "1.000000000 2 64 Tx d 8 01 23 45 67 89 AB CD EF\r\n" (can 0x64 false true false 8 eight)
    ∷ line "1.000000000 2 64x Rx d 8 01 23 45 67 89 AB CD EF\r\n" (can 0x64 true false false 8 eight)
    ∷ line "1.000000000 2 7FF Rx d 0\r\n" (can 0x7FF false false false 0 none_of_eight)
    ∷ line "1.000000000 2 0x Rx d 2 01 23\r\n" (can 0 true false false 2 two_of_eight)
    ∷ line "1.000000000 2 7FFFFFFFx Rx d 0\r\n" (can 0x7FFFFFFF true false false 0 none_of_eight)
    ∷ line "1.000000000 2 7FFFFFFF Rx d 0\r\n" (can 0x7FFFFFFF false false false 0 none_of_eight)
    ∷ line "1.000000000 2 A Rx d 10 01 23 45 67 89 AB CD EF\r\n" (can 10 false false false 10 eight)
    ∷ line "1.000000000 2 A Rx d 255 01 23 45 67 89 AB CD EF\r\n" (can 10 false false false 255 eight)
    ∷ line "1.000000000 2 200 Tx r 8\r\n" (can 0x200 false true true 8 none_of_eight)
    ∷ line "1.000000000 2 200x Rx r 255\r\n" (can 0x200 true false true 255 none_of_eight)
    ∷ []

unfoldable pub others : List Row
others =
    line "0.001000000 1 OverloadFrame\r\n" (of_overload (head 0 1000000 1))
    ∷ line "0.000000000 65535 OverloadFrame\r\n" (of_overload (head 0 0 65535))
    ∷ line "18446744073.709551615 1 OverloadFrame\r\n" (of_overload (head 18446744073 709551615 1))
    ∷ line "18446744073.709560000 1 OverloadFrame\r\n" (of_overload (head 18446744073 709560000 1))
    ∷ line "184467440737095.516150000 1 OverloadFrame\r\n" (of_overload (head 184467440737095 516150000 1))
    ∷ line "1.010000000 1 Statistic: D 1000 R 15 XD 2 XR 4 E 5 O 4294967295 B 655.35%\r\n" (counts 1000 15 2 4 5 4294967295 65535)
    ∷ line "1.010000000 1 Statistic: D 0 R 0 XD 0 XR 0 E 0 O 0 B 0.05%\r\n" (counts 0 0 0 0 0 0 5)
    ∷ []

unfoldable pub no_times : List Row
no_times =
    none "18446744073.709551616 1 OverloadFrame\r\n"
    ∷ none "18446744073.709561000 1 OverloadFrame\r\n"
    ∷ none "184467440737095.516160000 1 OverloadFrame\r\n"
    ∷ none "1000000000000000.000000000 1 OverloadFrame\r\n"
    ∷ none "00.001000000 1 OverloadFrame\r\n"
    ∷ none ".001000000 1 OverloadFrame\r\n"
    ∷ none "0.001 1 OverloadFrame\r\n"
    ∷ none "0.0010000000 1 OverloadFrame\r\n"
    ∷ none "0,001000000 1 OverloadFrame\r\n"
    ∷ none "-0.001000000 1 OverloadFrame\r\n"
    ∷ []

unfoldable pub no_overloads : List Row
no_overloads =
    none ""
    ∷ none "\r\n"
    ∷ none "0.001000000 1 OverloadFrame"
    ∷ none "0.001000000 1 OverloadFrame\n"
    ∷ none "0.001000000 1 OverloadFrame\r"
    ∷ none "0.001000000 1 OverloadFrame \r\n"
    ∷ none "0.001000000 1 OverloadFrame\r\n "
    ∷ none " 0.001000000 1 OverloadFrame\r\n"
    ∷ none "0.001000000  1 OverloadFrame\r\n"
    ∷ none "0.001000000 1 OverloadFrame\r\n0.001000000 1 OverloadFrame\r\n"
    ∷ none "0.001000000 1 overloadframe\r\n"
    ∷ none "0.001000000 1 ErrorFrame\r\n"
    ∷ none "0.001000000 01 OverloadFrame\r\n"
    ∷ none "0.001000000 65536 OverloadFrame\r\n"
    ∷ none "0.001000000 100000 OverloadFrame\r\n"
    ∷ none "0.001000000 OverloadFrame\r\n"
    ∷ []

unfoldable pub no_messages : List Row
no_messages =
    none "1.000000000 2 7ff Rx d 0\r\n"
    ∷ none "1.000000000 2 064 Rx d 0\r\n"
    ∷ none "1.000000000 2 80000000 Rx d 0\r\n"
    ∷ none "1.000000000 2 80000000x Rx d 0\r\n"
    ∷ none "1.000000000 2 100000000 Rx d 0\r\n"
    ∷ none "1.000000000 2 64X Rx d 0\r\n"
    ∷ none "1.000000000 2 64xx Rx d 0\r\n"
    ∷ none "1.000000000 2 64 tx d 0\r\n"
    ∷ none "1.000000000 2 64 Rx e 0\r\n"
    ∷ none "1.000000000 2 64 Rx d 256\r\n"
    ∷ none "1.000000000 2 64 Rx d 08 01 23 45 67 89 AB CD EF\r\n"
    ∷ none "1.000000000 2 64 Rx d 2 01 ab\r\n"
    ∷ none "1.000000000 2 64 Rx d 2 01\r\n"
    ∷ none "1.000000000 2 64 Rx d 2 01 23 45\r\n"
    ∷ none "1.000000000 2 64 Rx d 9 01 23 45 67 89 AB CD EF 01\r\n"
    ∷ none "1.000000000 2 64 Rx d 1 1\r\n"
    ∷ none "1.000000000 2 64 Rx d 0 \r\n"
    ∷ none "1.000000000 2 64 Rx r 2 01 23\r\n"
    ∷ []

unfoldable pub no_statistics : List Row
no_statistics =
    none "1.010000000 1 Statistic: D 4294967296 R 0 XD 0 XR 0 E 0 O 0 B 0.00%\r\n"
    ∷ none "1.010000000 1 Statistic: D 0 R 0 XD 0 XR 0 E 0 O 10000000000 B 0.00%\r\n"
    ∷ none "1.010000000 1 Statistic: D 0 R 0 XD 0 XR 0 E 0 O 0 B 655.36%\r\n"
    ∷ none "1.010000000 1 Statistic: D 0 R 0 XD 0 XR 0 E 0 O 0 B 1000.00%\r\n"
    ∷ none "1.010000000 1 Statistic: D 0 R 0 XD 0 XR 0 E 0 O 0 B 0.1%\r\n"
    ∷ none "1.010000000 1 Statistic: D 0 R 0 XD 0 XR 0 E 0 O 0 B 00.10%\r\n"
    ∷ none "1.010000000 1 Statistic: D 0 R 0 XD 0 XR 0 E 0 O 0 B 0.10\r\n"
    ∷ none "1.010000000 1 Statistic: D 0 R 0 XD 0 XR 0 E 0 B 0.10%\r\n"
    ∷ none "1.010000000 1 Statistic: D 0 XD 0 R 0 XR 0 E 0 O 0 B 0.10%\r\n"
    ∷ []

unfoldable pub asked : List Row → List (Result Told Refused)
asked [] = []
asked (r ∷ rs) = line_read r.reads ∷ asked rs

unfoldable pub expected : List Row → List (Result Told Refused)
expected [] = []
expected (r ∷ rs) = r.gives ∷ expected rs

pub texts_read :
    (asked messages ≡ expected messages)
    × (asked others ≡ expected others)
    × (asked no_times ≡ expected no_times)
    × (asked no_overloads ≡ expected no_overloads)
    × (asked no_messages ≡ expected no_messages)
    × (asked no_statistics ≡ expected no_statistics)
unfolding asked expected messages others no_times no_overloads no_messages no_statistics line none head can counts none_of_eight two_of_eight eight glyph fixed fewest decimal hex pairs bytes_in filled digit scan number labelled head_of id_of frame_of load_of counts_of rest_of line_of seconds_in nanos_in channel_in head_in id_in mid_in dlc_in frame_in count_in whole_in load_in counts_in candidate possible_time same line_in line_read shown
texts_read = (refl, refl, refl, refl, refl, refl)

-- a record, and its line
pub record Write : Type 0 where
  pub from : Event
  pub gives : List ℕ

unfoldable pub write : Event → String → Write
write e s = record { from = e; gives = text s }

-- client and version are not told, nor are status and original time stamp of the second header
unfoldable pub header : ℕ → ℕ → Header
header unit stamp = record { unit = unit; origin = First 7; version = 9; stamp = stamp }

unfoldable pub second : ℕ → ℕ → Header
second unit stamp = record { unit = unit; origin = Second 1 5; version = 9; stamp = stamp }

-- a message at a second on channel 2, with eight bytes
unfoldable pub frame : ℕ → ℕ → ℕ → Event
frame id flags dlc =
    message (record { header = header 2 1000000000; channel = 2; flags = flags; dlc = dlc; id = id; bytes = eight })

unfoldable pub late : ℕ → ℕ → ℕ → Event
late unit stamp channel = overload (record { header = header unit stamp; channel = channel })

unfoldable pub late_second : ℕ → ℕ → ℕ → Event
late_second unit stamp channel = overload (record { header = second unit stamp; channel = channel })

-- a statistic at 101,000 tens of microseconds
unfoldable pub load : ℕ → Event
load n =
    statistic
    (record {
      header = header 1 101000;
      channel = 1;
      load = n;
      standard_data = 1000;
      extended_data = 2;
      standard_remote = 15;
      extended_remote = 4;
      errors = 5;
      overloads = 4294967295;
    })

unfoldable pub writes : List Write
writes =
    write (frame 0x64 1 8) "1.000000000 2 64 Tx d 8 01 23 45 67 89 AB CD EF\r\n"
    ∷ write (frame 0x7FF 0 0) "1.000000000 2 7FF Rx d 0\r\n"
    ∷ write (frame 0 0 1) "1.000000000 2 0 Rx d 1 01\r\n"
    ∷ write (frame 0x80000000 0 2) "1.000000000 2 0x Rx d 2 01 23\r\n"
    ∷ write (frame 0xFFFFFFFF 0 0) "1.000000000 2 7FFFFFFFx Rx d 0\r\n"
    ∷ write (frame 0x7FFFFFFF 0 0) "1.000000000 2 7FFFFFFF Rx d 0\r\n"
    ∷ write (frame 10 0 9) "1.000000000 2 A Rx d 9 01 23 45 67 89 AB CD EF\r\n"
    ∷ write (frame 10 0 255) "1.000000000 2 A Rx d 255 01 23 45 67 89 AB CD EF\r\n"
    ∷ write (frame 0x200 0x81 8) "1.000000000 2 200 Tx r 8\r\n"
    ∷ write (frame 0x80000200 0xFE 255) "1.000000000 2 200x Rx r 255\r\n"
    ∷ write (frame 1 0x7E 0) "1.000000000 2 1 Rx d 0\r\n"
    ∷ write (late 2 1000000 1) "0.001000000 1 OverloadFrame\r\n"
    ∷ write (late 1 100 1) "0.001000000 1 OverloadFrame\r\n"
    ∷ write (late 2 0 0) "0.000000000 0 OverloadFrame\r\n"
    ∷ write (late 2 18446744073709551615 65535) "18446744073.709551615 65535 OverloadFrame\r\n"
    ∷ write (late 1 18446744073709551615 65535) "184467440737095.516150000 65535 OverloadFrame\r\n"
    ∷ write (late_second 2 1000000 1) "0.001000000 1 OverloadFrame\r\n"
    ∷ write (late_second 1 100 1) "0.001000000 1 OverloadFrame\r\n"
    ∷ write (load 65535) "1.010000000 1 Statistic: D 1000 R 15 XD 2 XR 4 E 5 O 4294967295 B 655.35%\r\n"
    ∷ write (load 5) "1.010000000 1 Statistic: D 1000 R 15 XD 2 XR 4 E 5 O 4294967295 B 0.05%\r\n"
    ∷ []

unfoldable pub written : List Write → List (List ℕ)
written [] = []
written (w ∷ ws) = line_of (tells w.from) ∷ written ws

unfoldable pub wanted : List Write → List (List ℕ)
wanted [] = []
wanted (w ∷ ws) = w.gives ∷ wanted ws

pub lines_written : written writes ≡ wanted writes
unfolding written wanted writes write header second frame late late_second load eight seconds_of nanos_of head_told kept frame_told counts_told tells shown glyph fixed fewest decimal hex pairs labelled head_of id_of frame_of load_of counts_of rest_of line_of
lines_written = refl
