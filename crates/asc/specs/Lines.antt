-- W-201: the reader accepts exactly the lines that the writer can write, and returns what the line tells.
use Rattle.std.specs.Prelude.{ℕ, ◌<◌, ◌≡◌, true, List, Result, Ok, Err}
use Rattle.std.specs.Option.{ok_or}
use Rattle.headers.specs.Format.{unit_ok}
use Rattle.headers.specs.Refused.{Refused, refusal}
use Rattle.objects.specs.Items.{Valid}
use Rattle.asc_lines.specs.declared.told.Told.{Told}
use Rattle.asc_lines.specs.Lines.{line_of}
use Rattle.asc_lines.specs.Reading.{line_in}
use Rattle.asc.specs.Tells.{seconds_of, nanos_of, Event, tells}
use Rattle.asc.specs.Writes.{item_of}

-- the text is a line and tells t; it is none: 30 at place 0
abbrev pub told : Told → Result Told Refused
told t = Ok t

abbrev pub no_line : Result Told Refused
no_line = Err (refusal 30 0)

unfoldable pub line_read : List ℕ → Result Told Refused
line_read s = ok_or (line_in s) (refusal 30 0)

-- s is a line and tells t: a record of type 1, 3 or 4, whose fields fit and whose unit is 1 or 2, has it
pub record Line (s : List ℕ) (t : Told) : Type 0 where
  pub from : Event
  pub valid : Valid (item_of from)
  pub says : tells from ≡ t
  pub line : line_of (tells from) ≡ s

-- a stamp of 64 bits has this time, in one of the two units: these times can be told (`possible_time_exact` of proofs/Stamps)
pub record Stamped (seconds nanos : ℕ) : Type 0 where
  pub unit : ℕ
  pub stamp : ℕ
  pub known : unit_ok unit ≡ true
  pub fits : stamp < 18446744073709551616
  pub whole : seconds_of unit stamp ≡ seconds
  pub over : nanos_of unit stamp ≡ nanos
