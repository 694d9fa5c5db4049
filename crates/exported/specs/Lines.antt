-- ASC lines: what a C caller gets.
use Rattle.std.specs.Prelude.{ℕ, Result, List, length}
use Rattle.headers.specs.Refused.{Refused}
use Rattle.outcomes.specs.Replies.{written_reply}
use Rattle.outcomes.specs.Writes.{answer_of, buffer_of}
use Rattle.asc_lines.specs.declared.told.Told.{Told}
use Rattle.asc.specs.declared.at_cursor.LineStep.{LineStep}
use Rattle.asc.specs.Writes.{text_of, refusal_of}
use Rattle.asc.specs.Objects.{event_in}
use Rattle.asc.specs.Replies.{line_reply, read_number, read_numbers}
use Rattle.exported.specs.Replies.{Reply, reply, told_of}
use Rattle.exported.specs.Records.{record_reply}

-- the line of an object's bytes in the buffer x, as its `LineOutcome` has it
unfoldable pub object_reply : List ℕ → List ℕ → Reply
object_reply o x = told_of (written_reply (answer_of (refusal_of (event_in o) (length x)) (text_of (event_in o))))

unfoldable pub object_into : List ℕ → List ℕ → List ℕ
object_into o x = buffer_of (refusal_of (event_in o) (length x)) (text_of (event_in o)) x

-- the line at a place: its bytes, 0 at the log's end, or the refusal's place; then the next position
abbrev pub place_reply : LineStep → Reply
place_reply s = record_reply (line_reply s.answer) 0 s.next.at

-- a line read: the 24 numbers of what it tells, which are zeros where it is refused
abbrev pub reading_reply : Result Told Refused → Reply
reading_reply r = reply (read_number r) (read_numbers r)
