-- W-201: the line of an object, given as its bytes or standing in a log. Bytes that are no object, and other types,
-- have none, whatever their unit and the room; in a log the step's own answer comes first.
use Rattle.std.specs.Prelude.{ℕ, Bool, cond, ◌&&◌, Option, Some, None, Ok, Err, List, length, eqb, leb}
use Rattle.headers.specs.Format.{head_size, size_at, kind_at}
use Rattle.headers.specs.HeadTests.{head_fault}
use Rattle.headers.specs.declared.kind.Kind.{Kind}
use Rattle.headers.specs.Named.{type_number}
use Rattle.headers.specs.Types.{number_of}
use Rattle.headers.specs.Types as kind
use Rattle.objects.specs.declared.Cursor.{Cursor}
use Rattle.objects.specs.Answers.{Answer}
use Rattle.objects.specs.Faults.{inner_fault_of}
use Rattle.objects.specs.Next.{cursor, next_at}
use Rattle.objects.specs.Views.{object_at}
use Rattle.outcomes.specs.Answers.{Written}
use Rattle.outcomes.specs.Reads.{record_in}
use Rattle.outcomes.specs.Writes.{answer_of, buffer_of}
use Rattle.asc.specs.declared.at_cursor.LineStep.{LineStep}
use Rattle.asc.specs.Tells.{message, overload, statistic}
use Rattle.asc.specs.Writes.{Found, one, none, text_of, refusal_of}

-- the bytes are exactly one object, without padding, that 2 to 4, 8 and 9 let through; the unit, 7, is not asked here
unfoldable pub whole : List ℕ → Bool
whole o =
    leb head_size (length o)
    && (eqb (head_fault o) 0
    && (eqb (size_at o) (length o)
    && eqb (inner_fault_of (kind_at o) o) 0))

-- by a type's number, the event that an object's record is
unfoldable pub event_as : ℕ → List ℕ → Found
event_as n o =
    cond (eqb n (number_of kind.can_message)) (one (message (record_in kind.can_message o)))
    (cond (eqb n (number_of kind.overload)) (one (overload (record_in kind.overload o)))
    (cond (eqb n (number_of kind.statistic)) (one (statistic (record_in kind.statistic o))) none))

-- the event that bytes are: `event_exact` of proofs/Events
unfoldable pub event_in : List ℕ → Found
event_in o = cond (whole o) (event_as (kind_at o) o) none

-- the same by the type that a test has found
abbrev pub found : Option Kind → List ℕ → Found
found (Some k) o = event_as (type_number k) o
found None o = none

-- at a place of a log: the step's own done and refusal; else what the object's line gives, and behind a refusal the
-- cursor is as it was
abbrev pub lined : ℕ → Cursor → Written → LineStep
lined at next (Ok n) = record { answer = Ok (Some n); next = next }
lined at next (Err r) = record { answer = Err r; next = cursor at }

abbrev pub line_by : ℕ → Cursor → Answer → Written → LineStep
line_by at next (Ok (Some o)) w = lined at next w
line_by at next (Ok None) w = record { answer = Ok None; next = next }
line_by at next (Err r) w = record { answer = Err r; next = next }

-- the event at a place, and what its line gives in a buffer x
abbrev pub event_at : List ℕ → ℕ → Found
event_at s at = event_in (object_at s at)

unfoldable pub line_step : List ℕ → ℕ → List ℕ → LineStep
line_step s at x =
    line_by at (next_at s at).next (next_at s at).answer (answer_of (refusal_of (event_at s at) (length x)) (text_of (event_at s at)))

unfoldable pub line_into : List ℕ → ℕ → List ℕ → List ℕ
line_into s at x = buffer_of (refusal_of (event_at s at) (length x)) (text_of (event_at s at)) x
