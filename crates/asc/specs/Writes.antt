-- W-201: each becomes a line in a lent buffer. Other types give 0 bytes and no refusal. Refusals, place 0: 7 for a
-- wrong unit, then 10 for a short buffer, buffer unchanged.
use Rattle.std.specs.Prelude.{ℕ, ◌≡◌, List, [], length, leb}
use Rattle.headers.specs.declared.header.Header.{Header}
use Rattle.headers.specs.Format.{unit_ok}
use Rattle.headers.specs.HeadTests.{first}
use Rattle.headers.specs.Types as kind
use Rattle.objects.specs.Items.{Item, known, Valid}
use Rattle.outcomes.specs.Answers.{Written}
use Rattle.outcomes.specs.Writes.{answer_of, buffer_of}
use Rattle.asc_lines.specs.declared.told.Told.{Told}
use Rattle.asc_lines.specs.Lines.{line_of}
use Rattle.asc.specs.Tells.{Event, message, overload, statistic, tells}

-- an event as the record of its type
abbrev pub item_of : Event → Item
item_of (message r) = known kind.can_message r
item_of (overload r) = known kind.overload r
item_of (statistic r) = known kind.statistic r

abbrev pub header_of : Event → Header
header_of (message r) = r.header
header_of (overload r) = r.header
header_of (statistic r) = r.header

-- what may have a line: an event, or nothing
pub data Found : Type 0 where
  one : Event → Found
  none : Found

-- the bytes to be written
unfoldable pub text_of : Found → List ℕ
text_of (one e) = line_of (tells e)
text_of none = []

-- what refuses the line of what is told, by the time unit, in a buffer with room for so many bytes, or 0
abbrev pub told_refusal : ℕ → Told → ℕ → ℕ
told_refusal unit t room =
    first 7 (unit_ok unit)
    (first 10 (leb (length (line_of t)) room) 0)

-- what refuses the bytes to be written
unfoldable pub refusal_of : Found → ℕ → ℕ
refusal_of (one e) room = told_refusal (header_of e).unit (tells e) room
refusal_of none room = 0

abbrev pub IsValid : Found → Type 0
IsValid (one e) = Valid (item_of e)
IsValid none = Unit

-- What the writing of a line gives: w is the answer, and y the buffer that was x; both are determined. What is not
-- refused is valid.
pub record LineOutcome (f : Found) (w : Written) (x y : List ℕ) : Type 0 where
  pub answer : w ≡ answer_of (refusal_of f (length x)) (text_of f)
  pub buffer : y ≡ buffer_of (refusal_of f (length x)) (text_of f) x
  pub valid : refusal_of f (length x) ≡ 0 → IsValid f

-- what the inner functions promise: the line of what is told, and a line copied
pub record Put (unit : ℕ) (t : Told) (w : Written) (x y : List ℕ) : Type 0 where
  pub answer : w ≡ answer_of (told_refusal unit t (length x)) (line_of t)
  pub buffer : y ≡ buffer_of (told_refusal unit t (length x)) (line_of t) x

pub record Copied (bs : List ℕ) (w : Written) (x y : List ℕ) : Type 0 where
  pub answer : w ≡ answer_of (first 10 (leb (length bs) (length x)) 0) bs
  pub buffer : y ≡ buffer_of (first 10 (leb (length bs) (length x)) 0) bs x
