-- W-201: what a line at a place of a log and a line read answer, by number and values.
use Rattle.std.specs.Prelude.{ℕ, Bool, cond, Option, Some, None, Result, Ok, Err, List, [], ◌∷◌, ◌++◌, replicate}
use Rattle.objects.specs.Replies.{Reply, success, done, refused}
use Rattle.asc_lines.specs.declared.told.Head.{Head}
use Rattle.asc_lines.specs.declared.told.Frame.{Frame}
use Rattle.asc_lines.specs.declared.told.Counts.{Counts}
use Rattle.asc_lines.specs.declared.told.Told.{Told}
use Rattle.asc_lines.specs.Told.{body_number, body_frame, body_counts}
use Rattle.headers.specs.Refused.{Refused}

-- the line's bytes
abbrev pub line_reply : Result (Option ℕ) Refused → Reply
line_reply (Ok (Some n)) = success (n ∷ [])
line_reply (Ok None) = done
line_reply (Err r) = refused r.number r.place

abbrev pub bit : Bool → ℕ
bit b = cond b 1 0

-- what is told as 24 numbers: the type, seconds, nanoseconds and channel; the message's; the statistic's
abbrev pub head_numbers : Head → List ℕ
head_numbers h = h.seconds ∷ h.nanos ∷ h.channel ∷ []

abbrev pub frame_numbers : Frame → List ℕ
frame_numbers f = f.id ∷ bit f.extended ∷ bit f.sent ∷ bit f.remote ∷ f.dlc ∷ []

abbrev pub count_numbers : Counts → List ℕ
count_numbers c =
    c.load ∷ c.standard_data ∷ c.extended_data ∷ c.standard_remote ∷ c.extended_remote ∷ c.errors ∷ c.overloads ∷ []

unfoldable pub told_numbers : Told → List ℕ
told_numbers t =
    (body_number t.body ∷ head_numbers t.head)
    ++ frame_numbers (body_frame t.body)
    ++ (body_frame t.body).bytes
    ++ count_numbers (body_counts t.body)

-- 0 where the text is a line, or the refusal's number
abbrev pub read_number : Result Told Refused → ℕ
read_number (Ok t) = 0
read_number (Err r) = r.number

-- what it tells; zeros where it is none
abbrev pub read_numbers : Result Told Refused → List ℕ
read_numbers (Ok t) = told_numbers t
read_numbers (Err r) = replicate 24 0
