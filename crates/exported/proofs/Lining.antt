-- A line read where too few numbers are lent: whatever the text is, 24 would be told. Assumes nothing.
use mathlib.Core.Path.{◌≡◌, refl, ◌∙◌}
use mathlib.Core.Bool.{Bool, true, false, cond, ◌&&◌}
use mathlib.Core.List.{List, ◌∷◌, ◌++◌}
use Prim.Native.Nat.{ℕ, ◌<◌}
use native.Mathlib.Omega.{arith}
use lib.ListN.{length, length-append}
use Rattle.std.specs.Prelude.{Some, None, ok_or}
use Rattle.headers.specs.Refused.{refusal}
use Rattle.asc_lines.specs.declared.told.Told.{Told}
use Rattle.asc_lines.specs.Told.{body_number, body_frame, body_counts}
use Rattle.asc_lines.specs.Lines.{line_of}
use Rattle.asc_lines.specs.Reading.{candidate, possible_time, same, line_in}
use Rattle.asc_lines.proofs.Eights.{eight_read}
use Rattle.asc.specs.Lines.{line_read}
use Rattle.asc.specs.Replies.{head_numbers, frame_numbers, count_numbers, told_numbers, read_numbers}
use Rattle.exported.specs.Replies.{reply, lent}
use Rattle.exported.specs.Lines.{reading_reply}
use Rattle.exported.proofs.Lending.{too_short}

many : (t : Told) → length (body_frame t.body).bytes ≡ 8 → length (told_numbers t) ≡ 24
unfolding told_numbers
many t e =
    let f = body_frame t.body in
    let front = (body_number t.body ∷ head_numbers t.head) ++ frame_numbers f in
    let l : length (front ++ f.bytes) ≡ 17 = length-append front f.bytes ∙ rw e in
    length-append (front ++ f.bytes) (count_numbers (body_counts t.body)) ∙ rw l

read_many : (s : List ℕ) → length (read_numbers (line_read s)) ≡ 24
unfolding line_read line_in
read_many s = cases (possible_time (candidate s).head.seconds (candidate s).head.nanos && same (line_of (candidate s)) s)
  where
    cases : (b : Bool) → length (read_numbers (ok_or (cond b (Some (candidate s)) None) (refusal 30 0))) ≡ 24
    cases true = many (candidate s) (eight_read s)
    cases false = refl

pub read_short : (us s : List ℕ) → length us < 24 → reply 10 us ≡ lent (reading_reply (line_read s)) us
read_short us s h = too_short (reading_reply (line_read s)) us (omega (arith, read_many s))
