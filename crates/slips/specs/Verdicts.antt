-- The check's answers by the names of their cases: accepted with a number of objects, or refused with a number and a
-- place.
use Rattle.std.specs.Prelude.{ℕ, Result, Ok, Err}
use Rattle.headers.specs.Refused.{refusal}
use Rattle.headers.specs.Refused as told

abbrev pub Verdict : Type 0
Verdict = Result ℕ told.Refused

pattern abbrev pub Accepted : ℕ → Verdict
Accepted n = Ok n

abbrev pub Refused : ℕ → ℕ → Verdict
Refused number place = Err (refusal number place)
