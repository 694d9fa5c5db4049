-- What a comparison answers, by the names of its cases.
use Rattle.std.specs.Prelude.{ℕ, Result, Ok, Err}
use Rattle.headers.specs.Refused.{refusal}
use Rattle.differences.specs.declared.LogRefusal.{LogRefusal}
use Rattle.differences.specs.declared.LogRefusal.TheVariants as log

-- how many rows there are: they stand at the front of each slice
abbrev pub Compared : Type 0
Compared = Result ℕ LogRefusal

pattern abbrev pub Rows : ℕ → Compared
Rows n = Ok n

-- refused with a number and a place, whatever was asked for: for the first log; for the second, where the first is well
-- formed; for neither
abbrev pub First : {A : Type 0} → ℕ → ℕ → Result A LogRefusal
First number place = Err (log.First (refusal number place))

abbrev pub Second : {A : Type 0} → ℕ → ℕ → Result A LogRefusal
Second number place = Err (log.Second (refusal number place))

abbrev pub Neither : {A : Type 0} → ℕ → ℕ → Result A LogRefusal
Neither number place = Err (log.Neither (refusal number place))
