-- What the examples ask, and what is answered: by the very definitions that the calls' contracts name.
use Rattle.std.specs.Prelude.{ℕ, List, [], ◌∷◌}
use Rattle.headers.specs.Types as kind
use Rattle.objects.specs.Next.{next_at}
use Rattle.objects.specs.Walk.{walk_of}
use Rattle.objects.specs.Replies as paper
use Rattle.outcomes.specs.Reads.{look_at, record_at}
use Rattle.outcomes.specs.Replies.{read_reply}
use Rattle.slips.specs.Check.{check_of}
use Rattle.slips.specs.Replies.{check_reply}

pub data Question : Type 0 where
  walk : List ℕ → Question  -- how many objects has this log?
  next : List ℕ → ℕ → Question  -- which object stands in this log at this position?
  overload : List ℕ → ℕ → Question  -- which overload stands there?
  check : List ℕ → List ℕ → Question  -- is this bundle right for this log?

-- an answer by the paper's number and values, and what stands beside it
pub record Told : Type 0 where
  pub answer : paper.Reply
  pub beside : List ℕ

abbrev pub told : paper.Reply → List ℕ → Told
told answer beside = record { answer = answer; beside = beside }

-- so many objects
abbrev pub objects : ℕ → Told
objects n = told (paper.success (n ∷ [])) []

-- accepted with so many objects
abbrev pub accepted : ℕ → Told
accepted n = told (paper.success (n ∷ [])) []

-- number and place
abbrev pub refused : ℕ → ℕ → Told
refused number place = told (paper.refused number place) []

-- start, size, type, and where the next begins
abbrev pub object : ℕ → ℕ → ℕ → ℕ → Told
object start size kind after = told (paper.success (start ∷ size ∷ kind ∷ [])) (after ∷ [])

-- an overload: channel, time unit, time stamp
abbrev pub channel : ℕ → ℕ → ℕ → Told
channel n unit stamp = told (paper.success []) (n ∷ unit ∷ stamp ∷ [])

unfoldable pub reply : Question → Told
reply (walk log) = told (paper.walk_reply (walk_of log)) []
reply (next log at) = told (paper.answer_reply (next_at log at).answer) ((next_at log at).next.at ∷ [])
reply (overload log at) =
    let r = record_at kind.overload log at in
    told (read_reply (look_at log at 3).told) (r.channel ∷ r.header.unit ∷ r.header.stamp ∷ [])
reply (check log bundle) = told (check_reply (check_of log bundle)) []
