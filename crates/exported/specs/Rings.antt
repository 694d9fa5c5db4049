-- The object at a position of a log in two segments: what a C caller gets.
use Rattle.std.specs.Prelude.{ℕ, Some, Ok, Err, [], ◌∷◌, ◌++◌}
use Rattle.ring.specs.declared.Part.{Part}
use Rattle.ring.specs.declared.Part.TheVariants.{First, Second, Both}
use Rattle.ring.specs.Answers.{RingAnswer, Done}
use Rattle.ring.specs.declared.RingStep.{RingStep}
use Rattle.ring.specs.Plain.{plain_step}
use Rattle.exported.specs.Replies.{Reply, reply, step_reply}

-- where the object lies: in the first segment, in the second, in both; 0 where there is none
abbrev pub segment : Part → ℕ
segment First = 1
segment Second = 2
segment Both = 3

abbrev pub segment_of : RingAnswer → ℕ
segment_of (Ok (Some f)) = segment f.lies
segment_of Done = 0
segment_of (Err r) = 0

-- the number and the values of a step over one log, and then where the object lies
abbrev pub ring_reply : RingStep → Reply
ring_reply s = reply (step_reply (plain_step s)).number ((step_reply (plain_step s)).values ++ (segment_of s.answer ∷ []))
