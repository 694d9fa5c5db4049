-- 01, "Slips": what the check answers, by number and values.
use Rattle.std.specs.Prelude.{Err, [], ◌∷◌}
use Rattle.objects.specs.Replies.{Reply, success, refused}
use Rattle.slips.specs.Verdicts.{Verdict, Accepted}

-- "Acceptance returns the number of objects."
abbrev pub check_reply : Verdict → Reply
check_reply (Accepted n) = success (n ∷ [])
check_reply (Err r) = refused r.number r.place
