-- W-209: what a comparison answers, by number and values, and which log it is of: 1 the first, 2 the second, 0 neither.
use Rattle.std.specs.Prelude.{ℕ, Err, [], ◌∷◌}
use Rattle.objects.specs.Replies.{Reply, success, refused}
use Rattle.differences.specs.declared.LogRefusal.TheVariants as log
use Rattle.differences.specs.Answers.{Compared, Rows}

abbrev pub compared_reply : Compared → Reply
compared_reply (Rows n) = success (n ∷ [])
compared_reply (Err (log.First r)) = refused r.number r.place
compared_reply (Err (log.Second r)) = refused r.number r.place
compared_reply (Err (log.Neither r)) = refused r.number r.place

abbrev pub log_of : Compared → ℕ
log_of (Rows n) = 0
log_of (Err (log.First r)) = 1
log_of (Err (log.Second r)) = 2
log_of (Err (log.Neither r)) = 0
