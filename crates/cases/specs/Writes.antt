-- What a call leaves that writes to a buffer and replies: the answer in numbers, and the buffer as the library says.
use Rattle.std.specs.Prelude.{◌≡◌, List, ℕ}
use Rattle.outcomes.specs.Answers.{Written}
use Rattle.outcomes.specs.Replies.{written_reply}
use Rattle.cases.specs.declared.replies.Reply.{Reply}
use Rattle.cases.specs.Replies.{used_reply}

-- `Meant written x y` is the library's own promise for an answer and the buffer y that was x
pub record Writes (Meant : Written → List ℕ → List ℕ → Type 0) (r : Reply) (x y : List ℕ) : Type 0 where
  pub written : Written
  pub told : r ≡ used_reply (written_reply written)
  pub meant : Meant written x y
