-- The reply to a case, question by question. Assumes nothing.
use mathlib.Core.Path.{◌≡◌}
use mathlib.Core.List.{List}
use Prim.Native.Nat.{ℕ}
use borrow.Author.Tests.{eq-eqb, ne_eqb}
use Rattle.objects.specs.Walk.{walk_of}
use Rattle.objects.specs.Replies.{walk_reply}
use Rattle.slips.specs.Check.{check_of}
use Rattle.slips.specs.Replies.{check_reply}
use Rattle.cases.specs.Replies.{count_reply, reply_to}

module _ (q at : ℕ) (s b : List ℕ) where
  pub walk_asked : (q ≡ 1 → ⊥) → q ≡ 2 → count_reply (walk_reply (walk_of s)) ≡ reply_to q at s b
  unfolding reply_to
  walk_asked n e = rw (ne_eqb q 1 n, eq-eqb q 2 e)

  pub check_asked : (q ≡ 1 → ⊥) → (q ≡ 2 → ⊥) → q ≡ 3 → count_reply (check_reply (check_of s b)) ≡ reply_to q at s b
  unfolding reply_to
  check_asked n m e = rw (ne_eqb q 1 n, ne_eqb q 2 m, eq-eqb q 3 e)
