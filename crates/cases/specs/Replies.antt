-- A case as bytes, and the reply to it: the answers of `objects` and `slips` as five numbers. The plain Rust reader
-- makes the same five.
use Rattle.std.specs.Prelude.{ℕ, ◌+◌, Bool, cond, ◌&&◌, List, ◌++◌, length, drop, get_or, eqb, leb}
use Rattle.fields.specs.Numbers.{part, num}
use Rattle.fields.specs.Digits.{le}
use Rattle.objects.specs.declared.Step.{Step}
use Rattle.objects.specs.Next.{next_at}
use Rattle.objects.specs.Walk.{walk_of}
use Rattle.objects.specs.Replies as paper
use Rattle.slips.specs.Check.{check_of}
use Rattle.slips.specs.Replies.{check_reply}
use Rattle.cases.specs.declared.replies.Reply.{Reply}

abbrev pub replied : ℕ → ℕ → ℕ → ℕ → ℕ → Reply
replied word first second third next = record { word = word; first = first; second = second; third = third; next = next }

-- an answer: the word of its success, 2 done, 3 refused or 7 another type; its numbers, and the next position
abbrev pub numbers_of : ℕ → paper.Reply → ℕ → Reply
numbers_of word (paper.success values) next = replied word (get_or values 0 0) (get_or values 1 0) (get_or values 2 0) next
numbers_of word paper.other next = replied 7 0 0 0 next
numbers_of word paper.done next = replied 2 0 0 0 next
numbers_of word (paper.refused number place) next = replied 3 number place 0 next

-- the words of a success: 1 an object, 4 a count, 5 the bytes used
abbrev pub step_reply : Step → Reply
step_reply s = numbers_of 1 (paper.answer_reply s.answer) s.next.at

abbrev pub count_reply : paper.Reply → Reply
count_reply r = numbers_of 4 r 0

abbrev pub used_reply : paper.Reply → Reply
used_reply r = numbers_of 5 r 0

-- 1 is the step at a position, 2 the walk, 3 the check
unfoldable pub reply_to : ℕ → ℕ → List ℕ → List ℕ → Reply
reply_to question at log bundle =
    cond (eqb question 1) (step_reply (next_at log at))
    (cond (eqb question 2) (count_reply (paper.walk_reply (walk_of log)))
    (cond (eqb question 3) (count_reply (check_reply (check_of log bundle)))
    (replied 0 0 0 0 0)))

-- a case: the question (1 byte), the lengths of log and bundle (4 bytes each), the position (8 bytes), the log, the
-- bundle
abbrev pub is_case : List ℕ → Bool
is_case c = leb 17 (length c) && eqb (length c) (17 + num 4 c 1 + num 4 c 5)

unfoldable pub reply_of : List ℕ → Reply
reply_of c =
    cond (is_case c)
    (reply_to (num 1 c 0) (num 8 c 9) (part (num 4 c 1) c 17) (drop (17 + num 4 c 1) c))
    (replied 0 0 0 0 0)

-- the reply as bytes
abbrev pub reply_bytes : Reply → List ℕ
reply_bytes r = le 8 r.word ++ le 8 r.first ++ le 8 r.second ++ le 8 r.third ++ le 8 r.next
