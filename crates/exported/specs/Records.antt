-- One object as its bytes, read out of a log and written: what a C caller gets.
use Rattle.std.specs.Prelude.{ℕ, cond, List, [], ◌∷◌, ◌++◌, length, drop, get_or, leb}
use Rattle.outcomes.specs.declared.Looked.{Looked}
use Rattle.outcomes.specs.Replies as outcomes
use Rattle.outcomes.specs.Reads.{look_at, cut_of}
use Rattle.outcomes.specs.Writes.{refusal_of, answer_of, buffer_of}
use Rattle.objects.specs.Items.{padded}
use Rattle.objects.specs.Replies as paper
use Rattle.records.specs.Object.{item_in}
use Rattle.exported.specs.Replies.{Reply, reply, code_of, told_of}

-- the object's size, which is 0 where no record is told, or a refusal's place; then the next position
abbrev pub record_reply : paper.Reply → ℕ → ℕ → Reply
record_reply r size next = reply (code_of r) (get_or (paper.values_of r) 0 size ∷ next ∷ [])

abbrev pub look_reply : Looked → Reply
look_reply l = record_reply (outcomes.read_reply l.told) l.size l.next.at

-- the object of a type at a place, without padding; none where there is no such object
unfoldable pub object_for : List ℕ → ℕ → ℕ → List ℕ
object_for s at kind = cut_of s (look_at s at kind)

-- no room for the object's bytes: 10 and no value, and the bytes as they were; else the object at their front
unfoldable pub read_reply : List ℕ → ℕ → ℕ → List ℕ → Reply
read_reply s at kind x = cond (leb (length (object_for s at kind)) (length x)) (look_reply (look_at s at kind)) (reply 10 [])

unfoldable pub read_into : List ℕ → ℕ → ℕ → List ℕ → List ℕ
read_into s at kind x = cond (leb (length (object_for s at kind)) (length x)) (object_for s at kind ++ drop (length (object_for s at kind)) x) x

-- an object's bytes written as what they are into the buffer x, as the `Outcome` of that item has it
unfoldable pub write_reply : List ℕ → List ℕ → Reply
write_reply o x = told_of (outcomes.written_reply (answer_of (refusal_of (item_in o) (length x)) (padded (item_in o))))

unfoldable pub write_into : List ℕ → List ℕ → List ℕ
write_into o x = buffer_of (refusal_of (item_in o) (length x)) (padded (item_in o)) x
