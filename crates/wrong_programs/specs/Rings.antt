-- W-206: wrong steps over a ring, each with the scratch that it leaves, and a wrong view.
use Rattle.std.specs.Prelude.{ℕ, zero, suc, ◌+◌, ◌-◌, true, cond, Ok, Err, List, [], ◌∷◌, ◌++◌, length, drop, eqb, leb}
use Rattle.fields.specs.Numbers.{part, zeros}
use Rattle.headers.specs.Format.{extent, size_at, kind_at}
use Rattle.headers.specs.Types.{kinds}
use Rattle.segments.specs.Joined.{crosses}
use Rattle.objects.specs.Kinds.{find}
use Rattle.objects.specs.Table.{Row, row, object_of, head_rows, type_rows, table, first_of, place_of}
use Rattle.objects.specs.Next.{cursor}
use Rattle.ring.specs.Answers.{RingAnswer, First, Copied, Done, Refused}
use Rattle.ring.specs.declared.RingStep.{RingStep}
use Rattle.ring.specs.Ring.{fits, ring_table, placed, ring_at}
use Rattle.ring.specs.Handed.{scratch_at}

-- a step over two segments, from a position on and with a scratch: the answer, and what the scratch then holds
abbrev pub Program : Type 0
Program = List ℕ → List ℕ → ℕ → List ℕ → RingStep × List ℕ

-- a step by its own table and its own word on where an object lies; 28 is not met
abbrev pub answer : (ℕ → ℕ → ℕ → ℕ → RingAnswer) → List Row → ℕ → ℕ → List ℕ → ℕ → RingStep
answer lies rows cut at t zero = record { answer = lies cut at (size_at t) (kind_at t); next = cursor (at + extent (size_at t)) }
answer lies rows cut at t (suc n) = record { answer = Refused (suc n) (at + place_of (suc n) rows); next = cursor at }

abbrev pub step_by : (ℕ → ℕ → ℕ → List ℕ → List Row) → (ℕ → ℕ → ℕ → ℕ → RingAnswer) → List ℕ → List ℕ → ℕ → ℕ → RingStep
step_by rows lies a b at room =
    cond (eqb at (length (a ++ b))) (record { answer = Done; next = cursor at })
    (answer lies (rows (length a) at room (drop at (a ++ b))) (length a) at (drop at (a ++ b)) (first_of (rows (length a) at room (drop at (a ++ b)))))

-- with the scratch as it should be
abbrev pub ring_by : (ℕ → ℕ → ℕ → List ℕ → List Row) → (ℕ → ℕ → ℕ → ℕ → RingAnswer) → Program
ring_by rows lies a b at x = (step_by rows lies a b at (length x), scratch_at a b at x)

-- 12 tested with the padding
abbrev pub with_padding : Program
with_padding = ring_by (λ cut at room t. head_rows (find kinds (kind_at t)) t (row 12 (cond (crosses cut at (size_at t)) (leb (extent (size_at t)) room) true) 0 ∷ type_rows (find kinds (kind_at t)) (object_of t))) placed

-- 12 tried behind 9
abbrev pub scratch_last : Program
scratch_last = ring_by (λ cut at room t. table t ++ (row 12 (fits cut at (size_at t) room) 0 ∷ [])) placed

-- an object copied whose padding alone crosses
abbrev pub padding_crosses : Program
padding_crosses = ring_by ring_table (λ cut at n kind. cond (crosses cut at (extent n)) (Copied at n kind) (placed cut at n kind))

-- an object that starts at the seam told as the first segment's
abbrev pub seam_in_first : Program
seam_in_first = ring_by ring_table (λ cut at n kind. cond (eqb at cut) (First at n kind) (placed cut at n kind))

-- places counted from the second segment's start
abbrev pub in_second : ℕ → ℕ → RingAnswer → RingAnswer
in_second cut at (Ok o) = Ok o
in_second cut at (Err r) = cond (leb cut at) (Refused r.number (r.place - cut)) (Err r)

abbrev pub own_places : Program
own_places a b at x = (record { answer = in_second (length a) at (ring_at a b at (length x)).answer; next = (ring_at a b at (length x)).next }, scratch_at a b at x)

-- the copy made once 1 to 6 have passed, before 7 to 9
abbrev pub copies_early : Program
copies_early a b at x = (
  ring_at a b at (length x),
  cond (eqb (first_of (head_rows (find kinds (kind_at (drop at (a ++ b)))) (drop at (a ++ b)) [])) 0)
      (part (size_at (drop at (a ++ b))) (a ++ b) at ++ drop (size_at (drop at (a ++ b))) x) x,
)

-- the rest of the scratch cleared
abbrev pub clears : Program
clears a b at x = (
  ring_at a b at (length x),
  part (size_at (drop at (a ++ b))) (a ++ b) at ++ zeros (length x - size_at (drop at (a ++ b))),
)

-- an object that crosses seen as the part of it that lies in the first segment
abbrev pub view_cut : List ℕ → List ℕ → ℕ → List ℕ
view_cut a b at = cond (crosses (length a) at (size_at (drop at (a ++ b)))) (drop at a) (part (size_at (drop at (a ++ b))) (a ++ b) at)
