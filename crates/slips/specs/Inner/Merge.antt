-- The merge: the slips move along the objects, each past the entry that names the object.
use Rattle.std.specs.Prelude.{ℕ, ◌+◌, min, cond, Option, Some, List, [], ◌∷◌, eqb, ltb}
use Rattle.std.specs.Prelude as opt
use Rattle.headers.specs.Refused.{Refused, refusal}
use Rattle.objects.specs.declared.Entry.{Entry}
use Rattle.slips.specs.declared.merge.Compared.{Compared}
use Rattle.slips.specs.declared.merge.Compared.TheVariants.{Miss, Hit, Stray}
use Rattle.slips.specs.Right.{same}
use Rattle.slips.specs.Trouble.{Trouble, None, Found}

-- what the next entry of a slip is to the object o
abbrev pub compare_of : Entry → List Entry → Compared
compare_of o [] = Miss
compare_of o (e ∷ es) = cond (ltb o.start e.start) Miss (cond (same e o) Hit (Stray e.start))

-- a slip moves past an entry that is hit
abbrev pub move : Compared → List Entry → List Entry
move Miss es = es
move Hit [] = []
move Hit (e ∷ es) = es
move (Stray x) es = es

abbrev pub moved_of : Entry → List (List Entry) → List (List Entry)
moved_of o [] = []
moved_of o (s ∷ ss) = move (compare_of o s) s ∷ moved_of o ss

-- how many hits there are
abbrev pub hit_of : Compared → ℕ
hit_of Miss = 0
hit_of Hit = 1
hit_of (Stray x) = 0

abbrev pub hits_of : Entry → List (List Entry) → ℕ
hits_of o [] = 0
hits_of o (s ∷ ss) = hit_of (compare_of o s) + hits_of o ss

-- the lowest stray, if there is one
abbrev pub lower : Compared → Option ℕ → Option ℕ
lower Miss t = t
lower Hit t = t
lower (Stray x) opt.None = Some x
lower (Stray x) (Some y) = Some (min y x)

abbrev pub low_of : Entry → List (List Entry) → Option ℕ
low_of o [] = opt.None
low_of o (s ∷ ss) = lower (compare_of o s) (low_of o ss)

-- above every start that an entry can hold
abbrev pub past : ℕ
past = 4294967296

-- the end of the log: an object above all entries, that none may name
abbrev pub the_end : Entry
the_end = record { start = past; size = 0; kind = 0 }

-- the trouble at the object at `start`, by the lowest stray and the number of hits
abbrev pub trouble_at : ℕ → Option ℕ → ℕ → Trouble
trouble_at start (Some x) hits = Found 25 x
trouble_at start opt.None hits = cond (eqb hits 0) (Found 27 start) (cond (eqb hits 1) None (Found 26 start))

-- as a refusal
abbrev pub refused_by : Trouble → Option Refused
refused_by None = opt.None
refused_by (Found k x) = Some (refusal k x)

-- trouble here, or what comes of the objects behind
abbrev pub or_later : Trouble → Trouble → Trouble
or_later None later = later
or_later (Found k x) later = Found k x

-- behind the last object only a stray is trouble
abbrev pub finish : Option ℕ → Trouble
finish opt.None = None
finish (Some x) = Found 25 x

abbrev pub merge_of : List Entry → List (List Entry) → Trouble
merge_of [] ss = finish (low_of the_end ss)
merge_of (o ∷ os) ss = or_later (trouble_at o.start (low_of o ss) (hits_of o ss)) (merge_of os (moved_of o ss))
