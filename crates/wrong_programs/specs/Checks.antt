-- 01, "What a reader of the contracts must find" and "Slips of the pen": wrong checks, each a function of log and
-- bundle as `slips::check` is.
use Rattle.std.specs.Prelude.{ℕ, suc, cond, Err, List, [], ◌∷◌, length, take, ltb, leb}
use Rattle.headers.specs.Format.{extent}
use Rattle.objects.specs.Answers.{Walked}
use Rattle.objects.specs.Walk.{walk_of}
use Rattle.objects.specs.declared.Entry.{Entry}
use Rattle.objects.specs.Stepping.{objects_of}
use Rattle.slips.specs.Verdicts.{Verdict, Accepted, Refused}
use Rattle.slips.specs.Cut.{Cut, Slips, Fault, cut_of}
use Rattle.slips.specs.Right.{entries_on}
use Rattle.slips.specs.Trouble.{Trouble, None, Found}
use Rattle.slips.specs.Soonest.{soonest, soonest_on, stray, miscount, trouble_of}
use Rattle.slips.specs.Claims.{longest}
use Rattle.slips.specs.Check.{answer_of, check_of}

abbrev pub refuses_all : List ℕ → List ℕ → Verdict
refuses_all log bundle = Refused 20 0

abbrev pub accepts_all : List ℕ → List ℕ → Verdict
accepts_all log bundle = Accepted (length (objects_of log))

-- a check with its own idea of trouble, given the log's objects and the entries slip by slip, and its own way to tell
-- it
abbrev pub judge : (List (List Entry) → Verdict) → Cut → Verdict
judge tell (Fault number place) = Refused number place
judge tell (Slips ss) = tell (entries_on ss)

abbrev pub check_by : (Walked → Trouble → Verdict) → (List Entry → List (List Entry) → Trouble) → List ℕ → List ℕ → Verdict
check_by tell trouble log bundle =
    cond (ltb longest (length log)) (Refused 28 0)
    (judge (λ ss. tell (walk_of log) (trouble (objects_of log) ss)) (cut_of bundle))

abbrev pub first_slip_only : List ℕ → List ℕ → Verdict
first_slip_only = check_by answer_of (λ os ss. trouble_of os (take 1 ss))

-- entries and objects compared by a part of what they say
abbrev pub each : (Entry → Entry) → List Entry → List Entry
each f [] = []
each f (e ∷ es) = f e ∷ each f es

abbrev pub each_on : (Entry → Entry) → List (List Entry) → List (List Entry)
each_on f [] = []
each_on f (s ∷ ss) = each f s ∷ each_on f ss

abbrev pub comparing : (Entry → Entry) → List ℕ → List ℕ → Verdict
comparing f = check_by answer_of (λ os ss. trouble_of (each f os) (each_on f ss))

abbrev pub entry : ℕ → ℕ → ℕ → Entry
entry start size kind = record { start = start; size = size; kind = kind }

abbrev pub by_start_alone : List ℕ → List ℕ → Verdict
by_start_alone = comparing (λ e. entry e.start 0 0)

abbrev pub without_type : List ℕ → List ℕ → Verdict
without_type = comparing (λ e. entry e.start e.size 0)

-- takes the size on a slip to include the padding
abbrev pub padding_in_size : List ℕ → List ℕ → Verdict
padding_in_size = check_by answer_of (λ os ss. trouble_of (each (λ e. entry e.start (extent e.size) e.kind) os) ss)

-- 26 and 27 tried before 25
abbrev pub earlier : Trouble → Trouble → Trouble
earlier None u = u
earlier (Found k x) None = Found k x
earlier (Found k x) (Found j y) = cond (leb x y) (Found k x) (Found j y)

abbrev pub twice_first : List ℕ → List ℕ → Verdict
twice_first = check_by answer_of (λ os ss. earlier (soonest (miscount ss) os) (soonest_on (stray os) ss))

-- trouble told before a later damage of the log
abbrev pub or_trouble : Walked → Trouble → Verdict
or_trouble w None = answer_of w None
or_trouble w (Found k x) = Refused k x

abbrev pub trouble_first : List ℕ → List ℕ → Verdict
trouble_first = check_by or_trouble trouble_of

-- accepts with one object more than there is
abbrev pub one_more : Verdict → Verdict
one_more (Accepted n) = Accepted (suc n)
one_more (Err r) = Err r

abbrev pub counts_one_more : List ℕ → List ℕ → Verdict
counts_one_more log bundle = one_more (check_of log bundle)
