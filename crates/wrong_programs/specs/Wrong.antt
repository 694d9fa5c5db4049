-- 01, "What a reader of the contracts must find" and "Slips of the pen", those of W-202 and W-204 to W-208: the wrong
-- programs, each beside an input on which its contract does not hold. `all_refuted` of proofs/Refuted says so of every
-- row.
use Rattle.std.specs.Prelude.{ℕ, ◌≡◌, List, [], ◌∷◌, ◌++◌, length, take, drop, get_or, set, replicate}
use Prim.Native.String.{String}
use Rattle.fields.specs.Numbers.{zeros}
use Rattle.lin.specs.declared.tail.Tail.{Tail}
use Rattle.lin.specs.declared.tail.Tail.TheVariants.{Nothing, Response, Rates}
use Rattle.objects.specs.declared.Step.{Step}
use Rattle.objects.specs.Answers.{Walked}
use Rattle.headers.specs.declared.header.Origin.TheVariants.{First}
use Rattle.headers.specs.Types.{Kind, overload, lin_message, fd_message, number_of}
use Rattle.objects.specs.Kinds.{Record}
use Rattle.objects.specs.Items.{Item, known, foreign}
use Rattle.objects.specs.Next.{next_at}
use Rattle.objects.specs.Walk.{walk_of}
use Rattle.ring.specs.Ring.{ring_at}
use Rattle.ring.specs.Handed.{scratch_at, ring_view_at}
use Rattle.outcomes.specs.Answers.{Written}
use Rattle.outcomes.specs.Reads.{look_at, record_at, Reads}
use Rattle.outcomes.specs.Writes.{Outcome}
use Rattle.tray.specs.declared.Common.{Common}
use Rattle.tray.specs.Tray.{Trays}
use Rattle.slips.specs.Verdicts.{Verdict}
use Rattle.slips.specs.Check.{check_of}
use Rattle.marked_examples.specs.Marked.{m2, m9, m11}
use Rattle.wrong_programs.specs.Samples.{seventeen, nineteen, unclean, wrapping, lin168, second, fd, m12, other_size, other_type, stray_and_twice, padded_size}
use Rattle.wrong_programs.specs.Readers as readers
use Rattle.wrong_programs.specs.Readers.{walk_by}
use Rattle.wrong_programs.specs.Records as records
use Rattle.wrong_programs.specs.Checks as checks
use Rattle.wrong_programs.specs.Rings as rings
use Rattle.wrong_programs.specs.Rings.{Program}
use Rattle.wrong_programs.specs.Trays as trays

-- a program and what it is tried on
pub data Trial : Type 0 where
  step : (List ℕ → ℕ → Step) → List ℕ → ℕ → Trial
  walk : (List ℕ → Walked) → List ℕ → Trial
  -- with a number by which two records are told apart
  read : (k : Kind) → (Record k → ℕ) → (List ℕ → ℕ → Record k) → List ℕ → ℕ → Trial
  write : (Item → List ℕ → Written × List ℕ) → Item → List ℕ → Trial
  check : (List ℕ → List ℕ → Verdict) → List ℕ → List ℕ → Trial
  -- a log, where it is cut, a position and a scratch
  ring : Program → List ℕ → ℕ → ℕ → List ℕ → Trial
  view : (List ℕ → List ℕ → ℕ → List ℕ) → List ℕ → ℕ → ℕ → Trial
  -- what is common, ids, time stamps, data and the output
  tray : trays.Program → Common → List ℕ → List ℕ → List ℕ → List ℕ → Trial

-- what the contract of the call says of it
abbrev pub Meets : Trial → Type 0
Meets (step p log at) = p log at ≡ next_at log at
Meets (walk p log) = p log ≡ walk_of log
Meets (read k apart p log at) = Reads k log at (look_at log at (number_of k)).told (next_at log at).next (p log at)
Meets (write p i out) = Outcome i (p i out).0 out (p i out).1
Meets (check p log bundle) = p log bundle ≡ check_of log bundle
Meets (ring p log cut at x) =
    ((p (take cut log) (drop cut log) at x).0 ≡ ring_at (take cut log) (drop cut log) at (length x))
    × ((p (take cut log) (drop cut log) at x).1 ≡ scratch_at (take cut log) (drop cut log) at x)
Meets (view p log cut at) = p (take cut log) (drop cut log) at ≡ ring_view_at (take cut log) (drop cut log) at
Meets (tray p c is ts ds x) = Trays c is ts ds (p c is ts ds x).told x (p c is ts ds x).buffer

-- which of its three ends a LIN message has
abbrev pub end_of : Tail → ℕ
end_of Nothing = 0
end_of (Response response) = 1
end_of (Rates response exact header-stop response-stop) = 2

-- messages under the first header, with this unit
abbrev pub bench : ℕ → Common
bench unit = record { unit = unit; origin = First 0; version = 0; channel = 1; flags = 0; dlc = 8 }

pub record Wrong : Type 0 where
  pub name : String
  pub tried : Trial

abbrev pub wrong : String → Trial → Wrong
wrong name t = record { name = name; tried = t }

-- `set log n b` is the log with byte n set to b
unfoldable pub wrongs : List Wrong
wrongs =
    wrong "a reader that refuses everything" (step readers.refuses_all m2 0)
    ∷ wrong "its walk" (walk (walk_by readers.refuses_all) m2)
    ∷ wrong "a reader that accepts everything" (step readers.accepts_all (set m2 34 1) 0)
    ∷ wrong "its walk" (walk (walk_by readers.accepts_all) (set m2 34 1))
    ∷ wrong "a walk that judges the first object and only steps over the others" (walk (walk_by readers.first_only) (m2 ++ set m2 34 1 ++ m2))
    ∷ wrong "a walk with a made-up object count" (walk readers.counts_one_more (m2 ++ m2))
    ∷ wrong "the object size taken to include its padding, in the step" (step readers.padding_in_size seventeen 0)
    ∷ wrong "its walk" (walk (walk_by readers.padding_in_size) (seventeen ++ m9))
    ∷ wrong "the next object sought at a multiple of four, one byte left over" (step readers.filled_up seventeen 0)
    ∷ wrong "the same, three bytes left over" (step readers.filled_up nineteen 0)
    ∷ wrong "its walk" (walk (walk_by readers.filled_up) (nineteen ++ m9))
    ∷ wrong "foreign objects stepped over without testing the padding" (walk (walk_by readers.foreign_untested) (unclean ++ m2))
    ∷ wrong "the last object's padding not tested" (walk (walk_by readers.last_untested) (m2 ++ unclean))
    ∷ wrong "start and size added in 32 bits" (step readers.sum32 (m9 ++ wrapping) 16)
    ∷ wrong "a writer that writes nothing" (write records.writes_nothing (known overload (record_at overload m2 0)) (zeros 40))
    ∷ wrong "an exact rate out of a 168-byte LIN message" (read lin_message (λ m. end_of m.tail) records.exact_rate (lin168 ++ m9) 0)
    ∷ wrong "3 tried before 4 for a listed type" (step readers.size_first (set (set m2 4 33) 8 5) 0)
    ∷ wrong "version 2 with length 32 let through" (step readers.mixed_pair (set m2 6 2) 0)
    ∷ wrong "the first header's size under the second" (step readers.first_sizes (set second 8 36) 0)
    ∷ wrong "byte 21 of the second header not tested" (walk (walk_by readers.header_untested) (set second 21 1))
    ∷ wrong "the second header's body read at 32" (read overload (λ r. r.channel) records.body_at32 second 0)
    ∷ wrong "the original time stamp taken for the time stamp" (read overload (λ r. r.header.stamp) records.original_stamp second 0)
    ∷ wrong "every refusal at the object's start" (step readers.at_start (m9 ++ set m2 34 1) 16)
    ∷ wrong "its walk" (walk (walk_by readers.at_start) (m9 ++ set m2 34 1))
    ∷ wrong "4 at the version field" (step readers.at_version (m9 ++ set m2 6 2) 16)
    ∷ wrong "5 where the object would end" (step readers.at_objects_end (m9 ++ wrapping) 16)
    ∷ wrong "6 at the padding's first byte, whichever is wrong" (step readers.at_padding (set nineteen 20 1) 0)
    ∷ wrong "8 of the body before 8 of the header" (step readers.body_first (set (set second 21 1) 42 1) 0)
    ∷ wrong "8 of the body counted behind a first header always" (step readers.first_headers (set second 42 1) 0)
    ∷ wrong "12 tested with the padding" (ring rings.with_padding nineteen 10 0 (zeros 19))
    ∷ wrong "12 tried behind 9" (ring rings.scratch_last (set m2 34 1) 20 0 (zeros 35))
    ∷ wrong "an object copied whose padding alone crosses" (ring rings.padding_crosses nineteen 20 0 (zeros 19))
    ∷ wrong "an object that starts at the seam told as the first segment's" (ring rings.seam_in_first (m2 ++ m2) 36 36 [])
    ∷ wrong "places counted from the second segment's start" (ring rings.own_places (m2 ++ set m2 34 1) 36 36 [])
    ∷ wrong "the copy made before 7 to 9" (ring rings.copies_early (set m2 34 1) 20 0 (zeros 36))
    ∷ wrong "the rest of the scratch cleared" (ring rings.clears m9 8 0 (replicate 17 7))
    ∷ wrong "the view of an object that crosses" (view rings.view_cut m9 8 0)
    ∷ wrong "31 tried behind 7 and 10" (tray trays.tray_last (bench 0) (1 ∷ []) [] [] [])
    ∷ wrong "the data bytes not counted" (tray trays.data_uncounted (bench 2) (1 ∷ []) (1 ∷ []) [] (zeros 48))
    ∷ wrong "a tray of none refused for its unit" (tray trays.unit_first (bench 0) [] [] [] [])
    ∷ wrong "all messages of a tray or none" (tray trays.all_or_none (bench 2) (1 ∷ 2 ∷ []) (1 ∷ 2 ∷ []) (zeros 16) (zeros 95))
    ∷ wrong "the refused message counted" (tray trays.counts_refused (bench 2) (1 ∷ 2 ∷ []) (1 ∷ 2 ∷ []) (zeros 16) (zeros 95))
    ∷ wrong "the bytes behind the messages cleared" (tray trays.clears (bench 2) (1 ∷ []) (1 ∷ []) (zeros 8) (replicate 49 7))
    ∷ wrong "the first time stamp for all messages" (tray trays.first_stamp (bench 2) (1 ∷ 2 ∷ []) (1 ∷ 2 ∷ []) (zeros 16) (zeros 96))
    ∷ wrong "valid bytes tested against 65" (step readers.to65 (set fd 46 65) 0)
    ∷ wrong "a CAN FD message of 116 bytes let through" (step readers.size116 (take 116 (set fd 8 116)) 0)
    ∷ wrong "the reserved u32 of CAN FD not tested" (step readers.end_untested (set fd 119 1) 0)
    ∷ wrong "valid bytes above the DLC refused" (step readers.by_dlc fd 0)
    ∷ wrong "the data bytes behind the valid ones cleared" (read fd_message (λ r. get_or r.bytes 63 0) records.valid_alone (set fd 46 8) 0)
    ∷ wrong "an old foreign copy of CAN FD written" (write records.writes_all (foreign fd) (zeros 120))
    ∷ wrong "a check that refuses everything" (check checks.refuses_all (m2 ++ m2) m11)
    ∷ wrong "a check that accepts everything" (check checks.accepts_all (m2 ++ m2) [])
    ∷ wrong "a check that compares the first slip only" (check checks.first_slip_only (m2 ++ m2) m12)
    ∷ wrong "a check with a made-up object count" (check checks.counts_one_more (m2 ++ m2) m11)
    ∷ wrong "entries compared by start alone, so a wrong size passes" (check checks.by_start_alone (m2 ++ m2) other_size)
    ∷ wrong "entries compared without the type" (check checks.without_type (m2 ++ m2) other_type)
    ∷ wrong "the object size taken to include its padding, in a slip" (check checks.padding_in_size seventeen padded_size)
    ∷ wrong "26 tried before 25" (check checks.twice_first (m2 ++ m2) stray_and_twice)
    ∷ wrong "trouble told before a later damage of the log" (check checks.trouble_first (m2 ++ set m2 34 1) [])
    ∷ []

-- no row meets its contract
abbrev pub AllRefuted : List Wrong → Type 0
AllRefuted [] = Unit
AllRefuted (w ∷ ws) = (Meets w.tried → ⊥) × AllRefuted ws
