-- The wrong programs are refuted: on each row a computed test finds two answers that differ, and a program that met its
-- contract would pass it. Assumes nothing.
use Prim.Native.Nat.{ℕ}
use mathlib.Core.Path.{◌≡◌, refl, ap, ap₂}
use mathlib.Core.Bool.{Bool, true, false, not, ◌&&◌}
use mathlib.Core.List.{List, [], ◌∷◌, ◌++◌}
use native.Mathlib.Omega.{arith}
use borrow.Author.Tests.{eq-eqb, not-true}
use lib.ListN.{length, take, drop}
use lib.Dec.{eqb}
use Rattle.std.specs.Prelude.{Some, Ok, Err}
use Rattle.fields.specs.Numbers.{val, num, big, nums, all_zero}
use Rattle.fields.specs.Digits.{le, array}
use Rattle.fields.specs.Slots as slots
use Rattle.fields.specs.Wrong.{leading, wrong_in}
use Rattle.fields.proofs.Zeros.{both_true}
use Rattle.headers.specs.Format.{padding, is_first, is_second, length_at, origin_at, header_of, unit_ok, header_blank}
use Rattle.headers.specs.TypeFormat.{reserved_of}
use Rattle.headers.specs.Types.{type_list}
use Rattle.headers.specs.Rows.{row_in, allowed}
use Rattle.headers.specs.Header as header
use Rattle.headers.specs.HeadTests.{first, pair_ok, length_fits, listed_fault, foreign_fault, head_fault}
use Rattle.can.specs.Fields.{overload_of, fd_message_of}
use Rattle.can.specs.Tables.{message_slots, overload_slots}
use Rattle.lin.specs.Fields.{tail_of, message_of}
use Rattle.objects.specs.declared.Step.{Step}
use Rattle.objects.specs.Answers.{Answer, Walked}
use Rattle.objects.specs.Answers as answer
use Rattle.objects.specs.Kinds.{find}
use Rattle.objects.specs.Items.{bytes_of, padded}
use Rattle.objects.specs.Faults.{gaps_of}
use Rattle.objects.specs.Next.{fault_of, place_in, answered, next_at}
use Rattle.objects.specs.Stepping.{met_at}
use Rattle.objects.specs.Walk.{walk_of}
use Rattle.segments.specs.Joined.{crosses}
use Rattle.ring.specs.declared.Part.{Part}
use Rattle.ring.specs.declared.Part.TheVariants as part
use Rattle.ring.specs.Answers.{RingAnswer}
use Rattle.ring.specs.Answers as rings
use Rattle.ring.specs.declared.RingStep.{RingStep}
use Rattle.ring.specs.Ring.{fits, ring_fault, ring_place, placed, ring_answered, ring_on, ring_at}
use Rattle.ring.specs.Handed.{scratch_at, ring_view_at}
use Rattle.outcomes.specs.Reads.{look_at, record_in, record_at}
use Rattle.outcomes.specs.Writes.{foreign_ok, refusal_of, buffer_of}
use Rattle.tray.specs.Answers as trays
use Rattle.tray.specs.Answers.{TrayAnswer}
use Rattle.tray.specs.declared.Trayed.{Trayed}
use Rattle.tray.specs.Tray.{together, message_at, messages_from, in_turn, tray_of}
use Rattle.tray.specs.Claims.{each}
use Rattle.slips.specs.Verdicts.{Verdict, Accepted}
use Rattle.slips.specs.Cut as cut
use Rattle.slips.specs.Cut.{shape_ok, cut_of}
use Rattle.slips.specs.Soonest.{trouble_of}
use Rattle.slips.specs.Check.{check_of}
use Rattle.marked_examples.specs.Hex.{hex}
use Rattle.marked_examples.specs.Marked.{m2, m9, m11}
use Rattle.wrong_programs.specs.Samples.{seventeen, nineteen, unclean, wrapping, lin168, second, fd, m12, other_size, other_type, stray_and_twice, padded_size}
use Rattle.wrong_programs.specs.Wrong.{Trial, step, walk, read, write, check, ring, view, tray, Meets, Wrong, wrongs, AllRefuted}

-- answers as numbers

abbrev walked_as : Walked → List ℕ
walked_as (answer.Count n) = 0 ∷ n ∷ []
walked_as (Err r) = 1 ∷ r.number ∷ r.place ∷ []

abbrev answer_as : Answer → List ℕ
answer_as (Ok (Some o)) = 0 ∷ o.start ∷ o.size ∷ o.kind ∷ []
answer_as answer.Done = 1 ∷ []
answer_as (Err r) = 2 ∷ r.number ∷ r.place ∷ []

abbrev step_as : Step → List ℕ
step_as s = s.next.at ∷ answer_as s.answer

abbrev verdict_as : Verdict → List ℕ
verdict_as (Accepted n) = 0 ∷ n ∷ []
verdict_as (Err r) = 1 ∷ r.number ∷ r.place ∷ []

abbrev part_as : Part → ℕ
part_as part.First = 1
part_as part.Second = 2
part_as part.Both = 3

abbrev ring_as : RingAnswer → List ℕ
ring_as (Ok (Some f)) = part_as f.lies ∷ f.object.start ∷ f.object.size ∷ f.object.kind ∷ []
ring_as rings.Done = 4 ∷ []
ring_as (Err r) = 5 ∷ r.number ∷ r.place ∷ []

abbrev ringed_as : RingStep → List ℕ → List ℕ
ringed_as s x = (s.next.at ∷ ring_as s.answer) ++ x

abbrev tray_as : TrayAnswer → List ℕ
tray_as trays.All = 0 ∷ []
tray_as (Err r) = 1 ∷ r.number ∷ r.place ∷ []

abbrev trayed_as : Trayed → List ℕ → List ℕ
trayed_as t y = (t.written ∷ tray_as t.answer) ++ y

-- the program's answer, and what the contract asks for
abbrev given : Trial → List ℕ
given (step p log at) = step_as (p log at)
given (walk p log) = walked_as (p log)
given (read k apart p log at) = apart (p log at) ∷ []
given (write p i out) = (p i out).1
given (check p log bundle) = verdict_as (p log bundle)
given (ring p log cut at x) = ringed_as (p (take cut log) (drop cut log) at x).0 (p (take cut log) (drop cut log) at x).1
given (view p log cut at) = p (take cut log) (drop cut log) at
given (tray p c is ts ds x) = trayed_as (p c is ts ds x).told (p c is ts ds x).buffer

abbrev asked : Trial → List ℕ
asked (step p log at) = step_as (next_at log at)
asked (walk p log) = walked_as (walk_of log)
asked (read k apart p log at) = apart (record_at k log at) ∷ []
asked (write p i out) = buffer_of (refusal_of i (length out)) (padded i) out
asked (check p log bundle) = verdict_as (check_of log bundle)
asked (ring p log cut at x) = ringed_as (ring_at (take cut log) (drop cut log) at (length x)) (scratch_at (take cut log) (drop cut log) at x)
asked (view p log cut at) = ring_view_at (take cut log) (drop cut log) at
asked (tray p c is ts ds x) = trayed_as (tray_of c is ts ds x).told (tray_of c is ts ds x).buffer

meets_same : (t : Trial) → Meets t → given t ≡ asked t
meets_same (step p log at) e = ap step_as e
meets_same (walk p log) e = ap walked_as e
meets_same (read k apart p log at) m = ap (λ r. apart r ∷ []) m.value
meets_same (write p i out) m = m.buffer
meets_same (check p log bundle) e = ap verdict_as e
meets_same (ring p log cut at x) m = ap₂ ringed_as m.0 m.1
meets_same (view p log cut at) e = e
meets_same (tray p c is ts ds x) m = ap₂ trayed_as m.told m.buffer

same : List ℕ → List ℕ → Bool
same [] [] = true
same [] (y ∷ ys) = false
same (x ∷ xs) [] = false
same (x ∷ xs) (y ∷ ys) = eqb x y && same xs ys

same_self : (xs : List ℕ) → same xs xs ≡ true
unfolding same
same_self [] = refl
same_self (x ∷ xs) = rw (eq-eqb x x refl, same_self xs)

none_same : List Wrong → Bool
none_same [] = true
none_same (w ∷ ws) = not (same (given w.tried) (asked w.tried)) && none_same ws

differ : (t : Trial) → same (given t) (asked t) ≡ false → Meets t → ⊥
differ t f m =
    let e = meets_same t m in
    let u : same (asked t) (asked t) ≡ false = rw e at f in
    let s = same_self (asked t) in
    let z : ◌≡◌ {A = ℕ} 0 1 = cc in
    omega arith

refuted : (ws : List Wrong) → none_same ws ≡ true → AllRefuted ws
unfolding none_same
refuted [] e = tt
refuted (w ∷ ws) e =
    let h = both_true (not (same (given w.tried) (asked w.tried))) (none_same ws) e in
    (differ w.tried (not-true _ h.0), refuted ws h.1)

computed : none_same wrongs ≡ true
unfolding none_same same wrongs m2 m9 m11 m12 seventeen nineteen unclean wrapping lin168 second fd other_size other_type stray_and_twice padded_size hex walk_of met_at next_at answered fault_of place_in gaps_of reserved_of wrong_in leading find is_first is_second length_at origin_at header_of unit_ok header_blank type_list row_in allowed pair_ok length_fits first padding num val nums le all_zero look_at record_in record_at overload_of fd_message_of tail_of message_of header.object header.length_by header.header_by header.head slots.bytes_of overload_slots bytes_of foreign_ok head_fault listed_fault foreign_fault refusal_of check_of cut_of cut.fault_of shape_ok big trouble_of ring_at ring_on ring_answered ring_fault ring_place placed fits crosses scratch_at ring_view_at tray_of together message_at messages_from in_turn each message_slots array
computed = refl

pub all_refuted : AllRefuted wrongs
all_refuted = refuted wrongs computed
