-- A text is read exactly where it is a line, and what a write left is read back. Assumes nothing.
use mathlib.Core.Path.{◌≡◌, refl, sym, ap, ◌∙◌, subst}
use mathlib.Core.Bool.{Bool, true, false, cond, ◌&&◌}
use mathlib.Core.Logic.{◌↔◌}
use mathlib.Core.List.{List}
use Prim.Native.Nat.{ℕ, zero, suc}
use native.Mathlib.Omega.{arith}
use lib.ListN.{length, take, drop}
use lib.Seq.{take_at}
use Rattle.headers.specs.declared.header.Header.{Header}
use Rattle.headers.specs.Header.{Fit}
use Rattle.std.specs.Prelude.{Option, Some, None}
use Rattle.std.specs.Option.{ok_or}
use Rattle.headers.specs.Refused.{refusal}
use Rattle.headers.specs.Format.{unit_ok}
use Rattle.objects.specs.Items.{Valid}
use Rattle.outcomes.specs.Answers.{Written}
use Rattle.outcomes.specs.Answers.{Used}
use Rattle.outcomes.specs.Writes.{answer_of, buffer_of}
use Rattle.asc_lines.specs.declared.told.Told.{Told}
use Rattle.asc_lines.specs.Lines.{line_of}
use Rattle.asc_lines.specs.Reading.{candidate, possible_time, same, line_in}
use Rattle.asc_lines.proofs.Sames.{same_refl, same_eq}
use Rattle.asc_lines.proofs.Readings.{by_line}
use Rattle.asc_lines.proofs.Parsing.{message_line, overload_line, statistic_line}
use Rattle.asc.specs.Tells.{seconds_of, nanos_of, head_told, frame_told, counts_told, Event, message, overload, statistic, tells}
use Rattle.asc.specs.Writes.{item_of, Found, one, text_of, refusal_of, LineOutcome}
use Rattle.asc.specs.Lines.{told, no_line, line_read, Line}
use Rattle.asc.proofs.Stamps.{stamp_possible}
use Rattle.asc.proofs.Fitting.{message_head, message_frame, overload_head, statistic_head, statistic_counts}
use Rattle.asc.proofs.RecordOfTold.{candidate_told}

-- a line whose candidate is what it tells, with a possible time
read_back : (t : Told) → candidate (line_of t) ≡ t → possible_time t.head.seconds t.head.nanos ≡ true → line_read (line_of t) ≡ told t
unfolding line_read
read_back t c p = ap (λ (o : Option Told). ok_or o (refusal 30 0)) (sym (by_line (line_of t) t (sym c) p {b = true} (sym (same_refl (line_of t)))))

-- a header that fits has a possible time
time_told : (h : Header) → Fit h → unit_ok h.unit ≡ true → possible_time (seconds_of h.unit h.stamp) (nanos_of h.unit h.stamp) ≡ true
time_told h f u = stamp_possible h.unit h.stamp u (omega (arith, f.stamp))

-- told_back: reading a written line tells what its record tells
pub told_back : (e : Event) → Valid (item_of e) → line_read (line_of (tells e)) ≡ told (tells e)
unfolding tells head_told
told_back (message r) v =
    read_back (tells (message r)) (message_line (head_told r.header r.channel) (message_head r v) (frame_told r) (message_frame r v)) (time_told r.header v.header v.unit)
told_back (overload r) v =
    read_back (tells (overload r)) (overload_line (head_told r.header r.channel) (overload_head r v)) (time_told r.header v.header v.unit)
told_back (statistic r) v =
    read_back (tells (statistic r)) (statistic_line (head_told r.header r.channel) (statistic_head r v) (counts_told r) (statistic_counts r v)) (time_told r.header v.header v.unit)

-- a text that is refused tells nothing
none_told : (t : Told) → no_line ≡ told t → ⊥
none_told t e = cc

accepted : (s : List ℕ) (t : Told) → line_read s ≡ told t → Line s t
unfolding line_read line_in
accepted s t e = cases (possible_time (candidate s).head.seconds (candidate s).head.nanos) (same (line_of (candidate s)) s) refl refl e
  where
    cases : (a b : Bool) → possible_time (candidate s).head.seconds (candidate s).head.nanos ≡ a → same (line_of (candidate s)) s ≡ b
        → ok_or (cond (a && b) (Some (candidate s)) None) (refusal 30 0) ≡ told t → Line s t
    cases true true p q z =
        let c : candidate s ≡ t = cc in
        subst (λ (x : Told). Line s x) c (subst (λ (x : List ℕ). Line x (candidate s)) (same_eq (line_of (candidate s)) s q) (candidate_told s p))
    cases true false p q z = absurd (none_told t z)
    cases false b p q z = absurd (none_told t z)

-- the reader tells t of a text exactly when a valid record of type 1, 3 or 4 has this text as its line and tells t
pub line_exact : (s : List ℕ) (t : Told) → (line_read s ≡ told t) ↔ Line s t
line_exact s t = (accepted s t, λ l. subst (λ (x : List ℕ). line_read x ≡ told t) l.line (told_back l.from l.valid ∙ ap told l.says))

-- and refuses it exactly when there is none
unlined : (s : List ℕ) → ((t : Told) → Line s t → ⊥) → line_read s ≡ no_line
unfolding line_read line_in
unlined s h = cases (possible_time (candidate s).head.seconds (candidate s).head.nanos) (same (line_of (candidate s)) s) refl refl
  where
    cases : (a b : Bool) → possible_time (candidate s).head.seconds (candidate s).head.nanos ≡ a → same (line_of (candidate s)) s ≡ b → ok_or (cond (a && b) (Some (candidate s)) None) (refusal 30 0) ≡ no_line
    cases true true p q = absurd (h (candidate s) (subst (λ (x : List ℕ). Line x (candidate s)) (same_eq (line_of (candidate s)) s q) (candidate_told s p)))
    cases true false p q = refl
    cases false b p q = refl

pub no_line_exact : (s : List ℕ) → (line_read s ≡ no_line) ↔ ((t : Told) → Line s t → ⊥)
no_line_exact s = (λ e t l. none_told t (sym e ∙ (line_exact s t).1 l), unlined s)

-- the contract of a write determines answer and buffer
pub one_line : (f : Found) {w w' : Written} {x y y' : List ℕ} → LineOutcome f w x y → LineOutcome f w' x y' → (w ≡ w') × (y ≡ y')
one_line f a b = (a.answer ∙ sym b.answer, a.buffer ∙ sym b.buffer)

-- what a write that was not refused left is read back
by_refusal : (e : Event) (x : List ℕ) {n : ℕ} {y : List ℕ} (f : ℕ) → (f ≡ 0 → Valid (item_of e)) → Used n ≡ answer_of f (line_of (tells e)) → y ≡ buffer_of f (line_of (tells e)) x
    → line_read (take n y) ≡ told (tells e)
by_refusal e x {n} {y} zero v a b =
    let l = line_of (tells e) in
    let i : n ≡ length l = cc in
    let z : take n y ≡ l = rw b (take_at l (drop (length l) x) n (sym i)) in
    rw z (told_back e (v refl))
by_refusal e x (suc f) v a b = absurd (let z : ◌≡◌ {A = ℕ} 0 1 = cc in omega arith)

pub written_back : {e : Event} {n : ℕ} {x y : List ℕ} → LineOutcome (one e) (Used n) x y → line_read (take n y) ≡ told (tells e)
unfolding text_of
written_back {e} {n} {x} {y} o = by_refusal e x (refusal_of (one e) (length x)) o.valid o.answer o.buffer
