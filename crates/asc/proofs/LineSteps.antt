-- The ways out of a line at a place of a log. Assumes nothing.
use mathlib.Core.Path.{◌≡◌, refl, sym, ap, ap₂, ◌∙◌, subst}
use mathlib.Core.List.{List, []}
use Prim.Native.Nat.{ℕ, ◌+◌, ◌-◌}
use lib.ListN.{take, drop}
use Rattle.fields.specs.Numbers.{part}
use Rattle.headers.specs.Format.{kind_at}
use Rattle.std.specs.Prelude.{None, Ok, Err}
use Rattle.headers.specs.Refused.{Refused}
use Rattle.objects.specs.declared.Step.{Step}
use Rattle.objects.specs.Answers as answer
use Rattle.objects.specs.Next.{object_step, next_at}
use Rattle.objects.specs.Views.{object_in, object_at}
use Rattle.objects.proofs.Answers.{same_object}
use Rattle.objects.proofs.Steps.{step_exact}
use Rattle.objects.proofs.ViewLaws.{object_here}
use Rattle.outcomes.specs.Answers.{Written}
use Rattle.outcomes.proofs.Looks.{cut_is}
use Rattle.asc.specs.declared.at_cursor.LineStep.{LineStep}
use Rattle.asc.specs.Writes.{none, text_of, refusal_of, LineOutcome}
use Rattle.asc.specs.Objects.{whole, event_as, event_in, lined, event_at, line_step, line_into}
use Rattle.asc.proofs.Events.{event_whole}
use Rattle.asc.proofs.Writings.{outcome_by}

-- no object has no line
none_there : event_in [] ≡ none
unfolding event_in whole
none_there = refl

module _ (s : List ℕ) (at : ℕ) (x : List ℕ) {st : Step} (e : st ≡ next_at s at) where
  unwritten : object_at s at ≡ [] → x ≡ line_into s at x
  unfolding line_into refusal_of text_of
  unwritten q = rw (q, none_there)

  pub step_done : st.answer ≡ answer.Done → (record { answer = Ok None; next = st.next } ≡ line_step s at x) × (x ≡ line_into s at x)
  unfolding line_step object_at
  step_done f = (rw (← e, f), unwritten (ap (λ (y : Step). object_in s y.answer) (sym e) ∙ ap (object_in s) f))

  pub step_refused : {r : Refused} → st.answer ≡ Err r → (record { answer = Err r; next = st.next } ≡ line_step s at x) × (x ≡ line_into s at x)
  unfolding line_step object_at
  step_refused f = (rw (← e, f), unwritten (ap (λ (y : Step). object_in s y.answer) (sym e) ∙ ap (object_in s) f))

  module _ {start size kind : ℕ} (f : st.answer ≡ answer.Object start size kind) where
    here : part size s start ≡ object_at s at
    unfolding object_at
    here = ap (object_in s) (sym f) ∙ ap (λ (y : Step). object_in s y.answer) e

    -- the event that the object is goes by its type
    event_there : event_as kind (part size s start) ≡ event_at s at
    event_there =
        let n : next_at s at ≡ object_step start size kind st.next = sym e ∙ (λ i. record { answer = f i; next = st.next }) in
        let d = (step_exact s at start size kind st.next).0 n in
        let k : kind ≡ kind_at d.0 = (same_object (ap (λ (y : Step). y.answer) d.2)).2 in
        let o : object_at s at ≡ d.0 = object_here s at d.0 d.1.formed _ d.1.here in
        ap₂ event_as k (here ∙ o) ∙ sym (event_whole d.0 d.1.formed) ∙ ap event_in (sym o)

    pub step_line : {w : Written} {y : List ℕ} → LineOutcome (event_as kind (part size s start)) w x y → (lined at st.next w ≡ line_step s at x) × (y ≡ line_into s at x)
    unfolding line_step line_into
    step_line {w} {y} c =
        let d : LineOutcome (event_at s at) w x y = outcome_by event_there c in
        (rw (← e, f) (ap (lined at st.next) d.answer), d.buffer)

    -- as the code has it
    pub at_part : {w : Written} {y : List ℕ} {r : LineStep} → LineOutcome (event_as kind (take (start + size - start) (drop start s))) w x y → r ≡ lined at st.next w
        → (r ≡ line_step s at x) × (y ≡ line_into s at x)
    at_part {w} {y} c q =
        let d = step_line (subst (λ (o : List ℕ). LineOutcome (event_as kind o) w x y) (cut_is s start size) c) in
        (q ∙ d.0, d.1)
