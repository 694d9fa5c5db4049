-- What writing a line answers, in each way. Assumes nothing.
use mathlib.Core.Path.{◌≡◌, refl, subst}
use mathlib.Core.Bool.{Bool, true, false}
use mathlib.Core.List.{List}
use Prim.Native.Nat.{ℕ, ◌≤◌, ◌<◌}
use native.Mathlib.Omega.{arith}
use borrow.Author.Tests.{le-leb, lt-leb}
use lib.ListN.{length}
use Rattle.fields.specs.Written.{Wrote}
use Rattle.fields.proofs.Writing.{front}
use Rattle.headers.specs.Format.{unit_ok}
use Rattle.headers.specs.HeadTests.{first}
use Rattle.objects.specs.Items.{Valid}
use Rattle.outcomes.specs.Answers.{Written}
use Rattle.outcomes.specs.Answers.{Used, Refused}
use Rattle.asc_lines.specs.declared.told.Told.{Told}
use Rattle.asc_lines.specs.Lines.{line_of}
use Rattle.asc.specs.Tells.{Event, tells}
use Rattle.asc.specs.Writes.{item_of, header_of, Found, one, none, text_of, refusal_of, LineOutcome, Put, Copied}

-- a line copied
module _ {bs x : List ℕ} where
  pub no_room : length x < length bs → Copied bs (Refused 10 0) x x
  unfolding first
  no_room h = let e = lt-leb (length bs) (length x) h in record { answer = rw e; buffer = rw e }

  pub copied : {y : List ℕ} → length bs ≤ length x → Wrote 0 bs x y → Copied bs (Used (length bs)) x y
  unfolding first
  copied {y} h w = let e = le-leb (length bs) (length x) h in record { answer = rw e; buffer = rw e (front (length bs) w refl h) }

-- what is told, by the unit
module _ (u : ℕ) (t : Told) {x : List ℕ} where
  pub unit_refused : unit_ok u ≡ false → Put u t (Refused 7 0) x x
  unfolding first
  unit_refused e = record { answer = rw e; buffer = rw e }

  -- the line in a buffer of its own, and copied
  pub unit_taken : {l : List ℕ} {w : Written} {y : List ℕ} → unit_ok u ≡ true → l ≡ line_of t → Copied l w x y → Put u t w x y
  unfolding first
  unit_taken {w = w} {y} e s c =
      let d : Copied (line_of t) w x y = subst (λ (b : List ℕ). Copied b w x y) s c in
      record { answer = rw e d.answer; buffer = rw e d.buffer }

-- what 7 lets through has a known unit
unit_known : (b : Bool) (n : ℕ) → first 7 b n ≡ 0 → b ≡ true
unfolding first
unit_known true n z = refl
unit_known false n z = absurd (omega arith)

-- the line of an event is that of what it tells, and what is not refused is valid
pub event_line : (e : Event) {t : Told} {w : Written} {x y : List ℕ} → t ≡ tells e → (unit_ok (header_of e).unit ≡ true → Valid (item_of e))
    → Put (header_of e).unit t w x y → LineOutcome (one e) w x y
unfolding refusal_of text_of
event_line e {w = w} {x} {y} q v p =
    let d : Put (header_of e).unit (tells e) w x y = subst (λ (t : Told). Put (header_of e).unit t w x y) q p in
    record { answer = d.answer; buffer = d.buffer; valid = λ z. v (unit_known _ _ z) }

-- nothing has no line
pub nothing_written : {x : List ℕ} → LineOutcome none (Used 0) x x
unfolding refusal_of text_of
nothing_written = record { answer = refl; buffer = refl; valid = λ _. tt }

pub outcome_by : {f g : Found} {w : Written} {x y : List ℕ} → f ≡ g → LineOutcome f w x y → LineOutcome g w x y
outcome_by {f} {g} {w} {x} {y} e o = subst (λ (h : Found). LineOutcome h w x y) e o
