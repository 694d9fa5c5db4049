-- The ways out of reading an object as its bytes, and of writing one. Assumes nothing.
use Prim.Native.Nat.{ℕ, ◌<◌, ◌≤◌}
use mathlib.Core.Path.{◌≡◌, refl, sym, ap, ◌∙◌}
use mathlib.Core.List.{List, []}
use native.Mathlib.Omega.{arith}
use lib.ListN.{length}
use borrow.Author.Tests.{le-leb, lt-leb}
use Rattle.fields.specs.Written.{Wrote}
use Rattle.fields.proofs.Writing.{front}
use Rattle.outcomes.specs.declared.Looked.{Looked}
use Rattle.outcomes.specs.Answers.{Written}
use Rattle.outcomes.specs.Replies.{written_reply}
use Rattle.outcomes.specs.Reads.{look_at, cut_of}
use Rattle.outcomes.specs.Writes.{Outcome}
use Rattle.records.specs.Object.{item_in}
use Rattle.exported.specs.Replies.{reply, lent, Filled, told_of}
use Rattle.exported.specs.Records.{look_reply, object_for, read_reply, read_into, write_reply, write_into}
use Rattle.exported.proofs.Lending.{room, unfilled, filled, counted}

module _ (s : List ℕ) (at kind : ℕ) (x us : List ℕ) {l : Looked} {o : List ℕ} (e : l ≡ look_at s at kind) (f : o ≡ cut_of s l) where
  object_is : o ≡ object_for s at kind
  unfolding object_for
  object_is = f ∙ ap (cut_of s) e

  pub no_room : length x < length o → Filled (read_reply s at kind x) (read_into s at kind x) 10 x x us us
  unfolding read_reply read_into
  no_room h = rw (← object_is, lt-leb (length o) (length x) h) (record { told = room (reply 10 []) us (omega arith); filled = rw (le-leb 0 (length us) (omega arith)) })

  module _ (h : length o ≤ length x) where
    pub no_values : length us < 2 → Filled (read_reply s at kind x) (read_into s at kind x) 10 x x us us
    unfolding read_reply read_into
    no_values n = rw (← object_is, le-leb (length o) (length x) h, ← e) (unfilled n)

    pub copied : {r : ℕ} {y vs : List ℕ} → 2 ≤ length us → Wrote 0 o x y → reply r vs ≡ lent (look_reply l) us → Filled (read_reply s at kind x) (read_into s at kind x) r x y us vs
    unfolding read_reply read_into
    copied n w told = rw (← object_is, le-leb (length o) (length x) h, ← e) (filled n (front (length o) w refl h) told)

module _ (o x us : List ℕ) where
  pub wrote : {r : ℕ} {w a : Written} {y vs : List ℕ} → 1 ≤ length us → Outcome (item_in o) w x y → w ≡ a → reply r vs ≡ lent (told_of (written_reply a)) us
      → Filled (write_reply o x) (write_into o x) r x y us vs
  unfolding write_reply write_into
  wrote h q e told = counted _ h (sym e ∙ q.answer) q.buffer told
