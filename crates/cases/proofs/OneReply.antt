-- The contract of a call that writes and replies determines the reply and the buffer. Assumes nothing.
use Prim.Native.Nat.{ℕ}
use mathlib.Core.Path.{◌≡◌, sym, ap, ◌∙◌}
use mathlib.Core.List.{List}
use Rattle.objects.specs.Items.{Item}
use Rattle.outcomes.specs.Answers.{Written}
use Rattle.outcomes.specs.Replies.{written_reply}
use Rattle.outcomes.specs.Writes.{Outcome}
use Rattle.records.specs.Rewrite.{Rewritten, buffer_by}
use Rattle.cases.specs.declared.replies.Reply.{Reply}
use Rattle.cases.specs.Replies.{used_reply}
use Rattle.cases.specs.Writes.{Writes}

same_reply : {r r' : Reply} {w w' : Written} → w ≡ w' → r ≡ used_reply (written_reply w) → r' ≡ used_reply (written_reply w') → r ≡ r'
same_reply e p q = p ∙ ap (λ (w : Written). used_reply (written_reply w)) e ∙ sym q

pub one_rewrite : (log : List ℕ) {r r' : Reply} {x y y' : List ℕ} → Writes (Rewritten log) r x y → Writes (Rewritten log) r' x y' → (r ≡ r') × (y ≡ y')
one_rewrite log {x = x} a b =
    let e = a.meant.answer ∙ sym b.meant.answer in
    (same_reply e a.told b.told, a.meant.buffer ∙ ap (λ (w : Written). buffer_by w log x) e ∙ sym b.meant.buffer)

pub one_write : (i : Item) {r r' : Reply} {x y y' : List ℕ} → Writes (Outcome i) r x y → Writes (Outcome i) r' x y' → (r ≡ r') × (y ≡ y')
one_write i a b = (same_reply (a.meant.answer ∙ sym b.meant.answer) a.told b.told, a.meant.buffer ∙ sym b.meant.buffer)
