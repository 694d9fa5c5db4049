-- What a C caller gets: the number that a call returns, and the numbers that it leaves in the slice lent to it.
use Rattle.std.specs.Prelude.{ℕ, ◌≡◌, cond, List, [], ◌∷◌, length, get_or, leb}
use Rattle.std.proofs.lemmas.List.Edits.{sets}
use Rattle.objects.specs.declared.Step.{Step}
use Rattle.objects.specs.Replies as paper

pub record Reply : Type 0 where
  pub number : ℕ
  pub values : List ℕ

abbrev pub reply : ℕ → List ℕ → Reply
reply n vs = record { number = n; values = vs }

-- no room for the values: 10, and the lent slice as it was; else the values at its front, and the rest of it as it was
unfoldable pub lent : Reply → List ℕ → Reply
lent t xs = cond (leb (length t.values) (length xs)) (reply t.number (sets xs 0 t.values)) (reply 10 xs)

-- What a call leaves that also fills a slice x: the number and the values, and x as z where the values have room, else
-- as it was.
pub record Filled (t : Reply) (z : List ℕ) (r : ℕ) (x y us vs : List ℕ) : Type 0 where
  pub told : reply r vs ≡ lent t us
  pub filled : y ≡ cond (leb (length t.values) (length us)) z x

-- the number that a call returns: 0 for success, a refusal's own, and two that are ours for the paper's words
abbrev pub code_of : paper.Reply → ℕ
code_of (paper.success values) = 0
code_of paper.other = 101
code_of paper.done = 100
code_of (paper.refused number place) = number

-- an answer with the paper's values
abbrev pub told_of : paper.Reply → Reply
told_of r = reply (code_of r) (paper.values_of r)

-- start, size and type, then the next position; of what the answer does not have, the start is the position and the
-- others are 0
abbrev pub next_reply : paper.Reply → ℕ → Reply
next_reply r next = reply (code_of r) (get_or (paper.values_of r) 0 next ∷ get_or (paper.values_of r) 1 0 ∷ get_or (paper.values_of r) 2 0 ∷ next ∷ [])

abbrev pub step_reply : Step → Reply
step_reply s = next_reply (paper.answer_reply s.answer) s.next.at
