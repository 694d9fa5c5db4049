-- The entries' ends, as `outside` tests them: what the loop knows before a turn, and what each way out answers. Assumes
-- nothing.
use mathlib.Core.Path.{◌≡◌, sym, ap, ◌∙◌}
use mathlib.Core.Bool.{Bool, true, false}
use mathlib.Core.Logic.{⊎_elim}
use mathlib.Core.List.{List}
use Prim.Native.Nat.{ℕ, zero, suc, ◌+◌, ◌-◌, ◌/◌, ◌<◌, ◌≤◌}
use native.Mathlib.Omega.{arith}
use lib.ListN.{length, take, drop}
use lib.Dec.{eqb}
use borrow.Author.Tests.{eqb-false}
use Rattle.fields.proofs.Parts.{tail}
use Rattle.slips.specs.Cut.{Slip, slip_limit, length_in, desk_in, slip_in, entries_in, Slips, cut_from, cut_of}
use Rattle.slips.proofs.Format.SlipFaults.{Shape, whole_shape}
use Rattle.slips.proofs.Format.Chunks.{slip_part}
use Rattle.slips.proofs.Format.Cuts.{Next, next_slip, last_slip}
use Rattle.desk_text.specs.Outside.{past, past_on, outside_of, Cuts}

-- the slips that are left decide
pub record Testing (b rest : List ℕ) (len : ℕ) : Type 0 where
  pub at : ℕ
  pub more : ℕ
  pub least : ℕ
  pub slips : List Slip
  pub cut : cut_from more rest at least ≡ Slips slips
  pub same : past_on len slips ≡ outside_of len b

pub testing_none : (b : List ℕ) (len : ℕ) → Cuts b → Testing b b len
unfolding cut_of outside_of
testing_none b len c = record { at = 0; more = slip_limit; least = 0; slips = c.slips; cut = c.is; same = rw c.is }

-- the first of them, and those behind it
pub record Turn (b rest : List ℕ) (len : ℕ) : Type 0 where
  pub shape : Shape rest
  pub found : past len (slip_in rest).entries ≡ true → true ≡ outside_of len b
  pub on : past len (slip_in rest).entries ≡ false → Testing b (drop (4 + length_in rest) rest) len

module _ (b rest : List ℕ) (len : ℕ) where
  turned : (k at least : ℕ) (ss : List Slip) → past_on len ss ≡ outside_of len b → Next k rest at least ss → Turn b rest len
  turned k at least ss q n =
      let s = ap (past_on len) (sym n.first) ∙ q in
      record {
        shape = whole_shape rest least n.whole;
        found = λ e. rw e at s;
        on = λ e. record { at = at + (4 + length_in rest); more = k; least = desk_in rest + 1; slips = n.list; cut = n.then; same = rw e at s };
      }

  turn_by : 0 < length rest → (k at least : ℕ) (ss : List Slip) → past_on len ss ≡ outside_of len b → cut_from k rest at least ≡ Slips ss → Turn b rest len
  turn_by l zero at least ss q c = absurd (omega (arith, (last_slip rest at least ss c).0))
  turn_by l (suc k) at least ss q c = ⊎_elim (λ e. absurd (omega (arith, e.0))) (turned k at least ss q) (next_slip k rest at least ss c)

  pub turn : Testing b rest len → eqb (length rest) 0 ≡ false → Turn b rest len
  turn c q = let n = eqb-false _ _ q in turn_by (omega arith) c.more c.at c.least c.slips c.same c.cut

  -- so its length and its bytes are there
  pub room : Testing b rest len → eqb (length rest) 0 ≡ false → (2 ≤ length_in rest) × (4 + length_in rest ≤ length rest)
  room c l = let w = (turn c l).shape in (w.two, w.within)

  nothing : (k at least : ℕ) (ss : List Slip) → length rest ≡ 0 → cut_from k rest at least ≡ Slips ss → past_on len ss ≡ false
  nothing zero at least ss z c = ap (past_on len) (last_slip rest at least ss c).1
  nothing (suc k) at least ss z c =
      ⊎_elim (λ e. ap (past_on len) e.1) (λ n. absurd (omega (arith, n.whole.within))) (next_slip k rest at least ss c)

  -- what was tested of it, of whose length the code has read n
  seen : (n : ℕ) → n ≡ length_in rest → Shape rest → {r : Bool}
      → r ≡ past len (entries_in (length (take (4 + n - 6) (drop 6 rest)) / 12) (take (4 + n - 6) (drop 6 rest))) → r ≡ past len (slip_in rest).entries
  seen n e w q = rw (slip_part rest w n e) at q

  pub turn_found : Testing b rest len → eqb (length rest) 0 ≡ false → (n : ℕ) → n ≡ length_in rest
      → true ≡ past len (entries_in (length (take (4 + n - 6) (drop 6 rest)) / 12) (take (4 + n - 6) (drop 6 rest))) → true ≡ outside_of len b
  turn_found c q n e f = let w = turn c q in w.found (sym (seen n e w.shape f))

  pub turn_on : Testing b rest len → eqb (length rest) 0 ≡ false → (n : ℕ) → n ≡ length_in rest
      → false ≡ past len (entries_in (length (take (4 + n - 6) (drop 6 rest)) / 12) (take (4 + n - 6) (drop 6 rest))) → Testing b (take (length rest - (4 + n)) (drop (4 + n) rest)) len
  turn_on c q n e f = let w = turn c q in rw (tail, e) (w.on (sym (seen n e w.shape f)))

  pub tested : Testing b rest len → length rest ≡ 0 → false ≡ outside_of len b
  tested c z = sym (nothing c.more c.at c.least c.slips z c.cut) ∙ c.same
