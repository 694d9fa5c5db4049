-- The sizes of a LIN message are those of the type list, and the size decides how it ends. Assumes nothing.
use mathlib.Core.Path.{◌≡◌, sym, ap, ◌∙◌}
use mathlib.Core.List.{List}
use mathlib.Core.Logic.{⊎_elim}
use Prim.Native.Nat.{ℕ, ◌+◌, ◌≤◌}
use native.Mathlib.Omega.{arith}
use lib.ListN.{length, drop, length-drop}
use lib.Ieee.{Float}
use Rattle.fields.specs.Digits.{le, array}
use Rattle.fields.specs.Slots.{bytes_of}
use Rattle.headers.specs.declared.header.Header.{Header}
use Rattle.headers.specs.Types.{one_of, Has, lin_message, number_of}
use Rattle.headers.specs.Layout.{Sized}
use Rattle.headers.proofs.Bodies.{body_exact}
use Rattle.lin.specs.declared.message.Message.{Message}
use Rattle.lin.specs.declared.tail.Tail.TheVariants.{Rates}
use Rattle.lin.specs.Tail.{tail, Decides}
use Rattle.lin.specs.Tables.{bus_slots, synch_slots, descriptor_slots, status_slots, machine_slots, message_slots}
use Rattle.lin.specs.Fields.{message_of}
use Rattle.lin.proofs.TailLaws.{length_with, Ends, same_length, decides}

pub message_length : (r : Message) → length (bytes_of message_slots r) ≡ 132 + length (tail r.tail)
unfolding bytes_of bus_slots synch_slots descriptor_slots status_slots machine_slots message_slots le array
message_length r = omega arith

-- a body of one of the three sizes
module _ (b : List ℕ) (s : Sized (number_of lin_message) b) where
  size : Has (one_of 132 136 152) (length b)
  size = (body_exact lin_message (length b)).0 s

  pub long : 132 ≤ length b
  long =
      ⊎_elim (λ (e : length b ≡ 132). omega arith)
      (λ u. ⊎_elim (λ (e : length b ≡ 136). omega arith) (λ (e : length b ≡ 152). omega arith) u) size

  same_size : length b ≡ length_with (drop 132 b)
  same_size = let l = long in rw length-drop (omega arith)

  pub ends : Ends (drop 132 b)
  ends = rw same_size at size

-- the size decides how a message ends
module _ (h : Header) (b : List ℕ) (s : Sized (number_of lin_message) b) where
  pub tail_by_size : Decides (length b) (message_of h b).tail
  unfolding message_of
  tail_by_size = decides _ _ (same_size b s ∙ ap (λ (n : ℕ). 132 + n) (sym (same_length (drop 132 b) (ends b s))))

  -- a body of 136 bytes has no exact rate
  pub no_exact_rate : length b ≡ 136 → (r : ℕ) (x : Float) (a c : ℕ) → (message_of h b).tail ≡ Rates r x a c → ⊥
  no_exact_rate e r x a c q =
      let k : length b ≡ 152 = tail_by_size.rates.1 (r, x, a, c, q) in
      omega arith
