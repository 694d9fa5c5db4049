-- What both LIN records begin with: its three values, written, are the first slots of the record. Assumes nothing.
use mathlib.Core.List.{List}
use Prim.Native.Nat.{ℕ}
use Rattle.fields.specs.Slots.{Slots, joined, bytes_of}
use Rattle.fields.specs.Written.{Wrote}
use Rattle.fields.proofs.Puts.{Puts, Written, first_chunk}
use Rattle.lin.specs.Tables.{bus_slots}

pub first_bus : {A : Type 0} (start baud channel : A → ℕ) {r : A} {at : ℕ} {more : Slots A} {x y z : List ℕ}
    → Wrote at (bytes_of (bus_slots {A = Unit} (λ u. start r) (λ u. baud r) (λ u. channel r)) tt) x y → Puts r at more 16 y z
    → Written r at (joined (bus_slots start baud channel) more) x z
unfolding bytes_of bus_slots
first_bus start baud channel e p = first_chunk (bus_slots start baud channel) tt e p
