-- Writing slots one after the other is writing the bytes of the record. Assumes nothing.
use mathlib.Core.Path.{◌≡◌, refl, sym, ap, ◌∙◌}
use mathlib.Core.List.{List, ◌++◌, append_assoc}
use Prim.Native.Nat.{ℕ, ◌+◌}
use native.Mathlib.Nat.{add_assoc}
use lib.ListN.{length, length-append}
use Rattle.fields.specs.Slots.{Slot, Slots, end, rest, ◌▸◌, width, total, Closed, joined, slot_bytes, bytes_of}
use Rattle.fields.specs.Written.{Wrote}
use Rattle.fields.proofs.SlotLaws.{slot_length}
use Rattle.fields.proofs.Writing.{then}

-- slots behind closed slots
module _ {A : Type 0} (r : A) where
  bytes_joined : (ss more : Slots A) → Closed ss → bytes_of (joined ss more) r ≡ bytes_of ss r ++ bytes_of more r
  unfolding bytes_of
  bytes_joined end more c = refl
  bytes_joined (rest g) more c = absurd c
  bytes_joined (s ▸ ss) more c = ap (λ (l : List ℕ). slot_bytes s r ++ l) (bytes_joined ss more c) ∙ sym (append_assoc (slot_bytes s r) (bytes_of ss r) (bytes_of more r))

  pub bytes_length : (ss : Slots A) → Closed ss → length (bytes_of ss r) ≡ total ss
  unfolding bytes_of
  bytes_length end c = refl
  bytes_length (rest g) c = absurd c
  bytes_length (s ▸ ss) c = rw (length-append, slot_length s r, bytes_length ss c)

-- from x to y by writes of the slots of r, the first k bytes behind at: a slot, slots that a function of their own
-- writes, and the rest
pub data Puts {A : Type 0} (r : A) (at : ℕ) : Slots A → ℕ → List ℕ → List ℕ → Type 0 where
  done : {k : ℕ} {x : List ℕ} → Puts r at end k x x
  put : {s : Slot A} {more : Slots A} {k : ℕ} {x y z : List ℕ} → Wrote (at + k) (slot_bytes s r) x y → Puts r at more (k + width s) y z → Puts r at (s ▸ more) k x z
  chunk : (ss : Slots A) {more : Slots A} {k : ℕ} {x y z : List ℕ} → Closed ss → Wrote (at + k) (bytes_of ss r) x y → Puts r at more (k + total ss) y z → Puts r at (joined ss more) k x z
  last : {g : A → List ℕ} {k : ℕ} {x y : List ℕ} → Wrote (at + k) (g r) x y → Puts r at (rest g) k x y

-- the first of them stand at the place itself
pub data Written {A : Type 0} (r : A) (at : ℕ) : Slots A → List ℕ → List ℕ → Type 0 where
  first : {s : Slot A} {more : Slots A} {x y z : List ℕ} → Wrote at (slot_bytes s r) x y → Puts r at more (width s) y z → Written r at (s ▸ more) x z
  first_chunk : (ss : Slots A) {more : Slots A} {x y z : List ℕ} → Closed ss → Wrote at (bytes_of ss r) x y → Puts r at more (total ss) y z → Written r at (joined ss more) x z

pub puts : {A : Type 0} {r : A} {at : ℕ} {ss : Slots A} {k : ℕ} {x z : List ℕ} → Puts r at ss k x z → Wrote (at + k) (bytes_of ss r) x z
unfolding bytes_of
puts done = record { is = refl }
puts {r = r} (put {s} e p) = then e (puts p) (rw (slot_length s r, add_assoc))
puts {r = r} (chunk ss {more} c e p) = rw (bytes_joined r ss more c) (then e (puts p) (rw (bytes_length r ss c, add_assoc)))
puts (last e) = e

pub written : {A : Type 0} {r : A} {at : ℕ} {ss : Slots A} {x z : List ℕ} → Written r at ss x z → Wrote at (bytes_of ss r) x z
unfolding bytes_of
written {r = r} (first {s} e p) = then e (puts p) (rw (slot_length s r))
written {r = r} (first_chunk ss {more} c e p) = rw (bytes_joined r ss more c) (then e (puts p) (rw (bytes_length r ss c)))

-- `written (search slots depth 14)`: up to five puts, found by their places
pub ruleset slots = (first, put, last, done)
