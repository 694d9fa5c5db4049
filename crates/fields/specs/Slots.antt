-- A record's bytes as a table: one slot a line, in the order of the bytes. What is said of a table here is proved once,
-- for every table (proofs/SlotLaws).
use Rattle.std.specs.Prelude.{ℕ, ◌+◌, ◌*◌, ◌≤◌, ◌<◌, ◌^◌, ◌≡◌, true, List, [], ◌∷◌, ◌++◌, length, drop, get_or, eqb}
use Rattle.fields.specs.Numbers.{part, num, nums, zeros, all_zero}
use Rattle.fields.specs.Digits.{le, array}
use Rattle.fields.specs.Rules.{Gap, gap, Rule, rule}

-- a field of w bytes; an array of n such; n reserved bytes; a field of w bytes that follows from the rest of the record
pub data Slot (A : Type 0) : Type 0 where
  number : ℕ → (A → ℕ) → Slot A
  numbers : ℕ → ℕ → (A → List ℕ) → Slot A
  reserved : ℕ → Slot A
  derived : ℕ → (A → ℕ) → Slot A

infixr 67 ◌▸◌
-- slots up to the end, or up to bytes that fill what is left
pub data Slots (A : Type 0) : Type 0 where
  end : Slots A
  rest : (A → List ℕ) → Slots A
  ◌▸◌ : Slot A → Slots A → Slots A

abbrev pub width : {A : Type 0} → Slot A → ℕ
width (number w g) = w
width (numbers w n g) = w * n
width (reserved n) = n
width (derived w g) = w

-- the bytes up to the end or the rest; and that there is no rest
abbrev pub total : {A : Type 0} → Slots A → ℕ
total end = 0
total (rest g) = 0
total (s ▸ ss) = width s + total ss

abbrev pub Closed : {A : Type 0} → Slots A → Type 0
Closed end = Unit
Closed (rest g) = ⊥
Closed (s ▸ ss) = Closed ss

-- slots behind slots
abbrev pub joined : {A : Type 0} → Slots A → Slots A → Slots A
joined end more = more
joined (rest g) more = rest g
joined (s ▸ ss) more = s ▸ joined ss more

-- the bytes of a record
abbrev pub slot_bytes : {A : Type 0} → Slot A → A → List ℕ
slot_bytes (number w g) r = le w (g r)
slot_bytes (numbers w n g) r = array w n (g r)
slot_bytes (reserved n) r = zeros n
slot_bytes (derived w g) r = le w (g r)

unfoldable pub bytes_of : {A : Type 0} → Slots A → A → List ℕ
bytes_of end r = []
bytes_of (rest g) r = g r
bytes_of (s ▸ ss) r = slot_bytes s r ++ bytes_of ss r

-- the values of a record, and those that stand in bytes from a place on
abbrev pub Value : {A : Type 0} → Slot A → Type 0
Value (number w g) = ℕ
Value (numbers w n g) = List ℕ
Value (reserved n) = Unit
Value (derived w g) = Unit

abbrev pub Values : {A : Type 0} → Slots A → Type 0
Values end = Unit
Values (rest g) = List ℕ
Values (s ▸ ss) = Value s × Values ss

abbrev pub value_of : {A : Type 0} (s : Slot A) → A → Value s
value_of (number w g) r = g r
value_of (numbers w n g) r = g r
value_of (reserved n) r = tt
value_of (derived w g) r = tt

abbrev pub values_of : {A : Type 0} (ss : Slots A) → A → Values ss
values_of end r = tt
values_of (rest g) r = g r
values_of (s ▸ ss) r = (value_of s r, values_of ss r)

abbrev pub value_in : {A : Type 0} (s : Slot A) → List ℕ → ℕ → Value s
value_in (number w g) b at = num w b at
value_in (numbers w n g) b at = nums w n b at
value_in (reserved n) b at = tt
value_in (derived w g) b at = tt

abbrev pub values_in : {A : Type 0} (ss : Slots A) → List ℕ → ℕ → Values ss
values_in end b at = tt
values_in (rest g) b at = drop at b
values_in (s ▸ ss) b at = (value_in s b at, values_in ss b (at + width s))

-- every number fits its width, as in memory it does
abbrev pub FitsSlot : {A : Type 0} → Slot A → A → Type 0
FitsSlot (number w g) r = g r < 256 ^ w
FitsSlot (numbers w n g) r = (length (g r) ≡ n) × ((i : ℕ) → i < n → get_or (g r) i 0 < 256 ^ w)
FitsSlot (reserved n) r = Unit
FitsSlot (derived w g) r = g r < 256 ^ w

abbrev pub Fits : {A : Type 0} → Slots A → A → Type 0
Fits end r = Unit
Fits (rest g) r = Unit
Fits (s ▸ ss) r = FitsSlot s r × Fits ss r

-- bytes that are as long as the slots say
abbrev pub Fill : {A : Type 0} → Slots A → List ℕ → ℕ → Type 0
Fill end b at = length b ≡ at
Fill (rest g) b at = at ≤ length b
Fill (s ▸ ss) b at = Fill ss b (at + width s)

-- reserved bytes are zero, and what follows from the rest does
abbrev pub CleanSlot : {A : Type 0} → Slot A → List ℕ → ℕ → A → Type 0
CleanSlot (number w g) b at r = Unit
CleanSlot (numbers w n g) b at r = Unit
CleanSlot (reserved n) b at r = all_zero (part n b at) ≡ true
CleanSlot (derived w g) b at r = num w b at ≡ g r

abbrev pub Clean : {A : Type 0} → Slots A → List ℕ → ℕ → A → Type 0
Clean end b at r = Unit
Clean (rest g) b at r = Unit
Clean (s ▸ ss) b at r = CleanSlot s b at r × Clean ss b (at + width s) r

-- the reserved bytes, and the fields that follow from the rest, as Rules has them
abbrev pub gaps_of : {A : Type 0} → Slots A → ℕ → List Gap
gaps_of end at = []
gaps_of (rest g) at = []
gaps_of (number w g ▸ ss) at = gaps_of ss (at + w)
gaps_of (numbers w n g ▸ ss) at = gaps_of ss (at + w * n)
gaps_of (reserved n ▸ ss) at = gap at n ∷ gaps_of ss (at + n)
gaps_of (derived w g ▸ ss) at = gaps_of ss (at + w)

abbrev pub derived_of : {A : Type 0} → Slots A → List ℕ → ℕ → A → List Rule
derived_of end b at r = []
derived_of (rest g) b at r = []
derived_of (number w g ▸ ss) b at r = derived_of ss b (at + w) r
derived_of (numbers w n g ▸ ss) b at r = derived_of ss b (at + w * n) r
derived_of (reserved n ▸ ss) b at r = derived_of ss b (at + n) r
derived_of (derived w g ▸ ss) b at r = rule at (eqb (num w b at) (g r)) ∷ derived_of ss b (at + w) r
