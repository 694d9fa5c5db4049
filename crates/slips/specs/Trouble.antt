-- 01, "Slips": 25 STRAY, 26 TWICE and 27 UNLISTED, "at the smallest start in trouble, 25 before 26 before 27".
use Rattle.std.specs.Prelude.{ℕ, ◌<◌, ◌≤◌, ◌≡◌, List, ◌⊎◌}
use Rattle.objects.specs.declared.Entry.{Entry}
use Rattle.objects.specs.Named.{In}
use Rattle.slips.specs.Right.{On, times_all}

-- 25: an entry equals no object's start, size and type; its own start is in trouble
abbrev pub StrayAt : List Entry → List (List Entry) → ℕ → Type 0
StrayAt os ss x = (e : Entry) × On e ss × (In e os → ⊥) × (e.start ≡ x)

-- 26: two or more entries name one object
abbrev pub TwiceAt : List Entry → List (List Entry) → ℕ → Type 0
TwiceAt os ss x = (o : Entry) × In o os × (2 ≤ times_all o ss) × (o.start ≡ x)

-- 27: no entry names an object
abbrev pub UnlistedAt : List Entry → List (List Entry) → ℕ → Type 0
UnlistedAt os ss x = (o : Entry) × In o os × (times_all o ss ≡ 0) × (o.start ≡ x)

-- the number k applies at the start x
abbrev pub InTrouble : List Entry → List (List Entry) → ℕ → ℕ → Type 0
InTrouble os ss k x = ((k ≡ 25) × StrayAt os ss x) ⊎ (((k ≡ 26) × TwiceAt os ss x) ⊎ ((k ≡ 27) × UnlistedAt os ss x))

-- a number and a start, or none
pub data Trouble : Type 0 where
  None : Trouble
  Found : ℕ → ℕ → Trouble

-- of all that P holds of: the smallest start, and there the smallest number
abbrev pub Least : (ℕ → ℕ → Type 0) → Trouble → Type 0
Least P None = (k x : ℕ) → P k x → ⊥
Least P (Found k x) = P k x × ((k' x' : ℕ) → P k' x' → (x < x') ⊎ ((x ≡ x') × (k ≤ k')))

abbrev pub First : List Entry → List (List Entry) → Trouble → Type 0
First os ss t = Least (InTrouble os ss) t
