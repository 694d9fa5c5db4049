-- W-209: what the theorems on rows speak of.
use Rattle.std.specs.Prelude.{ℕ, ◌≤◌, ◌<◌, ◌≡◌, ◌⊎◌, List, [], ◌∷◌, ◌++◌, length}
use Rattle.objects.specs.Logs.{flat, LogOf}
use Rattle.differences.specs.Rows.{Row}

-- s is a log and has an object number n: it is the object o, and starts at a place. There are n objects before it, and it
-- starts where they end.
pub record HasObject (s : List ℕ) (n at : ℕ) (o : List ℕ) : Type 0 where
  pub before : List (List ℕ)
  pub behind : List (List ℕ)
  pub log : LogOf s (before ++ (o ∷ behind))
  pub many : length before ≡ n
  pub start : length (flat before) ≡ at

-- s is a log and has no object number n: it has n at most
pub record HasNone (s : List ℕ) (n : ℕ) : Type 0 where
  pub all : List (List ℕ)
  pub log : LogOf s all
  pub few : length all ≤ n

-- 1: both logs have an object of that number, at those places, and they are not equal byte for byte
pub record BytesDiffer (s t : List ℕ) (r : Row) : Type 0 where
  pub kind : r.kind ≡ 1
  pub one : List ℕ
  pub other : List ℕ
  pub first : HasObject s r.number r.first one
  pub second : HasObject t r.number r.second other
  pub differ : one ≡ other → ⊥

-- 2: only the first log has it
pub record OnlyFirst (s t : List ℕ) (r : Row) : Type 0 where
  pub kind : r.kind ≡ 2
  pub one : List ℕ
  pub first : HasObject s r.number r.first one
  pub none : HasNone t r.number
  pub second : r.second ≡ length t

-- 3: only the second log has it
pub record OnlySecond (s t : List ℕ) (r : Row) : Type 0 where
  pub kind : r.kind ≡ 3
  pub other : List ℕ
  pub none : HasNone s r.number
  pub first : r.first ≡ length s
  pub second : HasObject t r.number r.second other

abbrev pub IsRow : List ℕ → List ℕ → Row → Type 0
IsRow s t r = BytesDiffer s t r ⊎ (OnlyFirst s t r ⊎ OnlySecond s t r)

-- r is one of the rows
abbrev pub In : Row → List Row → Type 0
In r [] = ⊥
In r (x ∷ xs) = (r ≡ x) ⊎ In r xs

-- every number is above n
abbrev pub Above : ℕ → List Row → Type 0
Above n [] = Unit
Above n (r ∷ rs) = (n < r.number) × Above n rs

-- numbers rise strictly
abbrev pub Rising : List Row → Type 0
Rising [] = Unit
Rising (r ∷ rs) = Above r.number rs × Rising rs
