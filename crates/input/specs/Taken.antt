-- What comes of reading an input, by what the reads answer one after the other: `Ok` of a number counts as that number,
-- and `Err` as one below 0. Which answers those are, and which bytes they leave in the buffer, is not said here.
use Rattle.std.specs.Prelude.{ℕ, zero, suc, ◌+◌, ◌-◌, ◌≤◌, min, ◌≡◌, ◌⊎◌, Option, None, Some, List, [], ◌∷◌, ℤ, pos, negsuc, length}

-- so many bytes came; or a read failed
abbrev pub Input : Type 0
Input = Option ℕ

abbrev pub Bytes : ℕ → Input
Bytes n = Some n

abbrev pub Failed : Input
Failed = None

-- With n bytes in a buffer that has room for `room`: an answer below 0 is a read that failed; 0 is the input's end; any
-- other is so many bytes more, as far as there is room. Behind the last answer the buffer is full.
abbrev pub input_of : ℕ → ℕ → List ℤ → Input
input_of room n [] = Bytes room
input_of room n (negsuc k ∷ answers) = Failed
input_of room n (pos zero ∷ answers) = Bytes n
input_of room n (pos (suc k) ∷ answers) = input_of room (n + min (suc k) (room - n)) answers

-- so many bytes stand at the buffer's start
abbrev pub Within : Input → List ℕ → Type 0
Within (Some n) buf = n ≤ length buf
Within None buf = Unit

-- an input r read into a buffer y that was x
pub record Taken (r : Input) (x y : List ℕ) : Type 0 where
  pub answers : List ℤ
  pub told : r ≡ input_of (length x) 0 answers
  pub within : Within r y
  pub long : length y ≡ length x

-- a file read: failed where it can't be opened, and then the buffer is as it was
pub record TakenFile (r : Input) (x y : List ℕ) : Type 0 where
  pub how : ((r ≡ Failed) × (y ≡ x)) ⊎ Taken r x y
  pub within : Within r y
