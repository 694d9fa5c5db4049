-- W-209: two logs side by side. "Objects are paired by their number in the file": a row for each pair that is not equal
-- byte for byte, and for each object past the end of the log with fewer.
use Rattle.std.specs.Prelude.{ℕ, suc, cond, List, [], ◌∷◌, length}
use Rattle.fields.specs.Numbers.{part}
use Rattle.fields.specs.Same.{same}
use Rattle.objects.specs.declared.Entry.{Entry}
use Rattle.objects.specs.Stepping.{objects_of}

-- the object's number from 0, its start in the first log and in the second, and the kind
pub record Row : Type 0 where
  pub number : ℕ
  pub first : ℕ
  pub second : ℕ
  pub kind : ℕ

abbrev pub row : ℕ → ℕ → ℕ → ℕ → Row
row n a b k = record { number = n; first = a; second = b; kind = k }

-- an object's bytes in its log, without padding
abbrev pub bytes_of : List ℕ → Entry → List ℕ
bytes_of s e = part e.size s e.start

-- the rows of the objects from number n on. Kind 1: bytes differ; 2: only the first log has it; 3: only the second.
-- "Where one log has no such object, that log's length stands for the start."
unfoldable pub rows_from : List ℕ → List ℕ → ℕ → List Entry → List Entry → List Row
rows_from s t n [] [] = []
rows_from s t n [] (f ∷ fs) = row n (length s) f.start 3 ∷ rows_from s t (suc n) [] fs
rows_from s t n (e ∷ es) [] = row n e.start (length t) 2 ∷ rows_from s t (suc n) es []
rows_from s t n (e ∷ es) (f ∷ fs) =
    let others = rows_from s t (suc n) es fs in
    cond (same (bytes_of s e) (bytes_of t f)) others (row n e.start f.start 1 ∷ others)

-- the rows of two logs
unfoldable pub rows_of : List ℕ → List ℕ → List Row
rows_of s t = rows_from s t 0 (objects_of s) (objects_of t)
