-- Texts as bytes, and a text that stands in a buffer.
use Rattle.std.specs.Prelude.{ℕ, ◌+◌, ◌≤◌, ◌≡◌, List, [], ◌∷◌, ◌++◌, length}
use Prim.Native.Char.{code}
use Prim.Native.String as string
use Prim.Native.String.{String}
use Rattle.fields.specs.Written.{Wrote}
use Rattle.digits.specs.Digits.{decimal}

-- the codes of a text's characters
abbrev pub text : String → List ℕ
text string.[] = []
text (string.◌∷◌ c cs) = code c ∷ text cs

-- a text, and a number in decimal behind it
unfoldable pub labelled : List ℕ → ℕ → List ℕ
labelled w n = w ++ decimal n

-- the text bs stands in the buffer ys from place at and ends at place e; every other byte is as it was in xs
pub record Said (at : ℕ) (bs xs ys : List ℕ) (e : ℕ) : Type 0 where
  pub wrote : Wrote at bs xs ys
  pub ends : e ≡ at + length bs
  pub inside : e ≤ length ys
