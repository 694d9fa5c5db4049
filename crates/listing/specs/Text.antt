-- 01, "Two programs": the lines that the programs print, as bytes. Every line ends in one LF.
use Rattle.std.specs.Prelude.{ℕ, zero, suc, ◌+◌, ◌/◌, ◌%◌, ◌≡◌, cond, List, [], ◌∷◌, ◌++◌, length, ltb}
use Prim.Native.Char.{code}
use Prim.Native.String as string
use Prim.Native.String.{String}
use Rattle.io.specs.Digits.{hex_digit_ascii}
use Rattle.io.specs.Counts.{IsPrefixLen}
use Rattle.fields.specs.Written.{Wrote}

-- the codes of a text's characters
abbrev pub text : String → List ℕ
text string.[] = []
text (string.◌∷◌ c cs) = code c ∷ text cs

-- the decimal digits of n, at most k of them
abbrev pub spell : ℕ → ℕ → List ℕ
spell zero n = []
spell (suc k) n = cond (ltb n 10) (hex_digit_ascii n ∷ []) (spell k (n / 10) ++ (hex_digit_ascii (n % 10) ∷ []))

-- n in decimal: twenty digits hold every number of 64 bits
unfoldable pub decimal : ℕ → List ℕ
decimal n = spell 20 n

-- a word with a number behind it
unfoldable pub said : List ℕ → ℕ → List ℕ
said word n = word ++ decimal n

-- a line's end with two words, each with its number
unfoldable pub line_of : List ℕ → ℕ → List ℕ → ℕ → List ℕ
line_of v m w n = said v m ++ said w n ++ text "\n"

-- `start size type`
unfoldable pub object_line : ℕ → ℕ → ℕ → List ℕ
object_line start size kind = said (text "") start ++ line_of (text " ") size (text " ") kind

-- `end LENGTH objects COUNT`
unfoldable pub end_line : ℕ → ℕ → List ℕ
end_line len count = line_of (text "end ") len (text " objects ") count

-- `refused NUMBER at PLACE`
unfoldable pub refused_line : ℕ → ℕ → List ℕ
refused_line number place = line_of (text "refused ") number (text " at ") place

-- `accepted COUNT`
unfoldable pub accepted_line : ℕ → List ℕ
accepted_line count = said (text "accepted ") count ++ text "\n"

unfoldable pub outside_line : List ℕ
outside_line = text "outside\n"

unfoldable pub too_long_text : List ℕ
too_long_text = text "too long\n"

unfoldable pub no_file : List ℕ
no_file = text "no file\n"

-- the text bs stands in the buffer ys from place at and ends at place e; every other byte is as it was in xs
pub record Said (at : ℕ) (bs xs ys : List ℕ) (e : ℕ) : Type 0 where
  pub wrote : Wrote at bs xs ys
  pub ends : e ≡ at + length bs
  pub inside : IsPrefixLen e ys
