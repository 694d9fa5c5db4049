-- Bytes as document 01 writes them: two hexadecimal digits a byte, with spaces anywhere.
use Rattle.std.specs.Prelude.{ℕ, ◌+◌, ◌*◌, ◌-◌, cond, List, [], ◌∷◌, ltb, eqb}
use Prim.Native.String.{String}
use Rattle.listing.specs.Text.{text}

-- the value of `0` to `9` and `A` to `F`
abbrev pub digit : ℕ → ℕ
digit c = cond (ltb c 58) (c - 48) (c - 55)

abbrev pub no_spaces : List ℕ → List ℕ
no_spaces [] = []
no_spaces (c ∷ cs) = cond (eqb c 32) (no_spaces cs) (c ∷ no_spaces cs)

abbrev pub pairs : List ℕ → List ℕ
pairs [] = []
pairs (a ∷ []) = []
pairs (a ∷ (b ∷ cs)) = (16 * digit a + digit b) ∷ pairs cs

unfoldable pub hex : String → List ℕ
hex s = pairs (no_spaces (text s))
