-- A number as digits over a base of 2 to 16, in upper case: the fewest digits, or a fixed number of them.
use Rattle.std.specs.Prelude.{ℕ, zero, suc, ◌+◌, ◌/◌, ◌%◌, cond, List, [], ◌∷◌, ◌++◌, ltb}

-- the code of a digit below 16: `0` to `9`, then `A` to `F`
unfoldable pub glyph : ℕ → ℕ
glyph d = cond (ltb d 10) (48 + d) (55 + d)

-- the last k digits of n over the base b
unfoldable pub fixed : ℕ → ℕ → ℕ → List ℕ
fixed b zero n = []
fixed b (suc k) n = fixed b k (n / b) ++ (glyph (n % b) ∷ [])

-- the fewest digits of n over the base b, at most k of them
unfoldable pub fewest : ℕ → ℕ → ℕ → List ℕ
fewest b zero n = []
fewest b (suc k) n = cond (ltb n b) (glyph n ∷ []) (fewest b k (n / b) ++ (glyph (n % b) ∷ []))

-- n in decimal, and in hex: twenty and sixteen digits hold every number of 64 bits
unfoldable pub decimal : ℕ → List ℕ
decimal n = fewest 10 20 n

unfoldable pub hex : ℕ → List ℕ
hex n = fewest 16 16 n
