-- W-201: bytes are two upper-case hex digits, one blank before each.
use Rattle.std.specs.Prelude.{ℕ, zero, suc, ◌+◌, ◌-◌, ◌*◌, List, [], ◌∷◌, ◌++◌, replicate}
use Rattle.digits.specs.Digits.{fixed}
use Rattle.digits.specs.Reading.{number}

-- a blank and two digits for each byte
unfoldable pub pairs : List ℕ → List ℕ
pairs [] = []
pairs (b ∷ bs) = 32 ∷ (fixed 16 2 b ++ pairs bs)

-- k bytes of two digits, each behind a blank
unfoldable pub bytes_in : ℕ → List ℕ → ℕ → List ℕ
bytes_in zero s at = []
bytes_in (suc k) s at = bytes_in k s at ++ ((number 16 2 s (at + 3 * k + 1)).value ∷ [])

-- the same in an array of eight, zeros behind them
unfoldable pub filled : ℕ → List ℕ → ℕ → List ℕ
filled k s at = bytes_in k s at ++ replicate (8 - k) 0
