-- The three ends of a LIN message as bytes, which tails are valid, and "the size decides which". Offsets from the
-- tail's start, which is 132 in the body.
use Rattle.std.specs.Prelude.{ℕ, ◌<◌, ◌^◌, ◌≡◌, true, ◌↔◌, List, [], ◌++◌, Float}
use Rattle.std.specs.Float.{binary64}
use Rattle.std.specs.Float.Ieee.{to_bits, fits}
use Rattle.fields.specs.Digits.{le}
use Rattle.lin.specs.declared.tail.Tail.{Tail}
use Rattle.lin.specs.declared.tail.Tail.TheVariants.{Nothing, Response, Rates}

unfoldable pub rates : ℕ → Float → ℕ → ℕ → List ℕ
rates response exact header-stop response-stop =
    le 4 response  --  0
    ++ le 8 (to_bits binary64 exact)  --  4
    ++ le 4 header-stop  -- 12
    ++ le 4 response-stop  -- 16

unfoldable pub tail : Tail → List ℕ
tail Nothing = []
tail (Response response) = le 4 response
tail (Rates response exact header-stop response-stop) = rates response exact header-stop response-stop

-- each number fits its width, and the float its format
abbrev pub FitTail : Tail → Type 0
FitTail Nothing = Unit
FitTail (Response response) = response < 256 ^ 4
FitTail (Rates response exact header-stop response-stop) =
    (response < 256 ^ 4) × (fits binary64 exact ≡ true) × (header-stop < 256 ^ 4) × (response-stop < 256 ^ 4)

-- "The size decides which": the length of a body, and how it ends
pub record Decides (n : ℕ) (t : Tail) : Type 0 where
  pub nothing : (n ≡ 132) ↔ (t ≡ Nothing)
  pub response : (n ≡ 136) ↔ ((response : ℕ) × (t ≡ Response response))
  pub rates : (n ≡ 152)
      ↔ ((response : ℕ) × (exact : Float) × (header-stop : ℕ) × (response-stop : ℕ) × (t ≡ Rates response exact header-stop response-stop))
