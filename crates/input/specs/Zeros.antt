-- A buffer of n zero bytes. The length follows from the bytes, and stands here for those who lend the buffer.
use Rattle.std.specs.Prelude.{ℕ, ◌≡◌, List, length, replicate}

pub record Zeros (n : ℕ) (r : List ℕ) : Type 0 where
  pub long : n ≡ length r
  pub zero : r ≡ replicate n 0
