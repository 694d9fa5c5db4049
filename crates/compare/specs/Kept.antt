-- What the functions of the sheet promise: r is a place in the buffer, whose length is as it was.
use Rattle.std.specs.Prelude.{ℕ, ◌≤◌, ◌≡◌, List, length}

abbrev pub Kept : ℕ → List ℕ → List ℕ → Type 0
Kept r x y = (r ≤ length y) × (length y ≡ length x)
