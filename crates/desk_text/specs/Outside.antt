-- 01, "Two programs": "Before `accepted` it tests each entry's end against the log's length".
use Rattle.std.specs.Prelude.{ℕ, ◌+◌, ◌≡◌, Bool, false, ◌||◌, List, [], ◌∷◌, ltb}
use Rattle.objects.specs.declared.Entry.{Entry}
use Rattle.slips.specs.Cut.{Slip, Cut, Slips, Fault, cut_of}

-- one of the entries ends past a log of that length
abbrev pub past : ℕ → List Entry → Bool
past len [] = false
past len (e ∷ es) = ltb len (e.start + e.size) || past len es

abbrev pub past_on : ℕ → List Slip → Bool
past_on len [] = false
past_on len (s ∷ ss) = past len s.entries || past_on len ss

abbrev pub past_in : ℕ → Cut → Bool
past_in len (Slips ss) = past_on len ss
past_in len (Fault k p) = false

unfoldable pub outside_of : ℕ → List ℕ → Bool
outside_of len b = past_in len (cut_of b)

-- b is a bundle of slips
pub record Cuts (b : List ℕ) : Type 0 where
  pub slips : List Slip
  pub is : cut_of b ≡ Slips slips
