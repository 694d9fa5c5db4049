-- What an answer of the check claims; it is given exactly where its claim holds (proofs/Theorems/Verdicts).
use Rattle.std.specs.Prelude.{ℕ, ◌≤◌, ◌≡◌, List, length}
use Rattle.objects.specs.Answers as walked
use Rattle.objects.specs.Walk.{walk_of}
use Rattle.objects.specs.Logs.{LogOf}
use Rattle.objects.specs.Named.{entries_of}
use Rattle.slips.specs.Cut.{Slip}
use Rattle.slips.specs.Bundle.{BundleOf}
use Rattle.slips.specs.Right.{entries_on, Right}
use Rattle.slips.specs.Trouble.{Found, First}

-- 28: the most bytes of a log
abbrev pub longest : ℕ
longest = 4294967295

-- a log of allowed length and a bundle by the rule
pub record Formed (s b : List ℕ) : Type 0 where
  pub short : length s ≤ longest
  pub objects : List (List ℕ)
  pub log : LogOf s objects
  pub slips : List Slip
  pub bundle : BundleOf b slips

-- refused by one of the log's own numbers: the walk's, with its place
pub record LogRefused (s b : List ℕ) (k p : ℕ) : Type 0 where
  pub short : length s ≤ longest
  pub slips : List Slip
  pub bundle : BundleOf b slips
  pub walk : walk_of s ≡ walked.Refused k p

-- accepted with n objects: the log is well formed with n objects, the slips are at most eight by the rule, and all is
-- right
pub record Honest (s b : List ℕ) (n : ℕ) : Type 0 where
  pub formed : Formed s b
  pub many : length formed.objects ≡ n
  pub right : Right (entries_of 0 formed.objects) (entries_on formed.slips)

-- refused by k, one of 25 to 27, at x: the smallest start in trouble, and the first number that applies there
pub record Troubled (s b : List ℕ) (k x : ℕ) : Type 0 where
  pub formed : Formed s b
  pub first : First (entries_of 0 formed.objects) (entries_on formed.slips) (Found k x)
