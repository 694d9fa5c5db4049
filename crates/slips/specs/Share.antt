-- The honest bundle: the objects of a log shared out among at most eight desks, whose bytes rise; some may have none.
use Rattle.std.specs.Prelude.{ℕ, ◌+◌, ◌<◌, ◌≤◌, ◌≡◌, cond, List, [], ◌∷◌, ◌⊎◌, length, eqb}
use Rattle.fields.specs.Numbers.{Bytes}
use Rattle.objects.specs.declared.Entry.{Entry}
use Rattle.objects.specs.Named.{In}
use Rattle.slips.specs.Verdicts.{Accepted}
use Rattle.slips.specs.Cut.{Slip, slip_limit}
use Rattle.slips.specs.Check.{check_of}

-- the objects of desk d, where `who` says whose an object is
abbrev pub picks : (Entry → ℕ) → ℕ → List Entry → List Entry
picks who d [] = []
picks who d (o ∷ os) = cond (eqb (who o) d) (o ∷ picks who d os) (picks who d os)

-- a slip for each desk
abbrev pub share : (Entry → ℕ) → List ℕ → List Entry → List Slip
share who [] os = []
share who (d ∷ ds) os = record { desk = d; entries = picks who d os } ∷ share who ds os

-- k is one of the desks
abbrev pub Among : ℕ → List ℕ → Type 0
Among k [] = ⊥
Among k (d ∷ ds) = (k ≡ d) ⊎ Among k ds

-- desks are bytes and rise, the first is at least `least`
abbrev pub Desks : ℕ → List ℕ → Type 0
Desks least [] = Unit
Desks least (d ∷ ds) = (least ≤ d) × (d < 256) × Desks (d + 1) ds

pub record Sharing (who : Entry → ℕ) (ds : List ℕ) (os : List Entry) : Type 0 where
  pub few : length ds ≤ slip_limit
  pub desks : Desks 0 ds
  pub all : (o : Entry) → In o os → Among (who o) ds

-- the bundle is bytes, and accepted with as many objects as the log has
pub record Passes (s : List ℕ) (is : List (List ℕ)) (b : List ℕ) : Type 0 where
  pub bytes : Bytes b
  pub accepted : check_of s b ≡ Accepted (length is)
