-- What is right: every entry is an object's start, size and type; every object stands on exactly one slip, once.
use Rattle.std.specs.Prelude.{ℕ, ◌+◌, ◌≡◌, Bool, cond, ◌&&◌, List, [], ◌∷◌, ◌⊎◌, eqb}
use Rattle.objects.specs.declared.Entry.{Entry}
use Rattle.objects.specs.Named.{In}
use Rattle.slips.specs.Cut.{Slip}

-- the entries, slip by slip
abbrev pub entries_on : List Slip → List (List Entry)
entries_on [] = []
entries_on (s ∷ ss) = s.entries ∷ entries_on ss

-- e stands on one of the slips
abbrev pub On : Entry → List (List Entry) → Type 0
On e [] = ⊥
On e (s ∷ ss) = In e s ⊎ On e ss

abbrev pub same : Entry → Entry → Bool
same e x = eqb e.start x.start && eqb e.size x.size && eqb e.kind x.kind

-- how often e stands on a slip, and on all slips
abbrev pub times : Entry → List Entry → ℕ
times e [] = 0
times e (x ∷ xs) = cond (same e x) 1 0 + times e xs

abbrev pub times_all : Entry → List (List Entry) → ℕ
times_all e [] = 0
times_all e (s ∷ ss) = times e s + times_all e ss

pub record Right (os : List Entry) (ss : List (List Entry)) : Type 0 where
  pub named : (e : Entry) → On e ss → In e os
  pub once : (o : Entry) → In o os → times_all o ss ≡ 1
