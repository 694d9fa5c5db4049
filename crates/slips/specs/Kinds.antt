-- How many entries of a type there are.
use Rattle.std.specs.Prelude.{ℕ, ◌+◌, cond, List, [], ◌∷◌, eqb}
use Rattle.objects.specs.declared.Entry.{Entry}

abbrev pub kinds : ℕ → List Entry → ℕ
kinds t [] = 0
kinds t (e ∷ es) = cond (eqb e.kind t) 1 0 + kinds t es

-- over all slips
abbrev pub kinds_all : ℕ → List (List Entry) → ℕ
kinds_all t [] = 0
kinds_all t (s ∷ ss) = kinds t s + kinds_all t ss
