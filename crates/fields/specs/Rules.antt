-- What the bytes of a body must be, as lists: reserved bytes are zero, and the content of a field is right. Offsets are
-- the body's.
use Rattle.std.specs.Prelude.{ℕ, ◌+◌, Bool, true, ◌&&◌, List, [], ◌∷◌, map}
use Rattle.fields.specs.Numbers.{part, all_zero}

-- reserved bytes: from which offset on, and how many
pub record Gap : Type 0 where
  pub at : ℕ
  pub many : ℕ

abbrev pub gap : ℕ → ℕ → Gap
gap at many = record { at = at; many = many }

-- the gaps of what stands n bytes further on
abbrev pub shifted : ℕ → List Gap → List Gap
shifted n gs = map (λ g. gap (n + g.at) g.many) gs

-- all of them are zero
abbrev pub blank : List Gap → List ℕ → Bool
blank [] b = true
blank (g ∷ gs) b = all_zero (part g.many b g.at) && blank gs b

-- a field with a rule: its offset, and whether it is right
pub record Rule : Type 0 where
  pub at : ℕ
  pub right : Bool

abbrev pub rule : ℕ → Bool → Rule
rule at right = record { at = at; right = right }

abbrev pub each_right : List Rule → Bool
each_right [] = true
each_right (r ∷ rs) = r.right && each_right rs
