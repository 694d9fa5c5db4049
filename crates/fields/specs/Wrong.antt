-- W-205: the first wrong byte of a list of gaps, and the first faulty field of a list of rules. They go over the lists
-- that the tests go over. What is computed is the first: `byte_exact` of proofs/WrongBytes, `field_exact` of
-- proofs/WrongFields.
use Rattle.std.specs.Prelude.{ℕ, suc, ◌+◌, ◌≤◌, ◌<◌, ◌≡◌, false, cond, ◌⊎◌, List, [], ◌∷◌, eqb, get_or}
use Rattle.fields.specs.Numbers.{part, all_zero}
use Rattle.fields.specs.Rules.{Gap, Rule}

-- how many zeros stand in front: the offset of the first byte that is not zero, or the length where there is none
unfoldable pub leading : List ℕ → ℕ
leading [] = 0
leading (x ∷ xs) = cond (eqb x 0) (suc (leading xs)) 0

-- the first of n bytes at an offset that is not zero; where all are zero, what the later gaps say
unfoldable pub wrong_in : ℕ → ℕ → List ℕ → ℕ → ℕ
wrong_in at n b later = cond (all_zero (part n b at)) later (at + leading (part n b at))

abbrev pub wrong_byte : List Gap → List ℕ → ℕ → ℕ
wrong_byte [] b later = later
wrong_byte (g ∷ gs) b later = wrong_in g.at g.many b (wrong_byte gs b later)

-- the first field that is not right, or 0
abbrev pub wrong_field : List Rule → ℕ
wrong_field [] = 0
wrong_field (r ∷ rs) = cond r.right (wrong_field rs) r.at

-- an offset of a byte of the gaps
abbrev pub InGap : ℕ → List Gap → Type 0
InGap i [] = ⊥
InGap i (g ∷ gs) = ((g.at ≤ i) × (i < g.at + g.many)) ⊎ InGap i gs

-- p is the first wrong byte: a byte of the gaps that is not zero, and every byte of the gaps before it is zero
pub record FirstByte (gs : List Gap) (b : List ℕ) (p : ℕ) : Type 0 where
  pub inside : InGap p gs
  pub wrong : get_or b p 0 ≡ 0 → ⊥
  pub before : (i : ℕ) → InGap i gs → i < p → get_or b i 0 ≡ 0

-- the field at an offset is not right
abbrev pub Faulty : ℕ → List Rule → Type 0
Faulty i [] = ⊥
Faulty i (r ∷ rs) = ((r.at ≡ i) × (r.right ≡ false)) ⊎ Faulty i rs

-- p is the first faulty field: it is not right, and every field before it is
pub record FirstField (rs : List Rule) (p : ℕ) : Type 0 where
  pub faulty : Faulty p rs
  pub before : (i : ℕ) → i < p → Faulty i rs → ⊥
