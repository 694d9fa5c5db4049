-- Offsets that rise, of gaps and of rules; and two numbers neither of which is below the other. Assumes nothing.
use mathlib.Core.Path.{◌≡◌, refl}
use mathlib.Core.Bool.{Bool, true, ◌&&◌}
use mathlib.Core.List.{List, [], ◌∷◌, map}
use Prim.Native.Nat.{ℕ, suc, ◌+◌, ◌≤◌, ◌<◌}
use native.Mathlib.Nat.{le_antisymm, le_of_suc-le-suc, lt_of_not-le}
use native.Mathlib.Omega.{arith}
use lib.Dec.{leb}
use borrow.Author.Tests.{leb-true, le-leb}
use Rattle.fields.specs.Rules.{Gap, shifted, Rule}
use Rattle.fields.proofs.Zeros.{both_true}

-- offsets that rise strictly, the first at least m
abbrev pub rising : ℕ → List ℕ → Bool
rising m [] = true
rising m (n ∷ ns) = leb m n && rising (suc n) ns

abbrev pub starts : List Gap → List ℕ
starts gs = map (λ g. g.at) gs

abbrev pub offsets : List Rule → List ℕ
offsets rs = map (λ r. r.at) rs

pub rising_lower : (m n : ℕ) → m ≤ n → (ks : List ℕ) → rising n ks ≡ true → rising m ks ≡ true
rising_lower m n l [] w = refl
rising_lower m n l (k ∷ ks) w =
    let p = both_true (leb n k) (rising (suc k) ks) w in
    let h : n ≤ k = leb-true n k p.0 in
    rw (le-leb m k (omega arith)) p.1

-- gaps that stand further on rise from further on
pub rising_shifted : (n m : ℕ) (gs : List Gap) → rising m (starts gs) ≡ true → rising (n + m) (starts (shifted n gs)) ≡ true
rising_shifted n m [] w = refl
rising_shifted n m (g ∷ gs) w =
    let p = both_true (leb m g.at) (rising (suc g.at) (starts gs)) w in
    let h : m ≤ g.at = leb-true m g.at p.0 in
    let q : suc (n + g.at) ≡ n + suc g.at = omega arith in
    rw (le-leb (n + m) (n + g.at) (omega arith), q) (rising_shifted n (suc g.at) gs p.1)

pub neither : {p q : ℕ} → (p < q → ⊥) → (q < p → ⊥) → p ≡ q
neither f g = le_antisymm (le_of_suc-le-suc (lt_of_not-le g)) (le_of_suc-le-suc (lt_of_not-le f))
