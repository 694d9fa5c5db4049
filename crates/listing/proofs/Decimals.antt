-- The fewest digits that hold a number of 64 bits are its decimal, and there are at most twenty. Assumes nothing.
use mathlib.Core.Path.{◌≡◌, ap}
use mathlib.Core.Bool.{Bool, true, false, cond}
use mathlib.Core.List.{List, [], ◌∷◌, ◌++◌}
use Prim.Native.Nat.{ℕ, zero, suc, ◌*◌, ◌-◌, ◌/◌, ◌%◌, ◌^◌, ◌≤◌, ◌<◌}
use native.Mathlib.Nat.{pow-suc, one-le-pow, lt_of_not-le, pow-le-pow_right}
use native.Mathlib.Omega.{arith}
use native.Mathlib.Numerals.{unary_clauses}
use borrow.Author.Tests.{lt-ltb, le-ltb}
use lib.ListN.{length, length-append}
use lib.Dec.{ltb}
use Rattle.io.specs.Digits.{hex_digit_ascii, last_digits, IsDigitCount}
use Rattle.listing.specs.Text.{spell, decimal}

spelled : (f k n : ℕ) → 1 ≤ k → n < 10 ^ k → (1 < k → 10 ^ (k - 1) ≤ n) → k ≤ f → last_digits 10 k n ≡ spell f n
spelled f zero n l u s h = absurd (omega arith)
spelled zero (suc k) n l u s h = absurd (omega arith)
spelled (suc f) (suc zero) n l u s h =
    let v : n < 10 = u in
    let m : n % 10 ≡ n = omega arith in
    rw (m, lt-ltb n 10 v)
spelled (suc f) (suc (suc k)) n l u s h =
    let q : 1 ≤ 10 ^ k = one-le-pow k 10 (omega arith) in
    let p : 10 ^ k * 10 ≤ n = simp unary_clauses at s (omega arith) in
    let u2 : n < 10 ^ suc k * 10 = rw pow-suc at u in
    let ten : 10 ≤ n = omega arith in
    let a : n / 10 < 10 ^ suc k = omega arith in
    let b : 10 ^ k ≤ n / 10 = omega arith in
    rw (le-ltb n 10 ten) (ap (λ (t : List ℕ). t ++ (hex_digit_ascii (n % 10) ∷ [])) (spelled f (suc k) (n / 10) (omega arith) a (λ _. simp unary_clauses b) (omega arith)))

short : (k n : ℕ) (b : Bool) → length (spell k (n / 10)) ≤ k → length (cond b (hex_digit_ascii n ∷ []) (spell k (n / 10) ++ (hex_digit_ascii (n % 10) ∷ []))) ≤ suc k
short k n true h = omega arith
short k n false h = rw length-append (omega arith)

spell_short : (k n : ℕ) → length (spell k n) ≤ k
spell_short zero n = omega arith
spell_short (suc k) n = short k n (ltb n 10) (spell_short k (n / 10))

pub decimal_short : (n : ℕ) → length (decimal n) ≤ 20
unfolding decimal
decimal_short n = spell_short 20 n

module _ (n k : ℕ) (f : IsDigitCount 10 1 n k) (h : n < 18446744073709551616) where
  pub twenty : k < 21
  twenty =
      lt_of_not-le
      (λ (l : 21 ≤ k).
      let p : 10 ^ (k - 1) ≤ n = f.2 (omega arith) in
      let q : 100000000000000000000 ≤ 10 ^ (k - 1) = pow-le-pow_right {n = 10} (omega arith) {i = 20} {j = k - 1} (omega arith) in
      omega arith)

  pub in_decimal : last_digits 10 k n ≡ decimal n
  unfolding decimal
  in_decimal = spelled 20 k n f.0 f.1 f.2 (omega (arith, twenty))
