-- Texts put in a buffer, one behind the other. Assumes nothing.
use mathlib.Core.Path.{◌≡◌, sym, subst, ◌∙◌}
use mathlib.Core.List.{List, ◌++◌}
use Prim.Native.Nat.{ℕ, ◌+◌, ◌≤◌, ◌<◌}
use native.Mathlib.Nat.{add_assoc}
use native.Mathlib.Omega.{arith}
use lib.ListN.{length, take, length-append}
use lib.Seq.{length-take-le}
use Rattle.io.specs.Digits.{last_digits, IsDigitCount}
use Rattle.io.specs.Counts.{IsPrefixLen}
use Rattle.fields.proofs.Writing.{then, wrote_length}
use Rattle.listing.specs.Text.{said, Said}
use Rattle.listing.proofs.Decimals.{decimal_short, in_decimal}

pub counts : (n : ℕ) (xs : List ℕ) → n ≤ length xs → IsPrefixLen n xs
counts n xs h = (h, sym (length-take-le n xs h))

-- one text behind another is one text
pub on : {i j e : ℕ} {a b x y z : List ℕ} → Said i a x y j → Said j b y z e → Said i (a ++ b) x z e
on {i} {a = a} {b} s t =
    record { wrote = then s.wrote t.wrote (sym s.ends); ends = t.ends ∙ rw (s.ends, length-append, add_assoc); inside = t.inside }

-- a word, and behind it the fewest digits of n
pub numbered : {at e k n : ℕ} (word d : List ℕ) {x y : List ℕ} → Said at (word ++ take k d) x y e → take k d ≡ last_digits 10 k n → IsDigitCount 10 1 n k
    → n < 18446744073709551616 → Said at (said word n) x y e
unfolding said
numbered {at} {e} {k} {n} word d {x} {y} s q f h = subst (λ (t : List ℕ). Said at (word ++ t) x y e) (q ∙ in_decimal n k f h) s

-- how far a text goes, and that the buffer keeps its length
pub record Room (at n r : ℕ) (x y : List ℕ) : Type 0 where
  pub most : r ≤ at + n
  pub same : length y ≡ length x

pub room : (word : List ℕ) (n : ℕ) {at r : ℕ} {x y : List ℕ} → Said at (said word n) x y r → Room at (length word + 20) r x y
unfolding said
room word n s = record { most = rw (s.ends, length-append) (omega (arith, decimal_short n)); same = wrote_length s.wrote }

-- the contract leaves nothing open
pub one_text : {at e f : ℕ} {bs x y z : List ℕ} → Said at bs x y e → Said at bs x z f → (y ≡ z) × (e ≡ f)
one_text s t = (s.wrote.is ∙ sym t.wrote.is, s.ends ∙ sym t.ends)
