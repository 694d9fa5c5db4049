-- Which times can be told: those of a stamp of 64 bits in one of the two units. Assumes nothing.
use mathlib.Core.Path.{◌≡◌, refl, sym, subst}
use mathlib.Core.Bool.{Bool, true, false, ◌&&◌, ◌||◌, false≢true}
use mathlib.Core.Logic.{◌↔◌}
use Prim.Native.Nat.{ℕ, ◌+◌, ◌*◌, ◌/◌, ◌%◌, ◌<◌}
use native.Mathlib.Omega.{arith}
use borrow.Author.Tests.{ltb-true, eqb-true}
use lib.Dec.{ltb, eqb}
use Rattle.std.proofs.lemmas.Bool.Decides.{nat_tests}
use Rattle.headers.specs.Format.{unit_ok}
use Rattle.asc_lines.specs.Reading.{possible_time}
use Rattle.asc.specs.Tells.{seconds_of, nanos_of}
use Rattle.asc.specs.Lines.{Stamped}

-- the two units
pub units : (P : ℕ → Type 0) → P 1 → P 2 → (u : ℕ) → unit_ok u ≡ true → P u
unfolding unit_ok
units P a b u e = go (eqb u 1) (eqb u 2) refl refl e
  where
    go : (x y : Bool) → eqb u 1 ≡ x → eqb u 2 ≡ y → (x || y) ≡ true → P u
    go true y p q z = subst P (sym (eqb-true u 1 p)) a
    go false true p q z = subst P (sym (eqb-true u 2 q)) b
    go false false p q z = absurd (false≢true z)

-- fifteen digits hold its seconds, nine its nanoseconds
pub record Low (u x : ℕ) : Type 0 where
  pub seconds : seconds_of u x < 1000000000000000
  pub nanos : nanos_of u x < 1000000000

pub stamp_low : (u x : ℕ) → unit_ok u ≡ true → x < 18446744073709551616 → Low u x
unfolding seconds_of nanos_of
stamp_low u x e h =
    units (λ v. Low v x) (record { seconds = omega arith; nanos = omega arith }) (record { seconds = omega arith; nanos = omega arith }) u e

module _ (s n : ℕ) where
  nanos_stamp : n < 1000000000 → s * 1000000000 + n < 18446744073709551616 → Stamped s n
  unfolding unit_ok seconds_of nanos_of
  nanos_stamp h k = record { unit = 2; stamp = s * 1000000000 + n; known = refl; fits = k; whole = omega arith; over = omega arith }

  tens_stamp : n < 1000000000 → n % 10000 ≡ 0 → s * 100000 + n / 10000 < 18446744073709551616 → Stamped s n
  unfolding unit_ok seconds_of nanos_of
  tens_stamp h d k = record { unit = 1; stamp = s * 100000 + n / 10000; known = refl; fits = k; whole = omega arith; over = omega arith }

  possible_stamped : possible_time s n ≡ true → Stamped s n
  unfolding possible_time
  possible_stamped e =
      cases (ltb n 1000000000) (ltb (s * 1000000000 + n) 18446744073709551616) (eqb (n % 10000) 0) (ltb (s * 100000 + n / 10000) 18446744073709551616) refl refl refl refl e
    where
      cases : (a b c d : Bool) → ltb n 1000000000 ≡ a → ltb (s * 1000000000 + n) 18446744073709551616 ≡ b → eqb (n % 10000) 0 ≡ c
          → ltb (s * 100000 + n / 10000) 18446744073709551616 ≡ d → (a && (b || (c && d))) ≡ true → Stamped s n
      cases true true c d p q u v z = nanos_stamp (ltb-true n 1000000000 p) (ltb-true _ _ q)
      cases true false true true p q u v z = tens_stamp (ltb-true n 1000000000 p) (eqb-true _ _ u) (ltb-true _ _ v)
      cases true false true false p q u v z = absurd (false≢true z)
      cases true false false d p q u v z = absurd (false≢true z)
      cases false b c d p q u v z = absurd (false≢true z)

tens_possible : (s n : ℕ) → n < 1000000000 → n % 10000 ≡ 0 → s * 100000 + n / 10000 < 18446744073709551616 → possible_time s n ≡ true
unfolding possible_time
tens_possible s n h d k = grind (arith, nat_tests)

nanos_possible : (s n : ℕ) → n < 1000000000 → s * 1000000000 + n < 18446744073709551616 → possible_time s n ≡ true
unfolding possible_time
nanos_possible s n h k = grind (arith, nat_tests)

-- the time of a stamp can be told
pub stamp_possible : (u x : ℕ) → unit_ok u ≡ true → x < 18446744073709551616 → possible_time (seconds_of u x) (nanos_of u x) ≡ true
unfolding seconds_of nanos_of
stamp_possible u x e h =
    units (λ v. possible_time (seconds_of v x) (nanos_of v x) ≡ true)
    (tens_possible (x / 100000) (x % 100000 * 10000) (omega arith) (omega arith) (omega arith))
    (nanos_possible (x / 1000000000) (x % 1000000000) (omega arith) (omega arith)) u e

-- a time can be told exactly when a stamp of 64 bits has it in one of the two units
pub possible_time_exact : (s n : ℕ) → (possible_time s n ≡ true) ↔ Stamped s n
possible_time_exact s n = (
  possible_stamped s n,
  λ t. subst (λ (x : ℕ). possible_time x n ≡ true) t.whole
      (subst (λ (y : ℕ). possible_time (seconds_of t.unit t.stamp) y ≡ true) t.over (stamp_possible t.unit t.stamp t.known t.fits)),
)
