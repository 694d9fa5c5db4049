-- The laws of the tail: what is written is read, what was read is written, and the length decides which it is. Assumes
-- nothing.
use mathlib.Core.Path.{◌≡◌, refl, sym, ap, ◌∙◌}
use mathlib.Core.Bool.{true}
use mathlib.Core.List.{List, [], ◌∷◌}
use mathlib.Core.Logic.{inl, inr, ⊎_elim}
use Prim.Native.Nat.{ℕ, ◌+◌, ◌≤◌}
use native.Mathlib.Nat.{le_of_eq}
use native.Mathlib.Omega.{arith}
use types.Run.{OneOf}
use denote.Enum.Declared.{tag_of}
use lib.Dec.{lit≤}
use lib.ListN.{length}
use lib.Seq.{take_all}
use lib.Ieee.{Float, binary64, to_bits, of_bits}
use lib.Ieee.Bits.{to_bits-lt, to_bits-of_bits, of_bits-to_bits, of_bits-fits, is_true}
use Rattle.fields.specs.Numbers.{Bytes, num}
use Rattle.fields.specs.Digits.{le}
use Rattle.fields.proofs.Numbers.{val_le}
use Rattle.fields.proofs.Reading.{Is, more, got, kept, fits}
use Rattle.headers.specs.Types.{one_of, Has}
use Rattle.lin.specs.declared.tail.Tail.{Tail}
use Rattle.lin.specs.declared.tail.Tail.TheVariants.{Nothing, Response, Rates}
use Rattle.lin.specs.Tail.{rates, tail, FitTail, Decides}
use Rattle.lin.specs.Fields.{tail_of, rate_ok, tail_ok}
use Rattle.lin.specs.contracts.tail.Tail.{the_type}
use Rattle.lin.proofs.RateLaws.{rate_number}

-- the length of a body that ends in t
abbrev pub length_with : List ℕ → ℕ
length_with t = 132 + length t

-- t is as long as a tail
abbrev pub Ends : List ℕ → Type 0
Ends t = Has (one_of 132 136 152) (length_with t)

pub tail_ends : (t : Tail) → Ends (tail t)
unfolding tail rates le
tail_ends Nothing = inl refl
tail_ends (Response r) = inr (inl refl)
tail_ends (Rates r x a b) = inr (inr refl)

pub tail_short : (t : Tail) → length (tail t) ≤ 20
tail_short t = ⊎_elim (λ w. omega arith) (λ u. ⊎_elim (λ w. omega arith) (λ w. omega arith) u) (tail_ends t)

-- what holds of each way to end holds of the tail that bytes are
pub by_length : (t : List ℕ) (P : Tail → Type 0) → Ends t → (length t ≡ 0 → P Nothing) → (length t ≡ 4 → P (Response (num 4 t 0)))
    → (length t ≡ 20 → P (Rates (num 4 t 0) (of_bits binary64 (num 8 t 4)) (num 4 t 12) (num 4 t 16))) → P (tail_of t)
unfolding tail_of
by_length t P ends a b c =
    ⊎_elim (λ (e : length_with t ≡ 132). let l : length t ≡ 0 = omega arith in rw l (a l))
    (λ u. ⊎_elim (λ (e : length_with t ≡ 136). let l : length t ≡ 4 = omega arith in rw l (b l))
    (λ (e : length_with t ≡ 152). let l : length t ≡ 20 = omega arith in rw l (c l)) u) ends

pub tail_back : (t : Tail) → FitTail t → tail_of (tail t) ≡ t
unfolding tail_of tail rates num le
tail_back Nothing f = refl
tail_back (Response r) f = ap Response (val_le 4 r f)
tail_back (Rates r x a b) f =
    let bits = val_le 8 (to_bits binary64 x) (omega (arith, to_bits-lt binary64 x (rw f.1 tt))) in
    let exact = ap (of_bits binary64) bits ∙ of_bits-to_bits binary64 x (rw f.1 tt) in
    λ i. Rates (val_le 4 r f.0 i) (exact i) (val_le 4 a f.2 i) (val_le 4 b f.3 i)

empty : (t : List ℕ) → length t ≡ 0 → [] ≡ t
empty [] h = refl
empty (x ∷ t) h = absurd (omega arith)

-- bytes that are as long as a tail
module _ (t : List ℕ) (bs : Bytes t) (ends : Ends t) where
  -- four numbers are the bytes they were read from where the bits of the second are kept
  is_rates : 20 ≤ length t → rate_ok (of_bits binary64 (num 8 t 4)) ≡ true
      → Is t 0 20 (rates (num 4 t 0) (of_bits binary64 (num 8 t 4)) (num 4 t 12) (num 4 t 16))
  unfolding rates
  is_rates n z =
      let g = got t bs 20 n in
      let bits = to_bits-of_bits binary64 (num 8 t 4) (omega (arith, fits t bs 20 n 8 4 (lit≤ tt))) (rate_number _ z) in
      more (more (more (g 4 0 (lit≤ tt)) (kept t bs 20 n 8 4 (lit≤ tt) (sym bits)) refl) (g 4 12 (lit≤ tt)) refl) (g 4 16 (lit≤ tt)) refl

  pub tail_forth : tail_ok (tail_of t) ≡ true → tail (tail_of t) ≡ t
  unfolding tail
  tail_forth =
      by_length t (λ x. tail_ok x ≡ true → tail x ≡ t) ends
      (λ l z. empty t l)
      (λ l z. (got t bs 4 (le_of_eq (sym l)) 4 0 (lit≤ tt)).is ∙ take_all 4 t (le_of_eq l))
      (λ l z. (is_rates (le_of_eq (sym l)) z).is ∙ take_all 20 t (le_of_eq l))

  pub tail_fit : FitTail (tail_of t)
  tail_fit =
      by_length t FitTail ends
      (λ l. tt)
      (λ l. fits t bs 4 (le_of_eq (sym l)) 4 0 (lit≤ tt))
      (λ l. let g = fits t bs 20 (le_of_eq (sym l)) in (g 4 0 (lit≤ tt), is_true _ (of_bits-fits binary64 (num 8 t 4)), g 4 12 (lit≤ tt), g 4 16 (lit≤ tt)))

-- the bytes of the three ways to end

pub length_response : {t : Tail} {r : ℕ} → t ≡ Response r → length (tail t) ≡ 4
unfolding tail le
length_response e = rw e refl

pub length_rates : {t : Tail} {r : ℕ} {x : Float} {a b : ℕ} → t ≡ Rates r x a b → length (tail t) ≡ 20
unfolding tail rates le
length_rates e = rw e refl

pub same_length : (t : List ℕ) → Ends t → length (tail (tail_of t)) ≡ length t
unfolding tail rates le
same_length t ends = by_length t (λ x. length (tail x) ≡ length t) ends sym sym sym

-- the length of a tail tells its way to end
ways : (t : Tail) → (length (tail t) ≡ 0 → t ≡ Nothing) × (length (tail t) ≡ 4 → (r : ℕ) × (t ≡ Response r))
    × (length (tail t) ≡ 20 → (r : ℕ) × (x : Float) × (a : ℕ) × (b : ℕ) × (t ≡ Rates r x a b))
unfolding tail rates le
ways Nothing = (λ e. refl, λ e. absurd (omega arith), λ e. absurd (omega arith))
ways (Response r) = (λ e. absurd (omega arith), λ e. (r, refl), λ e. absurd (omega arith))
ways (Rates r x a b) = (λ e. absurd (omega arith), λ e. absurd (omega arith), λ e. (r, x, a, b, refl))

pub decides : (n : ℕ) (t : Tail) → n ≡ length_with (tail t) → Decides n t
unfolding tail rates le
decides n t l =
    let w = ways t in
    record {
      nothing = (λ (e : n ≡ 132). w.0 (omega arith), back);
      response = (λ (e : n ≡ 136). w.1 (omega arith), λ p. back p.1);
      rates = (λ (e : n ≡ 152). w.2 (omega arith), λ p. back p.4);
    }
  where
    back : {x : Tail} → t ≡ x → n ≡ length_with (tail x)
    back e = l ∙ ap (λ (x : Tail). length_with (tail x)) e

-- a match that names the rates leaves the other two
pub no_rates : (t : Tail) → OneOf (0 ∷ 1 ∷ []) (tag_of the_type t) → true ≡ tail_ok t
no_rates Nothing q = refl
no_rates (Response r) q = refl
no_rates (Rates r x a b) q = absurd (⊎_elim (λ w. omega arith) (λ w. omega arith) q)
