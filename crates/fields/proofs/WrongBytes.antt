-- Where the bytes of the gaps are not all zero the place named is that of the first wrong one. Assumes nothing.
use mathlib.Core.Path.{◌≡◌, refl, sym, ap, ◌∙◌}
use mathlib.Core.Bool.{Bool, true, false, cond, not, ◌&&◌, true≢false}
use mathlib.Core.Logic.{◌↔◌, inl, inr, ⊎_elim}
use mathlib.Core.List.{List, [], ◌∷◌, ◌++◌}
use Prim.Native.Nat.{ℕ, zero, suc, ◌+◌, ◌-◌, ◌≤◌, ◌<◌}
use native.Mathlib.Nat.{lt_of_not-le}
use native.Mathlib.Omega.{arith}
use lib.Dec.{eqb, leb, ltb}
use lib.ListN.{length, drop, get_or, length-take, get_or-eq_default}
use lib.Seq.{get_or-drop, get_or-take, drop-drop}
use borrow.Author.Tests.{eqb-true, eqb-false, leb-true, ltb-false}
use Rattle.std.specs.List.{position, position_or_len}
use Rattle.std.specs.Option.{unwrap_or}
use Rattle.std.specs.Prelude.{Option, Some, None}
use Rattle.std.proofs.lemmas.List.Sums.{prefix_len-le-length}
use Rattle.fields.specs.Numbers.{part, all_zero}
use Rattle.fields.specs.Rules.{Gap, shifted, blank}
use Rattle.fields.specs.Wrong.{leading, wrong_in, wrong_byte, InGap, FirstByte}
use Rattle.fields.proofs.Offsets.{rising, starts, neither}
use Rattle.fields.proofs.Parts.{length_part}
use Rattle.fields.proofs.Zeros.{both_true}

-- a list's first byte that is not zero
record Leads (xs : List ℕ) (n : ℕ) : Type 0 where
  short : n < length xs
  wrong : get_or xs n 0 ≡ 0 → ⊥
  before : (i : ℕ) → i < n → get_or xs i 0 ≡ 0

leads : (xs : List ℕ) → all_zero xs ≡ false → Leads xs (leading xs)
unfolding leading all_zero
leads [] e = absurd (true≢false e)
leads (x ∷ xs) e = pick (eqb x 0) refl e (leads xs)
  where
    pick : (t : Bool) → eqb x 0 ≡ t → (t && all_zero xs) ≡ false → (all_zero xs ≡ false → Leads xs (leading xs)) → Leads (x ∷ xs) (cond t (suc (leading xs)) 0)
    pick true q e h = let p = h e in record { short = omega (arith, p.short); wrong = p.wrong; before = before p.before }
      where
        before : ((i : ℕ) → i < leading xs → get_or xs i 0 ≡ 0) → (i : ℕ) → i < suc (leading xs) → get_or (x ∷ xs) i 0 ≡ 0
        before f zero l = eqb-true x 0 q
        before f (suc i) l = f i (omega arith)
    pick false q e h = record { short = omega arith; wrong = eqb-false x 0 q; before = λ i l. absurd (omega arith) }

leading_all : (xs : List ℕ) → all_zero xs ≡ true → leading xs ≡ length xs
unfolding leading all_zero
leading_all [] e = refl
leading_all (x ∷ xs) e = let p = both_true (eqb x 0) (all_zero xs) e in rw p.0 (ap suc (leading_all xs p.1))

zero_at : (xs : List ℕ) → all_zero xs ≡ true → (i : ℕ) → get_or xs i 0 ≡ 0
unfolding all_zero
zero_at [] e i = refl
zero_at (x ∷ xs) e zero = eqb-true x 0 (both_true (eqb x 0) (all_zero xs) e).0
zero_at (x ∷ xs) e (suc i) = zero_at xs (both_true (eqb x 0) (all_zero xs) e).1 i

-- the same of n bytes at an offset
module _ (b : List ℕ) (at n : ℕ) where
  byte : (i : ℕ) → at ≤ i → i < at + n → get_or b i 0 ≡ get_or (part n b at) (i - at) 0
  byte i l h =
      let k : i ≡ at + (i - at) = omega arith in
      ap (λ (j : ℕ). get_or b j 0) k ∙ sym (get_or-drop at b (i - at) 0) ∙ sym (get_or-take n (drop at b) (i - at) 0 (omega arith))

  gap_zero : all_zero (part n b at) ≡ true → (i : ℕ) → at ≤ i → i < at + n → get_or b i 0 ≡ 0
  gap_zero e i l h = byte i l h ∙ zero_at (part n b at) e (i - at)

  gap_short : all_zero (part n b at) ≡ false → leading (part n b at) < n
  gap_short e = let l : leading (part n b at) < length (part n b at) = (leads (part n b at) e).short in omega (arith, simp length-take at l)

  gap_wrong : all_zero (part n b at) ≡ false → get_or b (at + leading (part n b at)) 0 ≡ 0 → ⊥
  gap_wrong e z =
      (leads (part n b at) e).wrong
      (get_or-take n (drop at b) (leading (part n b at)) 0 (gap_short e) ∙ get_or-drop at b (leading (part n b at)) 0 ∙ z)

  gap_before : all_zero (part n b at) ≡ false → (i : ℕ) → at ≤ i → i < at + leading (part n b at) → get_or b i 0 ≡ 0
  gap_before e i l h = let s = gap_short e in byte i l (omega arith) ∙ (leads (part n b at) e).before (i - at) (omega arith)

-- it is what the library's search for that byte finds
leading_position : (xs : List ℕ) → leading xs ≡ position_or_len (λ x. not (eqb x 0)) xs
unfolding leading
leading_position [] = refl
leading_position (x ∷ xs) = go (eqb x 0) (leading_position xs)
  where
    go : (t : Bool) → leading xs ≡ position_or_len (λ x. not (eqb x 0)) xs → cond t (suc (leading xs)) 0 ≡ cond (not (not t)) (1 + position_or_len (λ x. not (eqb x 0)) xs) 0
    go true e = omega (arith, e)
    go false e = refl

pub leading_found : (xs : List ℕ) (n : ℕ) {o : Option ℕ} {r : ℕ} → length xs ≡ n → o ≡ position (λ x. not (eqb x 0)) xs → r ≡ unwrap_or o n → r ≡ leading xs
leading_found xs n {o} {r} l p e = go (ltb (position_or_len (λ x. not (eqb x 0)) xs) (length xs)) refl p
  where
    go : (t : Bool) → ltb (position_or_len (λ x. not (eqb x 0)) xs) (length xs) ≡ t → o ≡ cond t (Some (position_or_len (λ x. not (eqb x 0)) xs)) None → r ≡ leading xs
    go true h q = e ∙ rw q (sym (leading_position xs))
    go false h q = e ∙ rw q (omega (arith, l, leading_position xs, prefix_len-le-length (λ x. not (not (eqb x 0))) xs, ltb-false _ _ h))

-- there are fewer than n zeros in front exactly where the n bytes are not all zero
module _ (b : List ℕ) (at n later : ℕ) where
  pub wrong_here : leading (part n b at) < n → at + n ≤ length b → wrong_in at n b later ≡ at + leading (part n b at)
  unfolding wrong_in
  wrong_here l k = go (all_zero (part n b at)) refl
    where
      go : (t : Bool) → all_zero (part n b at) ≡ t → cond t later (at + leading (part n b at)) ≡ at + leading (part n b at)
      go true e = absurd (let z : leading (part n b at) ≡ n = leading_all (part n b at) e ∙ length_part n b at k in omega arith)
      go false e = refl

  pub wrong_later : n ≤ leading (part n b at) → wrong_in at n b later ≡ later
  unfolding wrong_in
  wrong_later l = go (all_zero (part n b at)) refl
    where
      go : (t : Bool) → all_zero (part n b at) ≡ t → cond t later (at + leading (part n b at)) ≡ later
      go true e = refl
      go false e = absurd (let s = gap_short b at n e in omega arith)

-- gaps that stand further on are blank where they were
pub blank_shifted : (n : ℕ) (gs : List Gap) (b : List ℕ) → blank (shifted n gs) b ≡ blank gs (drop n b)
blank_shifted n [] b = refl
blank_shifted n (g ∷ gs) b = rw (drop-drop, blank_shifted n gs b)

pub blank_both : (gs hs : List Gap) (b : List ℕ) → blank (gs ++ hs) b ≡ (blank gs b && blank hs b)
blank_both [] hs b = refl
blank_both (g ∷ gs) hs b = go (all_zero (part g.many b g.at)) (blank_both gs hs b)
  where
    go : (t : Bool) → blank (gs ++ hs) b ≡ (blank gs b && blank hs b) → (t && blank (gs ++ hs) b) ≡ ((t && blank gs b) && blank hs b)
    go true e = e
    go false e = refl

pub wrong_both : (gs hs : List Gap) (b : List ℕ) (later : ℕ) → wrong_byte gs b (wrong_byte hs b later) ≡ wrong_byte (gs ++ hs) b later
wrong_both [] hs b later = refl
wrong_both (g ∷ gs) hs b later = ap (wrong_in g.at g.many b) (wrong_both gs hs b later)

-- gaps that rise lie behind where they rise from
above : (gs : List Gap) (m : ℕ) → rising m (starts gs) ≡ true → (i : ℕ) → InGap i gs → m ≤ i
above [] m w i g = absurd g
above (g ∷ gs) m w i (inl h) = let l : m ≤ g.at = leb-true _ _ (both_true _ _ w).0 in omega (arith, h.0)
above (g ∷ gs) m w i (inr h) =
    let p = both_true (leb m g.at) (rising (suc g.at) (starts gs)) w in
    let l : m ≤ g.at = leb-true _ _ p.0 in
    let k = above gs (suc g.at) p.1 i h in
    omega arith

first_byte : (gs : List Gap) (b : List ℕ) (m later : ℕ) → rising m (starts gs) ≡ true → blank gs b ≡ false → FirstByte gs b (wrong_byte gs b later)
unfolding wrong_in
first_byte [] b m later w e = absurd (true≢false e)
first_byte (g ∷ gs) b m later w e =
    let p = both_true (leb m g.at) (rising (suc g.at) (starts gs)) w in
    pick (all_zero (part g.many b g.at)) refl e (above gs (suc g.at) p.1) (first_byte gs b (suc g.at) later p.1)
  where
    pick : (t : Bool) → all_zero (part g.many b g.at) ≡ t → (t && blank gs b) ≡ false
        → ((i : ℕ) → InGap i gs → suc g.at ≤ i) → (blank gs b ≡ false → FirstByte gs b (wrong_byte gs b later))
        → FirstByte (g ∷ gs) b (cond t (wrong_byte gs b later) (g.at + leading (part g.many b g.at)))
    pick true q e a i =
        let f = i e in
        record {
          inside = inr f.inside;
          wrong = f.wrong;
          before = λ j. ⊎_elim (λ (h : (g.at ≤ j) × (j < g.at + g.many)). λ (l : j < wrong_byte gs b later). gap_zero b g.at g.many q j h.0 h.1)
              (λ (h : InGap j gs). λ (l : j < wrong_byte gs b later). f.before j h l);
        }
    pick false q e a i =
        let s = gap_short b g.at g.many q in
        record {
          inside = inl (omega arith, omega arith);
          wrong = gap_wrong b g.at g.many q;
          before = λ j. ⊎_elim {C = j < g.at + leading (part g.many b g.at) → get_or b j 0 ≡ 0}
              (λ (h : (g.at ≤ j) × (j < g.at + g.many)). λ (l : j < g.at + leading (part g.many b g.at)). gap_before b g.at g.many q j h.0 l)
              (λ (h : InGap j gs). λ (l : j < g.at + leading (part g.many b g.at)). let k = a j h in gap_before b g.at g.many q j (omega arith) l);
        }

-- no other place is the first
blank_zero : (gs : List Gap) (b : List ℕ) → blank gs b ≡ true → (i : ℕ) → InGap i gs → get_or b i 0 ≡ 0
blank_zero [] b e i g = absurd g
blank_zero (g ∷ gs) b e i (inl h) = gap_zero b g.at g.many (both_true (all_zero (part g.many b g.at)) (blank gs b) e).0 i h.0 h.1
blank_zero (g ∷ gs) b e i (inr h) = blank_zero gs b (both_true (all_zero (part g.many b g.at)) (blank gs b) e).1 i h

one_byte : (gs : List Gap) (b : List ℕ) (p q : ℕ) → FirstByte gs b p → FirstByte gs b q → p ≡ q
one_byte gs b p q f h = neither (λ l. f.wrong (h.before p f.inside l)) (λ l. h.wrong (f.before q h.inside l))

-- the theorem: the test fails and names a place exactly where that is the first wrong byte
pub byte_exact : (gs : List Gap) (b : List ℕ) (p later : ℕ) → rising 0 (starts gs) ≡ true → ((blank gs b ≡ false) × (wrong_byte gs b later ≡ p)) ↔ FirstByte gs b p
byte_exact gs b p later w = (λ c. rw (← c.1) (first_byte gs b 0 later w c.0), λ f. go f (blank gs b) refl)
  where
    go : FirstByte gs b p → (t : Bool) → blank gs b ≡ t → (blank gs b ≡ false) × (wrong_byte gs b later ≡ p)
    go f true e = absurd (f.wrong (blank_zero gs b e p f.inside))
    go f false e = (e, one_byte gs b (wrong_byte gs b later) p (first_byte gs b 0 later w e) f)

-- a byte that is not zero lies in the list
pub byte_within : {gs : List Gap} {b : List ℕ} {p : ℕ} → FirstByte gs b p → p < length b
byte_within {b = b} f = lt_of_not-le (λ l. f.wrong (get_or-eq_default b 0 l))
