-- The two ways of a lent slice: too short, or with the values at its front; and of a slice that is filled beside it.
-- Assumes nothing.
use Prim.Native.Nat.{ℕ, ◌<◌, ◌≤◌}
use mathlib.Core.Path.{◌≡◌, refl, sym, ap, ◌∙◌}
use mathlib.Core.List.{List, ◌++◌}
use lib.ListN.{length, drop}
use Rattle.std.specs.Prelude.{Err}
use lib.Seq.{sets}
use borrow.Author.Tests.{le-leb, lt-leb}
use Rattle.fields.proofs.Writing.{front}
use Rattle.outcomes.specs.Answers.{Written, Used}
use Rattle.outcomes.specs.Replies.{written_reply}
use Rattle.exported.specs.Replies.{Reply, reply, lent, Filled, told_of}

pub too_short : (t : Reply) (xs : List ℕ) → length xs < length t.values → reply 10 xs ≡ lent t xs
unfolding lent
too_short t xs h = rw (lt-leb _ _ h)

pub room : (t : Reply) (xs : List ℕ) → length t.values ≤ length xs → reply t.number (sets xs 0 t.values) ≡ lent t xs
unfolding lent
room t xs h = rw (le-leb _ _ h)

-- n values copied to the front
pub told : (number n : ℕ) (vs xs q : List ℕ) → length vs ≡ n → n ≤ length xs → q ≡ vs → reply number (q ++ drop n xs) ≡ lent (reply number vs) xs
told number n vs xs q l h e =
    let stored : sets xs 0 vs ≡ vs ++ drop n xs = front n (record { is = refl }) l h in
    ap (reply number) (rw (e, stored)) ∙ room (reply number vs) xs (rw l h)

module _ {t : Reply} {z x us : List ℕ} where
  pub unfilled : length us < length t.values → Filled t z 10 x x us us
  unfilled h = record { told = too_short t us h; filled = rw (lt-leb _ _ h) }

  pub filled : {r : ℕ} {y vs : List ℕ} → length t.values ≤ length us → y ≡ z → reply r vs ≡ lent t us → Filled t z r x y us vs
  filled h e told = record { told = told; filled = rw (le-leb _ _ h) e }

-- one value is told of a count
one : (w : Written) → length (told_of (written_reply w)).values ≡ 1
one (Used n) = refl
one (Err r) = refl

module _ (w : Written) {z x us : List ℕ} where
  pub uncounted : length us < 1 → Filled (told_of (written_reply w)) z 10 x x us us
  uncounted h = unfilled (rw (one w) h)

  pub counted : {a : Written} {r : ℕ} {y vs : List ℕ} → 1 ≤ length us → a ≡ w → y ≡ z → reply r vs ≡ lent (told_of (written_reply a)) us → Filled (told_of (written_reply w)) z r x y us vs
  counted h e f told = filled (rw (one w) h) f (rw e at told)

-- the contract of such a call determines the number, the slice and the lent numbers
pub one_filled : {t : Reply} {z : List ℕ} {r r' : ℕ} {x y y' us vs vs' : List ℕ} → Filled t z r x y us vs → Filled t z r' x y' us vs' → (r ≡ r') × (y ≡ y') × (vs ≡ vs')
one_filled a b =
    let e = a.told ∙ sym b.told in
    (ap (λ (q : Reply). q.number) e, a.filled ∙ sym b.filled, ap (λ (q : Reply). q.values) e)
