-- What the loop of the list knows: the list from the cursor on, with n objects listed, is the whole list. Assumes
-- nothing.
use Prim.Native.Nat.{ℕ, zero, suc, ◌+◌, ◌*◌, ◌/◌, ◌<◌, ◌≤◌}
use mathlib.Core.Path.{◌≡◌, refl, ap, ◌∙◌}
use mathlib.Core.List.{List, [], ◌∷◌}
use native.Mathlib.Nat.{zero-add}
use native.Mathlib.Omega.{arith}
use lib.ListN.{length}
use lib.Seq.{sets}
use Rattle.objects.specs.Answers.{Done, Refused}
use Rattle.objects.specs.Next.{next_at}
use Rattle.objects.specs.Stepping.{Met, met_from}
use Rattle.exported.specs.Lists.{Listing, listed, number_for, place_for, numbers, list_of, list_reply}
use Rattle.exported.specs.Replies.{reply, lent, Filled}
use Rattle.exported.proofs.Lending.{unfilled, filled}

-- what is met behind n objects, listed in xs
abbrev pub after : ℕ → List ℕ → Met → Listing
after n xs m = listed (number_for m.ended) (n + length m.objects) m.at (place_for m.ended) (sets xs (3 * n) (numbers m.objects))

pub record Entering (s : List ℕ) (from : ℕ) (xs ys : List ℕ) (at n : ℕ) : Type 0 where
  pub left : ℕ
  pub all : n + left ≡ length xs / 3
  pub long : length ys ≡ length xs
  pub same : after n ys (met_from left s at) ≡ list_of s from xs

pub entering_none : (s : List ℕ) (from : ℕ) (xs : List ℕ) → Entering s from xs xs from 0
unfolding list_of
entering_none s from xs = record { left = length xs / 3; all = zero-add _; long = refl; same = rw zero-add }

module _ (s : List ℕ) (from : ℕ) (xs ys : List ℕ) (at n : ℕ) where
  -- nothing is met behind them
  whole : n ≡ n + 0
  whole = omega arith

  -- the ways by what is left
  module _ (h : n < length xs / 3) where
    done : (left : ℕ) → n + left ≡ length xs / 3 → after n ys (met_from left s at) ≡ list_of s from xs → (next_at s at).answer ≡ Done → listed 100 n at 0 ys ≡ list_of s from xs
    done zero e q f = absurd (omega arith)
    done (suc left) e q f = (λ i. listed 100 (whole i) at 0 ys) ∙ rw f at q

    refused : (left number place : ℕ) → n + left ≡ length xs / 3 → after n ys (met_from left s at) ≡ list_of s from xs → (next_at s at).answer ≡ Refused number place
        → listed number n at place ys ≡ list_of s from xs
    refused zero number place e q f = absurd (omega arith)
    refused (suc left) number place e q f = (λ i. listed number (whole i) at place ys) ∙ rw f at q

  full : (left : ℕ) → n + left ≡ length xs / 3 → after n ys (met_from left s at) ≡ list_of s from xs → length xs / 3 ≤ n → listed 0 n at 0 ys ≡ list_of s from xs
  full zero e q h = (λ i. listed 0 (whole i) at 0 ys) ∙ q
  full (suc left) e q h = absurd (omega arith)

  -- the ways out of the loop
  module _ (w : Entering s from xs ys at n) where
    pub list_full : length xs / 3 ≤ n → listed 0 n at 0 ys ≡ list_of s from xs
    list_full h = full w.left w.all w.same h

    module _ (h : n < length xs / 3) where
      pub list_done : (next_at s at).answer ≡ Done → listed 100 n at 0 ys ≡ list_of s from xs
      list_done f = done h w.left w.all w.same f

      pub list_refused : {number place : ℕ} → (next_at s at).answer ≡ Refused number place → listed number n at place ys ≡ list_of s from xs
      list_refused f = refused h w.left _ _ w.all w.same f

-- the whole call, once the list is made
module _ (s : List ℕ) (at : ℕ) (xs us : List ℕ) where
  pub unlisted : length us < 3 → Filled (list_reply (list_of s at xs)) (list_of s at xs).entries 10 xs xs us us
  unlisted h = unfilled h

  pub all_listed : {number count on place r : ℕ} {ys vs : List ℕ} → 3 ≤ length us → listed number count on place ys ≡ list_of s at xs → reply r vs ≡ lent (reply number (count ∷ on ∷ place ∷ [])) us
      → Filled (list_reply (list_of s at xs)) (list_of s at xs).entries r xs ys us vs
  all_listed h e told = filled h (ap (λ (l : Listing). l.entries) e) (told ∙ ap (λ (l : Listing). lent (list_reply l) us) e)
