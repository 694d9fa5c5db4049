-- The slips of a sharing-out: they are by the rule, and each object stands on its desk's slip, once, and on no other.
-- Assumes nothing.
use mathlib.Core.Path.{◌≡◌, refl, ap, ◌∙◌}
use mathlib.Core.Bool.{Bool, true, false, cond}
use mathlib.Core.List.{List, [], ◌∷◌}
use mathlib.Core.Logic.{inl, inr, ⊎_elim}
use Prim.Native.Nat.{ℕ, suc, ◌+◌, ◌*◌, ◌<◌, ◌≤◌}
use native.Mathlib.Omega.{arith}
use borrow.Author.Tests.{eq-eqb, ne_eqb}
use lib.ListN.{length}
use lib.Dec.{eqb}
use Rattle.objects.specs.declared.Entry.{Entry}
use Rattle.objects.specs.Named.{In}
use Rattle.objects.specs.Rising.{Above, Rising}
use Rattle.slips.specs.Bundle.{AllFit, AllByRule}
use Rattle.slips.specs.Right.{entries_on, On, same, times, times_all}
use Rattle.slips.specs.Share.{picks, share, Among, Desks}
use Rattle.slips.proofs.Trouble.Entries.{same_self, same_other, in_above, times_above}

-- an object is picked or not
either : (P : List Entry → Type 0) (t : Bool) (o : Entry) (l : List Entry) → P (o ∷ l) → P l → P (cond t (o ∷ l) l)
either P true o l p q = p
either P false o l p q = q

module _ (who : Entry → ℕ) (d : ℕ) where
  picks_in : (e : Entry) (os : List Entry) → In e (picks who d os) → In e os
  picks_in e [] = λ i. i
  picks_in e (o ∷ os) =
      either (λ l. In e l → In e (o ∷ os)) (eqb (who o) d) o (picks who d os)
      (⊎_elim (λ q. inl q) (λ j. inr (picks_in e os j))) (λ j. inr (picks_in e os j))

  picks_above : (k : ℕ) (os : List Entry) → Above k os → Above k (picks who d os)
  picks_above k [] w = tt
  picks_above k (o ∷ os) w = let ih = picks_above k os w.1 in either (Above k) (eqb (who o) d) o (picks who d os) (w.0, ih) ih

  picks_rise : (os : List Entry) → Rising os → Rising (picks who d os)
  picks_rise [] w = tt
  picks_rise (o ∷ os) w =
      let ih = picks_rise os w.1 in either Rising (eqb (who o) d) o (picks who d os) (picks_above o.start os w.0, ih) ih

  picks_fit : (os : List Entry) → AllFit os → AllFit (picks who d os)
  picks_fit [] w = tt
  picks_fit (o ∷ os) w = let ih = picks_fit os w.1 in either AllFit (eqb (who o) d) o (picks who d os) (w.0, ih) ih

  picks_length : (os : List Entry) → length (picks who d os) ≤ length os
  picks_length [] = omega arith
  picks_length (o ∷ os) =
      let ih = picks_length os in either (λ l. length l ≤ suc (length os)) (eqb (who o) d) o (picks who d os) (omega arith) (omega arith)

  -- an object stands on its desk's slip once, and on no other

  own_times : (t : Bool) (o : Entry) (l : List Entry) → Above o.start l → times o (cond t (o ∷ l) l) ≡ cond t 1 0
  own_times true o l w = rw (same_self o, times_above o l w)
  own_times false o l w = times_above o l w

  other_times : (t : Bool) (o x : Entry) (l : List Entry) → same o x ≡ false → times o (cond t (x ∷ l) l) ≡ times o l
  other_times t o x l z = either (λ m. times o m ≡ times o l) t x l (rw z (omega arith)) refl

  picks_times : (os : List Entry) → Rising os → (o : Entry) → In o os → times o (picks who d os) ≡ cond (eqb (who o) d) 1 0
  picks_times [] r o i = absurd i
  picks_times (x ∷ os) r o i =
      ⊎_elim
      (λ q. rw q (own_times (eqb (who x) d) x (picks who d os) (picks_above x.start os r.0)))
      (λ j.
      let l = in_above x.start o os r.0 j in
      other_times (eqb (who x) d) o x (picks who d os) (same_other o x (λ z. omega arith)) ∙ picks_times os r.1 o j) i

-- how many of the desks are k

abbrev desks_of : ℕ → List ℕ → ℕ
desks_of k [] = 0
desks_of k (d ∷ ds) = cond (eqb k d) 1 0 + desks_of k ds

desks_below : (k least : ℕ) (ds : List ℕ) → k < least → Desks least ds → desks_of k ds ≡ 0
desks_below k least [] l w = refl
desks_below k least (d ∷ ds) l w =
    rw (ne_eqb k d (λ z. omega (arith, w.0))) (omega (arith, desks_below k (d + 1) ds (omega (arith, w.0)) w.2))

desks_least : (k least : ℕ) (ds : List ℕ) → Desks least ds → Among k ds → least ≤ k
desks_least k least [] w i = absurd i
desks_least k least (d ∷ ds) w i = ⊎_elim (λ q. omega (arith, w.0)) (λ j. omega (arith, w.0, desks_least k (d + 1) ds w.2 j)) i

pub desks_once : (k least : ℕ) (ds : List ℕ) → Desks least ds → Among k ds → desks_of k ds ≡ 1
desks_once k least [] w i = absurd i
desks_once k least (d ∷ ds) w i =
    ⊎_elim
    (λ q. rw (eq-eqb k d q) (omega (arith, desks_below k (d + 1) ds (omega arith) w.2)))
    (λ j.
    let l = desks_least k (d + 1) ds w.2 j in
    rw (ne_eqb k d (λ z. omega arith)) (omega (arith, desks_once k (d + 1) ds w.2 j))) i

-- the slips of a sharing-out

module _ (who : Entry → ℕ) (os : List Entry) where
  pub share_times : Rising os → (o : Entry) → In o os → (ds : List ℕ) → times_all o (entries_on (share who ds os)) ≡ desks_of (who o) ds
  share_times r o i [] = refl
  share_times r o i (d ∷ ds) = omega (arith, picks_times who d os r o i, share_times r o i ds)

  pub share_on : (e : Entry) (ds : List ℕ) → On e (entries_on (share who ds os)) → In e os
  share_on e [] i = absurd i
  share_on e (d ∷ ds) i = ⊎_elim (picks_in who d e os) (share_on e ds) i

  pub share_rule : Rising os → AllFit os → 2 + 12 * length os < 4294967296 → (least : ℕ) (ds : List ℕ) → Desks least ds → AllByRule least (share who ds os)
  share_rule r f s least [] w = tt
  share_rule r f s least (d ∷ ds) w = (
    record { above = w.0; desk = w.1; short = omega (arith, picks_length who d os); fit = picks_fit who d os f; rise = picks_rise who d os r },
    share_rule r f s (d + 1) ds w.2,
  )

  pub share_length : (ds : List ℕ) → length (share who ds os) ≡ length ds
  share_length [] = refl
  share_length (d ∷ ds) = ap suc (share_length ds)
