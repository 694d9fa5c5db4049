-- The merge of rising objects and rising slips gives the first trouble, so that it is the trouble of specs/Soonest.
-- Assumes nothing.
use mathlib.Core.Path.{◌≡◌, refl, ◌∙◌}
use mathlib.Core.Bool.{Bool, true, false, cond}
use mathlib.Core.List.{List, [], ◌∷◌}
use mathlib.Core.Logic.{◌⊎◌, inl, inr, ⊎_elim}
use Prim.Native.Nat.{ℕ, ◌<◌, ◌≤◌}
use native.Mathlib.Omega.{arith}
use borrow.Author.Tests.{eqb-true, eqb-false}
use lib.Dec.{eqb}
use Rattle.objects.specs.declared.Entry.{Entry}
use Rattle.objects.specs.Named.{In}
use Rattle.objects.specs.Rising.{Above, Rising}
use Rattle.slips.specs.Right.{times_all}
use Rattle.slips.specs.Trouble.{StrayAt, TwiceAt, UnlistedAt, InTrouble, Trouble, None, Found, First}
use Rattle.slips.specs.Soonest.{trouble_of}
use Rattle.slips.specs.Inner.Merge.{the_end, moved_of, hits_of, or_later, merge_of}
use Rattle.slips.proofs.Trouble.Entries.{start_same, in_above}
use Rattle.slips.proofs.Trouble.Least.{Before, before_le, one_least}
use Rattle.slips.proofs.Trouble.Troubles.{trouble_is_first}
use Rattle.slips.proofs.Loops.Beside.{AllRising, AllLow, AllFine, all_low, all_times, all_later, all_in, all_moved, all_least, all_rising, moves_low, on_low}
use Rattle.slips.proofs.Loops.Strays.{Strays, sort}

-- what holds at each trouble of a kind holds at each trouble
troubled : (os : List Entry) (ss : List (List Entry)) (P : ℕ → ℕ → Type 0) → ((x : ℕ) → StrayAt os ss x → P 25 x) → ((x : ℕ) → TwiceAt os ss x → P 26 x)
    → ((x : ℕ) → UnlistedAt os ss x → P 27 x) → (k x : ℕ) → InTrouble os ss k x → P k x
troubled os ss P f g h k x i = ⊎_elim (λ t. rw t.0 (f x t.1)) (⊎_elim (λ t. rw t.0 (g x t.1)) (λ t. rw t.0 (h x t.1))) i

-- at the end of the log
end : (ss : List (List Entry)) → AllLow ss → AllFine the_end ss ⊎ Strays the_end ss → First [] ss (merge_of [] ss)
end ss w =
    ⊎_elim
    (λ f. rw (all_low the_end ss f)
    (troubled [] ss (λ k x. ⊥)
    (λ x t. let a = all_least the_end ss f t.0 t.1 in let c = on_low t.0 ss w t.1 in omega arith)
    (λ x t. t.1) (λ x t. t.1)))
    (λ t. rw t.is (
      inl (refl, (t.entry, t.here, (λ i. i), refl)),
      troubled [] ss (Before 25 t.entry.start)
          (λ x u. before_le 25 t.entry.start 25 x (let l = t.lowest u.0 u.1 in omega (arith, u.3)) (omega arith))
          (λ x u. absurd u.1) (λ x u. absurd u.1),
    ))

module _ (o : Entry) (os : List Entry) (up : Above o.start os) (ss : List (List Entry)) where
  not_below : (e : Entry) (x : ℕ) → In e (o ∷ os) → e.start ≡ x → o.start ≤ x
  not_below e x i z = ⊎_elim (λ q. let y = start_same q in omega arith) (λ j. let l = in_above o.start e os up j in omega arith) i

  -- a stray at or before the object
  stray_first : (t : Strays o ss) → First (o ∷ os) ss (Found 25 t.entry.start)
  stray_first t =
      let n = t.not_above in (
        inl (refl, (t.entry, t.here, (λ i. ⊎_elim (λ q. t.other q) (λ j. let l = in_above o.start t.entry os up j in omega arith) i), refl)),
        troubled (o ∷ os) ss (Before 25 t.entry.start)
            (λ x u. before_le 25 t.entry.start 25 x (let l = t.lowest u.0 u.1 in omega (arith, u.3)) (omega arith))
            (λ x u. before_le 25 t.entry.start 26 x (omega (arith, not_below u.0 x u.1 u.3)) (omega arith))
            (λ x u. before_le 25 t.entry.start 27 x (omega (arith, not_below u.0 x u.1 u.3)) (omega arith)),
      )

  module _ (f : AllFine o ss) where
    -- an entry that is no object starts above this one
    strays_above : (x : ℕ) → StrayAt (o ∷ os) ss x → o.start < x
    strays_above x t =
        ⊎_elim
        (λ q. absurd (t.2 (inl q.0)))
        (λ j. let l = (all_moved o ss f t.0 j).1 in omega (arith, t.3)) (all_in o ss f t.0 t.1)

    unlisted_first : hits_of o ss ≡ 0 → First (o ∷ os) ss (Found 27 o.start)
    unlisted_first z =
        let n : times_all o ss ≡ 0 = all_times o ss f ∙ z in (
          inr (inr (refl, (o, inl refl, n, refl))),
          troubled (o ∷ os) ss (Before 27 o.start)
              (λ x t. inl (strays_above x t))
              (λ x t. ⊎_elim
              (λ q. absurd (let m : times_all t.0 ss ≡ 0 = rw q n in omega (arith, t.2)))
              (λ j. let l = in_above o.start t.0 os up j in inl (omega (arith, t.3))) t.1)
              (λ x t. before_le 27 o.start 27 x (not_below t.0 x t.1 t.3) (omega arith)),
        )

    twice_is_first : 2 ≤ hits_of o ss → First (o ∷ os) ss (Found 26 o.start)
    twice_is_first z =
        let n = all_times o ss f in (
          inr (inl (refl, (o, inl refl, omega arith, refl))),
          troubled (o ∷ os) ss (Before 26 o.start)
              (λ x t. inl (strays_above x t))
              (λ x t. before_le 26 o.start 26 x (not_below t.0 x t.1 t.3) (omega arith))
              (λ x t. before_le 26 o.start 27 x (not_below t.0 x t.1 t.3) (omega arith)),
        )

    -- behind an object that stands on one slip, trouble is what it was
    later : (e : Entry) → In e os → times_all e ss ≡ times_all e (moved_of o ss)
    later e i = all_later o ss f e (in_above o.start e os up i)

    forth : (k x : ℕ) → InTrouble os (moved_of o ss) k x → InTrouble (o ∷ os) ss k x
    forth =
        troubled os (moved_of o ss) (InTrouble (o ∷ os) ss)
        (λ x t.
        let m = all_moved o ss f t.0 t.1 in
        inl (refl, (t.0, m.0, (λ i. ⊎_elim (λ q. let z = start_same q in omega (arith, m.1)) t.2 i), t.3)))
        (λ x t. inr (inl (refl, (t.0, inr t.1, omega (arith, later t.0 t.1, t.2), t.3))))
        (λ x t. inr (inr (refl, (t.0, inr t.1, omega (arith, later t.0 t.1, t.2), t.3))))

    back : hits_of o ss ≡ 1 → (k x : ℕ) → InTrouble (o ∷ os) ss k x → InTrouble os (moved_of o ss) k x
    back z =
        let one : times_all o ss ≡ 1 = all_times o ss f ∙ z in
        troubled (o ∷ os) ss (InTrouble os (moved_of o ss))
        (λ x t. ⊎_elim (λ q. absurd (t.2 (inl q.0))) (λ j. inl (refl, (t.0, j, (λ i. t.2 (inr i)), t.3))) (all_in o ss f t.0 t.1))
        (λ x t. ⊎_elim
        (λ q. absurd (let m : times_all t.0 ss ≡ 1 = rw q one in omega (arith, t.2)))
        (λ j. inr (inl (refl, (t.0, j, omega (arith, later t.0 j, t.2), t.3)))) t.1)
        (λ x t. ⊎_elim
        (λ q. absurd (let m : times_all t.0 ss ≡ 1 = rw q one in omega (arith, t.2)))
        (λ j. inr (inr (refl, (t.0, j, omega (arith, later t.0 j, t.2), t.3)))) t.1)

    on_first : hits_of o ss ≡ 1 → (t : Trouble) → First os (moved_of o ss) t → First (o ∷ os) ss t
    on_first z None n = λ k x i. n k x (back z k x i)
    on_first z (Found k x) n = (forth k x n.0, λ k' x' i. n.1 k' x' (back z k' x' i))

    settled : (t u : Bool) → eqb (hits_of o ss) 0 ≡ t → eqb (hits_of o ss) 1 ≡ u → (r : Trouble) → First os (moved_of o ss) r
        → First (o ∷ os) ss (or_later (cond t (Found 27 o.start) (cond u None (Found 26 o.start))) r)
    settled true u et eu r n = unlisted_first (eqb-true _ _ et)
    settled false true et eu r n = on_first (eqb-true _ _ eu) r n
    settled false false et eu r n = twice_is_first (let a = eqb-false (hits_of o ss) 0 et in let b = eqb-false (hits_of o ss) 1 eu in omega arith)

merge_first : (os : List Entry) → Rising os → (ss : List (List Entry)) → AllRising ss → AllLow ss → First os ss (merge_of os ss)
merge_first [] up ss r w = end ss w (sort the_end ss r)
merge_first (o ∷ os) up ss r w =
    ⊎_elim
    (λ f.
    let ih = merge_first os up.1 (moved_of o ss) (all_rising o ss f r) (moves_low o ss w) in
    rw (all_low o ss f) (settled o os up.0 ss f (eqb (hits_of o ss) 0) (eqb (hits_of o ss) 1) refl refl _ ih))
    (λ t. rw t.is (stray_first o os up.0 ss t))
    (sort o ss r)

pub merge_is : (os : List Entry) → Rising os → (ss : List (List Entry)) → AllRising ss → AllLow ss → merge_of os ss ≡ trouble_of os ss
merge_is os up ss r w = one_least (InTrouble os ss) (merge_of os ss) (trouble_of os ss) (merge_first os up ss r w) (trouble_is_first os ss)
