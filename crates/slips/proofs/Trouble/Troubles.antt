-- The first trouble: the function of specs/Soonest gives what specs/Trouble claims, and where there is none all is
-- right. Assumes nothing.
use mathlib.Core.Path.{◌≡◌, refl, subst, ◌∙◌}
use mathlib.Core.Bool.{Bool, true, false, cond}
use mathlib.Core.List.{List, [], ◌∷◌}
use mathlib.Core.Logic.{◌↔◌, ◌⊎◌, inl, inr, ⊎_elim}
use Prim.Native.Nat.{ℕ, ◌≤◌}
use native.Mathlib.Omega.{arith}
use borrow.Author.Tests.{eqb-true, eqb-false, ltb-true, ltb-false}
use lib.Dec.{eqb, ltb}
use Rattle.objects.specs.declared.Entry.{Entry}
use Rattle.objects.specs.Named.{In}
use Rattle.slips.specs.Right.{On, times, times_all, Right}
use Rattle.slips.specs.Trouble.{InTrouble, Trouble, None, Found, Least, First}
use Rattle.slips.specs.Soonest.{sooner, soonest, soonest_on, stray, miscount, trouble_of}
use Rattle.slips.proofs.Trouble.Entries.{times_none, times_some}
use Rattle.slips.proofs.Trouble.Least.{least_sooner, least_same, one_least}

-- the soonest is the first of what holds of some entry

module _ (Q : Entry → ℕ → ℕ → Type 0) (f : Entry → Trouble) (h : (e : Entry) → Least (Q e) (f e)) where
  abbrev Some : List Entry → ℕ → ℕ → Type 0
  Some es k x = (e : Entry) × In e es × Q e k x

  abbrev SomeOn : List (List Entry) → ℕ → ℕ → Type 0
  SomeOn ss k x = (e : Entry) × On e ss × Q e k x

  least_soonest : (es : List Entry) → Least (Some es) (soonest f es)
  least_soonest [] = λ k x t. t.1
  least_soonest (e ∷ es) =
      least_same _ (Some (e ∷ es))
      (λ k x. ⊎_elim (λ q. (e, inl refl, q)) (λ t. (t.0, inr t.1, t.2)))
      (λ k x t. ⊎_elim (λ z. inl (subst (λ (y : Entry). Q y k x) z t.2)) (λ j. inr (t.0, j, t.2)) t.1)
      (soonest f (e ∷ es)) (least_sooner (Q e) (Some es) (f e) (soonest f es) (h e) (least_soonest es))

  least_soonest_on : (ss : List (List Entry)) → Least (SomeOn ss) (soonest_on f ss)
  least_soonest_on [] = λ k x t. t.1
  least_soonest_on (s ∷ ss) =
      least_same _ (SomeOn (s ∷ ss))
      (λ k x. ⊎_elim (λ t. (t.0, inl t.1, t.2)) (λ t. (t.0, inr t.1, t.2)))
      (λ k x t. ⊎_elim (λ j. inl (t.0, j, t.2)) (λ j. inr (t.0, j, t.2)) t.1)
      (soonest_on f (s ∷ ss)) (least_sooner (Some s) (SomeOn ss) (soonest f s) (soonest_on f ss) (least_soonest s) (least_soonest_on ss))

-- 25, of an entry
module _ (os : List Entry) (e : Entry) where
  abbrev Strays : ℕ → ℕ → Type 0
  Strays k x = (k ≡ 25) × (In e os → ⊥) × (e.start ≡ x)

  stray_pick : (b : Bool) → eqb (times e os) 0 ≡ b → Least Strays (cond b (Found 25 e.start) None)
  stray_pick true q = ((refl, times_none e os (eqb-true _ _ q), refl), λ k x t. inr (t.2, omega (arith, t.0)))
  stray_pick false q = λ k x t. t.1 (⊎_elim (λ i. i) (λ n. absurd (eqb-false _ _ q n)) (times_some e os))

  stray_first : Least Strays (stray os e)
  stray_first = stray_pick (eqb (times e os) 0) refl

-- 26 and 27, of an object that stands on the slips n times
module _ (ss : List (List Entry)) (o : Entry) where
  abbrev Miscounts : ℕ → ℕ → Type 0
  Miscounts k x = (((k ≡ 26) × (2 ≤ times_all o ss)) ⊎ ((k ≡ 27) × (times_all o ss ≡ 0))) × (o.start ≡ x)

  miscount_pick : (n : ℕ) → times_all o ss ≡ n → (a b : Bool) → eqb n 0 ≡ a → eqb n 1 ≡ b → Least Miscounts (cond a (Found 27 o.start) (cond b None (Found 26 o.start)))
  miscount_pick n e true b p q =
      let z = eqb-true n 0 p in
      ((inr (refl, e ∙ z), refl), λ k x t. inr (t.1, ⊎_elim (λ u. absurd (omega (arith, u.1))) (λ u. omega (arith, u.0)) t.0))
  miscount_pick n e false true p q = λ k x t. let z = eqb-true n 1 q in ⊎_elim (λ u. omega (arith, u.1)) (λ u. omega (arith, u.1)) t.0
  miscount_pick n e false false p q =
      let y = eqb-false n 0 p in
      let z = eqb-false n 1 q in
      ((inl (refl, omega arith), refl), λ k x t. inr (t.1, ⊎_elim (λ u. omega (arith, u.0)) (λ u. omega (arith, u.0)) t.0))

  miscount_first : Least Miscounts (miscount ss o)
  miscount_first = miscount_pick (times_all o ss) refl (eqb (times_all o ss) 0) (eqb (times_all o ss) 1) refl refl

-- the function gives the first trouble
pub trouble_is_first : (os : List Entry) (ss : List (List Entry)) → First os ss (trouble_of os ss)
unfolding trouble_of
trouble_is_first os ss =
    least_same _ (InTrouble os ss)
    (λ k x. ⊎_elim
    (λ t. inl (t.2.0, (t.0, t.1, t.2.1, t.2.2)))
    (λ t. inr (⊎_elim (λ u. inl (u.0, (t.0, t.1, u.1, t.2.1))) (λ u. inr (u.0, (t.0, t.1, u.1, t.2.1))) t.2.0)))
    (λ k x. ⊎_elim
    (λ t. inl (t.1.0, t.1.1, (t.0, t.1.2, t.1.3)))
    (⊎_elim (λ t. inr (t.1.0, t.1.1, (inl (t.0, t.1.2), t.1.3))) (λ t. inr (t.1.0, t.1.1, (inr (t.0, t.1.2), t.1.3)))))
    (sooner (soonest_on (stray os) ss) (soonest (miscount ss) os))
    (least_sooner (SomeOn (Strays os) (stray os) (stray_first os) ss) (Some (Miscounts ss) (miscount ss) (miscount_first ss) os) (soonest_on (stray os) ss) (soonest (miscount ss) os)
    (least_soonest_on (Strays os) (stray os) (stray_first os) ss) (least_soonest (Miscounts ss) (miscount ss) (miscount_first ss) os))

-- no trouble is right

exactly : (n : ℕ) (a b : Bool) → eqb n 0 ≡ a → ltb n 2 ≡ b → (n ≡ 0 → ⊥) → (2 ≤ n → ⊥) → n ≡ 1
exactly n true b p q f g = absurd (f (eqb-true _ _ p))
exactly n false true p q f g = let l = ltb-true n 2 q in let z = eqb-false n 0 p in omega arith
exactly n false false p q f g = absurd (g (ltb-false _ _ q))

none_right : (os : List Entry) (ss : List (List Entry)) → First os ss None → Right os ss
none_right os ss n =
    record {
      named = λ e i. ⊎_elim (λ j. j) (λ z. absurd (n 25 e.start (inl (refl, (e, i, times_none e os z, refl))))) (times_some e os);
      once = λ o i.
          exactly (times_all o ss) (eqb (times_all o ss) 0) (ltb (times_all o ss) 2) refl refl
          (λ z. n 27 o.start (inr (inr (refl, (o, i, z, refl))))) (λ z. n 26 o.start (inr (inl (refl, (o, i, z, refl)))));
    }

right_none : (os : List Entry) (ss : List (List Entry)) → Right os ss → First os ss None
right_none os ss r = λ k x.
    ⊎_elim
    (λ t. t.1.2 (r.named t.1.0 t.1.1))
    (⊎_elim
    (λ t. let n = r.once t.1.0 t.1.1 in omega (arith, t.1.2))
    (λ t. let n = r.once t.1.0 t.1.1 in omega (arith, t.1.2)))

pub trouble_exact : (os : List Entry) (ss : List (List Entry)) → (trouble_of os ss ≡ None) ↔ Right os ss
trouble_exact os ss = (
  (λ q. none_right os ss (subst (First os ss) q (trouble_is_first os ss))),
  (λ r. one_least (InTrouble os ss) (trouble_of os ss) None (trouble_is_first os ss) (right_none os ss r)),
)
