-- Nothing is counted twice: of each type, the slips of an accepted bundle have as many entries as the log has objects.
-- Counting the entries of a type is counting its objects, each as often as it stands on the slips, and each stands
-- there once. Assumes nothing.
use mathlib.Core.Path.{◌≡◌, refl, sym, ap, ◌∙◌}
use mathlib.Core.Bool.{Bool, true, false, cond}
use mathlib.Core.List.{List, [], ◌∷◌}
use mathlib.Core.Logic.{inl, inr, ⊎_elim}
use Prim.Native.Nat.{ℕ, ◌+◌, ◌≤◌}
use native.Mathlib.Omega.{arith}
use lib.ListN.{length}
use lib.Dec.{eqb}
use Rattle.fields.specs.Numbers.{Bytes}
use Rattle.objects.specs.Logs.{LogOf}
use Rattle.objects.specs.declared.Entry.{Entry}
use Rattle.objects.specs.Named.{In, entries_of}
use Rattle.objects.specs.Rising.{Rising}
use Rattle.objects.proofs.Naming.{entries_rise, within, one_log}
use Rattle.slips.specs.Verdicts.{Accepted}
use Rattle.slips.specs.Cut.{Slip, Slips}
use Rattle.slips.specs.Bundle.{BundleOf}
use Rattle.slips.specs.Right.{entries_on, On, same, times, times_all, Right}
use Rattle.slips.specs.Check.{check_of}
use Rattle.slips.specs.Kinds.{kinds, kinds_all}
use Rattle.slips.proofs.Trouble.Entries.{same_self, same_other, start_same, in_above}
use Rattle.slips.proofs.Format.Cuts.{bundle_exact}
use Rattle.slips.proofs.Theorems.Verdicts.{check_exact}

if_add : (b : Bool) (m n : ℕ) → cond b (m + n) 0 ≡ cond b m 0 + cond b n 0
if_add true m n = refl
if_add false m n = refl

if_zero : (b : Bool) → ◌≡◌ {A = ℕ} (cond b 0 0) 0
if_zero true = refl
if_zero false = refl

module _ (t : ℕ) where
  -- the objects of type t, each by a weight
  abbrev weigh : List Entry → (Entry → ℕ) → ℕ
  weigh [] f = 0
  weigh (o ∷ os) f = cond (eqb o.kind t) (f o) 0 + weigh os f

  weigh_add : (os : List Entry) (f g : Entry → ℕ) → weigh os (λ o. f o + g o) ≡ weigh os f + weigh os g
  weigh_add [] f g = refl
  weigh_add (o ∷ os) f g = let a = if_add (eqb o.kind t) (f o) (g o) in omega (arith, weigh_add os f g)

  weigh_none : (os : List Entry) (f : Entry → ℕ) → ((o : Entry) → In o os → f o ≡ 0) → weigh os f ≡ 0
  weigh_none [] f n = refl
  weigh_none (o ∷ os) f n = rw (n o (inl refl), if_zero (eqb o.kind t)) (omega (arith, weigh_none os f (λ x i. n x (inr i))))

  weigh_one : (os : List Entry) (f : Entry → ℕ) → ((o : Entry) → In o os → f o ≡ 1) → weigh os f ≡ kinds t os
  weigh_one [] f n = refl
  weigh_one (o ∷ os) f n = rw (n o (inl refl), weigh_one os f (λ x i. n x (inr i)))

  -- 1 where the object is e
  abbrev is : Entry → Entry → ℕ
  is e o = cond (same o e) 1 0

  is_not : (e o : Entry) → (o.start ≡ e.start → ⊥) → is e o ≡ 0
  is_not e o n = rw (same_other o e n)

  -- an entry that is one of the objects
  weigh_same : (os : List Entry) → Rising os → (e : Entry) → In e os → weigh os (is e) ≡ cond (eqb e.kind t) 1 0
  weigh_same [] r e i = absurd i
  weigh_same (o ∷ os) r e i =
      ⊎_elim
      (λ q.
      let a : same o e ≡ true = rw q (same_self o) in
      let d : ◌≡◌ {A = ℕ} (cond (eqb e.kind t) 1 0) (cond (eqb o.kind t) 1 0) = ap (λ (y : Entry). cond (eqb y.kind t) 1 0) q in
      let s = start_same q in
      let c : weigh os (is e) ≡ 0 = weigh_none os (is e) (λ x j. let l = in_above o.start x os r.0 j in is_not e x (λ z. omega arith)) in
      rw a (omega (arith, c, d)))
      (λ j.
      let l = in_above o.start e os r.0 j in
      rw (is_not e o (λ z. omega arith), if_zero (eqb o.kind t)) (omega (arith, weigh_same os r.1 e j))) i

  slip_kinds : (os : List Entry) → Rising os → (s : List Entry) → ((e : Entry) → In e s → In e os) → kinds t s ≡ weigh os (λ o. times o s)
  slip_kinds os r [] n = sym (weigh_none os (λ o. 0) (λ o i. refl))
  slip_kinds os r (e ∷ s) n =
      let a = weigh_same os r e (n e (inl refl)) in
      let c = slip_kinds os r s (λ x i. n x (inr i)) in
      let d = weigh_add os (is e) (λ o. times o s) in
      omega arith

  all_kinds : (os : List Entry) → Rising os → (ss : List (List Entry)) → ((e : Entry) → On e ss → In e os) → kinds_all t ss ≡ weigh os (λ o. times_all o ss)
  all_kinds os r [] n = sym (weigh_none os (λ o. 0) (λ o i. refl))
  all_kinds os r (s ∷ ss) n =
      let a = slip_kinds os r s (λ x i. n x (inl i)) in
      let c = all_kinds os r ss (λ x i. n x (inr i)) in
      let d = weigh_add os (λ o. times o s) (λ o. times_all o ss) in
      omega arith

  right_kinds : (os : List Entry) → Rising os → (ss : List (List Entry)) → Right os ss → kinds_all t ss ≡ kinds t os
  right_kinds os r ss w = all_kinds os r ss w.named ∙ weigh_one os (λ o. times_all o ss) w.once

module _ (s b : List ℕ) (bs : Bytes s) (bb : Bytes b) (n : ℕ) (q : check_of s b ≡ Accepted n) (is : List (List ℕ)) (log : LogOf s is) (ss : List Slip) (bundle : BundleOf b ss) where
  -- the objects and the slips are those that the check has seen
  accepted_right : Right (entries_of 0 is) (entries_on ss)
  accepted_right =
      let h = (check_exact s b bs bb n).0 q in
      let i : h.formed.objects ≡ is = one_log h.formed.log log in
      let c : Slips h.formed.slips ≡ Slips ss = sym ((bundle_exact b h.formed.slips bb).1 h.formed.bundle) ∙ (bundle_exact b ss bb).1 bundle in
      let j : h.formed.slips ≡ ss = cc in
      rw (i, j) at h.right

  pub counted_once : (t : ℕ) → kinds_all t (entries_on ss) ≡ kinds t (entries_of 0 is)
  counted_once t = right_kinds t (entries_of 0 is) (entries_rise log) (entries_on ss) accepted_right

  -- no entry reaches past the log
  pub none_outside : (e : Entry) → On e (entries_on ss) → e.start + e.size ≤ length s
  none_outside e i = within log e (accepted_right.named e i)
