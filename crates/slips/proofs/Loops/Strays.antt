-- Rising slips beside an object: all are fine, or some have first a stray, of which one is the lowest. Assumes nothing.
use mathlib.Core.Path.{◌≡◌, refl, ap, ◌∙◌}
use mathlib.Core.Bool.{Bool, true, false}
use mathlib.Core.List.{List, [], ◌∷◌}
use mathlib.Core.Logic.{◌⊎◌, inl, inr, ⊎_elim}
use Prim.Native.Nat.{◌<◌, ◌≤◌}
use native.Mathlib.Omega.{arith}
use borrow.Author.Tests.{ltb-true, ltb-false}
use lib.Dec.{ltb}
use Rattle.std.specs.Prelude.{Some}
use Rattle.objects.specs.declared.Entry.{Entry}
use Rattle.objects.specs.Named.{In}
use Rattle.slips.specs.Right.{On}
use Rattle.slips.specs.Inner.Merge.{compare_of, lower, low_of}
use Rattle.slips.proofs.Loops.Beside.{AllRising, Strayed, Fine, beside, fine_lower, AllFine, all_low, all_least}

-- the lowest of the strays
pub record Strays (o : Entry) (ss : List (List Entry)) : Type 0 where
  pub entry : Entry
  pub here : On entry ss
  pub is : low_of o ss ≡ Some entry.start
  pub not_above : entry.start ≤ o.start
  pub other : (entry ≡ o) → ⊥
  pub lowest : (e : Entry) → On e ss → entry.start ≤ e.start

module _ (o : Entry) (s : List Entry) (ss : List (List Entry)) where
  -- the strays behind a slip have the lowest of all
  behind : (t : Strays o ss) → lower (compare_of o s) (low_of o ss) ≡ Some t.entry.start → ((e : Entry) → In e s → t.entry.start ≤ e.start) → Strays o (s ∷ ss)
  behind t z l =
      record { entry = t.entry; here = inr t.here; is = z; not_above = t.not_above; other = t.other; lowest = λ e. ⊎_elim (l e) (t.lowest e) }

  -- the slip's own stray is the lowest of all
  front : (u : Strayed o s) → lower (compare_of o s) (low_of o ss) ≡ Some u.entry.start → ((e : Entry) → On e ss → u.entry.start ≤ e.start) → Strays o (s ∷ ss)
  front u z l =
      record { entry = u.entry; here = inl u.here; is = z; not_above = u.not_above; other = u.other; lowest = λ e. ⊎_elim (u.lowest e) (l e) }

  after_fine : Fine o s → Strays o ss → Strays o (s ∷ ss)
  after_fine f t =
      behind t (fine_lower o s f (low_of o ss) ∙ t.is)
      (λ e j. let l = all_least o (s ∷ []) (f, tt) e (inl j) in let m = t.not_above in omega arith)

  before_fine : Strayed o s → AllFine o ss → Strays o (s ∷ ss)
  before_fine u f =
      front u (rw (u.compared, all_low o ss f)) (λ e j. let m = all_least o ss f e j in let n = u.not_above in omega arith)

  both : (u : Strayed o s) (t : Strays o ss) (b : Bool) → ltb t.entry.start u.entry.start ≡ b → Strays o (s ∷ ss)
  both u t true e =
      let l : t.entry.start < u.entry.start = ltb-true _ _ e in
      behind t (rw (u.compared, t.is) (ap Some (omega (arith, l)))) (λ e j. let m = u.lowest e j in omega (arith, l))
  both u t false e =
      let l : u.entry.start ≤ t.entry.start = ltb-false _ _ e in
      front u (rw (u.compared, t.is) (ap Some (omega (arith, l)))) (λ e j. let m = t.lowest e j in omega (arith, l))

pub sort : (o : Entry) (ss : List (List Entry)) → AllRising ss → AllFine o ss ⊎ Strays o ss
sort o [] r = inl tt
sort o (s ∷ ss) r =
    ⊎_elim
    (λ f. ⊎_elim (λ g. inl (f, g)) (λ t. inr (after_fine o s ss f t)) (sort o ss r.1))
    (λ u. ⊎_elim (λ g. inr (before_fine o s ss u g)) (λ t. inr (both o s ss u t (ltb t.entry.start u.entry.start) refl)) (sort o ss r.1))
    (beside o s r.0)
