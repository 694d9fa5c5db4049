-- A rising slip beside an object: it is fine, above the object or with it first, or it has first a stray; and what fine
-- slips say together. Assumes nothing.
use mathlib.Core.Path.{◌≡◌, refl, ap, subst, ◌∙◌}
use mathlib.Core.Bool.{Bool, true, false, cond}
use mathlib.Core.List.{List, [], ◌∷◌}
use mathlib.Core.Logic.{◌⊎◌, inl, inr, ⊎_elim}
use Prim.Native.Nat.{ℕ, ◌<◌, ◌≤◌}
use native.Mathlib.Omega.{arith}
use borrow.Author.Tests.{ltb-true, ltb-false}
use lib.Dec.{ltb}
use Rattle.std.specs.Prelude.{Option, None}
use Rattle.objects.specs.declared.Entry.{Entry}
use Rattle.objects.specs.Named.{In}
use Rattle.objects.specs.Rising.{Above, Rising}
use Rattle.slips.specs.declared.merge.Compared.{Compared}
use Rattle.slips.specs.declared.merge.Compared.TheVariants.{Miss, Hit, Stray}
use Rattle.slips.specs.Right.{On, same, times, times_all}
use Rattle.slips.specs.Inner.Merge.{past, compare_of, move, moved_of, hit_of, hits_of, lower, low_of}
use Rattle.slips.proofs.Trouble.Entries.{same_self, same_true, same_false, same_other, start_same, in_above, times_above}

abbrev pub AllRising : List (List Entry) → Type 0
AllRising [] = Unit
AllRising (s ∷ ss) = Rising s × AllRising ss

-- each start is one that an entry can hold
abbrev pub Low : List Entry → Type 0
Low [] = Unit
Low (e ∷ s) = (e.start < past) × Low s

abbrev pub AllLow : List (List Entry) → Type 0
AllLow [] = Unit
AllLow (s ∷ ss) = Low s × AllLow ss

-- a slip beside the object o: its entries are above it, or it has first o itself, or first a stray

pub record Missed (o : Entry) (s : List Entry) : Type 0 where
  pub compared : compare_of o s ≡ Miss
  pub above : Above o.start s

pub record Matched (o : Entry) (s : List Entry) : Type 0 where
  pub list : List Entry
  pub first : s ≡ o ∷ list
  pub compared : compare_of o (o ∷ list) ≡ Hit
  pub above : Above o.start list

pub record Strayed (o : Entry) (s : List Entry) : Type 0 where
  pub entry : Entry
  pub here : In entry s
  pub compared : compare_of o s ≡ Stray entry.start
  pub not_above : entry.start ≤ o.start
  pub other : (entry ≡ o) → ⊥
  pub lowest : (e : Entry) → In e s → entry.start ≤ e.start

-- a slip without stray
abbrev pub Fine : Entry → List Entry → Type 0
Fine o s = Missed o s ⊎ Matched o s

above_trans : (j k : ℕ) (s : List Entry) → j < k → Above k s → Above j s
above_trans j k [] l w = tt
above_trans j k (e ∷ s) l w = (omega (arith, w.0), above_trans j k s l w.1)

-- the first entry of a slip is the lowest
first_lowest : (e : Entry) (s : List Entry) → Rising (e ∷ s) → (d : Entry) → In d (e ∷ s) → e.start ≤ d.start
first_lowest e s r d i = ⊎_elim (λ q. let z = start_same q in omega arith) (λ j. let l = in_above e.start d s r.0 j in omega arith) i

module _ (o e : Entry) (s : List Entry) (r : Rising (e ∷ s)) where
  compare_is : (a b : Bool) → ltb o.start e.start ≡ a → same e o ≡ b → compare_of o (e ∷ s) ≡ cond a Miss (cond b Hit (Stray e.start))
      → Fine o (e ∷ s) ⊎ Strayed o (e ∷ s)
  compare_is true b p q h =
      let l = ltb-true o.start e.start p in
      inl (inl (record { compared = h; above = (l, above_trans o.start e.start s l r.0) }))
  compare_is false true p q h =
      let z = same_true e o q in
      inl (inr (record { list = s; first = ap (λ (y : Entry). y ∷ s) z; compared = subst (λ (y : Entry). compare_of o (y ∷ s) ≡ Hit) z h; above = subst (λ (k : ℕ). Above k s) (start_same z) r.0 }))
  compare_is false false p q h =
      inr (record { entry = e; here = inl refl; compared = h; not_above = ltb-false _ _ p; other = same_false e o q; lowest = first_lowest e s r })

pub beside : (o : Entry) (s : List Entry) → Rising s → Fine o s ⊎ Strayed o s
beside o [] r = inl (inl (record { compared = refl; above = tt }))
beside o (e ∷ s) r = compare_is o e s r (ltb o.start e.start) (same e o) refl refl refl

module _ (o : Entry) where
  -- what a fine slip says
  fine_times : (s : List Entry) → Fine o s → times o s ≡ hit_of (compare_of o s)
  fine_times s f =
      ⊎_elim
      (λ m. rw m.compared (times_above o s m.above))
      (λ m. rw (m.first, m.compared, same_self o, times_above o m.list m.above)) f

  fine_later : (s : List Entry) → Fine o s → (e : Entry) → o.start < e.start → times e s ≡ times e (move (compare_of o s) s)
  fine_later s f e l =
      ⊎_elim
      (λ m. rw m.compared)
      (λ m. rw (m.first, m.compared, same_other e o (λ z. omega arith)) (omega arith)) f

  fine_in : (s : List Entry) → Fine o s → (e : Entry) → In e s → ((e ≡ o) × (hit_of (compare_of o s) ≡ 1)) ⊎ In e (move (compare_of o s) s)
  fine_in s f e i =
      ⊎_elim
      (λ m. inr (rw m.compared i))
      (λ m.
      let j : In e (o ∷ m.list) = subst (In e) m.first i in
      rw (m.first, m.compared) (⊎_elim (λ q. inl (q, refl)) (λ t. inr t) j)) f

  fine_moved : (s : List Entry) → Fine o s → (e : Entry) → In e (move (compare_of o s) s) → In e s × (o.start < e.start)
  fine_moved s f e =
      ⊎_elim {C = In e (move (compare_of o s) s) → In e s × (o.start < e.start)}
      (λ m. rw m.compared (λ i. (i, in_above o.start e s m.above i)))
      (λ m. rw (m.first, m.compared) (λ i. (inr i, in_above o.start e m.list m.above i))) f

  fine_rising : (s : List Entry) → Fine o s → Rising s → Rising (move (compare_of o s) s)
  fine_rising s f =
      ⊎_elim {C = Rising s → Rising (move (compare_of o s) s)}
      (λ m. rw m.compared (λ r. r))
      (λ m. rw (m.first, m.compared) (λ r. r.1)) f

  pub fine_lower : (s : List Entry) → Fine o s → (t : Option ℕ) → lower (compare_of o s) t ≡ t
  fine_lower s f t = ⊎_elim (λ m. rw m.compared) (λ m. rw (m.first, m.compared)) f

  -- and what they say all
  abbrev pub AllFine : List (List Entry) → Type 0
  AllFine [] = Unit
  AllFine (s ∷ ss) = Fine o s × AllFine ss

  pub all_low : (ss : List (List Entry)) → AllFine ss → low_of o ss ≡ None
  all_low [] w = refl
  all_low (s ∷ ss) w = fine_lower s w.0 (low_of o ss) ∙ all_low ss w.1

  pub all_times : (ss : List (List Entry)) → AllFine ss → times_all o ss ≡ hits_of o ss
  all_times [] w = refl
  all_times (s ∷ ss) w = omega (arith, fine_times s w.0, all_times ss w.1)

  pub all_later : (ss : List (List Entry)) → AllFine ss → (e : Entry) → o.start < e.start → times_all e ss ≡ times_all e (moved_of o ss)
  all_later [] w e l = refl
  all_later (s ∷ ss) w e l = omega (arith, fine_later s w.0 e l, all_later ss w.1 e l)

  pub all_in : (ss : List (List Entry)) → AllFine ss → (e : Entry) → On e ss → ((e ≡ o) × (1 ≤ hits_of o ss)) ⊎ On e (moved_of o ss)
  all_in [] w e i = absurd i
  all_in (s ∷ ss) w e i =
      ⊎_elim
      (λ j. ⊎_elim (λ q. inl (q.0, omega (arith, q.1))) (λ t. inr (inl t)) (fine_in s w.0 e j))
      (λ j. ⊎_elim (λ q. inl (q.0, omega (arith, q.1))) (λ t. inr (inr t)) (all_in ss w.1 e j)) i

  pub all_moved : (ss : List (List Entry)) → AllFine ss → (e : Entry) → On e (moved_of o ss) → On e ss × (o.start < e.start)
  all_moved [] w e i = absurd i
  all_moved (s ∷ ss) w e i =
      ⊎_elim
      (λ j. let f = fine_moved s w.0 e j in (inl f.0, f.1))
      (λ j. let f = all_moved ss w.1 e j in (inr f.0, f.1)) i

  pub all_least : (ss : List (List Entry)) → AllFine ss → (e : Entry) → On e ss → o.start ≤ e.start
  all_least ss w e i =
      ⊎_elim
      (λ q. let z = start_same q.0 in omega arith)
      (λ j. let l = (all_moved ss w e j).1 in omega arith) (all_in ss w e i)

  pub all_rising : (ss : List (List Entry)) → AllFine ss → AllRising ss → AllRising (moved_of o ss)
  all_rising [] w r = tt
  all_rising (s ∷ ss) w r = (fine_rising s w.0 r.0, all_rising ss w.1 r.1)

-- starts stay low

move_low : (h : Compared) (s : List Entry) → Low s → Low (move h s)
move_low Miss s w = w
move_low Hit [] w = tt
move_low Hit (e ∷ s) w = w.1
move_low (Stray x) s w = w

pub moves_low : (o : Entry) (ss : List (List Entry)) → AllLow ss → AllLow (moved_of o ss)
moves_low o [] w = tt
moves_low o (s ∷ ss) w = (move_low (compare_of o s) s w.0, moves_low o ss w.1)

in_low : (e : Entry) (s : List Entry) → Low s → In e s → e.start < past
in_low e [] w i = absurd i
in_low e (x ∷ s) w i = ⊎_elim (λ q. rw q w.0) (λ j. in_low e s w.1 j) i

pub on_low : (e : Entry) (ss : List (List Entry)) → AllLow ss → On e ss → e.start < past
on_low e [] w i = absurd i
on_low e (s ∷ ss) w i = ⊎_elim (λ j. in_low e s w.0 j) (λ j. on_low e ss w.1 j) i
