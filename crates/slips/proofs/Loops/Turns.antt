-- One slip more: what `advance` knows when the first i slips are moved past the object o, and what a turn adds. Assumes
-- nothing.
use mathlib.Core.Path.{◌≡◌, refl, sym, ap, ap₂, ◌∙◌}
use mathlib.Core.List.{List, [], ◌∷◌, ◌++◌}
use Prim.Native.Nat.{ℕ, suc, ◌+◌, ◌<◌, ◌≤◌, min}
use native.Mathlib.Omega.{arith}
use native.Mathlib.Numerals.{add-one}
use lib.ListN.{length, get_or, get_or-map, take, drop, set}
use lib.Seq.{take-suc, drop-cons, append_snoc, get_or_at, set_at, length-take-le}
use Rattle.std.specs.Prelude.{Option, Some, MatchOption, map}
use Rattle.std.specs.Prelude as opt
use Rattle.std.proofs.lemmas.List.{map-set, length-map}
use Rattle.objects.specs.declared.Entry.{Entry}
use Rattle.slips.specs.declared.merge.Compared.{Compared}
use Rattle.slips.specs.declared.merge.Compared.TheVariants.{Miss, Hit, Stray}
use Rattle.slips.specs.Cut.{slip_limit}
use Rattle.slips.specs.Inner.Merge.{compare_of, move, moved_of, hit_of, hits_of, lower, low_of}

one_hit : (e : Compared) → hit_of e ≤ 1
one_hit Miss = omega arith
one_hit Hit = omega arith
one_hit (Stray s) = omega arith

pub lowest_stray : (low : Option ℕ) (s r : ℕ) → MatchOption low (r ≡ s) (λ y. r ≡ min y s) → Some r ≡ lower (Stray s) low
lowest_stray opt.None s r e = rw e
lowest_stray (Some y) s r e = rw e

module _ (o : Entry) where
  moved_snoc : (xs : List (List Entry)) (p : List Entry) → moved_of o (xs ++ (p ∷ [])) ≡ moved_of o xs ++ (move (compare_of o p) p ∷ [])
  moved_snoc [] p = refl
  moved_snoc (x ∷ xs) p = ap (λ l. move (compare_of o x) x ∷ l) (moved_snoc xs p)

  hits_snoc : (xs : List (List Entry)) (p : List Entry) → hits_of o (xs ++ (p ∷ [])) ≡ hits_of o xs + hit_of (compare_of o p)
  hits_snoc [] p = omega arith
  hits_snoc (x ∷ xs) p = omega (arith, hits_snoc xs p)

  lower_swap : (a b : Compared) (t : Option ℕ) → lower a (lower b t) ≡ lower b (lower a t)
  lower_swap Miss b t = refl
  lower_swap Hit b t = refl
  lower_swap (Stray s) Miss t = refl
  lower_swap (Stray s) Hit t = refl
  lower_swap (Stray s) (Stray r) opt.None = ap Some (omega arith)
  lower_swap (Stray s) (Stray r) (Some t) = ap Some (omega arith)

  low_snoc : (xs : List (List Entry)) (p : List Entry) → low_of o (xs ++ (p ∷ [])) ≡ lower (compare_of o p) (low_of o xs)
  low_snoc [] p = refl
  low_snoc (x ∷ xs) p = ap (lower (compare_of o x)) (low_snoc xs p) ∙ lower_swap (compare_of o x) (compare_of o p) (low_of o xs)

  length_moved : (xs : List (List Entry)) → length (moved_of o xs) ≡ length xs
  length_moved [] = refl
  length_moved (x ∷ xs) = ap suc (length_moved xs)

  -- the slips before i are moved, and those from i on stand where they stood
  pub record Turning (out₀ out : List (List Entry)) (hits : ℕ) (low : Option ℕ) (i : ℕ) : Type 0 where
    pub within : i ≤ slip_limit
    pub moved : out ≡ moved_of o (take i out₀) ++ drop i out₀
    pub hit : hits ≡ hits_of o (take i out₀)
    pub few : hits ≤ i
    pub lowest : low ≡ low_of o (take i out₀)

  module _ (out₀ out : List (List Entry)) (hits : ℕ) (low : Option ℕ) (i : ℕ) (l : i < slip_limit) (len : length out₀ ≡ slip_limit) (m : Turning out₀ out hits low i) where
    abbrev here : List Entry
    here = get_or out₀ i []

    inside : i < length out₀
    inside = omega arith

    long : length (moved_of o (take i out₀)) ≡ i
    long = length_moved (take i out₀) ∙ length-take-le i out₀ (omega arith)

    apart : out ≡ moved_of o (take i out₀) ++ here ∷ drop (suc i) out₀
    apart = m.moved ∙ ap (λ (r : List (List Entry)). moved_of o (take i out₀) ++ r) (drop-cons out₀ i [] inside)

    -- the slip at i is where it stood
    pub still : get_or out i [] ≡ here
    still = rw apart (get_or_at (moved_of o (take i out₀)) _ _ [] i long)

    -- it is moved, and its hit and its stray are counted
    pub turn : (e : Compared) → compare_of o (get_or out i []) ≡ e → {hits' : ℕ} → hits' ≡ hits + hit_of e → {low' : Option ℕ} → low' ≡ lower e low
        → Turning out₀ (set out i (move e (get_or out i []))) hits' low' (i + 1)
    turn e q a b =
        let f : compare_of o here ≡ e = rw still at q in
        record {
          within = omega arith;
          moved =
              ap₂ (λ (l : List (List Entry)) (p : List Entry). set l i (move e p)) apart still
              ∙ set_at (moved_of o (take i out₀)) here (drop (suc i) out₀) (move e here) i long
              ∙ sym (append_snoc (moved_of o (take i out₀)) (move e here) (drop (suc i) out₀))
              ∙ rw (add-one, take-suc out₀ i [] inside, moved_snoc, f);
          hit = a ∙ rw (add-one, take-suc out₀ i [] inside, hits_snoc, m.hit, f);
          few = omega (arith, a, m.few, one_hit e);
          lowest = b ∙ rw (add-one, take-suc out₀ i [] inside, low_snoc, m.lowest, f);
        }

  -- the same of what stands for slips, as places do
  module _ {A : Type 0} (slip : A → List Entry) where
    pub turn_at : (rs₀ rs : List A) {hits : ℕ} {low : Option ℕ} {i : ℕ} → i < slip_limit → length rs₀ ≡ slip_limit → Turning (map slip rs₀) (map slip rs) hits low i
        → (d : A) → slip d ≡ [] → (e : Compared) → compare_of o (slip (get_or rs i d)) ≡ e → (x : A) → slip x ≡ move e (slip (get_or rs i d))
        → {hits' : ℕ} → hits' ≡ hits + hit_of e → {low' : Option ℕ} → low' ≡ lower e low → Turning (map slip rs₀) (map slip (set rs i x)) hits' low' (i + 1)
    turn_at rs₀ rs {hits} {low} {i} l len m d n e c x z a b =
        let q : slip (get_or rs i d) ≡ get_or (map slip rs) i [] = sym (rw n at (get_or-map slip rs i d)) in
        rw (map-set slip rs i x, z, q) (turn (map slip rs₀) (map slip rs) hits low i l (length-map rs₀ slip ∙ len) m e (rw q at c) a b)
