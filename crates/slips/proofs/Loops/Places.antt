-- What is left at a place: of a slip that was cut off all its entries, and behind an entry that is hit the others.
-- Assumes nothing.
use mathlib.Core.Path.{◌≡◌, refl, sym, ap, ◌∙◌}
use mathlib.Core.Bool.{Bool, true, false}
use mathlib.Core.List.{List, []}
use Prim.Native.Nat.{ℕ, ◌+◌, ◌-◌, ◌<◌, ◌≤◌}
use native.Mathlib.Omega.{arith}
use borrow.Author.Tests.{le-leb, lt-leb, leb-true, leb-false, ltb-true, ltb-false}
use lib.ListN.{length, take, drop, get_or, set, replicate, length-drop, drop_of_length-le, get_or-eq_default}
use lib.Seq.{drop-drop, length-take-le}
use lib.Dec.{leb, ltb}
use Rattle.std.proofs.lemmas.List.{drop-take}
use Rattle.std.proofs.lemmas.List.Elements.{All-set, All-replicate}
use Rattle.objects.specs.declared.Entry.{Entry}
use Rattle.slips.specs.declared.bundle.Place.{Place}
use Rattle.slips.specs.declared.merge.Compared.TheVariants.{Hit}
use Rattle.slips.specs.Cut.{length_in, slip_in}
use Rattle.slips.specs.Inner.Inside.{Inside, AllInside}
use Rattle.slips.specs.Inner.Rests.{rest_at, slip_at}
use Rattle.slips.specs.Inner.Merge.{move, compare_of}
use Rattle.slips.proofs.Format.SlipFaults.{Shape}
use Rattle.slips.proofs.Format.Chunks.{slip_part, entries_behind, entries_none}

module _ (b : List ℕ) where
  rest_in : (p : Place) → p.at ≤ p.end → p.end ≤ length b → rest_at b p ≡ take (p.end - p.at) (drop p.at b)
  unfolding rest_at
  rest_in p l m = rw (le-leb p.at p.end l, le-leb p.end (length b) m)

  rest_turned : (p : Place) → p.end < p.at → rest_at b p ≡ []
  unfolding rest_at
  rest_turned p l = rw (lt-leb p.at p.end l)

  rest_past : (p : Place) (t : Bool) → leb p.at p.end ≡ t → length b < p.end → rest_at b p ≡ []
  unfolding rest_at
  rest_past p true e l = rw (e, lt-leb p.end (length b) l)
  rest_past p false e l = rw e

  -- a slip that was cut off
  pub slip_placed : (at n : ℕ) → Shape (drop at b) → n ≡ length_in (drop at b) → slip_at b (record { at = at + 6; end = at + (4 + n) }) ≡ (slip_in (drop at b)).entries
  slip_placed at n w e =
      let p : Place = record { at = at + 6; end = at + (4 + n) } in
      let z : p.end - p.at ≡ 4 + n - 6 = omega arith in
      let d : drop (at + 6) b ≡ drop 6 (drop at b) = sym (drop-drop 6 at b) in
      rw (rest_in p (omega (arith, w.two)) (omega (arith, w.within, length-drop at b)), z, d) (slip_part (drop at b) w n e)

  -- past an entry

  behind_in : (p : Place) (s : Bool) → leb (p.at + 12) p.end ≡ s → p.at ≤ p.end → p.end ≤ length b → rest_at b (record { at = p.at + 12; end = p.end }) ≡ drop 12 (rest_at b p)
  behind_in p true e l m =
      let h = leb-true (p.at + 12) p.end e in
      let z : p.end - p.at ≡ 12 + (p.end - (p.at + 12)) = omega arith in
      rw (rest_in (record { at = p.at + 12; end = p.end }) h m, rest_in p l m, z, drop-take, drop-drop)
  behind_in p false e l m =
      let h = leb-false (p.at + 12) p.end e in
      let n : length (take (p.end - p.at) (drop p.at b)) ≤ 12 = omega (arith, length-take-le (p.end - p.at) (drop p.at b) (omega (arith, length-drop p.at b))) in
      rw (rest_turned (record { at = p.at + 12; end = p.end }) h, rest_in p l m) (sym (drop_of_length-le (take (p.end - p.at) (drop p.at b)) n))

  behind_by : (p : Place) (s t : Bool) → leb p.at p.end ≡ s → leb p.end (length b) ≡ t → rest_at b (record { at = p.at + 12; end = p.end }) ≡ drop 12 (rest_at b p)
  behind_by p true true q r = behind_in p (leb (p.at + 12) p.end) refl (leb-true _ _ q) (leb-true _ _ r)
  behind_by p true false q r =
      let l = leb-false p.end (length b) r in
      rw (rest_past (record { at = p.at + 12; end = p.end }) (leb (p.at + 12) p.end) refl l, rest_past p true q l)
  behind_by p false t q r =
      let l = leb-false p.at p.end q in
      rw (rest_turned (record { at = p.at + 12; end = p.end }) (omega arith), rest_turned p l)

  pub slip_behind : (p : Place) → slip_at b (record { at = p.at + 12; end = p.end }) ≡ move Hit (slip_at b p)
  slip_behind p = rw (behind_by p (leb p.at p.end) (leb p.end (length b)) refl refl) (entries_behind (rest_at b p))

  -- an entry that is hit stands before the slip's end, and that in the bundle
  inside_by : (p : Place) (s t : Bool) → leb p.at p.end ≡ s → leb p.end (length b) ≡ t → 12 ≤ length (rest_at b p) → (p.at + 12 ≤ p.end) × (p.end ≤ length b)
  inside_by p true true q r h =
      let l = leb-true p.at p.end q in
      let m = leb-true p.end (length b) r in
      let n = ap length (rest_in p l m) ∙ length-take-le (p.end - p.at) (drop p.at b) (omega (arith, length-drop p.at b)) in
      (omega arith, m)
  inside_by p true false q r h = absurd (let n = ap length (rest_past p true q (leb-false p.end (length b) r)) in omega arith)
  inside_by p false t q r h = absurd (let n = ap length (rest_turned p (leb-false p.at p.end q)) in omega arith)

  hit_by : (o : Entry) (p : Place) (s : Bool) → leb 12 (length (rest_at b p)) ≡ s → compare_of o (slip_at b p) ≡ Hit → (p.at + 12 ≤ p.end) × (p.end ≤ length b)
  hit_by o p true e q = inside_by p (leb p.at p.end) (leb p.end (length b)) refl refl (leb-true _ _ e)
  hit_by o p false e q = absurd (let z = rw (entries_none (rest_at b p) (leb-false _ _ e)) at q in cc)

  pub hit_before_end : (o : Entry) (p : Place) → compare_of o (slip_at b p) ≡ Hit → p.at + 12 ≤ p.end
  hit_before_end o p q = (hit_by o p (leb 12 (length (rest_at b p))) refl q).0

  pub hit_inside : (o : Entry) (p : Place) → compare_of o (slip_at b p) ≡ Hit → p.at + 12 ≤ length b
  hit_inside o p q = let l = hit_by o p (leb 12 (length (rest_at b p))) refl q in omega (arith, l.0, l.1)

  -- an empty place
  pub slip_nowhere : slip_at b (record { at = 0; end = 0 }) ≡ []
  slip_nowhere = rw (rest_in (record { at = 0; end = 0 }) (omega arith) (omega arith))

-- All places stand in the bundle: empty ones, and where one is put for another.

abbrev pub nowhere : Place
nowhere = record { at = 0; end = 0 }

pub none_behind : (n m : ℕ) → AllInside n (replicate m nowhere)
none_behind n m = All-replicate (Inside n) m nowhere (omega arith, omega arith)

inside_at : (n : ℕ) (ps : List Place) (i : ℕ) (s : Bool) → ltb i (length ps) ≡ s → AllInside n ps → Inside n (get_or ps i nowhere)
inside_at n ps i true e w = w i nowhere (ltb-true _ _ e)
inside_at n ps i false e w = rw (get_or-eq_default ps nowhere (ltb-false _ _ e)) (omega arith, omega arith)

pub place_inside : (n : ℕ) (ps : List Place) (i : ℕ) → AllInside n ps → Inside n (get_or ps i nowhere)
place_inside n ps i w = inside_at n ps i (ltb i (length ps)) refl w

pub put_inside : (n : ℕ) (ps : List Place) (i : ℕ) (p : Place) → Inside n p → AllInside n ps → AllInside n (set ps i p)
put_inside n ps i p l w = All-set (Inside n) ps i p l w

pub kept_inside : (n : ℕ) (ps : List Place) (i : ℕ) → AllInside n ps → AllInside n (set ps i (get_or ps i nowhere))
kept_inside n ps i w = put_inside n ps i _ (place_inside n ps i w) w

module _ (b : List ℕ) (ps : List Place) (i : ℕ) (o : Entry) (w : AllInside (length b) ps) (q : compare_of o (slip_at b (get_or ps i nowhere)) ≡ Hit) where
  pub moved_inside : AllInside (length b) (set ps i (record { at = (get_or ps i nowhere).at + 12; end = (get_or ps i nowhere).end }))
  moved_inside =
      let p = get_or ps i nowhere in
      put_inside (length b) ps i _ (hit_before_end b o p q, (place_inside (length b) ps i w).1) w
