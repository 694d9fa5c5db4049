-- Slips and their bytes: a slip that is read was written, and a slip by the rule that was written is read. Assumes
-- nothing.
use mathlib.Core.Path.{◌≡◌, sym, ap, subst, ◌∙◌}
use mathlib.Core.List.{List, ◌∷◌, ◌++◌, append_assoc}
use Prim.Native.Nat.{ℕ, ◌+◌, ◌-◌, ◌*◌, ◌/◌, ◌≤◌}
use native.Mathlib.Omega.{arith}
use lib.ListN.{length, drop, get_or, length-append, length-drop, take-append-drop}
use lib.Seq.{drop-drop, drop-cons, drop_at, get_or_at, get_or-append-add, drop-append-add}
use Rattle.fields.specs.Numbers.{Bytes}
use Rattle.fields.specs.Digits.{be}
use Rattle.fields.proofs.Parts.{drop_bytes}
use Rattle.slips.specs.Cut.{Slip, length_in, desk_in, slip_in}
use Rattle.slips.specs.Bundle.{entries_bytes, slip_length, slip_bytes, ByRule}
use Rattle.fields.proofs.BigEndian.{length_be, big_be, big_lt, be_big}
use Rattle.slips.proofs.Format.EntryBytes.{length_entries, entries_many, entries_back, entries_forth, entries_fit, rises_rising, rising_rises}
use Rattle.slips.proofs.Format.SlipFaults.{Whole}

-- a slip that was read is by the rule, and was written in front of what comes after it
module _ (t : List ℕ) (least : ℕ) (b : Bytes t) (w : Whole t least) where
  pub slip_rule : ByRule least (slip_in t)
  slip_rule =
      let n = entries_many ((length_in t - 2) / 12) (drop 6 t) in
      record {
        above = w.desk;
        desk = b 5;
        short = omega (arith, w.told, big_lt 4 t 0 b (omega (arith, w.told, w.within)));
        fit = entries_fit ((length_in t - 2) / 12) (drop 6 t) (drop_bytes 6 t b) (omega (arith, w.told, w.within, length-drop 6 t));
        rise = (rises_rising 0 (slip_in t).entries w.rises).1;
      }

  pub slip_forth : slip_bytes (slip_in t) ++ drop (4 + length_in t) t ≡ t
  slip_forth =
      let n = (length_in t - 2) / 12 in
      let m = entries_many n (drop 6 t) in
      let l : 6 ≤ length t = omega (arith, w.told, w.within) in
      let e : drop (4 + length_in t) t ≡ drop (12 * n) (drop 6 t) = let z : 4 + length_in t ≡ 6 + 12 * n = omega (arith, w.told) in ap (λ (k : ℕ). drop k t) z ∙ sym (drop-drop (12 * n) 6 t) in
      let f = entries_forth n (drop 6 t) (drop_bytes 6 t b) (omega (arith, w.told, w.within, length-drop 6 t)) in
      let v : drop 4 t ≡ 1 ∷ drop 5 t = drop-cons t 4 0 (omega arith) ∙ ap (λ (x : ℕ). x ∷ drop 5 t) w.version in
      let d : drop 5 t ≡ desk_in t ∷ drop 6 t = drop-cons t 5 0 (omega arith) in
      append_assoc (be 4 (slip_length (slip_in t))) (1 ∷ desk_in t ∷ entries_bytes (slip_in t).entries) (drop (4 + length_in t) t)
      ∙ ap (λ (x : List ℕ). be 4 (slip_length (slip_in t)) ++ (1 ∷ desk_in t ∷ x)) (ap (λ (x : List ℕ). entries_bytes (slip_in t).entries ++ x) e ∙ f)
      ∙ ap (λ (x : List ℕ). be 4 (slip_length (slip_in t)) ++ x) (sym (v ∙ ap (λ (x : List ℕ). 1 ∷ x) d))
      ∙ ap (λ (x : ℕ). be 4 x ++ drop 4 t) (sym w.told)
      ∙ ap (λ (x : List ℕ). x ++ drop 4 t) (be_big 4 t 0 b (omega arith)) ∙ take-append-drop 4 t

length_slip : (s : Slip) → length (slip_bytes s) ≡ 4 + slip_length s
length_slip s =
    length-append (be 4 (slip_length s)) (1 ∷ s.desk ∷ entries_bytes s.entries) ∙ omega (arith, length_be 4 (slip_length s), length_entries s.entries)

-- a slip by the rule that was written in front is read
module _ (s : Slip) (r : List ℕ) (least : ℕ) (w : ByRule least s) where
  t : List ℕ
  t = slip_bytes s ++ r

  parts : List ℕ
  parts = 1 ∷ s.desk ∷ entries_bytes s.entries ++ r

  in_parts : t ≡ be 4 (slip_length s) ++ parts
  unfolding t parts
  in_parts = append_assoc (be 4 (slip_length s)) (1 ∷ s.desk ∷ entries_bytes s.entries) r

  pub slip_length_is : length_in (slip_bytes s ++ r) ≡ slip_length s
  unfolding t
  slip_length_is = rw in_parts (big_be 4 (slip_length s) parts w.short)

  long : length (be 4 (slip_length s)) ≡ 4
  long = length_be 4 (slip_length s)

  version_in : get_or (slip_bytes s ++ r) 4 0 ≡ 1
  unfolding t parts
  version_in = rw in_parts (get_or_at (be 4 (slip_length s)) 1 _ 0 4 long)

  pub desk_in_is : desk_in (slip_bytes s ++ r) ≡ s.desk
  unfolding t parts
  desk_in_is = rw in_parts (subst (λ (k : ℕ). get_or (be 4 (slip_length s) ++ parts) (k + 1) 0 ≡ s.desk) long (get_or-append-add (be 4 (slip_length s)) parts 1 0))

  entries_in_are : drop 6 (slip_bytes s ++ r) ≡ entries_bytes s.entries ++ r
  unfolding t parts
  entries_in_are = rw in_parts (subst (λ (k : ℕ). drop (k + 2) (be 4 (slip_length s) ++ parts) ≡ entries_bytes s.entries ++ r) long (drop-append-add (be 4 (slip_length s)) parts 2))

  pub slip_back : slip_in (slip_bytes s ++ r) ≡ s
  slip_back =
      let n : (length_in (slip_bytes s ++ r) - 2) / 12 ≡ length s.entries = omega (arith, slip_length_is) in
      let e : (slip_in (slip_bytes s ++ r)).entries ≡ s.entries = rw (n, entries_in_are) (entries_back s.entries r w.fit) in
      λ i. record { desk = desk_in_is i; entries = e i }

  pub slip_whole : Whole (slip_bytes s ++ r) least
  slip_whole =
      record {
        told = slip_length_is ∙ ap slip_length (sym slip_back);
        within = omega (arith, slip_length_is, length_slip s, length-append (slip_bytes s) r);
        version = version_in;
        desk = rw desk_in_is w.above;
        rises = rw (ap (λ (x : Slip). x.entries) slip_back) (rising_rises s.entries w.rise);
      }

  pub slip_rest : drop (4 + length_in (slip_bytes s ++ r)) (slip_bytes s ++ r) ≡ r
  slip_rest =
      let z : 4 + length_in (slip_bytes s ++ r) ≡ 6 + 12 * length s.entries = omega (arith, slip_length_is) in
      rw (z, ← drop-drop, entries_in_are) (drop_at (entries_bytes s.entries) r (12 * length s.entries) (length_entries s.entries))
