-- Entries and their bytes: what was written is read, what is read was written, and starts that rise. Assumes nothing.
use mathlib.Core.Path.{◌≡◌, refl, sym, ap, ◌∙◌}
use mathlib.Core.Bool.{true}
use mathlib.Core.List.{List, [], ◌∷◌, ◌++◌, append_assoc}
use Prim.Native.Nat.{ℕ, zero, suc, ◌+◌, ◌*◌, ◌<◌, ◌≤◌}
use native.Mathlib.Omega.{arith}
use borrow.Author.Tests.{le-leb, leb-true}
use lib.ListN.{length, drop, length-append, length-drop, take-append-drop}
use lib.Seq.{drop-drop, drop_at}
use lib.Dec.{leb}
use Rattle.fields.specs.Numbers.{Bytes}
use Rattle.fields.specs.Digits.{be}
use Rattle.fields.proofs.Parts.{drop_bytes}
use Rattle.fields.proofs.Reading.{more}
use Rattle.fields.proofs.Zeros.{both_true}
use Rattle.objects.specs.declared.Entry.{Entry}
use Rattle.objects.specs.Rising.{Above, Rising}
use Rattle.slips.specs.Bundle.{entry_bytes, entries_bytes, Fits, AllFit}
use Rattle.slips.specs.Cut.{entry_in, entries_in, rises_from}
use Rattle.slips.proofs.Trouble.Entries.{entry_same}
use Rattle.fields.proofs.BigEndian.{length_be, big_be, big_behind, big_lt, got_be}

length_entry : (e : Entry) → length (entry_bytes e) ≡ 12
length_entry e = simp (length-append, length_be)

pub length_entries : (es : List Entry) → length (entries_bytes es) ≡ 12 * length es
length_entries [] = refl
length_entries (e ∷ es) = omega (arith, length-append (entry_bytes e) (entries_bytes es), length_entry e, length_entries es)

pub entries_many : (n : ℕ) (t : List ℕ) → length (entries_in n t) ≡ n
entries_many zero t = refl
entries_many (suc n) t = ap suc (entries_many n (drop 12 t))

module _ (e : Entry) (r : List ℕ) (w : Fits e) where
  apart : entry_bytes e ++ r ≡ be 4 e.start ++ (be 4 e.size ++ (be 4 e.kind ++ r))
  apart = simp append_assoc

  entry_back : entry_in (entry_bytes e ++ r) ≡ e
  entry_back =
      rw apart
      (entry_same
      (big_be 4 e.start _ w.start)
      (big_behind 4 4 (be 4 e.start) _ 0 (length_be 4 _) ∙ big_be 4 e.size _ w.size)
      (big_behind 4 4 (be 4 e.start) _ 4 (length_be 4 _) ∙ big_behind 4 4 (be 4 e.size) _ 0 (length_be 4 _) ∙ big_be 4 e.kind _ w.kind))

pub entries_back : (es : List Entry) (r : List ℕ) → AllFit es → entries_in (length es) (entries_bytes es ++ r) ≡ es
entries_back [] r w = refl
entries_back (e ∷ es) r w =
    rw (
      append_assoc (entry_bytes e) (entries_bytes es) r,
      entry_back e (entries_bytes es ++ r) w.0,
      drop_at (entry_bytes e) (entries_bytes es ++ r) 12 (length_entry e),
      entries_back es r w.1,
    )

entry_forth : (t : List ℕ) → Bytes t → 12 ≤ length t → entry_bytes (entry_in t) ++ drop 12 t ≡ t
entry_forth t b h =
    let s = got_be 4 t 0 b (omega arith) in
    let z = got_be 4 t 4 b (omega arith) in
    let k = got_be 4 t 8 b (omega arith) in
    ap (λ (x : List ℕ). x ++ drop 12 t) (more (more s z refl) k refl).is ∙ take-append-drop 12 t

pub entries_forth : (n : ℕ) (t : List ℕ) → Bytes t → 12 * n ≤ length t → entries_bytes (entries_in n t) ++ drop (12 * n) t ≡ t
entries_forth zero t b h = refl
entries_forth (suc n) t b h =
    let u : drop (12 * suc n) t ≡ drop (12 * n) (drop 12 t) = let z : 12 * suc n ≡ 12 + 12 * n = omega arith in ap (λ (k : ℕ). drop k t) z ∙ sym (drop-drop (12 * n) 12 t) in
    let ih = entries_forth n (drop 12 t) (drop_bytes 12 t b) (omega (arith, length-drop 12 t)) in
    append_assoc (entry_bytes (entry_in t)) (entries_bytes (entries_in n (drop 12 t))) (drop (12 * suc n) t)
    ∙ ap (λ (x : List ℕ). entry_bytes (entry_in t) ++ x) (ap (λ (x : List ℕ). entries_bytes (entries_in n (drop 12 t)) ++ x) u ∙ ih)
    ∙ entry_forth t b (omega arith)

pub entries_fit : (n : ℕ) (t : List ℕ) → Bytes t → 12 * n ≤ length t → AllFit (entries_in n t)
entries_fit zero t b h = tt
entries_fit (suc n) t b h = (
  record { start = big_lt 4 t 0 b (omega arith); size = big_lt 4 t 4 b (omega arith); kind = big_lt 4 t 8 b (omega arith) },
  entries_fit n (drop 12 t) (drop_bytes 12 t b) (omega (arith, length-drop 12 t)),
)

-- starts that rise

pub rises_rising : (least : ℕ) (es : List Entry) → rises_from least es ≡ true → ((k : ℕ) → k < least → Above k es) × Rising es
rises_rising least [] q = ((λ k l. tt), tt)
rises_rising least (e ∷ es) q =
    let p = both_true (leb least e.start) _ q in
    let l = leb-true least e.start p.0 in
    let ih = rises_rising (e.start + 1) es p.1 in
    ((λ k h. (omega arith, ih.0 k (omega arith))), (ih.0 e.start (omega arith), ih.1))

rising_from : (k : ℕ) (es : List Entry) → Above k es → Rising es → rises_from (k + 1) es ≡ true
rising_from k [] a r = refl
rising_from k (e ∷ es) a r = rw (le-leb (k + 1) e.start (omega (arith, a.0))) (rising_from e.start es r.0 r.1)

pub rising_rises : (es : List Entry) → Rising es → rises_from 0 es ≡ true
rising_rises [] r = refl
rising_rises (e ∷ es) r = rw (le-leb 0 e.start (omega arith)) (rising_from e.start es r.0 r.1)
