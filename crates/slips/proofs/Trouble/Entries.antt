-- Entries that are the same, and how often an entry stands in a list. Assumes nothing.
use mathlib.Core.Path.{◌≡◌, refl, ap}
use mathlib.Core.Bool.{Bool, true, false, cond, ◌&&◌}
use mathlib.Core.List.{List, [], ◌∷◌}
use mathlib.Core.Logic.{◌⊎◌, inl, inr, ⊎_elim}
use Prim.Native.Nat.{ℕ, ◌+◌, ◌<◌}
use native.Mathlib.Omega.{arith}
use borrow.Author.Tests.{eq-eqb, ne_eqb, eqb-true}
use lib.Dec.{eqb}
use Rattle.fields.proofs.Zeros.{both_true}
use Rattle.objects.specs.declared.Entry.{Entry}
use Rattle.objects.specs.Named.{In}
use Rattle.objects.specs.Rising.{Above}
use Rattle.slips.specs.Right.{same, times}

pub entry_same : {e x : Entry} → e.start ≡ x.start → e.size ≡ x.size → e.kind ≡ x.kind → e ≡ x
entry_same p q r = λ i. record { start = p i; size = q i; kind = r i }

pub same_self : (e : Entry) → same e e ≡ true
same_self e = rw (eq-eqb e.start e.start refl, eq-eqb e.size e.size refl, eq-eqb e.kind e.kind refl)

pub same_true : (e x : Entry) → same e x ≡ true → e ≡ x
same_true e x q =
    let a = both_true (eqb e.start x.start && eqb e.size x.size) _ q in
    let b = both_true (eqb e.start x.start) _ a.0 in
    entry_same (eqb-true _ _ b.0) (eqb-true _ _ b.1) (eqb-true _ _ a.1)

pub same_false : (e x : Entry) → same e x ≡ false → (e ≡ x) → ⊥
same_false e x q z = let t = same_self x in let a : same x x ≡ false = rw z at q in cc

pub same_other : (e x : Entry) → (e.start ≡ x.start → ⊥) → same e x ≡ false
same_other e x n = rw (ne_eqb e.start x.start n)

-- the start is the same where the entry is
pub start_same : {e x : Entry} → e ≡ x → e.start ≡ x.start
start_same q = ap (λ (y : Entry). y.start) q

pub in_above : (k : ℕ) (e : Entry) (os : List Entry) → Above k os → In e os → k < e.start
in_above k e [] w i = absurd i
in_above k e (x ∷ os) w i = ⊎_elim (λ q. rw q w.0) (λ j. in_above k e os w.1 j) i

pub times_above : (o : Entry) (s : List Entry) → Above o.start s → times o s ≡ 0
times_above o [] w = refl
times_above o (e ∷ s) w = rw (same_other o e (λ z. omega (arith, w.0)), times_above o s w.1)

-- an entry stands in a list where it stands there at least once

counted : (b : Bool) (n : ℕ) → (cond b 1 0 + n ≡ 0) → (b ≡ false) × (n ≡ 0)
counted true n z = absurd (omega arith)
counted false n z = (refl, omega arith)

pub times_none : (e : Entry) (os : List Entry) → times e os ≡ 0 → In e os → ⊥
times_none e [] z i = i
times_none e (x ∷ os) z i =
    let c = counted (same e x) (times e os) z in
    ⊎_elim (λ q. same_false e x c.0 q) (λ j. times_none e os c.1 j) i

times_here : (e x : Entry) (os : List Entry) (b : Bool) → same e x ≡ b → (In e os ⊎ (times e os ≡ 0)) → In e (x ∷ os) ⊎ (cond b 1 0 + times e os ≡ 0)
times_here e x os true q w = inl (inl (same_true e x q))
times_here e x os false q w = ⊎_elim (λ j. inl (inr j)) (λ z. inr (omega arith)) w

pub times_some : (e : Entry) (os : List Entry) → In e os ⊎ (times e os ≡ 0)
times_some e [] = inr refl
times_some e (x ∷ os) = times_here e x os (same e x) refl (times_some e os)
