-- What the check's answers say, each as an `↔`: accepted, and refused by 25 to 27, by the log's numbers, by 24 and 20
-- to 23, and by 28. The numbers tell which test has answered. Assumes nothing.
use mathlib.Core.Path.{◌≡◌, refl, sym, subst, ◌∙◌}
use mathlib.Core.List.{List}
use mathlib.Core.Logic.{◌↔◌, ⊎_elim}
use Prim.Native.Nat.{ℕ, ◌<◌, ◌≤◌}
use native.Mathlib.Omega.{arith}
use lib.ListN.{length}
use Rattle.fields.specs.Numbers.{Bytes}
use Rattle.objects.specs.Answers as walked
use Rattle.objects.specs.declared.Entry.{Entry}
use Rattle.objects.specs.Named.{entries_of}
use Rattle.objects.proofs.Answers.{same_refusal}
use Rattle.objects.proofs.Naming.{small}
use Rattle.slips.specs.Verdicts.{Accepted, Refused}
use Rattle.slips.specs.Cut.{Fault, cut_of}
use Rattle.slips.specs.Right.{entries_on}
use Rattle.slips.specs.Trouble.{InTrouble, Trouble, None, Found, First}
use Rattle.slips.specs.Soonest.{trouble_of}
use Rattle.slips.specs.Check.{answer_of, check_of}
use Rattle.slips.specs.Claims.{longest, Formed, LogRefused, Honest, Troubled}
use Rattle.slips.proofs.Format.Cuts.{fault_number}
use Rattle.slips.proofs.Trouble.Least.{one_least}
use Rattle.slips.proofs.Trouble.Troubles.{trouble_is_first, trouble_exact}
use Rattle.slips.proofs.Theorems.Told.{Told, long, bundle, log, slips, told_of, check_slips, check_log, check_bundle, check_long, told, answer}

-- which answers there are

differ : {k p n : ℕ} → Refused k p ≡ Accepted n → ⊥
differ e = cc

number : {k p j x : ℕ} → Refused k p ≡ Refused j x → k ≡ j
number e = (same_refusal e).0

place : {k p j x : ℕ} → Refused k p ≡ Refused j x → p ≡ x
place e = (same_refusal e).1

accepted_none : (m n : ℕ) (t : Trouble) → answer_of (walked.Count m) t ≡ Accepted n → (t ≡ None) × (m ≡ n)
accepted_none m n None e = (refl, cc)
accepted_none m n (Found k x) e = absurd (differ e)

refused_found : (m k x : ℕ) (t : Trouble) → answer_of (walked.Count m) t ≡ Refused k x → t ≡ Found k x
refused_found m k x None e = absurd (differ (sym e))
refused_found m k x (Found j y) e = rw (number e, place e)

trouble_number : (os : List Entry) (ss : List (List Entry)) (k x : ℕ) → InTrouble os ss k x → (25 ≤ k) × (k ≤ 27)
trouble_number os ss k x = ⊎_elim (λ t. omega (arith, t.0)) (⊎_elim (λ t. omega (arith, t.0)) (λ t. omega (arith, t.0)))

module _ (s b : List ℕ) (bs : Bytes s) (bb : Bytes b) where
  -- a refusal of formed slips is their first trouble
  formed_first : (f : Formed s b) (k x : ℕ) → told_of (slips f) ≡ Refused k x → First (entries_of 0 f.objects) (entries_on f.slips) (Found k x)
  formed_first f k x q =
      let os = entries_of 0 f.objects in
      let ss = entries_on f.slips in
      subst (First os ss) (refused_found (length f.objects) k x (trouble_of os ss) q) (trouble_is_first os ss)

  formed_number : (f : Formed s b) (k x : ℕ) → told_of (slips f) ≡ Refused k x → (25 ≤ k) × (k ≤ 27)
  formed_number f k x q = trouble_number (entries_of 0 f.objects) (entries_on f.slips) k x (formed_first f k x q).0

  -- accepted

  accepted_honest : (n : ℕ) (t : Told s b) → told_of t ≡ Accepted n → Honest s b n
  accepted_honest n (long l) q = absurd (differ q)
  accepted_honest n (bundle l k p e) q = absurd (differ q)
  accepted_honest n (log k p w) q = absurd (differ q)
  accepted_honest n (slips f) q =
      let a = accepted_none (length f.objects) n _ q in
      record { formed = f; many = a.1; right = (trouble_exact _ _).0 a.0 }

  pub check_exact : (n : ℕ) → (check_of s b ≡ Accepted n) ↔ Honest s b n
  check_exact n = (
    (λ q. accepted_honest n (told s b bs bb) (answer s b bs bb q)),
    (λ h. check_slips s b bs bb h.formed ∙ rw ((trouble_exact _ _).1 h.right, h.many)),
  )

  -- 25 to 27

  refused_troubled : (k x : ℕ) → 25 ≤ k → k ≤ 27 → (t : Told s b) → told_of t ≡ Refused k x → Troubled s b k x
  refused_troubled k x l m (long h) q = absurd (omega (arith, number q))
  refused_troubled k x l m (bundle h j p e) q = absurd (omega (arith, number q, fault_number b j p e))
  refused_troubled k x l m (log j p w) q = absurd (omega (arith, number q, small s j p w.walk))
  refused_troubled k x l m (slips f) q = record { formed = f; first = formed_first f k x q }

  pub first_trouble : (k x : ℕ) → ((25 ≤ k) × (k ≤ 27) × (check_of s b ≡ Refused k x)) ↔ Troubled s b k x
  first_trouble k x = (
    (λ q. refused_troubled k x q.0 q.1 (told s b bs bb) (answer s b bs bb q.2)),
    (λ h.
        let os = entries_of 0 h.formed.objects in
        let ss = entries_on h.formed.slips in
        let n = trouble_number os ss k x h.first.0 in
        let e = one_least (InTrouble os ss) (trouble_of os ss) (Found k x) (trouble_is_first os ss) h.first in
        (n.0, n.1, check_slips s b bs bb h.formed ∙ rw e)),
  )

  -- 1 to 9

  refused_log : (k p : ℕ) → k ≤ 9 → (t : Told s b) → told_of t ≡ Refused k p → LogRefused s b k p
  refused_log k p l (long h) q = absurd (omega (arith, number q))
  refused_log k p l (bundle h j x e) q = absurd (omega (arith, number q, fault_number b j x e))
  refused_log k p l (log j x w) q = rw (← number q, ← place q) w
  refused_log k p l (slips f) q = absurd (omega (arith, formed_number f k p q))

  pub log_refusals : (k p : ℕ) → ((k ≤ 9) × (check_of s b ≡ Refused k p)) ↔ LogRefused s b k p
  log_refusals k p = (
    (λ q. refused_log k p q.0 (told s b bs bb) (answer s b bs bb q.1)),
    (λ w. (small s k p w.walk, check_log s b bs bb k p w)),
  )

  -- 24 and 20 to 23

  refused_bundle : (k p : ℕ) → 20 ≤ k → k ≤ 24 → (t : Told s b) → told_of t ≡ Refused k p → (length s ≤ longest) × (cut_of b ≡ Fault k p)
  refused_bundle k p l m (long h) q = absurd (omega (arith, number q))
  refused_bundle k p l m (bundle h j x e) q = (h, rw (← number q, ← place q) e)
  refused_bundle k p l m (log j x w) q = absurd (omega (arith, number q, small s j x w.walk))
  refused_bundle k p l m (slips f) q = absurd (omega (arith, formed_number f k p q))

  pub bundle_refusals : (k p : ℕ) → ((20 ≤ k) × (k ≤ 24) × (check_of s b ≡ Refused k p)) ↔ ((length s ≤ longest) × (cut_of b ≡ Fault k p))
  bundle_refusals k p = (
    (λ q. refused_bundle k p q.0 q.1 (told s b bs bb) (answer s b bs bb q.2)),
    (λ h. let n = fault_number b k p h.1 in (n.0, n.1, check_bundle s b bs bb h.0 k p h.1)),
  )

  -- 28

  refused_long : (p : ℕ) (t : Told s b) → told_of t ≡ Refused 28 p → (longest < length s) × (p ≡ 0)
  refused_long p (long h) q = (h, sym (place q))
  refused_long p (bundle h j x e) q = absurd (omega (arith, number q, fault_number b j x e))
  refused_long p (log j x w) q = absurd (omega (arith, number q, small s j x w.walk))
  refused_long p (slips f) q = absurd (omega (arith, formed_number f 28 p q))

  pub too_long : (p : ℕ) → (check_of s b ≡ Refused 28 p) ↔ ((longest < length s) × (p ≡ 0))
  too_long p = (
    (λ q. refused_long p (told s b bs bb) (answer s b bs bb q)),
    (λ h. check_long s b bs bb h.0 ∙ rw h.1),
  )
