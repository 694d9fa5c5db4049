-- A bundle is cut into slips exactly where its bytes are those of at most eight slips by the rule. Assumes nothing.
use mathlib.Core.Path.{◌≡◌, refl, sym, ap, subst, ◌∙◌}
use mathlib.Core.Bool.{Bool, true, false, cond}
use mathlib.Core.List.{List, [], ◌∷◌, ◌++◌}
use mathlib.Core.Logic.{◌↔◌, ◌⊎◌, inl, inr, ⊎_elim}
use Prim.Native.Nat.{ℕ, zero, suc, ◌+◌, ◌<◌, ◌≤◌}
use native.Mathlib.Omega.{arith}
use borrow.Author.Tests.{ne_eqb, eqb-true}
use lib.ListN.{length, drop}
use lib.Dec.{eqb}
use Rattle.fields.specs.Numbers.{Bytes}
use Rattle.fields.proofs.Parts.{drop_bytes}
use Rattle.headers.specs.HeadTests.{first}
use Rattle.slips.specs.Cut.{Slip, slip_limit, length_in, desk_in, slip_in, fault_of, Cut, Slips, Fault, onto, or_fault, cut_from, cut_of}
use Rattle.slips.specs.Bundle.{slip_bytes, bundle_bytes, AllByRule, BundleOf}
use Rattle.slips.proofs.Format.SlipFaults.{Whole, no_fault, fault_none}
use Rattle.slips.proofs.Format.SlipBytes.{slip_rule, slip_forth, desk_in_is, slip_back, slip_whole, slip_rest}

-- what is behind the slip that t begins with
abbrev pub behind : ℕ → List ℕ → ℕ → Cut
behind k t at = cut_from k (drop (4 + length_in t) t) (at + (4 + length_in t)) (desk_in t + 1)

-- slips were cut off t: none, or the first of them and then the others
pub record Next (k : ℕ) (t : List ℕ) (at least : ℕ) (ss : List Slip) : Type 0 where
  pub whole : Whole t least
  pub list : List Slip
  pub first : ss ≡ slip_in t ∷ list
  pub then : behind k t at ≡ Slips list

module _ (k : ℕ) (t : List ℕ) (at least : ℕ) (ss : List Slip) where
  next_onto : fault_of t least ≡ 0 → (c : Cut) → behind k t at ≡ c → onto (slip_in t) c ≡ Slips ss → Next k t at least ss
  next_onto f (Slips qs) e q = record { whole = no_fault t least f; list = qs; first = cc; then = e }
  next_onto f (Fault j p) e q = absurd cc

  next_fault : (f : ℕ) → fault_of t least ≡ f → or_fault f at (onto (slip_in t) (behind k t at)) ≡ Slips ss → Next k t at least ss
  next_fault zero e q = next_onto e (behind k t at) refl q
  next_fault (suc f) e q = absurd cc

  next_more : (b : Bool) → eqb (length t) 0 ≡ b → cond b (Slips []) (or_fault (fault_of t least) at (onto (slip_in t) (behind k t at))) ≡ Slips ss
      → ((length t ≡ 0) × (ss ≡ [])) ⊎ Next k t at least ss
  next_more true e q = inl (eqb-true _ _ e, cc)
  next_more false e q = inr (next_fault (fault_of t least) refl q)

  pub next_slip : cut_from (suc k) t at least ≡ Slips ss → ((length t ≡ 0) × (ss ≡ [])) ⊎ Next k t at least ss
  next_slip q = next_more (eqb (length t) 0) refl q

last_pick : (t : List ℕ) (at : ℕ) (ss : List Slip) (b : Bool) → eqb (length t) 0 ≡ b → cond b (Slips []) (Fault 24 at) ≡ Slips ss → (length t ≡ 0) × (ss ≡ [])
last_pick t at ss true e q = (eqb-true _ _ e, cc)
last_pick t at ss false e q = absurd cc

pub last_slip : (t : List ℕ) (at least : ℕ) (ss : List Slip) → cut_from zero t at least ≡ Slips ss → (length t ≡ 0) × (ss ≡ [])
last_slip t at least ss q = last_pick t at ss (eqb (length t) 0) refl q

-- what was cut is by the rule

empty : (t : List ℕ) → length t ≡ 0 → t ≡ []
empty [] z = refl
empty (x ∷ t) z = absurd (omega arith)

pub record Bundled (k : ℕ) (t : List ℕ) (least : ℕ) (ss : List Slip) : Type 0 where
  pub bytes : t ≡ bundle_bytes ss
  pub few : length ss ≤ k
  pub rule : AllByRule least ss

none_cut : (k : ℕ) (t : List ℕ) (least : ℕ) (ss : List Slip) → (length t ≡ 0) × (ss ≡ []) → Bundled k t least ss
none_cut k t least ss z = rw z.1 (record { bytes = empty t z.0; few = omega arith; rule = tt })

cut_rule : (k : ℕ) (t : List ℕ) (at least : ℕ) (ss : List Slip) → Bytes t → cut_from k t at least ≡ Slips ss → Bundled k t least ss
cut_rule zero t at least ss b q = none_cut zero t least ss (last_slip t at least ss q)
cut_rule (suc k) t at least ss b q =
    ⊎_elim
    (none_cut (suc k) t least ss)
    (λ n.
    let ih = cut_rule k (drop (4 + length_in t) t) (at + (4 + length_in t)) (desk_in t + 1) n.list (drop_bytes (4 + length_in t) t b) n.then in
    rw n.first
    (record {
      bytes = sym (slip_forth t least b n.whole) ∙ ap (λ (x : List ℕ). slip_bytes (slip_in t) ++ x) ih.bytes;
      few = omega (arith, ih.few);
      rule = (slip_rule t least b n.whole, ih.rule);
    }))
    (next_slip k t at least ss q)

-- what is by the rule is cut

cut_none : (k at least : ℕ) → cut_from k [] at least ≡ Slips []
cut_none zero at least = refl
cut_none (suc k) at least = refl

cut_one : (k : ℕ) (t : List ℕ) (at least : ℕ) → 0 < length t → fault_of t least ≡ 0 → cut_from (suc k) t at least ≡ onto (slip_in t) (behind k t at)
cut_one k t at least l f = rw (ne_eqb (length t) 0 (λ z. omega arith), f)

rule_cut : (ss : List Slip) (k at least : ℕ) → length ss ≤ k → AllByRule least ss → cut_from k (bundle_bytes ss) at least ≡ Slips ss
rule_cut [] k at least l w = cut_none k at least
rule_cut (s ∷ ss) zero at least l w = absurd (omega arith)
rule_cut (s ∷ ss) (suc k) at least l w =
    let r = bundle_bytes ss in
    let t : List ℕ = slip_bytes s ++ r in
    let v : Whole t least = slip_whole s r least w.0 in
    let c : behind k t at ≡ Slips ss =
    rw (slip_rest s r least w.0, desk_in_is s r least w.0) (rule_cut ss k (at + (4 + length_in t)) (s.desk + 1) (omega arith) w.1) in
    cut_one k t at least (omega (arith, v.within)) (fault_none t least v) ∙ rw (c, slip_back s r least w.0)

-- the bundle's bytes are those of at most eight slips by the rule exactly where no refusal of 24 and 20 to 23 is given
pub bundle_exact : (b : List ℕ) (ss : List Slip) → Bytes b → (cut_of b ≡ Slips ss) ↔ BundleOf b ss
unfolding cut_of
bundle_exact b ss w = (
  (λ q. let c = cut_rule slip_limit b 0 0 ss w q in record { bytes = c.bytes; few = c.few; rule = c.rule }),
  (λ h. rw h.bytes (rule_cut ss slip_limit 0 0 h.few h.rule)),
)

-- a refusal of a bundle has one of these numbers

first_number : (t u v w : Bool) (k : ℕ) → first 20 t (first 21 u (first 22 v (first 23 w 0))) ≡ suc k → (20 ≤ suc k) × (suc k ≤ 24)
unfolding first
first_number false u v w k e = omega arith
first_number true false v w k e = omega arith
first_number true true false w k e = omega arith
first_number true true true false k e = omega arith
first_number true true true true k e = absurd (omega arith)

abbrev Numbered : Cut → Type 0
Numbered (Slips ss) = Unit
Numbered (Fault k p) = (20 ≤ k) × (k ≤ 24)

onto_numbered : (s : Slip) (c : Cut) → Numbered c → Numbered (onto s c)
onto_numbered s (Slips ss) w = tt
onto_numbered s (Fault k p) w = w

or_numbered : (t : List ℕ) (at least f : ℕ) (c : Cut) → fault_of t least ≡ f → Numbered c → Numbered (or_fault f at c)
unfolding fault_of
or_numbered t at least zero c e w = w
or_numbered t at least (suc f) c e w = first_number _ _ _ _ f e

cond_numbered : (b : Bool) (c : Cut) → Numbered c → Numbered (cond b (Slips []) c)
cond_numbered true c w = tt
cond_numbered false c w = w

cut_numbered : (k : ℕ) (t : List ℕ) (at least : ℕ) → Numbered (cut_from k t at least)
cut_numbered zero t at least = cond_numbered (eqb (length t) 0) (Fault 24 at) (omega arith, omega arith)
cut_numbered (suc k) t at least =
    cond_numbered (eqb (length t) 0) _
    (or_numbered t at least (fault_of t least) _ refl
    (onto_numbered (slip_in t) (behind k t at) (cut_numbered k (drop (4 + length_in t) t) (at + (4 + length_in t)) (desk_in t + 1))))

pub fault_number : (b : List ℕ) (k p : ℕ) → cut_of b ≡ Fault k p → (20 ≤ k) × (k ≤ 24)
unfolding cut_of
fault_number b k p e = subst Numbered e (cut_numbered slip_limit b 0 0)
