-- The event that bytes are: a valid event is what bytes are exactly when they are its object's bytes. Assumes nothing.
use mathlib.Core.Path.{◌≡◌, refl, sym, ap, subst, ◌∙◌}
use mathlib.Core.Bool.{Bool, true, false, cond}
use mathlib.Core.Logic.{◌↔◌}
use mathlib.Core.List.{List}
use Prim.Native.Nat.{ℕ}
use native.Mathlib.Omega.{arith}
use lib.Dec.{eqb, leb}
use lib.ListN.{length}
use borrow.Author.Tests.{eqb-true, eq-eqb, le-leb}
use Rattle.fields.specs.Numbers.{Bytes}
use Rattle.fields.proofs.Zeros.{both_true}
use Rattle.headers.specs.declared.header.Header.{Header}
use Rattle.headers.specs.Format.{head_size, size_at, kind_at, header_of, body_of, unit_ok}
use Rattle.headers.specs.HeadTests.{head_fault}
use Rattle.headers.specs.Rows.{row_of, listed}
use Rattle.headers.specs.Types.{Kind, number_of, kinds}
use Rattle.headers.specs.Types as kind
use Rattle.headers.specs.Layout.{Holds}
use Rattle.headers.proofs.Heads.{clear_object}
use Rattle.headers.proofs.Bodies.{object_held, held_least}
use Rattle.headers.proofs.Layouts.{object_back, object_holds}
use Rattle.headers.proofs.TypeKinds.{known as listed-kind}
use Rattle.objects.specs.Kinds.{Record, layout_of, find}
use Rattle.objects.specs.Kinds as sort
use Rattle.objects.specs.Items.{known, Valid, bytes_of}
use Rattle.objects.specs.Items as items
use Rattle.objects.specs.Logs.{WellFormed}
use Rattle.objects.specs.Faults.{inner_by, inner_fault_of, fault_by, type_fault, IsObject}
use Rattle.objects.proofs.KindLaws.{laws, found, listed_inner, listed_fault_is}
use Rattle.objects.proofs.ItemLaws.{long, reading}
use Rattle.objects.proofs.Steps.{is_object}
use Rattle.objects.proofs.Standing.{item_object}
use Rattle.can.specs.declared.message.Message.{Message}
use Rattle.can.specs.declared.overload.Overload.{Overload}
use Rattle.can.specs.declared.statistic.Statistic.{Statistic}
use Rattle.outcomes.specs.Reads.{record_of, record_in}
use Rattle.outcomes.proofs.Reading.{record_long}
use Rattle.asc.specs.Tells.{Event, message, overload, statistic}
use Rattle.asc.specs.Writes.{item_of, one, none}
use Rattle.asc.specs.Objects.{whole, event_as, event_in}

-- 7 to 9 let through what 8 and 9 do
inner_clear : (f : sort.Found) (o : List ℕ) → fault_by f o ≡ 0 → inner_by f o ≡ 0
inner_clear (sort.one k) o e = ((clear_object o _).0 e).1
inner_clear sort.none o e = refl

inner_right : (o : List ℕ) → IsObject o → inner_fault_of (kind_at o) o ≡ 0
unfolding inner_fault_of type_fault
inner_right o w = inner_clear (find kinds (kind_at o)) o w.body

-- a well-formed object is exactly one object
pub whole_formed : (o : List ℕ) → WellFormed o → whole o ≡ true
unfolding whole
whole_formed o f =
    let w = is_object o f in
    rw (le-leb head_size (length o) (long o w), eq-eqb (head_fault o) 0 w.head, eq-eqb (size_at o) (length o) w.sized, eq-eqb (inner_fault_of (kind_at o) o) 0 (inner_right o w))

-- so the event that it is goes by its type
pub event_whole : (o : List ℕ) → WellFormed o → event_in o ≡ event_as (kind_at o) o
unfolding event_in
event_whole o f = rw (whole_formed o f)

-- what exactly one object passes
record Whole (o : List ℕ) : Type 0 where
  head : head_fault o ≡ 0
  sized : size_at o ≡ length o
  inner : inner_fault_of (kind_at o) o ≡ 0

whole_passes : (o : List ℕ) → whole o ≡ true → Whole o
unfolding whole
whole_passes o e =
    let a = both_true (leb head_size (length o)) _ e in
    let b = both_true (eqb (head_fault o) 0) _ a.1 in
    let c = both_true (eqb (size_at o) (length o)) _ b.1 in
    record { head = eqb-true _ _ b.0; sized = eqb-true _ _ c.0; inner = eqb-true _ _ c.1 }

-- an object of type k
module _ (k : Kind) where
  -- a record's bytes give the record back
  record_back : (r : Record k) → (layout_of k).Valid r → record_in k (bytes_of (known k r)) ≡ r
  unfolding bytes_of
  record_back r v =
      let o = bytes_of (known k r) in
      let l = held_least k o (object_holds (layout_of k) (laws k) r v) in
      sym (record_long k o l) ∙ object_back (layout_of k) (laws k) r v

  -- an object whose record is valid is that record's bytes
  module _ (o : List ℕ) (bs : Bytes o) (w : Whole o) (n : kind_at o ≡ number_of k) where
    listed_here : listed (row_of (kind_at o)) ≡ true
    listed_here = rw n (listed-kind k)

    record_here : record_of k o ≡ record_in k o
    record_here =
        let h : Holds (number_of k) o = rw n at (object_held o w.head w.sized listed_here) in
        record_long k o (held_least k o h)

    header_here : (layout_of k).header (record_in k o) ≡ header_of o
    header_here = ap (layout_of k).header (sym record_here) ∙ (laws k).same_header (header_of o) (body_of o)

    is_one : (layout_of k).Valid (record_in k o) → IsObject o
    is_one v =
        let u : unit_ok (header_of o).unit ≡ true = subst (λ (h : Header). unit_ok h.unit ≡ true) header_here v.unit in
        record {
          sized = w.sized;
          head = w.head;
          body = sym (listed_fault_is (kind_at o) o listed_here) ∙ (clear_object o _).1 (u, listed_inner (kind_at o) o listed_here ∙ w.inner);
        }

    bytes_here : (layout_of k).Valid (record_in k o) → bytes_of (known k (record_in k o)) ≡ o
    unfolding items.item_of
    bytes_here v =
        let i : items.item_of o ≡ known k (record_in k o) = rw (n, found k) (ap (known k) record_here) in
        ap bytes_of (sym i) ∙ (reading o bs (is_one v)).same

-- the bytes of a valid event are that event
object_event : (e : Event) → Valid (item_of e) → event_in (bytes_of (item_of e)) ≡ one e
unfolding event_as
object_event e v = event_whole (bytes_of (item_of e)) (item_object (item_of e) v).0 ∙ by e v
  where
    by : (e : Event) → Valid (item_of e) → event_as (kind_at (bytes_of (item_of e))) (bytes_of (item_of e)) ≡ one e
    by (message r) v = rw (item_object (item_of (message r)) v).1 (ap (λ (x : Message). one (message x)) (record_back kind.can_message r v))
    by (overload r) v = rw (item_object (item_of (overload r)) v).1 (ap (λ (x : Overload). one (overload x)) (record_back kind.overload r v))
    by (statistic r) v = rw (item_object (item_of (statistic r)) v).1 (ap (λ (x : Statistic). one (statistic x)) (record_back kind.statistic r v))

-- and bytes that are a valid event are its object's
module _ (o : List ℕ) (bs : Bytes o) where
  by_type : Whole o → (a b c : Bool) → eqb (kind_at o) (number_of kind.can_message) ≡ a → eqb (kind_at o) (number_of kind.overload) ≡ b → eqb (kind_at o) (number_of kind.statistic) ≡ c
      → (e : Event)
      → cond a (one (message (record_in kind.can_message o))) (cond b (one (overload (record_in kind.overload o))) (cond c (one (statistic (record_in kind.statistic o))) none)) ≡ one e
      → Valid (item_of e) → bytes_of (item_of e) ≡ o
  by_type w true b c p q r e z =
      let i : message (record_in kind.can_message o) ≡ e = cc in
      subst (λ (x : Event). Valid (item_of x) → bytes_of (item_of x) ≡ o) i (bytes_here kind.can_message o bs w (eqb-true _ _ p))
  by_type w false true c p q r e z =
      let i : overload (record_in kind.overload o) ≡ e = cc in
      subst (λ (x : Event). Valid (item_of x) → bytes_of (item_of x) ≡ o) i (bytes_here kind.overload o bs w (eqb-true _ _ q))
  by_type w false false true p q r e z =
      let i : statistic (record_in kind.statistic o) ≡ e = cc in
      subst (λ (x : Event). Valid (item_of x) → bytes_of (item_of x) ≡ o) i (bytes_here kind.statistic o bs w (eqb-true _ _ r))
  by_type w false false false p q r e z = absurd (let z : ◌≡◌ {A = ℕ} 0 1 = cc in omega arith)

  by_whole : (b : Bool) → whole o ≡ b → (e : Event) → cond b (event_as (kind_at o) o) none ≡ one e → Valid (item_of e) → bytes_of (item_of e) ≡ o
  unfolding event_as
  by_whole true w e z =
      by_type (whole_passes o w) (eqb (kind_at o) (number_of kind.can_message)) (eqb (kind_at o) (number_of kind.overload)) (eqb (kind_at o) (number_of kind.statistic)) refl refl refl e z
  by_whole false w e z = absurd (let z : ◌≡◌ {A = ℕ} 0 1 = cc in omega arith)

  event_object : (e : Event) → event_in o ≡ one e → Valid (item_of e) → bytes_of (item_of e) ≡ o
  unfolding event_in
  event_object e z = by_whole (whole o) refl e z

-- a valid event is what bytes are exactly when they are its object's bytes
pub event_exact : (o : List ℕ) → Bytes o → (e : Event) → Valid (item_of e) → (event_in o ≡ one e) ↔ (bytes_of (item_of e) ≡ o)
event_exact o bs e v = (λ z. event_object o bs e z v, λ q. subst (λ (x : List ℕ). event_in x ≡ one e) q (object_event e v))
