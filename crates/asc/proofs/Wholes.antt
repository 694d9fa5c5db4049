-- Whether bytes are an object, its unit aside, as the code tests it. Assumes nothing.
use mathlib.Core.Path.{◌≡◌, refl, sym, ap, ◌∙◌, subst}
use mathlib.Core.Bool.{Bool, true, false, cond, false≢true}
use mathlib.Core.Logic.{◌⊎◌, inl, inr, ⊎_elim}
use mathlib.Core.List.{List}
use Prim.Native.Nat.{ℕ, ◌≤◌, ◌<◌}
use borrow.Author.Tests.{le-leb, lt-leb, eqb-true, eq-eqb, ne_eqb}
use lib.ListN.{length}
use lib.Dec.{eqb}
use Rattle.std.specs.Prelude.{Option, Some, None, Result, Ok, Err}
use Rattle.std.specs.Result.{is_ok}
use Rattle.headers.specs.declared.refusal.Fault.{Fault}
use Rattle.headers.specs.Faults.{tested}
use Rattle.headers.proofs.Numbers.{some_number}
use Rattle.headers.specs.declared.kind.Kind.{Kind}
use Rattle.headers.specs.declared.kind.Kind.TheVariants as code
use Rattle.headers.specs.Named.{kind_of, type_number, Names}
use Rattle.headers.specs.Format.{head_size, size_at, kind_at, length_at, body_of, header_blank}
use Rattle.headers.specs.Rows.{row_of, listed}
use Rattle.headers.specs.Layout.{Sized}
use Rattle.headers.specs.HeadTests.{first, head_fault}
use Rattle.headers.specs.ObjectTests.{blank_fault}
use Rattle.headers.specs.Form.{body_fault}
use Rattle.headers.specs.Types as list
use Rattle.headers.specs.Types.{number_of, can_message, overload, statistic}
use Rattle.objects.specs.Kinds.{format_of}
use Rattle.objects.specs.Faults.{body_fault_of, inner_fault_of}
use Rattle.objects.proofs.KindLaws.{arm, arm_free, listed_inner}
use Rattle.headers.proofs.Heads.{passes}
use Rattle.headers.proofs.BodyTests.{gap_fault, rule_fault}
use Rattle.headers.proofs.Bodies.{object_held, sized_least}
use Rattle.headers.proofs.TypeKinds.{known}
use Rattle.can.specs.declared.message.Message.{Message}
use Rattle.can.specs.declared.overload.Overload.{Overload}
use Rattle.can.specs.declared.statistic.Statistic.{Statistic}
use Rattle.outcomes.specs.Reads.{record_in}
use Rattle.asc.specs.Objects.{whole, event_as, event_in, found}
use Rattle.asc.specs.Tells.{message}
use Rattle.asc.specs.Tells as event
use Rattle.asc.specs.Writes.{Found, one, none}

-- a test by whether it let through
module _ {A : Type 0} where
  pub let_through : (r : Result A Fault) → is_ok r ≡ true → tested r ≡ 0
  let_through (Ok a) e = refl
  let_through (Err f) e = absurd (false≢true e)

  pub held_back : (r : Result A Fault) → is_ok r ≡ false → tested r ≡ 0 → ⊥
  held_back (Ok a) e z = false≢true (sym e)
  held_back (Err f) e z = some_number f z

-- the three types that have a line, and the others
events : (k : Kind) → (k ≡ code.CanMessage) ⊎ ((k ≡ code.CanOverload) ⊎ ((k ≡ code.CanStatistic) ⊎ ((o : List ℕ) → none ≡ event_as (type_number k) o)))
unfolding event_as
events code.CanMessage = inl refl
events code.CanOverload = inr (inl refl)
events code.CanStatistic = inr (inr (inl refl))
events code.FlexRayReceive = inr (inr (inr (λ o. refl)))
events code.LinMessage = inr (inr (inr (λ o. refl)))
events code.LinWakeUp = inr (inr (inr (λ o. refl)))
events code.CanMessageTwo = inr (inr (inr (λ o. refl)))
events code.CanFdMessage = inr (inr (inr (λ o. refl)))
events code.EthernetStatus = inr (inr (inr (λ o. refl)))
events code.EthernetFrame = inr (inr (inr (λ o. refl)))
events code.ForwardedFrame = inr (inr (inr (λ o. refl)))
events code.EthernetError = inr (inr (inr (λ o. refl)))
events code.ForwardedError = inr (inr (inr (λ o. refl)))

pub no_event : (k : Kind) (o : List ℕ) → (k ≡ code.CanMessage → ⊥) → (k ≡ code.CanOverload → ⊥) → (k ≡ code.CanStatistic → ⊥) → none ≡ event_as (type_number k) o
no_event k o a b c = ⊎_elim (λ e. absurd (a e)) (⊎_elim (λ e. absurd (b e)) (⊎_elim (λ e. absurd (c e)) (λ f. f o))) (events k)

-- a foreign type has none
unlisted : (n : ℕ) → listed (row_of n) ≡ false → (k : list.Kind) → eqb n (number_of k) ≡ false
unlisted n l k = ne_eqb n (number_of k) (λ e. false≢true (sym l ∙ ap (λ (n : ℕ). listed (row_of n)) e ∙ known k))

foreign_event : (n : ℕ) (o : List ℕ) → listed (row_of n) ≡ false → none ≡ event_as n o
unfolding event_as
foreign_event n o l = rw (unlisted n l can_message, unlisted n l overload, unlisted n l statistic)

-- the event by the type that a number names
pub found_named : (k : Option Kind) (n : ℕ) (o : List ℕ) → Names k n → found k o ≡ event_as n o
found_named (Some k) n o e = ap (λ (n : ℕ). event_as n o) (sym e)
found_named None n o l = foreign_event n o l

none_in : (o : List ℕ) → none ≡ event_as (kind_at o) o → none ≡ event_in o
unfolding event_in
none_in o e = either (whole o) ∙ ap (λ (f : Found). cond (whole o) f none) e
  where
    either : (b : Bool) → none ≡ cond b none none
    either true = refl
    either false = refl

-- bytes of which no line comes
module _ (o : List ℕ) where
  pub foreign_none : listed (row_of (kind_at o)) ≡ false → none ≡ event_in o
  foreign_none l = none_in o (foreign_event (kind_at o) o l)

  pub too_short : length o < head_size → none ≡ event_in o
  unfolding event_in whole
  too_short h = rw (lt-leb head_size (length o) h)

  pub bad_head : head_size ≤ length o → (head_fault o ≡ 0 → ⊥) → none ≡ event_in o
  unfolding event_in whole
  bad_head l h = rw (le-leb head_size (length o) l, ne_eqb (head_fault o) 0 h)

  pub other_size_none : head_size ≤ length o → head_fault o ≡ 0 → (size_at o ≡ length o → ⊥) → none ≡ event_in o
  unfolding event_in whole
  other_size_none l f h = rw (le-leb head_size (length o) l, eq-eqb (head_fault o) 0 f, ne_eqb (size_at o) (length o) h)

-- what 2 to 4 let through, as long as it says
pub record Headed (o : List ℕ) : Type 0 where
  pub long : head_size ≤ length o
  pub head : head_fault o ≡ 0
  pub size : size_at o ≡ length o

pub headed : {A : Type 0} {o : List ℕ} {n : ℕ} (r : Result A Fault) → head_size ≤ length o → tested r ≡ head_fault o → is_ok r ≡ true → n ≡ size_at o → n ≡ length o → Headed o
headed r l f t e q = record { long = l; head = sym f ∙ let_through r t; size = sym e ∙ q }

-- of bytes that 2 to 4 let through
module _ (o : List ℕ) (long : head_size ≤ length o) (head : head_fault o ≡ 0) (size : size_at o ≡ length o) where
  -- 8 and 9 decide
  inner_decides : {b : Bool} → eqb (inner_fault_of (kind_at o) o) 0 ≡ b → cond b (event_as (kind_at o) o) none ≡ event_in o
  unfolding event_in whole
  inner_decides e = rw (le-leb head_size (length o) long, eq-eqb (head_fault o) 0 head, eq-eqb (size_at o) (length o) size, e)

  -- which a foreign object does not meet
  pub foreign_free : listed (row_of (kind_at o)) ≡ false → event_as (kind_at o) o ≡ event_in o
  foreign_free l = sym (foreign_event (kind_at o) o l) ∙ foreign_none o l

  module _ (l : listed (row_of (kind_at o)) ≡ true) where
    -- the header's own reserved byte
    pub header_unclean : header_blank o ≡ false → none ≡ event_in o
    unfolding blank_fault first
    header_unclean z =
        let f : 8 ≡ inner_fault_of (kind_at o) o = (let f : 8 ≡ blank_fault o (body_fault_of (kind_at o) (body_of o)) = rw z in f) ∙ listed_inner (kind_at o) o l in
        inner_decides (ap (λ (n : ℕ). eqb n 0) (sym f))

    module _ (clean : header_blank o ≡ true) where
      body_decides : {x : ℕ} → x ≡ body_fault_of (kind_at o) (body_of o) → cond (eqb x 0) (event_as (kind_at o) o) none ≡ event_in o
      unfolding blank_fault
      body_decides {x} e =
          let f : inner_fault_of (kind_at o) o ≡ x = sym (listed_inner (kind_at o) o l) ∙ passes 8 _ clean ∙ sym e in
          inner_decides (ap (λ (n : ℕ). eqb n 0) f)

      pub overload_body : {x : ℕ} → kind_at o ≡ number_of overload → x ≡ body_fault (format_of overload) (body_of o) → cond (eqb x 0) (event_as (kind_at o) o) none ≡ event_in o
      overload_body k e = body_decides (arm overload (body_of o) k e)

      -- the message and the statistic have no reserved byte and no rule in their bodies; and other types no line
      pub other_body : (kind_at o ≡ number_of overload → ⊥) → event_as (kind_at o) o ≡ event_in o
      unfolding event_as
      other_body h = cases (eqb (kind_at o) (number_of can_message)) (eqb (kind_at o) (number_of statistic)) refl refl
        where
          cases : (a b : Bool) → eqb (kind_at o) (number_of can_message) ≡ a → eqb (kind_at o) (number_of statistic) ≡ b → event_as (kind_at o) o ≡ event_in o
          cases true b p q = body_decides (arm_free can_message (body_of o) (eqb-true _ _ p) refl)
          cases false true p q = body_decides (arm_free statistic (body_of o) (eqb-true _ _ q) refl)
          cases false false p q = let n : none ≡ event_as (kind_at o) o = rw (p, ne_eqb (kind_at o) (number_of overload) h, q) in sym n ∙ none_in o n

-- a listed object's header is there
pub header_there : (o : List ℕ) → head_fault o ≡ 0 → size_at o ≡ length o → listed (row_of (kind_at o)) ≡ true → length_at o ≤ length o
header_there o h z l = (object_held o h z l).0

-- the same of a type that is named
module _ (o : List ℕ) (p : Headed o) (k : Kind) (e : kind_at o ≡ type_number k) where
  here : listed (row_of (kind_at o)) ≡ true
  here = ap (λ (n : ℕ). listed (row_of n)) e ∙ known (kind_of k)

  pub header_there_named : length_at o ≤ length o
  header_there_named = header_there o p.head p.size here

  pub header_unclean_named : header_blank o ≡ false → none ≡ event_in o
  header_unclean_named z = header_unclean o p.long p.head p.size here z

  -- an overload's body is there, and its test decides
  module _ (q : k ≡ code.CanOverload) where
    overload_at : kind_at o ≡ number_of overload
    overload_at = e ∙ ap type_number q

    pub overload_held : 4 ≤ length (body_of o)
    overload_held =
        let w = object_held o p.head p.size here in
        sized_least overload (body_of o) (subst (λ (n : ℕ). Sized n (body_of o)) overload_at w.1)

    module _ (clean : header_blank o ≡ true) {x : ℕ} (f : x ≡ body_fault (format_of overload) (body_of o)) where
      pub overload_bad : (x ≡ 0 → ⊥) → none ≡ event_in o
      overload_bad h = let d = overload_body o p.long p.head p.size here clean overload_at f in rw (ne_eqb x 0 h) at d

      pub overload_good : x ≡ 0 → event_as (type_number k) o ≡ event_in o
      overload_good h = let d = overload_body o p.long p.head p.size here clean overload_at f in rw (h, e) at d

  -- and what is no overload has no rule of its own
  pub other_body_named : header_blank o ≡ true → (k ≡ code.CanOverload → ⊥) → event_as (type_number k) o ≡ event_in o
  other_body_named clean h = ap (λ (n : ℕ). event_as n o) (sym e) ∙ ⊎_elim (λ q. free can_message (ap type_number q) refl) (⊎_elim (λ q. absurd (h q)) (⊎_elim (λ q. free statistic (ap type_number q) refl) nothing)) (events k)
    where
      free : (j : list.Kind) → type_number k ≡ number_of j → gap_fault (format_of j).gaps (body_of o) (rule_fault ((format_of j).rules (body_of o))) ≡ 0 → event_as (kind_at o) o ≡ event_in o
      free j q z = body_decides o p.long p.head p.size here clean (arm_free j (body_of o) (e ∙ q) z)

      nothing : ((o : List ℕ) → none ≡ event_as (type_number k) o) → event_as (kind_at o) o ≡ event_in o
      nothing f = let n : none ≡ event_as (kind_at o) o = f o ∙ ap (λ (n : ℕ). event_as n o) (sym e) in sym n ∙ none_in o n

-- an event by its type's name
module _ (o : List ℕ) {k : Option Kind} where
  pub as_message : k ≡ Some code.CanMessage → {r : Message} → r ≡ record_in can_message o → one (message r) ≡ found k o
  unfolding event_as
  as_message e q = rw e (ap (λ (x : Message). one (message x)) q)

  pub as_overload : k ≡ Some code.CanOverload → {r : Overload} → r ≡ record_in overload o → one (event.overload r) ≡ found k o
  unfolding event_as
  as_overload e q = rw e (ap (λ (x : Overload). one (event.overload x)) q)

  pub as_statistic : k ≡ Some code.CanStatistic → {r : Statistic} → r ≡ record_in statistic o → one (event.statistic r) ≡ found k o
  unfolding event_as
  as_statistic e q = rw e (ap (λ (x : Statistic). one (event.statistic x)) q)
