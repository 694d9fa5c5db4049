-- `asc::object::line_kind` meets its contract: a law for each way out. Assumes nothing.
use mathlib.Core.Path.{◌≡◌, sym, ap, ◌∙◌}
use native.Mathlib.Omega.{arith}
use borrow.Author.Rules.{rules}
use Rattle.headers.specs.declared.kind.Kind.TheVariants as code
use Rattle.headers.specs.Types.{overload}
use Rattle.headers.specs.Form.{body_fault}
use Rattle.objects.specs.Kinds.{format_of}
use Rattle.asc.proofs.Wholes.{Headed, headed, foreign_none, let_through, held_back, too_short, bad_head, other_size_none, header_there_named, header_unclean_named, overload_held, overload_bad, overload_good, other_body_named}
use Rattle.asc.proofs.object.line_kind.Goals as goal
use Rattle.asc.proofs.object.line_kind.Goals.{Else-get32-o}

-- behind the head's tests
held : (c : Else-get32-o) → Headed c.args.o.now
held c = headed _ (omega arith) c.head_fault.ensures (sym c.in_ok-ok.ensures.variant) c.get32-2.ensures c.if-get32-o.false

pub returns-then-o-lt16 : goal.returns-then-o-lt16
returns-then-o-lt16 c = too_short _ c.if-o-lt16.true

pub returns-in_err-kind : goal.returns-in_err-kind
returns-in_err-kind c =
    let n = c.in_err-kind.ensures in
    rw c.from_residual.ensures (foreign_none _ (rw c.get32.ensures at n))

pub head_fault-requires : goal.head_fault-requires
head_fault-requires c = (search rules, sym c.get32.ensures ∙ c.in_ok-kind.ensures)

pub returns-in_err-ok : goal.returns-in_err-ok
returns-in_err-ok c = rw c.from_residual-in_err-ok.ensures (bad_head _ (omega arith) (λ z. held_back _ (sym c.in_err-ok.ensures.variant) (c.head_fault.ensures ∙ z)))

pub returns-then-get32-o : goal.returns-then-get32-o
returns-then-get32-o c = other_size_none _ (omega arith) (sym c.head_fault.ensures ∙ let_through _ (sym c.in_ok-ok.ensures.variant)) (λ z. c.if-get32-o.true (c.get32-2.ensures ∙ z))

pub header_blank-requires : goal.header_blank-requires
header_blank-requires c = header_there_named _ (held (goal.at.header_blank-requires c).Else-get32-o) _ (sym c.get32.ensures ∙ c.in_ok-kind.ensures)

pub returns-then-not-header_blank : goal.returns-then-not-header_blank
returns-then-not-header_blank c =
    header_unclean_named _ (held (goal.at.returns-then-not-header_blank c).Else-get32-o) _ (sym c.get32.ensures ∙ c.in_ok-kind.ensures) (sym c.header_blank.ensures ∙ c.if-not-header_blank.true)

pub body-requires : goal.body-requires
body-requires c = header_there_named _ (held (goal.at.body-requires c).Else-get32-o) _ (sym c.get32.ensures ∙ c.in_ok-kind.ensures)

pub check-requires : goal.check-requires
check-requires c =
    let e : c.in_ok-kind.kind ≡ code.CanOverload = search rules in
    rw c.body.ensures (overload_held _ (held (goal.at.check-requires c).Else-get32-o) _ (sym c.get32.ensures ∙ c.in_ok-kind.ensures) e)

pub returns-in_err-ok-2 : goal.returns-in_err-ok-2
unfolding body_fault
returns-in_err-ok-2 c =
    let e : c.in_ok-kind.kind ≡ code.CanOverload = search rules in
    rw c.from_residual-in_err-ok-2.ensures
    (overload_bad _ (held (goal.at.returns-in_err-ok-2 c).Else-get32-o) _ (sym c.get32.ensures ∙ c.in_ok-kind.ensures) e (sym c.header_blank.ensures ∙ c.if-not-header_blank.false)
    (c.check.ensures ∙ ap (body_fault (format_of overload)) c.body.ensures) (held_back _ (sym c.in_err-ok-2.ensures.variant)))

pub returns-in_ok-ok-2 : goal.returns-in_ok-ok-2
unfolding body_fault
returns-in_ok-ok-2 c =
    let e : c.in_ok-kind.kind ≡ code.CanOverload = search rules in
    overload_good _ (held (goal.at.returns-in_ok-ok-2 c).Else-get32-o) _ (sym c.get32.ensures ∙ c.in_ok-kind.ensures) e (sym c.header_blank.ensures ∙ c.if-not-header_blank.false)
    (c.check.ensures ∙ ap (body_fault (format_of overload)) c.body.ensures) (let_through _ (sym c.in_ok-ok-2.ensures.variant))

pub returns-else-eq : goal.returns-else-eq
returns-else-eq c =
    let n : c.in_ok-kind.kind ≡ code.CanOverload → ⊥ = search rules in
    other_body_named _ (held (goal.at.returns-else-eq c).Else-get32-o) _ (sym c.get32.ensures ∙ c.in_ok-kind.ensures) (sym c.header_blank.ensures ∙ c.if-not-header_blank.false) n
