-- `lin::tail_of` meets its contract: the length decides, as in the definition. Assumes nothing.
use mathlib.Core.Path.{ap, ◌∙◌}
use lib.Ieee.{binary64, of_bits}
use borrow.Author.Tests.{ne_eqb}
use Rattle.lin.specs.declared.tail.Tail.TheVariants.{Response, Rates}
use Rattle.lin.specs.Fields.{tail_of}
use Rattle.lin.proofs.tail.tail_of.Goals as goal

pub returns-then-t-eq4 : goal.returns-then-t-eq4
unfolding tail_of
returns-then-t-eq4 c = rw c.if-t-eq4.true (ap Response c.get32.ensures)

pub returns-then-t-eq20 : goal.returns-then-t-eq20
unfolding tail_of
returns-then-t-eq20 c =
    let exact = c.rate_of.ensures ∙ ap (of_bits binary64) c.get64.ensures in
    rw c.if-t-eq20.true (λ k. Rates (c.get32-then-t-eq20.ensures k) (exact k) (c.get32-then-t-eq20-2.ensures k) (c.get32-then-t-eq20-3.ensures k))

pub returns : goal.returns
unfolding tail_of
returns c = rw (ne_eqb _ _ c.if-t-eq4.false, ne_eqb _ _ c.if-t-eq20.false)
