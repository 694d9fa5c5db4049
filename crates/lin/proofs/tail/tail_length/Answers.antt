-- `lin::tail_length` meets its contract, by the ways to end. Assumes nothing.
use mathlib.Core.Path.{refl, sym}
use Rattle.lin.specs.Tail.{tail}
use Rattle.lin.proofs.TailLaws.{length_response, length_rates}
use Rattle.lin.proofs.tail.tail_length.Goals as goal

pub returns-in-Nothing : goal.returns-in-Nothing
unfolding tail
returns-in-Nothing c = rw c.in-Nothing.is refl

pub returns-in-Response : goal.returns-in-Response
returns-in-Response c = sym (length_response c.in-Response.is)

pub returns-in-Rates : goal.returns-in-Rates
returns-in-Rates c = sym (length_rates c.in-Rates.is)
