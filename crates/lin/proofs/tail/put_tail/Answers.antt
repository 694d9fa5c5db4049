-- `lin::put_tail` meets its contract, by the ways to end. Assumes nothing.
use mathlib.Core.Path.{◌≡◌, refl}
use native.Mathlib.Omega.{arith}
use lib.ListN.{length}
use Rattle.lin.specs.Tail.{tail}
use Rattle.lin.proofs.TailLaws.{length_response, length_rates}
use Rattle.lin.proofs.tail.put_tail.Goals as goal

pub put32-requires : goal.put32-requires
put32-requires c =
    let e : length (tail c.args.t) ≡ 4 = length_response c.in-Response.is in
    omega (arith, c.requires.0)

pub put_rates-requires : goal.put_rates-requires
put_rates-requires c =
    let e : length (tail c.args.t) ≡ 20 = length_rates c.in-Rates.is in
    (omega (arith, c.requires.0), rw c.in-Rates.is at c.requires.1)

pub returns-in-Nothing : goal.returns-in-Nothing
unfolding tail
returns-in-Nothing c = rw c.in-Nothing.is (record { is = refl })

pub returns-in-Response : goal.returns-in-Response
unfolding tail
returns-in-Response c = rw c.in-Response.is c.put32.ensures

pub returns-in-Rates : goal.returns-in-Rates
unfolding tail
returns-in-Rates c = rw c.in-Rates.is c.put_rates.ensures
