-- `asc::numbers::told_numbers` meets its contract: number by number. Assumes nothing.
use borrow.Author.Rules.{rules}
use Rattle.std.proofs.Common.{arith}
use Rattle.std.proofs.lemmas.Bool.Decides.{nat_tests}
use Rattle.asc.proofs.ToldNumbers.{numbers_are}
use Rattle.asc.proofs.numbers.told_numbers.Goals as goal

pub returns : goal.returns
returns c =
    numbers_are c.args.t c.number.ensures c.frame-f.ensures c.counts-c.ensures (search rules) (grind (arith, nat_tests)) (grind (arith, nat_tests)) (grind (arith, nat_tests))
