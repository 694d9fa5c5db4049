-- `fields::leading` meets its contract: the library's search for the first byte that is not zero. Assumes nothing.
use mathlib.Core.Path.{◌≡◌}
use mathlib.Core.Bool.{not}
use Prim.Native.Nat.{◌+◌, ◌-◌}
use native.Mathlib.Omega.{arith}
use borrow.Author.Rules.{rules}
use lib.Dec.{eqb}
use Rattle.std.proofs.Common.{tests}
use Rattle.std.proofs.lemmas.Iterator.{YieldsList-from_slice}
use Rattle.std.proofs.lemmas.Iterator.Search.{position_from_yields_List}
use Rattle.fields.specs.Numbers.{part}
use Rattle.fields.proofs.Parts.{length_part}
use Rattle.fields.proofs.WrongBytes.{leading_found}
use Rattle.fields.proofs.wrong.leading.Goals as goal

pub returns : goal.returns
returns c =
    let a = c.args in
    let n : a.at + a.n - a.at ≡ a.n = omega arith in
    let xs = part (a.at + a.n - a.at) a.s.now a.at in
    let p = position_from_yields_List (λ x. not (eqb x 0)) _ _ c.position.result c.position.ensures.ran (YieldsList-from_slice xs cc) (λ x b q k. search (rules, tests)) in
    leading_found (part a.n a.s.now a.at) a.n (length_part a.n a.s.now a.at c.requires) (rw n at p) c.unwrap_or.ensures
