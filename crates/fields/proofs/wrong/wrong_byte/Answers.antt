-- `fields::wrong_byte` meets its contract: a byte among the n is wrong, or none is. Assumes nothing.
use mathlib.Core.Path.{◌≡◌, sym, ap, ◌∙◌}
use Prim.Native.Nat.{ℕ, ◌+◌}
use borrow.Author.Rules.{rules}
use Rattle.fields.specs.Numbers.{part}
use Rattle.fields.specs.Wrong.{leading}
use Rattle.fields.proofs.WrongBytes.{wrong_here, wrong_later}
use Rattle.fields.proofs.wrong.wrong_byte.Goals as goal

pub returns-then-i-n : goal.returns-then-i-n
returns-then-i-n c =
    let a = c.args in
    let e : c.leading-i.result ≡ leading (part a.n a.s.now a.at) = c.leading-i.ensures in
    ap (λ (i : ℕ). a.at + i) e ∙ sym (wrong_here a.s.now a.at a.n a.later (rw (← e) (search rules)) (search rules))

pub returns-else-i-n : goal.returns-else-i-n
returns-else-i-n c =
    let a = c.args in
    let e : c.leading-i.result ≡ leading (part a.n a.s.now a.at) = c.leading-i.ensures in
    sym (wrong_later a.s.now a.at a.n a.later (rw (← e) (search rules)))
