-- `headers::Kind::allows_body` meets its contract: a body that no size field can count is too long for every row.
-- Assumes nothing.
use mathlib.Core.Path.{◌∙◌}
use native.Mathlib.Omega.{arith}
use borrow.Author.Tests.{lt-leb}
use Rattle.headers.proofs.Allowed.{too_long}
use Rattle.headers.proofs.kind.Kind.allows_body.Goals as goal

pub returns-else-n : goal.returns-else-n
returns-else-n c = lt-leb c.args.n 4294967263 c.if-n.false ∙ too_long _ _ (omega (arith, c.if-n.false))
