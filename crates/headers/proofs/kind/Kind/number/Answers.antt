-- `headers::Kind::number` meets its contract: the row of a type's number has that number. Assumes nothing.
use mathlib.Core.Path.{ap, ◌∙◌}
use Rattle.headers.specs.Rows.{Row}
use Rattle.headers.specs.Named.{kind_of, type_number}
use Rattle.headers.proofs.TypeBounds.{listed_number}
use Rattle.headers.proofs.TypeKinds.{known}
use Rattle.headers.proofs.kind.Kind.number.Goals as goal

pub returns : goal.returns
returns c = ap (λ (r : Row). r.number) c.row.ensures ∙ listed_number (type_number c.args.self) (known (kind_of c.args.self))
