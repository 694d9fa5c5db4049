-- `asc_lines::writing::put_line` meets its contract: three texts, the last first. Assumes nothing.
use Rattle.digits.proofs.Texts.{three}
use Rattle.asc_lines.specs.Lines.{line_of}
use Rattle.asc_lines.proofs.writing.put_line.Goals as goal

pub returns : goal.returns
unfolding line_of
returns c = three c.put-a.ensures.0 c.put_rest-b.ensures.0 c.put_head.ensures
