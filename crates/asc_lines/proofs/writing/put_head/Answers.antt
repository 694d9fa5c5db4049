-- `asc_lines::writing::put_head` meets its contract: four texts, the last first. Assumes nothing.
use Rattle.digits.proofs.Texts.{four}
use Rattle.asc_lines.specs.Lines.{head_of}
use Rattle.asc_lines.proofs.writing.put_head.Goals as goal

pub returns : goal.returns
unfolding head_of
returns c = four c.labelled-a.ensures.0 c.spell-b.ensures.0 c.put-c.ensures.0 c.decimal.ensures.0
