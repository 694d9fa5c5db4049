-- `asc::record::statistic_line` meets its contract: the line of what it tells. Assumes nothing.
use Rattle.asc_lines.specs.declared.told.Body.TheVariants.{Statistic}
use Rattle.can.proofs.KnownLaws.{statistic_known}
use Rattle.asc.specs.Tells.{head_told, statistic, tells}
use Rattle.asc.proofs.Writings.{event_line}
use Rattle.asc.proofs.record.statistic_line.Goals as goal

pub returns : goal.returns
unfolding tells
returns c = let r = c.args.r in event_line (statistic r) (λ i. record { head = head_told r.header r.channel; body = Statistic (c.counts_told.ensures i) }) (statistic_known r c.well_formed.0) c.put_told.ensures
