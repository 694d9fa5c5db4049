-- `listing::report` meets its contract: what is printed for an input read, and for a read that failed. Assumes nothing.
use Rattle.listing.specs.Text.{no_file}
use Rattle.listing.specs.Listing.{report_of}
use Rattle.listing.proofs.report.Goals as goal

pub returns-in-Some : goal.returns-in-Some
unfolding report_of
returns-in-Some c = rw c.in-Some.is c.page_of.ensures

pub returns-in-None : goal.returns-in-None
unfolding report_of no_file
returns-in-None c = rw c.in-None.is c.put.ensures
