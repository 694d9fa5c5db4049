-- `listing::page_of` meets its contract: what is printed on each side of the limit. Assumes nothing.
use borrow.Author.Tests.{le-leb, lt-leb}
use lib.ListN.{length}
use Rattle.listing.specs.Text.{too_long_text}
use Rattle.listing.specs.Listing.{page_of, limit}
use Rattle.listing.proofs.page_of.Goals as goal

pub returns-then-log-gt-LIMIT : goal.returns-then-log-gt-LIMIT
unfolding page_of too_long_text
returns-then-log-gt-LIMIT c = rw (lt-leb (length c.args.log.now) limit c.if-log-gt-LIMIT.true) c.put.ensures

pub returns : goal.returns
unfolding page_of
returns c = rw (le-leb (length c.args.log.now) limit c.if-log-gt-LIMIT.false) c.list.ensures
