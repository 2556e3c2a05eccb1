-- `feed` tests the words, and feeds with what it found.
use Rattle.console_blocks.proofs.feed.Goals as goal

pub feed_on-to-requires : goal.feed_on-to-requires
feed_on-to-requires c = c.well_shaped-formed.ensures

pub returns : goal.returns
returns c = c.feed_on-to.ensures.fed
