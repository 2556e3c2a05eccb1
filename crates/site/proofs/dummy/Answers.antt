-- `dummy` reads the timestamp, raises its own count, and writes it back.
use mathlib.Core.Path.{refl}
use Rattle.timestamp.specs.Value.{stamp_of}
use Rattle.timestamp_order.specs.Timestamp.{raised_or_same}
use Rattle.site.specs.Site.{dummied}
use Rattle.site.specs.InWords.{site_in}
use Rattle.site.proofs.Laws.{stepped, changed, unchanged}
use Rattle.site.proofs.dummy.Goals as goal

pub returns-then-part-eq-WORDS : goal.returns-then-part-eq-WORDS
returns-then-part-eq-WORDS c =
    let w = c.args.part.now in
    changed w dummied c.put_stamp.new.part c.if-part-eq-WORDS.true
    (stepped (site_in w) (site_in w) (site_in c.put_stamp.new.part) (site_in w).table raised_or_same (stamp_of c.stamp.result) (stamp_of c.raise.result)
    refl c.stamp.ensures.means c.raise.ensures.means c.put_stamp.ensures.0) c.put_stamp.ensures.1
