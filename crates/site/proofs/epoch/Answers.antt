-- `epoch` reads the timestamp, gives it another epoch, and writes it back.
use mathlib.Core.Path.{refl}
use Rattle.timestamp_order.specs.Timestamp.{Stamp, with_epoch}
use Rattle.timestamp.specs.Value.{stamp_of}
use Rattle.site.specs.Site.{at_epoch}
use Rattle.site.specs.InWords.{site_in}
use Rattle.site.proofs.Laws.{stepped, changed, unchanged}
use Rattle.site.proofs.epoch.Goals as goal

pub returns-then-part-eq-WORDS : goal.returns-then-part-eq-WORDS
returns-then-part-eq-WORDS c =
    let A = c.args in
    let w = A.part.now in
    changed w (at_epoch A.number) c.put_stamp.new.part c.if-part-eq-WORDS.true
    (stepped (site_in w) (site_in w) (site_in c.put_stamp.new.part) (site_in w).table (λ (s : Stamp). with_epoch s A.number) (stamp_of c.stamp.result) (stamp_of c.at_epoch.result)
    refl c.stamp.ensures.means c.at_epoch.ensures.means c.put_stamp.ensures.0) c.put_stamp.ensures.1
