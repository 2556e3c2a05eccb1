-- `receive` writes the table, reads the own tuple, and adds it to the message's timestamp.
use mathlib.Core.Path.{◌≡◌, ap, ◌∙◌}
use Prim.Native.Nat.{min}
use native.Mathlib.Omega.{arith}
use Rattle.words.specs.Words.{put}
use Rattle.words.proofs.Parts.{part_length}
use Rattle.timestamp_order.specs.Timestamp.{Stamp, Pair, appended_or_same, own_site, own_count}
use Rattle.timestamp.specs.Value.{stamp_of, pair_of}
use Rattle.timestamp_words.specs.InWords.{stamp_size}
use Rattle.site_operations.specs.Operations.{worked}
use Rattle.site.specs.Site.{received}
use Rattle.site.specs.InWords.{site_in, table_size}
use Rattle.site_operations.specs.InWords.{ops_in}
use Rattle.limits.specs.Limits.{ops_most}
use Rattle.site.proofs.Laws.{table_put, stepped, changed, unchanged}
use Rattle.site.proofs.receive.Goals as goal

pub returns-then-part-eq-WORDS : goal.returns-then-part-eq-WORDS
returns-then-part-eq-WORDS c =
    let A = c.args in
    let size = c.if-part-eq-WORDS.true in
    let w = A.part.now in
    let ys = c.write.new.table in
    let os = ops_in (min A.n ops_most) A.ops.now in
    let t = stamp_of A.t in
    let own = pair_of c.own-own.result in
    let added : stamp_of c.append.result ≡ appended_or_same t own.site own.count = c.append.ensures.means in
    changed w (received os t) c.put_stamp.new.part size
    (stepped (site_in w) (site_in (put w stamp_size table_size ys)) (site_in c.put_stamp.new.part) (worked (site_in w).table os).table
    (λ (s : Stamp). appended_or_same t (own_site s) (own_count s)) (stamp_of c.stamp.result) (stamp_of c.append.result)
    (table_put w size ys os (c.write.auto.table ∙ part_length w stamp_size table_size (omega arith)) c.write.ensures)
    c.stamp.ensures.means (added ∙ ap (λ (x : Pair). appended_or_same t x.site x.count) c.own-own.ensures) c.put_stamp.ensures.0) c.put_stamp.ensures.1
