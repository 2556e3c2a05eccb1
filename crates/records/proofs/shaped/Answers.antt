-- `shaped` tests the size, the number of operations, the site, its timestamp, and the operations.
use mathlib.Core.Path.{refl}
use Rattle.timestamp_order.specs.Order.{rank}
use Rattle.records.proofs.Laws.{shape_unsized, shape_none, shape_many, shape_elsewhere, shape_unmade, shape_by_ops}
use Rattle.records.proofs.shaped.Goals as goal
use Rattle.records.proofs.shaped.Goals.{then-w-ne-WORDS-via-then-w-ne-WORDS}
use Rattle.records.proofs.shaped.Goals.{then-w-ne-WORDS-via-else-w-ne-WORDS+then-n-eq0}
use Rattle.records.proofs.shaped.Goals.{then-w-ne-WORDS-via-else-w-ne-WORDS+else-n-eq0+then-n-gt-OPERATIONS}
use Rattle.records.proofs.shaped.Goals.{then-w-ne-WORDS-via-else-w-ne-WORDS+else-n-eq0+else-n-gt-OPERATIONS+then-sites-site}

pub returns-then-w-ne-WORDS : goal.returns-then-w-ne-WORDS
returns-then-w-ne-WORDS c =
    let A = c.args in
    let place = rank A.places in
    let v = A.w.now in
    let n = c.word-n in
    let site = c.word-site in
    elim c.then-w-ne-WORDS.branch [
      | then-w-ne-WORDS-via-then-w-ne-WORDS w ↦
          shape_unsized place v A.sites A.items w.if-w-ne-WORDS.true
      | then-w-ne-WORDS-via-else-w-ne-WORDS+then-n-eq0 w ↦
          shape_none place v A.sites A.items w.if-w-ne-WORDS.false n.result n.ensures w.if-n-eq0.true
      | then-w-ne-WORDS-via-else-w-ne-WORDS+else-n-eq0+then-n-gt-OPERATIONS w ↦
          shape_many place v A.sites A.items w.if-w-ne-WORDS.false n.result n.ensures w.if-n-eq0.false w.if-n-gt-OPERATIONS.true
      | then-w-ne-WORDS-via-else-w-ne-WORDS+else-n-eq0+else-n-gt-OPERATIONS+then-sites-site w ↦
          shape_elsewhere place v A.sites A.items w.if-w-ne-WORDS.false n.result n.ensures w.if-n-eq0.false w.if-n-gt-OPERATIONS.false
          site.result site.ensures w.if-sites-site.true
    ]

pub returns-then-made_by : goal.returns-then-made_by
returns-then-made_by c =
    let A = c.args in
    let n = c.word-n in
    let site = c.word-site in
    let made = c.made_by in
    shape_by_ops (rank A.places) A.w.now A.sites A.items c.if-w-ne-WORDS.false n.result n.ensures c.if-n-eq0.false c.if-n-gt-OPERATIONS.false
    site.result site.ensures c.if-sites-site.false made.result made.ensures c.if-made_by.true _ refl c.fit.result c.fit.ensures

pub returns-else-made_by : goal.returns-else-made_by
returns-else-made_by c =
    let A = c.args in
    let n = c.word-n in
    let site = c.word-site in
    let made = c.made_by in
    shape_unmade (rank A.places) A.w.now A.sites A.items c.if-w-ne-WORDS.false n.result n.ensures c.if-n-eq0.false c.if-n-gt-OPERATIONS.false
    site.result site.ensures c.if-sites-site.false made.result made.ensures c.if-made_by.false
