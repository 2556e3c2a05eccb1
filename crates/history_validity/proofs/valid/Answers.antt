-- `valid` tests the size, the counts and the fields.
use mathlib.Core.Path.{◌≡◌, ap₂}
use Prim.Native.Nat.{ℕ, ◌+◌, ◌*◌}
use native.Mathlib.Omega.{arith}
use borrow.Author.Tests.{not-true, not-false}
use Rattle.timestamp_order.specs.Order.{rank}
use Rattle.history_file.specs.Reading.{size_read}
use Rattle.history_file.proofs.Validity.{valid_short, valid_uncounted, valid_by_fields, size_some}
use mathlib.Core.Path.{refl}
use Rattle.history_validity.proofs.valid.Goals as goal
use Rattle.history_validity.proofs.valid.Goals.{After-wide-o}

-- the size that the bytes say
said : (c : After-wide-o) → 8 + 8 * c.wide-t.result + 8 * c.wide-o.result ≡ size_read c.args.b.now
unfolding size_read
said c = ap₂ (λ (t o : ℕ). 8 + 8 * t + 8 * o) c.wide-t.ensures.0 c.wide-o.ensures.0

pub returns-then-b-lt8 : goal.returns-then-b-lt8
returns-then-b-lt8 c =
    let A = c.args in
    valid_short (rank A.places) A.sites A.items A.b.now (size_read A.b.now) refl (omega (arith, size_some A.b.now, c.if-b-lt8.true))

pub returns-then-b-t : goal.returns-then-b-t
returns-then-b-t c =
    let A = c.args in
    valid_short (rank A.places) A.sites A.items A.b.now _ (said (goal.at.returns-then-b-t c).After-wide-o) c.if-b-t.true

pub returns-then-not-counts_fit : goal.returns-then-not-counts_fit
returns-then-not-counts_fit c =
    let A = c.args in
    let f = c.counts_fit in
    valid_uncounted (rank A.places) A.sites A.items A.b.now _ (said (goal.at.returns-then-not-counts_fit c).After-wide-o) c.if-b-t.false c.wide-t.result c.wide-o.result c.wide-t.ensures.0 c.wide-o.ensures.0 f.result f.ensures (not-true f.result c.if-not-counts_fit.true-raw)

pub fields_fit-requires : goal.fields_fit-requires
fields_fit-requires c =
    record { inside = omega (arith, said (goal.at.fields_fit-requires c).After-wide-o, c.if-b-t.false); tuples = c.wide-t.ensures.0; ops = c.wide-o.ensures.0 }

pub returns : goal.returns
returns c =
    let A = c.args in
    let f = c.counts_fit in
    valid_by_fields (rank A.places) A.sites A.items A.b.now _ (said (goal.at.returns c).After-wide-o) c.if-b-t.false c.wide-t.result c.wide-o.result c.wide-t.ensures.0 c.wide-o.ensures.0 f.result f.ensures (not-false f.result c.if-not-counts_fit.false-raw) c.fields_fit.result c.fields_fit.ensures
