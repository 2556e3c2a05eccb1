-- `op_number` asks for the causes in the order of their numbers.
use mathlib.Core.Path.{◌≡◌, sym, ap, ◌∙◌}
use native.Mathlib.Omega.{arith}
use lib.ListN.{length, get_or}
use Rattle.site_operations.specs.InWords.{op_at}
use Rattle.placement.specs.Placement.{owns, copies}
use Rattle.network_layout.specs.InWords.{network_in}
use Rattle.network_layout.proofs.Performs.{items_count}
use Rattle.network_layout.proofs.Asked.{op_kind_unknown, op_item_unknown, op_owned, op_not_owned, op_copied, op_not_copied}
use Rattle.network_commit.proofs.operation_causes.op_number.Goals as goal
use Rattle.network_commit.proofs.operation_causes.op_number.Goals.{After-item-item}

-- the fields that the code reads, and what the tests on them say
record Fields (c : After-item-item) : Type 0 where
  kind : c.kind-kind.result ≡ (op_at c.args.ops.now c.args.k).kind
  item : c.item-item.result ≡ (op_at c.args.ops.now c.args.k).item
  count : length (network_in c.args.state.now).items ≡ get_or c.args.state.now 1 0

fields : (c : After-item-item) → Fields c
fields c = record { kind = c.kind-kind.ensures; item = c.item-item.ensures; count = items_count c.args.state.now 0 }

pub returns-then-kind-gt-WRITE : goal.returns-then-kind-gt-WRITE
returns-then-kind-gt-WRITE c =
    let A = c.args in
    let f = fields (goal.at.returns-then-kind-gt-WRITE c).After-item-item in
    sym (op_kind_unknown (network_in A.state.now).items A.site (op_at A.ops.now A.k) (omega (arith, f.kind, c.if-kind-gt-WRITE.true)))

pub returns-then-item_count-item : goal.returns-then-item_count-item
returns-then-item_count-item c =
    let A = c.args in
    let f = fields (goal.at.returns-then-item_count-item c).After-item-item in
    sym (op_item_unknown (network_in A.state.now).items A.site (op_at A.ops.now A.k) (omega (arith, f.kind, c.if-kind-gt-WRITE.false)) (omega (arith, f.item, f.count, c.item_count.ensures, c.if-item_count-item.true)))

pub returns-then-is_owned : goal.returns-then-is_owned
returns-then-is_owned c =
    let A = c.args in
    let f = fields (goal.at.returns-then-is_owned c).After-item-item in
    let xs = (network_in A.state.now).items in
    sym (op_owned xs A.site (op_at A.ops.now A.k) (omega (arith, f.kind, c.if-kind-gt-WRITE.false)) (omega (arith, f.item, f.count, c.item_count.ensures, c.if-item_count-item.false)) (ap (owns xs A.site) (sym f.item) ∙ sym c.is_owned.ensures ∙ c.if-is_owned.true))

pub returns-then-kind-eq-WRITE : goal.returns-then-kind-eq-WRITE
returns-then-kind-eq-WRITE c =
    let A = c.args in
    let f = fields (goal.at.returns-then-kind-eq-WRITE c).After-item-item in
    let xs = (network_in A.state.now).items in
    sym (op_not_owned xs A.site (op_at A.ops.now A.k) (omega (arith, f.kind, c.if-kind-gt-WRITE.false)) (omega (arith, f.item, f.count, c.item_count.ensures, c.if-item_count-item.false)) (ap (owns xs A.site) (sym f.item) ∙ sym c.is_owned.ensures ∙ c.if-is_owned.false) (sym f.kind ∙ c.if-kind-eq-WRITE.true))

pub returns-then-is_copied : goal.returns-then-is_copied
returns-then-is_copied c =
    let A = c.args in
    let f = fields (goal.at.returns-then-is_copied c).After-item-item in
    let xs = (network_in A.state.now).items in
    sym (op_copied xs A.site (op_at A.ops.now A.k) (omega (arith, f.kind, c.if-kind-gt-WRITE.false)) (omega (arith, f.item, f.count, c.item_count.ensures, c.if-item_count-item.false)) (ap (owns xs A.site) (sym f.item) ∙ sym c.is_owned.ensures ∙ c.if-is_owned.false) (λ z. c.if-kind-eq-WRITE.false (f.kind ∙ z)) (ap (copies xs A.site) (sym f.item) ∙ sym c.is_copied.ensures ∙ c.if-is_copied.true))

pub returns : goal.returns
returns c =
    let A = c.args in
    let f = fields (goal.at.returns c).After-item-item in
    let xs = (network_in A.state.now).items in
    sym (op_not_copied xs A.site (op_at A.ops.now A.k) (omega (arith, f.kind, c.if-kind-gt-WRITE.false)) (omega (arith, f.item, f.count, c.item_count.ensures, c.if-item_count-item.false)) (ap (owns xs A.site) (sym f.item) ∙ sym c.is_owned.ensures ∙ c.if-is_owned.false) (λ z. c.if-kind-eq-WRITE.false (f.kind ∙ z)) (ap (copies xs A.site) (sym f.item) ∙ sym c.is_copied.ensures ∙ c.if-is_copied.false))
