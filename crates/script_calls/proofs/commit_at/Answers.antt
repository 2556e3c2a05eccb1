-- `commit_at` takes the operations from a place on, of which those that are kept stand for all.
use mathlib.Core.Path.{◌≡◌, refl, sym, ap, ◌∙◌}
use mathlib.Core.Bool.{not}
use mathlib.Core.List.{List}
use Prim.Native.Nat.{ℕ, ◌≤◌}
use native.Mathlib.Omega.{arith}
use lib.IntN.{ℤ}
use lib.ListN.{length, take}
use lib.Seq.{length-take-le}
use Rattle.protocol.specs.Calls.{commit, perform}
use Rattle.script_notation.specs.Fields.{fields_from}
use Rattle.script_notation.specs.Parse.{all, operation, commit_with, first_operations}
use Rattle.script_notation.specs.Print.{print}
use Rattle.script_notation.proofs.Replying.{answered_as, answered_unformed, answered_formed, replied_some, commit_with_lem}
use Rattle.script_lists.specs.Kept.{kept_most}
use Rattle.script_calls.proofs.Kept.{answered_kept}
use Rattle.script_calls.proofs.commit_at.Goals as goal

-- the parts of the lists that are used are of one length
parts : (k : ℕ) (ks is : List ℕ) (vs : List ℤ) → k ≤ kept_most → length ks ≡ kept_most → length is ≡ kept_most → length vs ≡ kept_most
    → (length (take k is) ≡ length (take k ks)) × (length (take k vs) ≡ length (take k ks))
parts k ks is vs few a b d =
    let first = sym (length-take-le k ks (omega arith)) in
    (length-take-le k is (omega arith) ∙ first, length-take-le k vs (omega arith) ∙ first)

pub returns-then-not-formed : goal.returns-then-not-formed
unfolding perform
returns-then-not-formed c =
    let q = c.operations in
    let kept = first_operations c.in-Some.count q.new.kinds q.new.items q.new.values in
    answered_kept c.args.site (all operation (fields_from c.args.text.now c.args.from)) kept c.in-Some.ensures.operations
    (answered_unformed (commit_with c.args.site kept) c.args.state.now refl c.requires.formed_is (ap not c.if-not-formed.true) c.no_network.ensures)

pub returns : goal.returns
unfolding print
returns c =
    let q = c.operations in
    let k = c.in-Some.count in
    let kept = first_operations k q.new.kinds q.new.items q.new.values in
    let size = parts k q.new.kinds q.new.items q.new.values c.in-Some.ensures.few q.auto.kinds q.auto.items q.auto.values in
    let call = commit c.args.site (take k q.new.kinds) (take k q.new.items) (take k q.new.values) in
    answered_kept c.args.site (all operation (fields_from c.args.text.now c.args.from)) kept c.in-Some.ensures.operations
    (answered_as
    (commit_with_lem c.args.site k q.new.kinds q.new.items q.new.values size.0 size.1)
    (answered_formed call c.requires.formed_is (ap not c.if-not-formed.false) (replied_some call c.commit_on-answer.ensures.performed c.committed.ensures)))
