-- `set_up_numbers` takes the items behind the two numbers.
use mathlib.Core.Path.{◌≡◌, sym, ap, ◌∙◌}
use mathlib.Core.List.{List}
use mathlib.Core.Option.{Option, some}
use Prim.Native.Nat.{ℕ, ◌-◌, ◌≤◌}
use native.Mathlib.Omega.{arith}
use lib.ListN.{length, get_or, take, drop, length-drop}
use lib.Seq.{length-take-le, take_all}
use Rattle.placement.specs.Placement.{Item}
use Rattle.script_notation.specs.Parse.{placed, set_up_with, first_items}
use Rattle.script_notation.proofs.Replying.{answered_as, answered_set_up, on_is, set_up_of_lem, set_up_with_lem}
use Rattle.script_calls.proofs.set_up_numbers.Goals as goal

-- the part of each list that is used
parts : (k : ℕ) (ps ms : List ℕ) → k ≤ 128 → length ps ≡ 128 → length ms ≡ 128 → length (take k ms) ≡ length (take k ps)
parts k ps ms few a b = length-take-le k ms (omega arith) ∙ sym (length-take-le k ps (omega arith))

-- what was parsed is the items behind the two numbers
placed_are : (list : List ℕ) (o : Option (List Item)) → o ≡ placed (take (length list - 2) (drop 2 list)) → o ≡ placed (drop 2 list)
placed_are list o e = e ∙ ap placed (take_all (length list - 2) (drop 2 list) (omega (arith, length-drop 2 list)))

pub returns : goal.returns
returns c =
    let L = c.args.list.now in
    let q = c.items in
    let n = c.in-Some.count in
    let a = get_or L 0 0 in
    let b = get_or L 1 0 in
    let P = q.new.primaries in
    let M = q.new.masks in
    let said = c.set_up_reply.ensures in
    answered_as
    (set_up_with_lem a b n P M (parts n P M c.in-Some.ensures.few q.auto.primaries q.auto.masks)
    ∙ on_is (λ (is : List Item). some (set_up_with a b is)) (first_items n P M) (placed_are L _ c.in-Some.ensures.placed)
    ∙ set_up_of_lem L c.requires.two_there)
    (answered_set_up a b (take n P) (take n M) c.requires.formed_is said.formed_is c.set_up-answer.ensures said.printed)
