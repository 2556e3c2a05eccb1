-- `messages_shaped` leaves at the first message that does not fit.
use mathlib.Core.Path.{◌≡◌, refl, sym, ap, ◌∙◌}
use native.Mathlib.Omega.{arith}
use Prim.Native.Nat.{ℕ, ◌+◌, ◌*◌, ◌≤◌}
use mathlib.Core.List.{[]}
use lib.ListN.{length}
use Rattle.std.proofs.Common.{rules, tests}
use Rattle.std.specs.List.{list_all, range_with_len}
use Rattle.std.proofs.lemmas.Iterator.{YieldsList-from_range, serves_from_Range}
use Rattle.std.proofs.lemmas.Iterator.Search.{all_from_yields_List}
use Rattle.words.specs.Words.{part, chunks}
use Rattle.words.proofs.Parts.{part_length}
use Rattle.words.proofs.Chunks.{chunks_length, chunks_at}
use Rattle.timestamp_order.specs.Order.{rank}
use Rattle.messages.specs.InWords.{message_size}
use Rattle.network_line_shape.specs.LineTests.{history_in, message_test}
use Rattle.network_line_shape.proofs.Walk.{all_by_place}
use Rattle.network_line_shape.proofs.messages_shaped.Goals as goal

pub all-requires-clause-callable : goal.all-requires-clause-callable
all-requires-clause-callable c =
    let w = c.args.w.now in
    serves_from_Range (λ x q k. search (rules, tests))
    (λ x lo hi.
    let inside : x * message_size + message_size ≤ length w = omega (arith, hi, c.requires.messages.sized, c.requires.messages.few) in
    let long = part_length w (x * message_size) message_size inside in (
      λ κs a b e r s t u v. inside,
      λ κs a b e r s t u chunk v fits z y. record { sized = ap length chunk.ensures ∙ long; history = c.requires.history },
    ))

pub returns : goal.returns
returns c =
    let A = c.args in
    let w = A.w.now in
    let n = A.n in
    let test = message_test (rank A.places) (history_in A.kept.now A.made) A.p in
    let at = λ (i : ℕ). test (part w (i * message_size) message_size) in
    let cs = chunks message_size n w in
    let all = all_from_yields_List at _ _ c.all.result c.all.ensures.ran (YieldsList-from_range 0 n n refl (omega arith)) (λ x b q k. search (rules, tests)) in
    all
    ∙ ap (λ (m : ℕ). list_all at (range_with_len 0 m)) (sym (chunks_length message_size n w))
    ∙ all_by_place [] test at cs 0
    (λ i h.
    let first : 0 + i ≡ i = omega arith in
    ap at first ∙ ap test (sym (chunks_at message_size n w i (omega (arith, chunks_length message_size n w)))))
