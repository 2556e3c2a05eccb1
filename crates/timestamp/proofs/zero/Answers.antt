-- `zero` has epoch 0, no tuple, and 0 at the eight places.
use mathlib.Core.Path.{◌≡◌, refl, ◌∙◌}
use mathlib.Core.List.{map}
use Prim.Native.Nat.{ℕ}
use native.Mathlib.Omega.{arith}
use lib.ListN.{replicate, length-map, get_or-map}
use Rattle.std.proofs.lemmas.List.FromFn.{fill_by_all}
use Rattle.timestamp_order.specs.Timestamp.{no_pair, room}
use Rattle.timestamp.specs.Value.{pair_of}
use Rattle.timestamp.proofs.Value.{no_tuple}
use Rattle.timestamp.proofs.zero.Goals as goal

pub returns : goal.returns
returns c =
    let d = c.default.result in
    let all = c.default.ensures.1.1 in
    let nothing : map pair_of d.tuples ≡ replicate room no_pair
    = fill_by_all (λ (k : ℕ). no_pair) (map pair_of d.tuples) room no_pair (length-map d.tuples pair_of ∙ all.long)
    (λ k l. get_or-map pair_of d.tuples k no_tuple ∙ (let e = all.at k no_tuple l in λ i. record { site = e.0 i; count = e.1 i })) in
    record { means = rw (c.default.ensures.0, c.default.ensures.1.0) refl; plain = rw (c.default.ensures.1.0, nothing) (record { fits = omega arith; sized = refl; rest_is = refl }) }
