-- A record that is not there is all zero.
use mathlib.Core.Path.{◌≡◌, sym, ap, ◌∙◌}
use mathlib.Core.List.{List, []}
use Prim.Native.Nat.{ℕ, ◌-◌, ◌*◌, ◌≤◌, ◌<◌}
use native.Mathlib.Omega.{arith}
use lib.ListN.{length, get_or, take, drop, drop_of_length-le, get_or-map, get_or-eq_default}
use Rattle.words.specs.Words.{part}
use Rattle.words.proofs.Parts.{part_length}
use Rattle.words.proofs.Chunks.{chunks_at}
use Rattle.limits.specs.Limits.{records_most}
use Rattle.records.specs.InWords.{record_in, record_size}
use Rattle.network_layout.specs.Layout.{record_count, history_at, history_size, state_size}
use Rattle.protocol.specs.Network.{no_record, nth_record}
use Rattle.network_layout.specs.InWords.{record_words, network_in}
use Rattle.network_layout.proofs.Assembled.{no_record_lem}
use Rattle.network_layout.proofs.Performs.{records_count}

module _ (w : List ℕ) (k : ℕ) where
  pub record_past : record_count w ≤ k → no_record ≡ nth_record (network_in w) k
  record_past h = sym (get_or-eq_default (network_in w).history no_record {n = k} (omega (arith, records_count w)))

  record_chunk : k < record_count w → nth_record (network_in w) k ≡ record_in (part (part w history_at history_size) (k * record_size) record_size)
  unfolding network_in
  record_chunk b = ap (get_or (network_in w).history k) no_record_lem ∙ get_or-map record_in (record_words w) k [] ∙ ap record_in (chunks_at record_size (record_count w) (part w history_at history_size) k b)

  pub record_beyond : length w ≡ state_size → k < record_count w → records_most ≤ k → no_record ≡ nth_record (network_in w) k
  record_beyond size b h =
      let long : length (part w history_at history_size) ≡ history_size = part_length w history_at history_size (omega arith) in
      let none : drop (k * record_size) (part w history_at history_size) ≡ [] = drop_of_length-le (part w history_at history_size) {i = k * record_size} (omega arith) in
      no_record_lem ∙ sym (record_chunk b ∙ ap (λ (x : List ℕ). record_in (take record_size x)) none)
