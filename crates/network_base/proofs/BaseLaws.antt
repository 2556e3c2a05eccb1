-- What the base answers, of words that are a network's and of others.
use mathlib.Core.Path.{◌≡◌, sym, ap, ◌∙◌}
use mathlib.Core.Bool.{Bool, false, not}
use mathlib.Core.List.{List, []}
use Prim.Native.Nat.{ℕ, ◌+◌, ◌-◌}
use native.Mathlib.Omega.{arith}
use lib.IntN.{ℤ, pos}
use lib.ListN.{length, get_or, take, drop, length-map}
use lib.Seq.{take-take, length-take-le}
use lib.Dec.{eqb}
use mir.Val.{to_z}
use mir.Syntax.{w32}
use Rattle.std.specs.Prelude.{Ok, Err}
use Rattle.limits.specs.Limits.{items_most}
use Rattle.causes.specs.declared.Refusal.TheVariants.{NoState}
use Rattle.lists.specs.Lists.{padded}
use Rattle.lists.proofs.Lists.{map_take}
use Rattle.words.specs.Words.{part}
use Rattle.words.proofs.Parts.{part_length, part_get_d, part_part}
use Rattle.site_operations.specs.InWords.{table_in}
use Rattle.protocol.specs.Network.{Network}
use Rattle.protocol.specs.Questions.{base, question_number}
use Rattle.network_layout.specs.Layout.{item_count, base_at, base_size}
use Rattle.network_layout.specs.InWords.{network_in, shaped, number_in}
use Rattle.network_layout.specs.At.{AtNetwork}
use Rattle.network_layout.proofs.Assembled.{parts_of, range_parts}
use Rattle.network_layout.proofs.Performs.{number_shaped, number_unshaped}
use Rattle.network_layout.proofs.OnNetwork.{ranged_on}
use Rattle.network_layout.proofs.Questions.{asked, answered, unanswered}
use Rattle.network_lookup.specs.Lookup.{Values}
use Rattle.network_base.specs.Base.{BaseAnswered}

abbrev folded_of : Network → Bool
folded_of n = n.base.folded

abbrev values_of : Network → List ℤ
values_of n = n.base.values

module _ (w : List ℕ) where
  -- there is no network: 6
  pub base_refused : shaped w ≡ false → BaseAnswered w (Err NoState)
  unfolding question_number
  base_refused none =
      let six : 6 ≡ number_in w (λ n. 0) = number_unshaped w (λ n. 0) none in
      let nothing : [] ≡ _ = unanswered base w [] values_of (λ z. omega (arith, six, z)) in
      record {
        performed = asked base w 6 six;
        folded_is = unanswered base w false folded_of (λ z. omega (arith, six, z));
        count_is = ap length nothing;
        values_are = ap (padded items_most (pos 0)) nothing;
      }

  -- the words from the first value on
  abbrev pub value_words : List ℕ
  value_words = part w (base_at + 1) (length w - (base_at + 1))

  module _ (net : AtNetwork w) (count : ℕ) (count_is : count ≡ item_count w) where
    size : length value_words ≡ items_most
    size = part_length w (base_at + 1) (length w - (base_at + 1)) (omega (arith, net.sized)) ∙ omega (arith, net.sized)

    pub values_there : Values value_words count
    unfolding parts_of
    values_there =
        let few = (range_parts w (ranged_on w net)).few_items in
        record { there = omega (arith, count_is, few, size); few = omega (arith, count_is, few) }

    values_read_lem : take count (table_in value_words) ≡ values_of (network_in w)
    unfolding network_in
    values_read_lem =
        sym (map_take (to_z w32) count value_words)
        ∙ ap table_in
        (take-take count (length w - (base_at + 1)) (drop (base_at + 1) w) (omega (arith, net.sized, values_there.few))
        ∙ sym (part_part w base_at base_size 1 count (omega (arith, values_there.few)))
        ∙ ap (part (part w base_at base_size) 1) count_is)

    flag_read_lem : (flag : ℕ) → flag ≡ get_or w base_at 0 → not (eqb flag 0) ≡ folded_of (network_in w)
    unfolding network_in
    flag_read_lem flag e = ap (λ (v : ℕ). not (eqb v 0)) (e ∙ sym (part_get_d w base_at base_size 0 (omega arith)))

    pub base_found : (flag : ℕ) → flag ≡ get_or w base_at 0 → (values : List ℤ) → values ≡ padded items_most (pos 0) (take count (table_in value_words))
        → BaseAnswered w (Ok (record { folded = not (eqb flag 0); count = count; values = values }))
    unfolding question_number
    base_found flag flag_is values e =
        let zero : number_in w (λ n. 0) ≡ 0 = number_shaped w (λ n. 0) net.formed in
        let all = values_read_lem ∙ answered base w [] values_of zero in
        record {
          performed = asked base w 0 (sym zero);
          folded_is = flag_read_lem flag flag_is ∙ answered base w false folded_of zero;
          count_is = sym (length-take-le count (table_in value_words) (simp length-map values_there.there)) ∙ ap length all;
          values_are = e ∙ ap (padded items_most (pos 0)) all;
        }
