-- A table, a timestamp and a line that are asked for: refused, or found.
use Rattle.std.proofs.Common.{◌≡◌, ◌∙◌, sym, ap, ℕ, List, [], ◌∷◌, length, get_or, arith}
use Rattle.std.specs.Prelude.{not, ◌||◌, pos, Ok, Err, IsErrAnd}
use Rattle.std.specs.declared.result.Result.{Result}
use borrow.Author.Tests.{leb-false}
use Rattle.limits.specs.Limits.{items_most}
use Rattle.lists.specs.Lists.{padded}
use Rattle.lists.specs.Numbers.{number_if}
use Rattle.lists.proofs.Numbers.{none_holds, or_false}
use Rattle.causes.specs.declared.Refusal.{Refusal}
use Rattle.causes.specs.Refusals.{refusal_number}
use Rattle.causes.proofs.Refusals.{refusal_some}
use Rattle.timestamp.specs.declared.Timestamp.{Timestamp}
use Rattle.placement.specs.Placement.{is_line}
use Rattle.lines.specs.Lines.{no_line}
use Rattle.protocol.specs.Network.{no_stamp, site_at, line_at, line_number}
use Rattle.protocol.specs.Steps.{no_such_site}
use Rattle.protocol.specs.Questions.{table, stamp, line, asked_site, asked_line, question_number}
use Rattle.protocol.proofs.WellShaped.{shape_parts}
use Rattle.network_layout.specs.declared.Lined.{Lined}
use Rattle.network_layout.specs.declared.Tabled.{Tabled}
use Rattle.network_layout.specs.InWords.{network_in, number_in}
use Rattle.network_layout.specs.At.{AtNetwork, HasLine}
use Rattle.network_layout.proofs.Performs.{lines_count, number_shaped}
use Rattle.network_layout.proofs.OnNetwork.{well_on, few_on}
use Rattle.network_layout.proofs.Questions.{asked, answered, unanswered}
use Rattle.network_lookup.specs.Lookup.{LineAt, table_of}
use Rattle.network_readers.specs.Readers.{TableRead, StampRead, LineRead}

-- ---- refused
pub table_refused : (w : List ℕ) (i : ℕ) (r : Result Tabled Refusal) (e : Refusal) → IsErrAnd r (λ x. x ≡ e) → refusal_number e ≡ number_in w (λ n. asked_site n i) → TableRead i w r
unfolding question_number
table_refused w i (Ok a) e is of = absurd is
table_refused w i (Err x) e is of =
    let named = ap refusal_number is ∙ of in
    let none = unanswered (table i) w [] (table_of i) (λ z. refusal_some x (named ∙ z)) in
    record { performed = asked (table i) w (refusal_number x) named; count_is = ap length none; values_are = ap (padded items_most (pos 0)) none }

pub stamp_refused : (w : List ℕ) (i : ℕ) (r : Result Timestamp Refusal) (e : Refusal) → IsErrAnd r (λ x. x ≡ e) → refusal_number e ≡ number_in w (λ n. asked_site n i) → StampRead i w r
unfolding question_number
stamp_refused w i (Ok a) e is of = absurd is
stamp_refused w i (Err x) e is of =
    let named = ap refusal_number is ∙ of in
    record {
      performed = asked (stamp i) w (refusal_number x) named;
      stamp_is = unanswered (stamp i) w no_stamp (λ n. (site_at n i).stamp) (λ z. refusal_some x (named ∙ z));
      plain = tt;
    }

module _ (w : List ℕ) (p c : ℕ) where
  abbrev number : ℕ
  number = number_in w (λ n. asked_line n p c)

  pub line_refused : (r : Result Lined Refusal) (e : Refusal) → IsErrAnd r (λ x. x ≡ e) → refusal_number e ≡ number → LineRead p c w r
  unfolding question_number
  line_refused (Ok a) e is of = absurd is
  line_refused (Err x) e is of =
      let named = ap refusal_number is ∙ of in
      record {
        performed = asked (line p c) w (refusal_number x) named;
        held_is = unanswered (line p c) w 0 _ (λ z. refusal_some x (named ∙ z));
        arrived_is = unanswered (line p c) w 0 _ (λ z. refusal_some x (named ∙ z));
        few = omega arith;
        within = omega arith;
      }

  -- ---- between two sites there is a place for a line
  module _ (net : AtNetwork w) (none : asked_line (network_in w) p c ≡ 0) (k : ℕ) (same : k ≡ line_number p c) where
    pub line_there : HasLine w k
    line_there =
        let n = network_in w in
        let sites = or_false (no_such_site n p) (no_such_site n c) (none_holds (no_such_site n p || no_such_site n c) 6 (number_if (not (is_line n.items p c)) 17 ∷ []) none).0 in
        let from = leb-false (length n.sites) p sites.0 in
        let to = leb-false (length n.sites) c sites.1 in
        record { sized = net.sized; few = omega (arith, same, from, to, few_on w net) }

    pub line_found : (r : Lined) → LineAt (network_in w) k r → LineRead p c w (Ok r)
    unfolding question_number
    line_found r at =
        let z : number ≡ 0 = number_shaped w (λ n. asked_line n p c) net.formed ∙ none in
        let lines = (network_in w).lines in
        let shape = (shape_parts (network_in w) (well_on w net)).lined k (omega (arith, lines_count w, line_there.few)) in
        record {
          performed = asked (line p c) w 0 (sym z);
          held_is = at.held_is ∙ ap (λ (j : ℕ). length (get_or lines j no_line).messages) same ∙ answered (line p c) w 0 (λ n. length (line_at n p c).messages) z;
          arrived_is = at.arrived_is ∙ ap (λ (j : ℕ). (get_or lines j no_line).arrived) same ∙ answered (line p c) w 0 (λ n. (line_at n p c).arrived) z;
          few = at.few;
          within = omega (arith, shape.held, at.held_is, at.arrived_is);
        }
