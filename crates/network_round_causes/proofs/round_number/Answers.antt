-- `round_number` asks for the causes in the order of their numbers.
use mathlib.Core.Path.{sym, ◌∙◌}
use native.Mathlib.Omega.{arith}
use Rattle.network_layout.specs.InWords.{network_in}
use Rattle.network_round_causes.proofs.CauseLaws.{line_full, count_at_most_lem, epoch_at_most, no_cause}
use Rattle.network_round_causes.proofs.round_number.Goals as goal

pub returns-then-some_line_full : goal.returns-then-some_line_full
returns-then-some_line_full c = sym (line_full (network_in c.args.state.now) (sym c.some_line_full.ensures ∙ c.if-some_line_full.true))

pub returns-then-some_count_at_most : goal.returns-then-some_count_at_most
returns-then-some_count_at_most c =
    sym (count_at_most_lem (network_in c.args.state.now) (sym c.some_line_full.ensures ∙ c.if-some_line_full.false) (sym c.some_count_at_most.ensures ∙ c.if-some_count_at_most.true))

pub returns-then-greatest_epoch-ge-GREATEST : goal.returns-then-greatest_epoch-ge-GREATEST
returns-then-greatest_epoch-ge-GREATEST c =
    sym
    (epoch_at_most (network_in c.args.state.now) (sym c.some_line_full.ensures ∙ c.if-some_line_full.false) (sym c.some_count_at_most.ensures ∙ c.if-some_count_at_most.false)
    (omega (arith, c.greatest_epoch.ensures, c.if-greatest_epoch-ge-GREATEST.true)))

pub returns : goal.returns
returns c =
    sym
    (no_cause (network_in c.args.state.now) (sym c.some_line_full.ensures ∙ c.if-some_line_full.false) (sym c.some_count_at_most.ensures ∙ c.if-some_count_at_most.false)
    (omega (arith, c.greatest_epoch.ensures, c.if-greatest_epoch-ge-GREATEST.false)))
