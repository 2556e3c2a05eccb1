-- `site_number` asks for the shape, then for the site.
use mathlib.Core.Path.{sym, ap, ◌∙◌}
use mathlib.Core.Bool.{Bool}
use borrow.Author.Tests.{not-true, not-false}
use Rattle.lists.specs.Numbers.{number_if}
use Rattle.protocol.specs.Steps.{no_such_site}
use Rattle.network_layout.specs.InWords.{network_in}
use Rattle.lists.proofs.Numbers.{flip_false, flip_true}
use Rattle.network_layout.proofs.Performs.{number_unshaped, number_shaped}
use Rattle.network_shape.proofs.site_number.Goals as goal

pub returns-then-not-shaped : goal.returns-then-not-shaped
returns-then-not-shaped c = number_unshaped c.args.state.now (λ n. number_if (no_such_site n c.args.site) 7) (sym c.shaped.ensures ∙ not-true c.shaped.result c.if-not-shaped.true-raw)

pub returns-then-is_site : goal.returns-then-is_site
returns-then-is_site c =
    let A = c.args in
    let n = network_in A.state.now in
    sym (number_shaped A.state.now (λ n. number_if (no_such_site n A.site) 7) (sym c.shaped.ensures ∙ not-false c.shaped.result c.if-not-shaped.false-raw) ∙ ap (λ (b : Bool). number_if b 7) (flip_true c.is_site.result (no_such_site n A.site) c.is_site.ensures c.if-is_site.true))

pub returns : goal.returns
returns c =
    let A = c.args in
    let n = network_in A.state.now in
    sym (number_shaped A.state.now (λ n. number_if (no_such_site n A.site) 7) (sym c.shaped.ensures ∙ not-false c.shaped.result c.if-not-shaped.false-raw) ∙ ap (λ (b : Bool). number_if b 7) (flip_false c.is_site.result (no_such_site n A.site) c.is_site.ensures c.if-is_site.false))
