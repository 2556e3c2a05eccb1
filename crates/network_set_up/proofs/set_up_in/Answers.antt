-- `set_up_in` is refused for the first cause, or lays the words of the new network.
use mathlib.Core.Path.{◌≡◌, sym, ◌∙◌}
use Rattle.network_set_up.proofs.SetUpLaws.{paired, counts_refused, placed_number, set_up_refused, may_lay_out, set_up_done}
use borrow.Author.Rules.{rules}
use Rattle.network_set_up.proofs.set_up_in.Goals as goal

pub returns-in_err-counts_number : goal.returns-in_err-counts_number
returns-in_err-counts_number c =
    let A = c.args in
    let x = c.in_err-counts_number.field-0.0 in
    set_up_refused A.sites A.items A.primaries.now A.masks.now A.state.now c.from_residual.result x c.from_residual.ensures.1
    (counts_refused A.sites A.items A.primaries.now A.masks.now x c.in_err-counts_number.ensures)

pub item_words-placed-requires : goal.item_words-placed-requires
item_words-placed-requires c =
    let A = c.args in
    paired A.sites A.items A.primaries.now A.masks.now c.in_ok-counts_number.ensures

-- from here on: the number that the placement gives is the call's
pub returns-in_err-number : goal.returns-in_err-number
returns-in_err-number c =
    let words = c.item_words-placed in
    let A = c.args in
    set_up_refused A.sites A.items A.primaries.now A.masks.now A.state.now c.from_residual-in_err-number.result c.in_err-number.field-0.0 c.from_residual-in_err-number.ensures.1
    (placed_number A.sites A.items A.primaries.now A.masks.now c.in_ok-counts_number.ensures words.result words.ensures _ c.in_err-number.ensures)

pub lay_out-requires : goal.lay_out-requires
lay_out-requires c =
    let words = c.item_words-placed in
    let A = c.args in
    let is = placed_number A.sites A.items A.primaries.now A.masks.now c.in_ok-counts_number.ensures words.result words.ensures _ c.in_ok-number.ensures in
    may_lay_out A.sites A.items A.primaries.now A.masks.now A.state.now words.result (sym is) c.requires (search rules)

pub returns : goal.returns
returns c =
    let words = c.item_words-placed in
    let A = c.args in
    let is = placed_number A.sites A.items A.primaries.now A.masks.now c.in_ok-counts_number.ensures words.result words.ensures _ c.in_ok-number.ensures in
    set_up_done A.sites A.items A.primaries.now A.masks.now A.state.now words.result (sym is) c.lay_out.new.state words.ensures c.lay_out.ensures
