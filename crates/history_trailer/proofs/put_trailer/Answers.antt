-- `put_trailer` hands on the three counts.
use mathlib.Core.Path.{sym, ◌∙◌}
use Rattle.network_layout.proofs.Performs.{sites_count, items_count, records_count}
use Rattle.history_file.specs.File.{trailer}
use Rattle.history_trailer.proofs.put_trailer.Goals as goal

pub returns : goal.returns
returns c =
    let A = c.args in
    let w = A.state.now in
    let records_are = c.record_count-records.ensures ∙ sym (records_count w) in
    let sites_are = c.site_count-sites.ensures ∙ sym (sites_count w) in
    let items_are = c.item_count-items.ensures ∙ sym (items_count w 0) in
    c.put_trailer.ensures ∙ (λ t. trailer (records_are t) (c.short.ensures t) (sites_are t) (items_are t) A.flag)
