-- `put_file` writes what leads the records, the records, and the trailer.
use mathlib.Core.Path.{◌≡◌, ap, ◌∙◌}
use Prim.Native.Nat.{ℕ, ◌-◌}
use native.Mathlib.Omega.{arith}
use lib.ListN.{length}
use Rattle.words.specs.Words.{part}
use Rattle.words.proofs.Parts.{part_length}
use Rattle.history_file.specs.File.{trailer}
use Rattle.history_file.proofs.Exports.{file_written}
use Rattle.history_lead.specs.Leads.{own}
use Rattle.history_lead.proofs.LeadLaws.{lead_size_lem, lead_flag}
use Rattle.history_export.proofs.put_file.Goals as goal
use Rattle.history_export.proofs.put_file.Goals.{Start}

-- how many bytes are lent for what leads the records
lent : (S : Start) → length (part S.args.b.now 0 (S.args.a - 0)) ≡ S.args.a
lent S =
    let a = S.args.a in
    let b = S.args.b.now in
    (let z : a - 0 ≡ a = omega arith in ap (λ (k : ℕ). length (part b 0 k)) z) ∙ part_length b 0 a (omega (arith, S.requires.filled, S.requires.sized))

pub put_lead-requires : goal.put_lead-requires
put_lead-requires c =
    record { there = c.requires.there; leads = c.requires.leads; sized = lent (goal.at.put_lead-requires c).Start ∙ c.requires.led }

pub returns : goal.returns
returns c =
    let w = c.args.state.now in
    let b = c.args.b.now in
    let a = c.args.a in
    let p = c.requires in
    let ns = p.led ∙ lead_size_lem w p.there c.args.lead p.leads in
    let flag_is = c.flag.ensures ∙ lead_flag w p.there c.args.lead p.leads in
    let h = own w in
    let trailer_is = c.put_trailer.ensures ∙ ap (λ (f : ℕ). trailer (length h.records) (length b) h.sites h.items f) flag_is in
    file_written h b a c.args.m ns p.filled p.sized c.put_lead.new.b c.put_lead.ensures c.put_records.new.b c.put_records.ensures c.put_trailer.new.b (length b) p.sized trailer_is
