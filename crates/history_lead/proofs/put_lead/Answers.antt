-- `put_lead` writes the table, and the base values behind it.
use mathlib.Core.Path.{◌≡◌, ap, ◌∙◌}
use mathlib.Core.List.{◌++◌}
use Prim.Native.Nat.{ℕ, ◌+◌, ◌-◌, ◌*◌}
use native.Mathlib.Omega.{arith}
use lib.ListN.{length, take, length-take}
use Rattle.words.specs.Words.{part, put}
use Rattle.words.proofs.Parts.{part_length}
use Rattle.history_file.specs.Bytes.{value_size}
use Rattle.history_file.specs.File.{table_lead, lead}
use Rattle.history_file.proofs.Written.{front_length, both_written}
use Rattle.history_lead.proofs.LeadLaws.{few, few_held, table_is, table_size_lem, base_is}
use Rattle.history_lead.specs.Leads.{own}
use Rattle.history_lead.proofs.put_lead.Goals as goal
use Rattle.history_lead.proofs.put_lead.Goals.{After-put_table}

-- the table's bytes
module _ (c : After-put_table) where
  written : c.put_table.new.b ≡ table_lead (own c.args.state.now)
  written =
      let lead = c.args.lead in
      let b = c.args.b.now in
      let t = lead.table in
      let lent : length (part b 0 (t - 0)) ≡ t = (let z : t - 0 ≡ t = omega arith in ap (λ (k : ℕ). length (part b 0 k)) z) ∙ part_length b 0 t (omega (arith, c.requires.sized)) in
      c.put_table.ensures ∙ ap (λ (k : ℕ). take k lead.places) lent ∙ table_is c.args.state.now c.requires.there lead c.requires.leads

  placed : length c.put_table.new.b ≡ c.args.lead.table
  placed = ap length written ∙ table_size_lem c.args.state.now c.requires.there c.args.lead c.requires.leads

pub put_table-requires : goal.put_table-requires
put_table-requires c =
    let t = c.args.lead.table in
    omega (arith, length-take (t - 0) c.args.b.now, (few c.args.state.now c.requires.there c.args.lead c.requires.leads).few_places)

pub put_base-requires : goal.put_base-requires
put_base-requires c =
    let b = c.args.b.now in
    let t = c.args.lead.table in
    let laid = c.put_table.new.b in
    let kept = front_length b laid t (length b - t) (t - 0) (omega (arith, c.requires.sized)) (placed (goal.at.put_base-requires c).After-put_table) (omega arith) in
    record {
      there = c.requires.there;
      few = few_held c.args.state.now c.requires.there c.args.lead c.requires.leads;
      sized = part_length (put b 0 (t - 0) laid) t (length b - t) (omega (arith, kept, c.requires.sized)) ∙ (let z : length b - t ≡ c.args.lead.values * value_size = omega (arith, c.requires.sized) in z);
    }

pub returns : goal.returns
unfolding lead
returns c =
    let w = c.args.state.now in
    let b = c.args.b.now in
    let t = c.args.lead.table in
    let n = length b - t in
    let all : length b ≡ t + n = omega (arith, c.requires.sized) in
    let rest : length b - t ≡ t + n - t = omega arith in
    let base = c.put_base.ensures ∙ base_is w c.requires.there c.args.lead c.requires.leads in
    ap (λ (k : ℕ). put (put b 0 (t - 0) c.put_table.new.b) t k c.put_base.new.b) rest
    ∙ both_written b c.put_table.new.b t n (t - 0) all (placed (goal.at.returns c).After-put_table) (omega arith) c.put_base.new.b
    ∙ (λ i. written (goal.at.returns c).After-put_table i ++ base i)
