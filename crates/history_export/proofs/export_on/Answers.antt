-- `export_on` tests the room, then writes the file.
use mathlib.Core.Path.{◌≡◌, ap, ◌∙◌}
use mathlib.Core.List.{List}
use Prim.Native.Nat.{ℕ, ◌+◌, ◌-◌, ◌≤◌}
use native.Mathlib.Omega.{arith}
use lib.ListN.{length}
use Rattle.words.specs.Words.{part}
use Rattle.words.proofs.Parts.{part_length}
use Rattle.history_file.specs.File.{lead, body, trailer_size, file_of}
use Rattle.history_file.proofs.Exports.{file_length, export_short, export_done}
use Rattle.history_units.specs.Asked.{lead_most}
use Rattle.history_lead.specs.Leads.{own}
use Rattle.history_lead.proofs.LeadLaws.{few, lead_size_lem}
use Rattle.history_export.proofs.export_on.Goals as goal
use Rattle.history_export.proofs.export_on.Goals.{After-size-a}

-- what leads the records, and how many bytes that is
module _ (c : After-size-a) where
  leading : c.size-a.result ≡ length (lead (own c.args.state.now))
  leading = c.size-a.ensures ∙ lead_size_lem c.args.state.now c.requires c.lead_of-lead.result c.lead_of-lead.ensures

  few_leading : c.size-a.result ≤ lead_most
  few_leading =
      let f = few c.args.state.now c.requires c.lead_of-lead.result c.lead_of-lead.ensures in
      omega (arith, c.size-a.ensures, f.few_places, f.few_values)

-- and the file has
sized : (w : List ℕ) (led filled : ℕ) → led ≡ length (lead (own w)) → filled ≡ length (body (own w)) → led + filled + trailer_size ≡ length (file_of (own w))
sized w led filled is full = omega (arith, is, full, file_length (own w))

pub size-a-requires : goal.size-a-requires
size-a-requires c =
    few c.args.state.now c.requires c.lead_of-lead.result c.lead_of-lead.ensures

pub overflow_add-m : goal.overflow_add-m
overflow_add-m c = omega (arith, few_leading (goal.at.overflow_add-m c).After-size-a, c.body_size.ensures.1)

pub overflow_add-e : goal.overflow_add-e
overflow_add-e c = omega (arith, few_leading (goal.at.overflow_add-e c).After-size-a, c.body_size.ensures.1)

pub returns-then-b-e : goal.returns-then-b-e
returns-then-b-e c =
    export_short c.args.state.now c.args.b.now c.requires.formed (c.size-a.result + c.body_size.result + trailer_size) (sized c.args.state.now c.size-a.result c.body_size.result (leading (goal.at.returns-then-b-e c).After-size-a) c.body_size.ensures.0) c.if-b-e.true

pub put_file-requires : goal.put_file-requires
put_file-requires c =
    let e = c.size-a.result + c.body_size.result + trailer_size in
    let room : length (part c.args.b.now 0 (e - 0)) ≡ e = ap (λ (k : ℕ). length (part c.args.b.now 0 k)) (let z : e - 0 ≡ e = omega arith in z) ∙ part_length c.args.b.now 0 e (omega (arith, c.if-b-e.false)) in
    record {
      there = c.requires;
      leads = c.lead_of-lead.ensures;
      led = c.size-a.ensures;
      filled = omega (arith, c.body_size.ensures.0);
      sized = room;
      few = omega (arith, room, few_leading (goal.at.put_file-requires c).After-size-a, c.body_size.ensures.1);
    }

pub returns : goal.returns
returns c =
    export_done c.args.state.now c.args.b.now c.requires.formed (c.size-a.result + c.body_size.result + trailer_size) (sized c.args.state.now c.size-a.result c.body_size.result (leading (goal.at.returns c).After-size-a) c.body_size.ensures.0) c.if-b-e.false c.put_file.new.b c.put_file.ensures
