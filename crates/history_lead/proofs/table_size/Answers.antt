-- `table_size` is none where the places are the numbers.
use mathlib.Core.Path.{◌≡◌, sym, ap, ◌∙◌}
use mathlib.Core.Bool.{Bool, cond}
use Prim.Native.Nat.{ℕ}
use native.Mathlib.Omega.{arith}
use lib.ListN.{length, take}
use lib.Seq.{length-take-le}
use Rattle.limits.specs.Limits.{sites_most}
use Rattle.history_file.specs.File.{is_numbers}
use Rattle.history_lead.proofs.table_size.Goals as goal
use Rattle.history_lead.proofs.table_size.Goals.{After-are_numbers}

pub slice_bounds-are_numbers-end : goal.slice_bounds-are_numbers-end
slice_bounds-are_numbers-end c =
    let eight : length c.args.places ≡ sites_most = c.well_formed.0.1.0.1 in
    sym (length-take-le c.wide-n.result c.args.places (omega (arith, c.requires, c.wide-n.ensures)))

-- the size by what `are_numbers` said
size : (c : After-are_numbers) → cond c.are_numbers.result 0 c.args.sites ≡ cond (is_numbers (take c.args.sites c.args.places)) 0 c.args.sites
size c =
    let sites : c.wide-n.result ≡ c.args.sites = c.wide-n.ensures in
    ap (λ (b : Bool). cond b 0 c.args.sites) (c.are_numbers.ensures ∙ ap (λ (n : ℕ). is_numbers (take n c.args.places)) sites)

pub returns-then-are_numbers : goal.returns-then-are_numbers
returns-then-are_numbers c = ap (λ (b : Bool). cond b 0 c.args.sites) (sym c.if-are_numbers.true) ∙ size (goal.at.returns-then-are_numbers c).After-are_numbers

pub returns : goal.returns
returns c =
    let sites = c.args.sites in
    c.wide-n.ensures ∙ ap (λ (b : Bool). cond b 0 sites) (sym c.if-are_numbers.false) ∙ size (goal.at.returns c).After-are_numbers
