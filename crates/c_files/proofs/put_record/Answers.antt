-- `put_record` lays the operations, and before them the rest.
use mathlib.Core.Path.{◌≡◌, sym, ap, ap₂, ◌∙◌}
use mathlib.Core.List.{List, ◌∷◌, ◌++◌}
use Prim.Native.Nat.{ℕ, ◌-◌}
use native.Mathlib.Omega.{arith}
use lib.ListN.{length, drop}
use Rattle.words.specs.Words.{put, part}
use Rattle.words.proofs.Parts.{part_length}
use Rattle.words.proofs.Walks.{overlaid_same}
use Rattle.timestamp.specs.Value.{stamp_of}
use Rattle.timestamp_words.specs.InWords.{stamp_words}
use Rattle.site_operations.specs.InWords.{ops_in, ops_size}
use Rattle.limits.specs.Limits.{ops_most}
use Rattle.c_answers.proofs.Words.{last_put}
use Rattle.c_files.proofs.Records.{record_laid}
use borrow.Author.Rules.{rules}
use Rattle.c_files.proofs.put_record.Goals as goal

pub op_words-ops-requires : goal.op_words-ops-requires
op_words-ops-requires c =
    let kinds : length c.args.given.kinds ≡ ops_most = search rules in
    let items : length c.args.given.items ≡ ops_most = search rules in
    let values : length c.args.given.values ≡ ops_most = search rules in
    record { some = omega (arith, kinds); few = omega (arith, kinds); each_item = omega (arith, kinds, items); each_value = omega (arith, kinds, values) }

pub returns : goal.returns
returns c =
    let w = c.args.w.now in
    let g = c.args.given in
    let ops = c.op_words-ops in
    let kinds : length g.kinds ≡ ops_most = search rules in
    let whole : length ops.result ≡ ops_size = search rules in
    let n = length w - 20 in
    let copied = c.copy.ensures ∙ overlaid_same (part w 20 n) ops.result (whole ∙ sym (part_length w 20 n (omega (arith, c.requires.sized)) ∙ omega (arith, c.requires.sized))) in
    let behind : drop 20 (put w 20 n ops.result) ≡ ops.result = last_put w ops.result 20 n (omega (arith, whole, c.requires.sized)) (omega (arith, whole, c.requires.sized)) in
    let laid = c.put_head.ensures
    ∙ ap₂ {C = List ℕ} (λ (k : ℕ) (l : List ℕ). g.site ∷ (k ∷ (stamp_words (stamp_of g.stamp) ++ l))) c.few.ensures (ap (λ (ys : List ℕ). drop 20 (put w 20 n ys)) copied ∙ behind) in
    λ s e. record_laid g s e c.requires.few ops.result _ whole (ap (λ (k : ℕ). ops_in k ops.result) (sym kinds) ∙ ops.ensures) laid
