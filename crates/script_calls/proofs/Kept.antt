-- A commit of the operations that are kept of a line answers as one of all of them.
use mathlib.Core.Path.{◌≡◌, refl, ap, subst, ◌∙◌}
use mathlib.Core.List.{List}
use mathlib.Core.Option.{Option, none, some}
use Prim.Native.Nat.{ℕ}
use native.Mathlib.Omega.{arith}
use lib.Dec.{eqb}
use lib.ListN.{take}
use Rattle.site_operations.specs.Operations.{Op}
use Rattle.protocol.specs.Network.{Network}
use Rattle.protocol.specs.Calls.{Call, Outcome, perform}
use Rattle.network_layout.specs.InWords.{meaning}
use Rattle.network_operations.proofs.GatherLaws.{nine_for_all}
use Rattle.script_notation.specs.declared.Reply.{Reply}
use Rattle.script_notation.specs.Parse.{on, commit_with}
use Rattle.script_notation.specs.Print.{print, answer_most, Put}
use Rattle.script_notation.specs.Answers.{Answer, replied, Answered}
use Rattle.script_lists.specs.Kept.{kept_most, kept_of}

module _ (site : ℕ) where
  performs_kept : (s : Option Network) (os : List Op) → perform s (commit_with site (take kept_most os)) ≡ perform s (commit_with site os)
  performs_kept s os = nine_for_all (λ (o : Op). o.kind) (λ (o : Op). o.item) (λ (o : Op). o.value) s site os

  -- what is printed does not depend on the operations but by the outcome
  replies_kept : (s : Option Network) (os : List Op) → replied s (some (commit_with site (take kept_most os))) ≡ replied s (some (commit_with site os))
  unfolding print
  replies_kept s os = ap (λ (o : Outcome). record { bytes = print (commit_with site os) o; after = o.after }) (performs_kept s os)

  abbrev commit_on : Option (List Op) → Option Call
  commit_on o = on o (λ os. some (commit_with site os))

  module _ {entry exit out₀ out : List ℕ} {at : ℕ} {r : Reply} where
    all_answered : (os : List Op) → Answered (some (commit_with site (take kept_most os))) entry exit out₀ out at r → Answered (some (commit_with site os)) entry exit out₀ out at r
    all_answered os p =
        let same = replies_kept (meaning entry) os in
        let q = p.replied_at in
        record {
          replied_at =
              record {
                printed = subst (λ (a : Answer). Put answer_most out₀ out at r.end a.bytes) same q.printed;
                after_is = q.after_is ∙ ap (λ (a : Answer). a.after) same;
                kept = λ h. q.kept (ap (λ (o : Outcome). eqb o.number 0) (performs_kept (meaning entry) os) ∙ h);
              };
          formed_is = p.formed_is;
        }

    pub answered_kept : (o : Option (List Op)) (kept : List Op) → some kept ≡ on o kept_of → Answered (some (commit_with site kept)) entry exit out₀ out at r → Answered (commit_on o) entry exit out₀ out at r
    answered_kept none kept e p = let z : ◌≡◌ {A = ℕ} 0 1 = cc in absurd (omega arith)
    answered_kept (some os) kept e p =
        let f : kept ≡ take kept_most os = cc in
        all_answered os (subst (λ (l : List Op). Answered (some (commit_with site l)) entry exit out₀ out at r) f p)

  pub no_commit : (o : Option (List Op)) → none ≡ on o kept_of → none ≡ commit_on o
  no_commit none e = refl
  no_commit (some os) e = let z : ◌≡◌ {A = ℕ} 0 1 = cc in absurd (omega arith)
