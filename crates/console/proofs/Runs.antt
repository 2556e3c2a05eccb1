-- Laws of a run: a block part by part, a script's end, and one turn behind another.
use mathlib.Core.Path.{◌≡◌, refl, sym, ap, ap₂, ◌∙◌}
use mathlib.Core.Bool.{Bool, true, false}
use mathlib.Core.List.{List, [], ◌++◌}
use mathlib.Core.Option.{Option}
use Prim.Native.Nat.{ℕ, ◌+◌, ◌-◌, ◌≤◌, ◌<◌}
use native.Mathlib.Omega.{arith}
use lib.ListN.{length, take, drop, length-take, length-drop}
use lib.Seq.{take_all, take-add}
use borrow.Author.Tests.{le-leb}
use Rattle.protocol.specs.Network.{Network}
use Rattle.network_layout.specs.InWords.{shaped, meaning}
use Rattle.console_notation.specs.declared.Held.{Held}
use Rattle.console_notation.specs.declared.Progress.{Progress}
use Rattle.console_notation.specs.Lines.{ending, clip_most, line_most, Told, told}
use Rattle.console_blocks.specs.Promises.{Fed}
use Rattle.console_held.specs.Held.{held_of}
use Rattle.console_notation.proofs.Cutting.{and_then, told_append, told_none}
use Rattle.console_notation.proofs.Feeding.{used_some, used_within, used_ending}
use Rattle.console_blocks.proofs.Steps.{part_from, part_from_lem}
use Rattle.console.specs.declared.Run.{Run}
use Rattle.console.specs.Runs.{Ran, Began, Went, Passed, Closed}

-- where a run has ended nothing is asked of what is held
ended : {A : Type 0} → false ≡ true → A
ended e = let z : ◌≡◌ {A = ℕ} 0 1 = cc in absurd (omega arith)

-- ---- a block part by part
-- so many bytes of it are answered
pub record Reached (block line entry state : List ℕ) (used : ℕ) (held : Held) : Type 0 where
  pub after_is : meaning state ≡ (told (meaning entry) line (take used block)).after
  pub held_is : held_of held ≡ (told (meaning entry) line (take used block)).held
  pub within : used ≤ length block

pub reached_none : {block entry : List ℕ} {h : Held} → length h.bytes ≡ clip_most → Reached block (held_of h) entry entry 0 h
reached_none {block} {entry} {h} e =
    let t = told_none (meaning entry) (held_of h) in
    record {
      after_is = ap (λ (o : Told). o.after) (sym t);
      held_is = sym (take_all clip_most (held_of h) (omega (arith, length-take h.count h.bytes))) ∙ ap (λ (o : Told). o.held) (sym t);
      within = omega arith;
    }

module _ {block line entry mid exit out₀ out : List ℕ} {u : ℕ} {h : Held} {r : Progress} (w : Reached block line entry mid u h) (f : Fed (part_from u block) (held_of h) mid exit out₀ out 0 r) where
  pub part_within : r.used ≤ length block - u
  part_within = omega (arith, f.used_is, used_within (meaning mid) (length out₀) 0 (held_of h) (part_from u block), length-take (length block - u) (drop u block))

  pub part_some : u < length block → line_most ≤ length out₀ → 0 < r.used
  part_some g k =
      let some : 0 < length (part_from u block) = omega (arith, ap length (part_from_lem u block), length-drop u block) in
      omega (arith, f.used_is, used_some (meaning mid) (length out₀) 0 (le-leb (0 + line_most) (length out₀) (omega arith)) (held_of h) (part_from u block) some)

  pub reached_next : Reached block line entry exit (u + r.used) r.held
  reached_next =
      let s = meaning entry in
      let part = take r.used (part_from u block) in
      let t = told s line (take u block) in
      let parts : take (u + r.used) block ≡ take u block ++ part = take-add u r.used block ∙ ap (λ (l : List ℕ). take u block ++ take r.used l) (sym (part_from_lem u block)) in
      let all : told s line (take (u + r.used) block) ≡ and_then t (told (meaning mid) (held_of h) part)
      = ap (told s line) parts ∙ told_append s line (take u block) part ∙ ap₂ (λ (o : Option Network) (l : List ℕ). and_then t (told o l part)) (sym w.after_is) (sym w.held_is) in
      record {
        after_is = f.effect.after_is ∙ ap (λ (o : Told). o.after) (sym all);
        held_is = f.holding.held_is ∙ ap (λ (o : Told). o.held) (sym all);
        within = omega (arith, part_within, w.within);
      }

-- it ends there
pub reached_end : {block line entry exit : List ℕ} {u : ℕ} {h : Held} {r : Run} → Reached block line entry exit u h → r.more ≡ false → Passed block line entry exit r
reached_end {block} {u = u} w m =
    record {
      went = record { bytes = take u block; after_is = w.after_is; held_is = λ e. ended (sym m ∙ e); formed_is = λ e. ended (sym m ∙ e) };
      whole = λ e. ended (sym m ∙ e);
    }

-- all of it
pub reached_all : {block line entry exit : List ℕ} {u : ℕ} {h : Held} {formed well : Bool} → length block ≤ u → formed ≡ shaped exit → Reached block line entry exit u h → Passed block line entry exit (record { held = h; formed = formed; more = true; well = well })
reached_all {block} {u = u} g f w = record { went = record { bytes = take u block; after_is = w.after_is; held_is = λ e. w.held_is; formed_is = λ e. f }; whole = λ e. take_all u block g }

-- ---- the end of a script
pub closed : {line entry exit out₀ out : List ℕ} {r : Progress} {h : Held} {formed well : Bool} → line_most ≤ length out₀ → Fed (ending line) line entry exit out₀ out 0 r → Closed line entry exit (record { held = h; formed = formed; more = false; well = well })
closed {line} {entry} {exit} {out₀} {out} {r} k f =
    let all : take r.used (ending line) ≡ ending line
    = take_all r.used (ending line) (omega (arith, f.used_is, used_ending (meaning entry) (length out₀) 0 (le-leb (0 + line_most) (length out₀) (omega arith)) line)) in
    record {
      went = record { bytes = ending line; after_is = f.effect.after_is ∙ ap (λ (l : List ℕ). (told (meaning entry) line l).after) all; held_is = ended; formed_is = ended };
      whole = refl;
    }

-- ---- one turn behind another
pub went_none : {line entry : List ℕ} {r : Run} → r.more ≡ false → Went line entry entry r
went_none {line} {entry} e = record { bytes = []; after_is = ap (λ (o : Told). o.after) (sym (told_none (meaning entry) line)); held_is = λ f. ended (sym e ∙ f); formed_is = λ f. ended (sym e ∙ f) }

pub went_first : {entry : List ℕ} {r : Run} → Began entry r → Went [] entry entry r
went_first {entry} b =
    let t = told_none (meaning entry) [] in
    record { bytes = []; after_is = ap (λ (o : Told). o.after) (sym t); held_is = λ f. b.held_is ∙ ap (λ (o : Told). o.held) (sym t); formed_is = λ f. b.formed_is }

pub went_then : {line entry mid exit : List ℕ} {r q : Run} → Went line entry mid r → r.more ≡ true → Went (held_of r.held) mid exit q → Went line entry exit q
went_then {line} {entry} {mid} {exit} {r} {q} w o v =
    let s = meaning entry in
    let t = told s line w.bytes in
    let all : told s line (w.bytes ++ v.bytes) ≡ and_then t (told (meaning mid) (held_of r.held) v.bytes)
    = told_append s line w.bytes v.bytes ∙ ap₂ (λ (n : Option Network) (l : List ℕ). and_then t (told n l v.bytes)) (sym w.after_is) (sym (w.held_is o)) in
    record {
      bytes = w.bytes ++ v.bytes;
      after_is = v.after_is ∙ ap (λ (z : Told). z.after) (sym all);
      held_is = λ e. v.held_is e ∙ ap (λ (z : Told). z.held) (sym all);
      formed_is = v.formed_is;
    }

pub ran : {entry exit : List ℕ} {r : Run} → Went [] entry exit r → Ran entry exit
unfolding told
ran w = record { input = w.bytes; after_is = w.after_is }
