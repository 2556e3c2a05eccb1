-- Laws of the code's steps over a block: the line that was held, and the lines behind it.
use mathlib.Core.Path.{◌≡◌, refl, sym, ap, ap₂, subst, ◌∙◌}
use mathlib.Core.Bool.{Bool, true, false, ◌&&◌}
use mathlib.Core.List.{List, [], ◌∷◌, ◌++◌, append-nil}
use mathlib.Core.Option.{Option}
use Prim.Native.Nat.{ℕ, suc, ◌+◌, ◌-◌, ◌≤◌, ◌<◌}
use native.Mathlib.Omega.{arith}
use lib.ListN.{length, take, drop, length-append, length-drop}
use lib.Seq.{take_all, take-add, drop-drop}
use lib.Dec.{ltb, leb}
use borrow.Author.Tests.{ltb-true}
use Rattle.lists.proofs.Every.{and_true}
use Rattle.decimal.proofs.Printing.{printed_none, printed_as}
use Rattle.protocol.specs.Network.{Network}
use Rattle.network_layout.specs.InWords.{shaped, meaning}
use Rattle.script_notation.specs.declared.Reply.{Reply}
use Rattle.script_notation.specs.Fields.{position}
use Rattle.script_notation.specs.Answers.{answer}
use Rattle.script_notation.proofs.Places.{place_within}
use Rattle.console_notation.specs.Lines.{newline, clipped, Told, told, line_most, used}
use Rattle.console_notation.proofs.Cutting.{and_then, line_told, told_append, told_clipped, told_part, told_line, told_newline}
use Rattle.console_notation.proofs.Feeding.{used_line, used_stops, used_there}
use Rattle.console_lines.specs.declared.Next.{Next}
use Rattle.console_lines.specs.Promises.{Effect, Collected, Ended}
use Rattle.console_lines.proofs.Steps.{effect_as, effect_then, nothing_left}
use Rattle.console_notation.specs.declared.Held.{Held}
use Rattle.console_held.specs.Held.{held_of, Holding}
use Rattle.console_blocks.specs.declared.Advance.{Advance}
use Rattle.console_blocks.specs.Promises.{Begun, Advanced}

-- what is held, by another name
holding_as : {l m : List ℕ} {h : Held} → l ≡ m → Holding l h → Holding m h
holding_as {h = h} e p = subst (λ (l : List ℕ). Holding l h) e p

-- ---- a block up to its first newline
module _ {block line entry out₀ : List ℕ} {at end : ℕ} (e : end ≡ 0 + position newline block) where
  -- no newline, or no room
  pub begun_held : {h : Held} {formed : Bool} → formed ≡ shaped entry → (ltb end (length block) && leb (at + line_most) (length out₀)) ≡ false → Holding (clipped (line ++ take end block)) h
      → Begun block line entry entry out₀ out₀ at (record { used = end; held = h; filled = at; formed = formed })
  begun_held {h} g f held =
      let s = meaning entry in
      let first : end ≡ position newline block = omega arith in
      let taken : take end block ≡ take (position newline block) block = ap (λ (k : ℕ). take k block) first in
      let size = length out₀ in
      let test : (ltb (position newline block) (length block) && leb (at + line_most) size) ≡ false = ap (λ (k : ℕ). ltb k (length block) && leb (at + line_most) size) (sym first) ∙ f in
      let t : told s line (take end block) ≡ record { bytes = []; after = s; held = clipped (line ++ take end block) }
      = ap (told s line) taken ∙ told_part s line block ∙ ap (λ (z : List ℕ). record { bytes = []; after = s; held = clipped (line ++ z) }) (sym taken) in
      let all : end ≡ used s size at line block = first ∙ sym (used_stops s size at line block test) in
      let none : used s size at [] (drop end block) ≡ 0 = ap (λ (k : ℕ). used s size at [] (drop k block)) first ∙ used_there s size at block test in
      record {
        effect = effect_as (sym t) (record { printed = printed_none out₀ at; after_is = refl });
        holding = holding_as (ap (λ (z : Told). z.held) (sym t)) held;
        within = omega (arith, place_within newline block);
        stops = λ z. all;
        goes = omega arith;
        formed_is = g;
      }

  -- the line ends and is answered
  pub begun_answered : {exit out : List ℕ} {r : Reply} {held h : Held} → (ltb end (length block) && leb (at + line_most) (length out₀)) ≡ true → Holding (clipped (line ++ take end block)) held → Holding [] h
      → Collected (told (meaning entry) (held_of held) (newline ∷ [])) exit out₀ out at r → Begun block line entry exit out₀ out at (record { used = end + 1; held = h; filled = r.end; formed = r.formed })
  begun_answered {exit} {out} {r} {held} {h} f was none p =
      let filled = r.end in
      let s = meaning entry in
      let first : end ≡ position newline block = omega arith in
      let taken : take end block ≡ take (position newline block) block = ap (λ (k : ℕ). take k block) first in
      let size = length out₀ in
      let tests = and_true (ltb end (length block)) (leb (at + line_most) size) f in
      let short : position newline block < length block = omega (arith, ltb-true end (length block) tests.0) in
      let whole = line ++ take (position newline block) block in
      let next : end + 1 ≡ suc (position newline block) = omega arith in
      let told-whole : told s (held_of held) (newline ∷ []) ≡ line_told (answer s whole)
      = ap (λ (z : List ℕ). told s z (newline ∷ [])) (was.held_is ∙ ap (λ (z : List ℕ). clipped (line ++ z)) taken) ∙ told_clipped s whole (newline ∷ []) ∙ told_newline s whole in
      let t : told s line (take (end + 1) block) ≡ line_told (answer s whole) = ap (λ (k : ℕ). told s line (take k block)) next ∙ told_line s line block short in
      let q : Effect (line_told (answer s whole)) exit out₀ out at filled = effect_as told-whole p.effect in
      let there : filled ≡ at + suc (length (answer s whole).bytes) = omega (arith, q.printed.end_is, length-append (answer s whole).bytes (newline ∷ [])) in
      let behind : used (meaning exit) size filled [] (drop (end + 1) block) ≡ used (answer s whole).after size (at + suc (length (answer s whole).bytes)) [] (drop (suc (position newline block)) block)
      = (λ i. used (q.after_is i) size (there i) [] (drop (next i) block)) in
      record {
        effect = effect_as (sym t) q;
        holding = holding_as (ap (λ (z : Told). z.held) (sym t)) none;
        within = omega arith;
        stops = λ z. absurd (omega (arith, none.count_is));
        goes = omega (arith, used_line s size at tests.1 line block short);
        formed_is = p.formed_is;
      }

-- ---- a block after what was held
-- the part from a place on
abbrev pub part_from : ℕ → List ℕ → List ℕ
part_from u b = take (length b - u) (drop u b)

pub part_from_lem : (u : ℕ) (b : List ℕ) → part_from u b ≡ drop u b
part_from_lem u b = take_all (length b - u) (drop u b) (omega (arith, length-drop u b))

-- the next line ends within the block, or with it
pub end_within : (block : List ℕ) (u : ℕ) {mid exit x y : List ℕ} {filled : ℕ} {n : Next} → u ≤ length block → Ended (part_from u block) mid exit x y filled n → u + n.end ≤ length block
end_within block u {n = n} h w =
    let b = part_from u block in
    omega (arith, w.end_is, w.walked.within, place_within newline (drop n.from b), length-drop n.from b, ap length (part_from_lem u block), length-drop u block)

module _ {block line entry out₀ : List ℕ} {at : ℕ} where
  -- it ends at the line that is held
  pub fed_held : {exit out : List ℕ} {r : Advance} → Begun block line entry exit out₀ out at r → 0 < r.held.count → Advanced block line entry exit out₀ out at r
  fed_held b h = record { fed = record { used_is = b.stops h; effect = b.effect; holding = b.holding }; formed_is = b.formed_is }

  -- it goes on with lines of the block
  pub fed_lines : {mid x exit y : List ℕ} {r : Advance} {n : Next} {h : Held} → Begun block line entry mid out₀ x at r → r.held.count ≤ 0 → length x ≡ length out₀
      → Ended (part_from r.used block) mid exit x y r.filled n → Holding (clipped (take (r.used + n.end - (r.used + n.from)) (drop (r.used + n.from) block))) h
      → Advanced block line entry exit out₀ y at (record { used = r.used + n.end; held = h; filled = n.filled; formed = n.formed })
  fed_lines {mid} {x} {exit} {y} {r} {n} {h} b z same w' held =
      let w = subst (λ (l : List ℕ). Ended l mid exit x y r.filled n) (part_from_lem r.used block) w' in
      let s = meaning entry in
      let m = meaning mid in
      let u = r.used in
      let rest = drop u block in
      let left = drop n.from rest in
      let p = position newline left in
      let t = told s line (take u block) in
      let v = told m [] (take n.from rest) in
      let empty : t.held ≡ [] = nothing_left t.held (omega (arith, b.holding.count_is)) in
      let parts : take n.end rest ≡ take n.from rest ++ take p left = ap (λ (k : ℕ). take k rest) w.end_is ∙ take-add n.from p rest in
      let told-rest : told m [] (take n.end rest) ≡ and_then v (record { bytes = []; after = meaning exit; held = clipped (take p left) })
      = ap (told m []) parts
      ∙ told_append m [] (take n.from rest) (take p left)
      ∙ ap₂ (λ (o : Option Network) (l : List ℕ). and_then v (told o l (take p left))) (sym w.walked.effect.after_is) w.walked.whole
      ∙ ap (and_then v) (told_part (meaning exit) [] left) in
      let told-all : told s line (take (u + n.end) block) ≡ and_then t (and_then v (record { bytes = []; after = meaning exit; held = clipped (take p left) }))
      = ap (told s line) (take-add u n.end block)
      ∙ told_append s line (take u block) (take n.end rest)
      ∙ ap₂ (λ (o : Option Network) (l : List ℕ). and_then t (told o l (take n.end rest))) (sym b.effect.after_is) empty
      ∙ ap (and_then t) told-rest in
      let bytes-all : t.bytes ++ v.bytes ≡ t.bytes ++ (v.bytes ++ []) = ap (λ (l : List ℕ). t.bytes ++ l) (sym (append-nil v.bytes)) in
      let two = effect_then same b.effect w.walked.effect in
      let all : Effect (and_then t (and_then v (record { bytes = []; after = meaning exit; held = clipped (take p left) }))) exit out₀ y at n.filled
      = record { printed = printed_as bytes-all two.printed; after_is = refl } in
      let size : u + n.end - (u + n.from) ≡ p = omega (arith, w.end_is) in
      let held_line : clipped (take (u + n.end - (u + n.from)) (drop (u + n.from) block)) ≡ clipped (take p left)
      = ap (λ (k : ℕ). clipped (take k (drop (u + n.from) block))) size ∙ ap (λ (l : List ℕ). clipped (take p l)) (sym (drop-drop n.from u block)) in
      let used-rest : n.end ≡ used m (length out₀) r.filled [] rest = w.used_is ∙ ap (λ (k : ℕ). used m k r.filled [] rest) same in
      record {
        fed =
            record {
              used_is = omega (arith, b.goes);
              effect = effect_as (sym told-all) all;
              holding = holding_as (held_line ∙ ap (λ (o : Told). o.held) (sym told-all)) held;
            };
        formed_is = w.formed_is;
      }
