-- The lines of a script are calls, and what they print agrees with one copy.
use mathlib.Core.Path.{◌≡◌, refl, sym, ap, subst, ◌∙◌}
use mathlib.Core.Bool.{Bool, true, false}
use mathlib.Core.List.{List, [], ◌∷◌, ◌++◌, append-nil}
use mathlib.Core.Option.{Option, none, some}
use Prim.Native.Nat.{ℕ, ◌+◌, ◌/◌, ◌%◌}
use native.Mathlib.Omega.{arith}
use lib.ListN.{length, take, drop, replicate, length-append}
use lib.Seq.{take_at}
use lib.Dec.{eqb, ltb}
use borrow.Author.Tests.{ne_eqb, eqb-true, ltb-true, ltb-false}
use Rattle.decimal.specs.Decimal.{digits}
use Rattle.decimal.proofs.Digits.{digits_small, digits_more, digits_some}
use Rattle.protocol.specs.Calls.{Call, set_up, Outcome, perform}
use Rattle.protocol.specs.Agreement.{nothing_known, Agreement, AgreedOrUnset}
use Rattle.network_layout.specs.Layout.{state_size}
use Rattle.network_layout.specs.InWords.{meaning}
use Rattle.network_layout.specs.Played.{Event, Played, seen_of, witnessed_all, PlayedAgreement, PlayedFromNothing}
use Rattle.network_layout.proofs.Played.{one_copy_played, played_from_nothing, zeros_mean_nothing}
use Rattle.script_notation.specs.Parse.{parse}
use Rattle.script_notation.specs.Print.{print, answer_most, Put}
use Rattle.script_notation.specs.Answers.{Replied}
use Rattle.script_notation.specs.Scripts.{Reply, answered, AllReplied, StandsFor, no_line_lem, no_call, a_call, Script, ScriptAgreement, ScriptFromNothing}

-- what stands at the front of the buffer is what was printed there
answer_is : {lent out bytes : List ℕ} {size : ℕ} → Put answer_most lent out 0 size bytes → take size out ≡ bytes
answer_is {lent} {out} {bytes} {size} p =
    ap (take size) p.printed.exit_is ∙ take_at bytes (drop (length bytes) lent) size (omega (arith, p.printed.end_is))

-- ---- the calls behind the lines
record Calls (w : List ℕ) (rs : List Reply) : Type 0 where
  events : List Event
  stands_for : StandsFor w rs events
  played : Played w events

module _ (w : List ℕ) (r : Reply) (rs : List Reply) (rest : Calls r.left rs) where
  call_behind : (o : Option Call) → parse r.text ≡ o → Replied o w r.left r.lent r.out r.size → Calls w (r ∷ rs)
  call_behind none e p =
      record {
        events = rest.events;
        stands_for = no_call e (answer_is p.printed) (p.kept refl) rest.stands_for;
        played = subst (λ (v : List ℕ). Played v rest.events) (p.kept refl) rest.played;
      }
  call_behind (some call) e p =
      let o = perform (meaning w) call in
      let event : Event = record { call = call; number = o.number; parent = o.parent; stamp = o.stamp; values = o.values; left = r.left } in
      let seen : seen_of event ≡ o = λ i. record { number = o.number; parent = o.parent; stamp = o.stamp; values = o.values; after = p.after_is i } in
      record {
        events = event ∷ rest.events;
        stands_for = a_call e (answer_is p.printed ∙ ap (print call) (sym seen)) refl rest.stands_for;
        played = (
          record { number_is = refl; parent_is = refl; stamp_is = refl; values_are = refl; after_is = p.after_is; kept = λ z. p.kept (ne_eqb o.number 0 z) },
          rest.played,
        );
      }

calls_behind : (w : List ℕ) (rs : List Reply) → AllReplied w rs → Calls w rs
calls_behind w [] p = record { events = []; stands_for = no_line_lem; played = tt }
calls_behind w (r ∷ rs) (p, ps) = call_behind w r rs (calls_behind r.left rs ps) (parse r.text) refl p

-- ---- a call that prints 0 was accepted
zero_digits : (n : ℕ) → digits n ≡ 48 ∷ [] → n ≡ 0
zero_digits n e = go (ltb n 10) refl
  where
    go : (b : Bool) → ltb n 10 ≡ b → n ≡ 0
    go true h = let s : (48 + n) ∷ [] ≡ 48 ∷ [] = sym (digits_small n (ltb-true n 10 h)) ∙ e in let z : 48 + n ≡ 48 = cc in omega arith
    go false h =
        let s : length (digits (n / 10) ++ ((48 + n % 10) ∷ [])) ≡ 1 = ap length (sym (digits_more n (ltb-false n 10 h)) ∙ e) in
        absurd (omega (arith, simp length-append at s, digits_some (n / 10)))

prints_zero : (call : Call) (o : Outcome) → print call o ≡ 48 ∷ [] → o.number ≡ 0
unfolding print
prints_zero call o e = go (eqb o.number 0) refl
  where
    go : (b : Bool) → eqb o.number 0 ≡ b → o.number ≡ 0
    go true h = eqb-true o.number 0 h
    go false h = zero_digits o.number (sym (append-nil (digits o.number)) ∙ (rw h at e))

set_up_first : {w : List ℕ} {r : Reply} {rs : List Reply} {es : List Event} (sites items : ℕ) (primaries masks : List ℕ) → parse r.text ≡ some (set_up sites items primaries masks) → answered r ≡ 48 ∷ []
    → StandsFor w (r ∷ rs) es → Played w es → Agreement (witnessed_all (nothing_known (meaning w)) es)
unfolding PlayedAgreement
set_up_first sites items primaries masks is zero (no_call none_is a l s) p = absurd (let z : ◌≡◌ {A = ℕ} 0 1 = cc in omega arith)
set_up_first {w = w} sites items primaries masks is zero (a_call {e = e} {es = es} call-is a l s) p =
    let c : e.call ≡ set_up sites items primaries masks = cc in
    one_copy_played w e es sites items primaries masks c (prints_zero e.call (seen_of e) (sym a ∙ zero)) p

pub script_agreement : ScriptAgreement
unfolding ScriptAgreement
script_agreement w r rs sites items primaries masks is zero p =
    let b = calls_behind w (r ∷ rs) p in
    record { events = b.events; stands_for = b.stands_for; played = b.played; claimed = set_up_first sites items primaries masks is zero b.stands_for b.played }

pub script_from_nothing : ScriptFromNothing
unfolding ScriptFromNothing PlayedFromNothing
script_from_nothing w rs e p =
    let b = calls_behind w rs p in
    record { events = b.events; stands_for = b.stands_for; played = b.played; claimed = played_from_nothing w b.events e b.played }

-- as the programs start
pub script_from_zeros : (rs : List Reply) → AllReplied (replicate state_size 0) rs → Script AgreedOrUnset (replicate state_size 0) rs
unfolding ScriptFromNothing
script_from_zeros rs p = script_from_nothing (replicate state_size 0) rs zeros_mean_nothing p
