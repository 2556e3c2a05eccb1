-- A message to several sites: whether a line is full, and the lines one after another.
use mathlib.Core.Path.{◌≡◌, refl, sym, ap, ◌∙◌}
use mathlib.Core.Bool.{Bool, true, false, cond, ◌&&◌}
use mathlib.Core.List.{List}
use Prim.Native.Nat.{ℕ, zero, suc, ◌+◌, ◌<◌}
use native.Mathlib.Omega.{arith}
use native.Mathlib.Numerals.{add-one}
use lib.ListN.{length, get_or, set}
use lib.Dec.{leb}
use borrow.Author.Tests.{leb-false}
use Rattle.limits.specs.Limits.{sites_most, held_most}
use Rattle.lines.specs.Lines.{Line, no_line, sent, sent_or_same}
use Rattle.messages.specs.Messages.{Message}
use Rattle.lines.proofs.Boxes.{send_room}
use Rattle.protocol.specs.Network.{Network, line_at, line_number, with_line, with_lines}
use Rattle.protocol.specs.Steps.{some_line_full, sent_to}
use Rattle.protocol.proofs.WellShaped.{sent_other}
use Rattle.lists.proofs.Some.{none_below}

-- ---- the lines, one after another
-- a line that gets the message has room
pub line_room : (n : Network) (i : ℕ) (gets : ℕ → Bool) → some_line_full n i gets ≡ false → (c : ℕ) → c < sites_most → gets c ≡ true → length (line_at n i c).messages < held_most
line_room n i gets e c h t =
    let z = none_below (λ b. gets b && leb held_most (length (line_at n i b).messages)) sites_most c e h in
    leb-false held_most (length (line_at n i c).messages) (rw t at z)

module _ (n : Network) (gets : ℕ → Bool) (i : ℕ) (m : Message) where
  pub sent_next : (c : ℕ) → (gets c ≡ true → length (line_at n i c).messages < held_most) → (a b : Network)
      → a ≡ with_lines n (sent_to gets i m c n.lines) → b ≡ cond (gets c) (with_line a (line_number i c) (sent_or_same m (line_at a i c))) a
      → b ≡ with_lines n (sent_to gets i m (c + 1) n.lines)
  sent_next c room a b e f = go (gets c) refl
    where
      next : with_lines n (sent_to gets i m (suc c) n.lines) ≡ with_lines n (sent_to gets i m (c + 1) n.lines)
      next = ap (λ (k : ℕ). with_lines n (sent_to gets i m k n.lines)) (sym (add-one c))

      go : (t : Bool) → gets c ≡ t → b ≡ with_lines n (sent_to gets i m (c + 1) n.lines)
      go true t =
          let ls = sent_to gets i m c n.lines in
          let old : get_or ls (line_number i c) no_line ≡ line_at n i c = sent_other gets i m n.lines c (line_number i c) (λ d l s q. omega arith) in
          let few : length (get_or ls (line_number i c) no_line).messages < held_most = omega (arith, room t, ap (λ (l : Line). length l.messages) old) in
          let here : b ≡ with_line a (line_number i c) (sent_or_same m (line_at a i c)) = f ∙ ap (λ (x : Bool). cond x (with_line a (line_number i c) (sent_or_same m (line_at a i c))) a) t in
          let there : with_lines n (sent_to gets i m (suc c) n.lines) ≡ with_lines n (set ls (line_number i c) (sent m (get_or ls (line_number i c) no_line)))
          = ap (λ (x : Bool). with_lines n (cond x (set ls (line_number i c) (sent m (get_or ls (line_number i c) no_line))) ls)) t in
          here
          ∙ ap (λ (x : Network). with_line x (line_number i c) (sent_or_same m (line_at x i c))) e
          ∙ ap (λ (l : Line). with_lines n (set ls (line_number i c) l)) (send_room m (get_or ls (line_number i c) no_line) few)
          ∙ sym there
          ∙ next
      go false t =
          let ls = sent_to gets i m c n.lines in
          let here : b ≡ a = f ∙ ap (λ (x : Bool). cond x (with_line a (line_number i c) (sent_or_same m (line_at a i c))) a) t in
          let there : with_lines n (sent_to gets i m (suc c) n.lines) ≡ with_lines n ls = ap (λ (x : Bool). with_lines n (cond x (set ls (line_number i c) (sent m (get_or ls (line_number i c) no_line))) ls)) t in
          here ∙ e ∙ sym there ∙ next

-- two tests that agree below k send the same
pub sent_same : (f g : ℕ → Bool) (i : ℕ) (m : Message) (k : ℕ) (ls : List Line) → ((c : ℕ) → c < k → f c ≡ g c) → sent_to f i m k ls ≡ sent_to g i m k ls
sent_same f g i m zero ls h = refl
sent_same f g i m (suc k) ls h = rw (h k (omega arith), sent_same f g i m k ls (λ c b. h c (omega arith)))
