-- An accepted set-up gives a network with the invariant.
use mathlib.Core.Path.{◌≡◌, ap, sym, subst, ◌∙◌}
use mathlib.Core.Bool.{true}
use mathlib.Core.List.{List, [], ◌∷◌}
use Prim.Native.Nat.{ℕ, ◌+◌, ◌<◌, ◌≤◌}
use native.Mathlib.Omega.{arith}
use lib.IntN.{pos}
use lib.ListN.{length, get_or, length-replicate, get_or-replicate}
use Rattle.timestamp_order.proofs.OrderLaws.{bare_not_later}
use Rattle.timestamp_order.proofs.Made.{without}
use Rattle.site.specs.Site.{Site}
use Rattle.site.specs.InWords.{table_size}
use Rattle.placement.specs.Placement.{is_line}
use Rattle.lines.specs.Lines.{Line, no_line}
use Rattle.protocol.specs.Network.{lines_most, Network, site_at, line_number}
use Rattle.protocol.specs.Steps.{items_of, start_site, set_up_network}
use Rattle.protocol.proofs.Keeps.{start_length, start_at, keeps_set_up}
use Rattle.protocol.proofs.Places.{line_ends, place_at, UpTo}
use Rattle.protocol.proofs.Invariant.{stamp_at, heard_at, table_at, messages_at, Sizes, Invariant}
use Rattle.protocol.specs.Allowed.{SetUpAllowed}

pairs_most : (ps ms : List ℕ) → length (items_of ps ms) ≤ length ps
pairs_most [] ms = omega arith
pairs_most (p ∷ ps) [] = omega arith
pairs_most (p ∷ ps) (m ∷ ms) = omega (arith, pairs_most ps ms)

module _ (sites items : ℕ) (ps ms : List ℕ) (z : SetUpAllowed sites items ps ms) where
  few_items : length (items_of ps ms) ≤ table_size
  few_items = omega (arith, z.few_items, z.each_primary, pairs_most ps ms)

  abbrev start : Network
  start = set_up_network sites ps ms

  start_site_lem : (j : ℕ) → j < sites → site_at start j ≡ start_site j
  unfolding set_up_network
  start_site_lem j l = let number : 0 + j ≡ j = omega arith in start_at 0 sites j l ∙ ap start_site number

  start_line : (p j : ℕ) → is_line (items_of ps ms) p j ≡ true → (p < sites) × (j < sites) × (messages_at start p j ≡ [])
  unfolding set_up_network
  start_line p j line =
      let ends = line_ends sites (items_of ps ms) p j z.placed line in
      let near : line_number p j < lines_most = omega (arith, ends.0, ends.1, z.few_sites) in
      (ends.0, ends.1, ap (λ (l : Line). l.messages) (get_or-replicate lines_most (line_number p j) no_line no_line near))

  -- nothing is on the way
  none_sent : (p j a : ℕ) → is_line (items_of ps ms) p j ≡ true → a < length (messages_at start p j) → ⊥
  none_sent p j a line l = let none : length (messages_at start p j) ≡ 0 = ap length (start_line p j line).2 in omega arith

  start_heard : (p j : ℕ) → is_line (items_of ps ms) p j ≡ true → UpTo start (heard_at start j) (stamp_at start p)
  start_heard p j line =
      let at = start_line p j line in
      subst (λ (s : Site). UpTo start (without s.stamp) (stamp_at start p)) (sym (start_site_lem j at.1))
      (bare_not_later (place_at start) 0 (stamp_at start p) (omega arith))

  start_copy : (j x : ℕ) → j < sites → x < length (items_of ps ms) → get_or (table_at start j) x (pos 0) ≡ pos 0
  start_copy j x l b =
      ap (λ (s : Site). get_or s.table x (pos 0)) (start_site_lem j l) ∙ get_or-replicate table_size x (pos 0) (pos 0) (omega (arith, few_items))

  start_sizes : Sizes start
  unfolding set_up_network
  start_sizes =
      record {
        lines = length-replicate lines_most no_line;
        sites = omega (arith, start_length 0 sites, z.few_sites);
        items = few_items;
        tables = λ j l. ap (λ (s : Site). length s.table) (start_site_lem j (omega (arith, start_length 0 sites))) ∙ length-replicate table_size (pos 0);
      }

  pub set_up_starts : Invariant start
  unfolding set_up_network
  set_up_starts =
      record {
        sizes = start_sizes;
        shape = keeps_set_up sites items ps ms z;
        past = λ k l. absurd (omega arith);
        rise = λ k m l h. absurd (omega arith);
        queue = λ p j line a b l h. absurd (none_sent p j b line h);
        ahead = λ p j line a l. absurd (none_sent p j a line l);
        behind = λ p j line a l. absurd (none_sent p j a line l);
        owed = λ k j l. absurd (omega arith);
        heard = start_heard;
        copy = λ j x l b e. start_copy j x (omega (arith, start_length 0 sites)) b;
        read = λ k l. absurd (omega arith);
        allowed = λ k l. absurd (omega arith);
      }
