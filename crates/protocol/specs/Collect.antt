-- A collect: the commits not later than the earliest site are folded into the base values and removed, and messages name the others by their new numbers.
use Rattle.std.specs.Prelude.{◌≡◌, Bool, false, not, cond, ◌||◌, List, map, ℕ, ◌+◌, length, eqb}
use Rattle.std.proofs.Math.Option.{Option, none, some}
use Rattle.lists.specs.Lists.{any, some_below, keep, keep_from, count_below}
use Rattle.lists.specs.Numbers.{number_if}
use Rattle.timestamp_order.specs.Timestamp.{Stamp}
use Rattle.timestamp_order.specs.Order.{order_by, not_later}
use Rattle.messages.specs.Messages.{Message, commit, dummy}
use Rattle.lines.specs.Lines.{Line}
use Rattle.protocol.specs.Network.{Network, Base, nth_record, place_of, site_stamps}
use Rattle.protocol.specs.Earliest.{earliest_stamp}
use Rattle.protocol.specs.Run.{in_turn, after, is_up_to}

-- ---- the point
-- up to which commits are collected: the earliest of all sites' timestamps
abbrev pub point_of : Network → Stamp
point_of n = earliest_stamp (place_of n.items) (site_stamps n)

-- commit k is not later than it
abbrev pub is_past : Network → ℕ → Bool
is_past n k = not_later (order_by (place_of n.items) (nth_record n k).stamp (point_of n))

-- ---- some commits, by their numbers, go
-- those that stay
abbrev pub staying : {A : Type 0} → (ℕ → Bool) → List A → List A
staying goes cs = keep_from (λ k. not (goes k)) 0 cs

-- the number that commit k has among them: how many of those before it stay
abbrev pub new_number : (ℕ → Bool) → ℕ → ℕ
new_number goes k = count_below (λ i. not (goes i)) k

-- a message that names one of those that go
abbrev pub names_one : (ℕ → Bool) → Message → Bool
names_one goes (commit k) = goes k
names_one goes (dummy t) = false

-- the commit of a message by its new number
abbrev pub renamed : (ℕ → Bool) → Message → Message
renamed goes (commit k) = commit (new_number goes k)
renamed goes (dummy t) = dummy t

abbrev pub renamed_line : (ℕ → Bool) → Line → Line
renamed_line goes l = record { messages = map (renamed goes) l.messages; arrived = l.arrived }

-- ---- the call
-- a message on a line names a commit to be folded
unfoldable pub collect_number : Network → ℕ
collect_number n = number_if (any (λ (l : Line). any (names_one (is_past n)) l.messages) n.lines) 6

-- the base values worked on by the commits that go, by rising timestamp
abbrev pub folded_base : Network → Base
folded_base n =
    let place = place_of n.items in
    record {
      values = after n.base.values (keep (is_up_to place (point_of n)) (in_turn place n.history));
      folded = n.base.folded || some_below (is_past n) (length n.history);
    }

unfoldable pub collect_network : Network → Network
collect_network n =
    record {
      sites = n.sites;
      items = n.items;
      lines = map (renamed_line (is_past n)) n.lines;
      history = staying (is_past n) n.history;
      base = folded_base n;
    }

-- how many it removes; none where it is refused
unfoldable pub removed_by : Option Network → ℕ
removed_by none = 0
removed_by (some n) = cond (eqb (collect_number n) 0) (count_below (is_past n) (length n.history)) 0

-- those removed and those kept are all
unfoldable pub RemovedAndKept : Type 0
RemovedAndKept = (n : Network) → collect_number n ≡ 0 → removed_by (some n) + length (collect_network n).history ≡ length n.history
