-- The waiting report: the items written by messages on the lines into a site, arrived or not, that it has a copy of; by the timestamp of the earliest of these writes,
-- then by number.
use Rattle.std.specs.Prelude.{◌≡◌, Bool, true, cond, ◌&&◌, List, [], ◌++◌, map, ℕ, zero, suc, ◌<◌, length, get_or}
use Rattle.site_operations.specs.Operations.{touches}
use Rattle.lists.specs.Lists.{any, keep, up_to, occurrences}
use Rattle.lists.specs.Sorting.{sorted}
use Rattle.timestamp_order.specs.Timestamp.{Stamp}
use Rattle.placement.specs.Placement.{copies}
use Rattle.limits.specs.Limits.{sites_most}
use Rattle.messages.specs.Messages.{Message}
use Rattle.protocol.specs.Network.{Network, line_at, message_ops, message_stamp, place_of}
use Rattle.protocol.specs.Precedes.{precedes_by}
use Rattle.protocol.specs.Earliest.{no_later, earliest_stamp, Earliest}

-- ---- which items
-- the messages on the lines into site i from the sites below p, arrived or not
abbrev pub into_below : Network → ℕ → ℕ → List Message
into_below n i zero = []
into_below n i (suc p) = into_below n i p ++ (line_at n p i).messages

-- .. from all sites
abbrev pub into : Network → ℕ → List Message
into n i = into_below n i sites_most

-- a message writes item k
abbrev pub carries : Network → ℕ → Message → Bool
carries n k m = touches k (message_ops n.history m)

-- site i has a copy of item k, and a message on some line into it writes it
unfoldable pub is_waiting : Network → ℕ → ℕ → Bool
is_waiting n i k = copies n.items i k && any (carries n k) (into n i)

-- ---- their order
-- the timestamps of the messages on the lines into site i that write item k
abbrev pub write_stamps : Network → ℕ → ℕ → List Stamp
write_stamps n i k = map (message_stamp n.history) (keep (carries n k) (into n i))

-- the earliest of them
unfoldable pub earliest_write : Network → ℕ → ℕ → Stamp
earliest_write n i k = earliest_stamp (place_of n.items) (write_stamps n i k)

-- items with one timestamp stay in the order of their numbers, as the sort is stable
unfoldable pub waiting_items : Network → ℕ → List ℕ
waiting_items n i = sorted (λ j k. no_later (place_of n.items) (earliest_write n i j) (earliest_write n i k)) (keep (is_waiting n i) (up_to 0 (length n.items)))

-- ---- what is shown of it, of any network
-- each item that is waiting at site i stands in the list exactly once, and no other stands in it
abbrev pub EachOnce : Network → ℕ → List ℕ → Type 0
EachOnce n i xs = (k : ℕ) → occurrences k xs ≡ cond (is_waiting n i k) 1 0

-- of two items in it the one with the earlier write comes first; where they are equal, the one with the lower number
abbrev pub ReportOrder : Network → ℕ → List ℕ → Type 0
ReportOrder n i xs =
    (a b : ℕ) → a < b → b < length xs
    → let j = get_or xs a 0 in
    let k = get_or xs b 0 in
    precedes_by (place_of n.items) j (earliest_write n i j) k (earliest_write n i k) ≡ true

-- the report has both, and no other list has
pub record ReportIs (n : Network) (i : ℕ) : Type 0 where
  pub each_once : EachOnce n i (waiting_items n i)
  pub in_order : ReportOrder n i (waiting_items n i)
  pub alone : (xs : List ℕ) → EachOnce n i xs → ReportOrder n i xs → xs ≡ waiting_items n i

-- the earliest write of an item that is waiting is one of its writes, none of them earlier; no other timestamp is so
pub record EarliestWriteIs (n : Network) (i k : ℕ) : Type 0 where
  pub is : is_waiting n i k ≡ true → Earliest (place_of n.items) (write_stamps n i k) (earliest_write n i k)
  pub alone : (t : Stamp) → Earliest (place_of n.items) (write_stamps n i k) t → t ≡ earliest_write n i k
