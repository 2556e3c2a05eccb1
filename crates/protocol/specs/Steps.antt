-- The steps: for each the number of the first cause that refuses it, and the network after it where none does.
use Rattle.std.specs.Prelude.{Bool, not, cond, ◌&&◌, ◌||◌, List, [], ◌∷◌, map, ℕ, zero, suc, ℤ, pos, length, get_or, set, replicate, eqb, ltb, leb}
use Rattle.timestamp_order.specs.Timestamp.{Stamp, own_count, greatest}
use Rattle.timestamp_order.specs.Order.{order_by, is_earlier}
use Rattle.site_operations.specs.Operations.{Op, reads, writes, worked}
use Rattle.site.specs.Site.{Site, committed, dummied, at_epoch, received}
use Rattle.limits.specs.Limits.{ops_most, sites_most, items_most, held_most, records_most}
use Rattle.site.specs.InWords.{table_size}
use Rattle.placement.specs.Placement.{Item, owns, copies, is_line, has_parents}
use Rattle.placement.specs.Places.{placement_number}
use Rattle.lists.specs.Numbers.{first_number, number_if, outside}
use Rattle.lists.specs.Lists.{any, some_below, keep}
use Rattle.lines.specs.Lines.{Line, no_line, sent, delivered, taken}
use Rattle.messages.specs.Messages.{Message, commit, dummy}
use Rattle.records.specs.Records.{Record}
use Rattle.protocol.specs.Network.{lines_most, Network, start_base, place_of, with_site, with_line, site_at, line_at, line_number, message_stamp, message_ops, with_lines, with_record}

-- ---- set-up (sites, items, a primary and a mask for each item)
abbrev pub items_of : List ℕ → List ℕ → List Item
items_of [] ms = []
items_of (p ∷ ps) [] = []
items_of (p ∷ ps) (m ∷ ms) = record { primary = p; mask = m } ∷ items_of ps ms

-- not 1 to 64 items, or lists of another length
abbrev pub wrong_items : ℕ → ℕ → ℕ → Bool
wrong_items items primaries masks = outside 1 items_most items || (not (eqb primaries items) || not (eqb masks items))

unfoldable pub set_up_number : ℕ → ℕ → List ℕ → List ℕ → ℕ
set_up_number sites items ps ms =
    first_number
    (number_if (outside 1 sites_most sites) 1
    ∷ number_if (wrong_items items (length ps) (length ms)) 2
    ∷ placement_number sites (items_of ps ms)
    ∷ [])

-- site i at its start: every value 0, epoch 0 with its own tuple at count 0
abbrev pub start_site : ℕ → Site
start_site i = record { table = replicate table_size (pos 0); stamp = record { epoch = 0; tuples = record { site = i; count = 0 } ∷ [] } }

-- n of them, from site i on
abbrev pub start_sites : ℕ → ℕ → List Site
start_sites i zero = []
start_sites i (suc n) = start_site i ∷ start_sites (suc i) n

unfoldable pub set_up_network : ℕ → List ℕ → List ℕ → Network
set_up_network sites ps ms =
    let xs = items_of ps ms in
    record { sites = start_sites 0 sites; items = xs; lines = replicate lines_most no_line; history = []; base = start_base (length xs) }

-- ---- causes that several steps share
abbrev pub no_such_site : Network → ℕ → Bool
no_such_site n i = leb (length n.sites) i

abbrev pub count_at_most : Network → ℕ → Bool
count_at_most n i = leb greatest (own_count (site_at n i).stamp)

-- a line from i to one of the sites that get a message holds 16
abbrev pub some_line_full : Network → ℕ → (ℕ → Bool) → Bool
some_line_full n i gets = some_below (λ c. gets c && leb held_most (length (line_at n i c).messages)) sites_most

-- a message sent from i to each site below k that gets one
abbrev pub sent_to : (ℕ → Bool) → ℕ → Message → ℕ → List Line → List Line
sent_to gets i m zero ls = ls
sent_to gets i m (suc c) ls =
    let rest = sent_to gets i m c ls in
    cond (gets c) (set rest (line_number i c) (sent m (get_or rest (line_number i c) no_line))) rest

-- ---- commit (site, operations as three lists of their fields)
abbrev pub ops_of : List ℕ → List ℕ → List ℤ → List Op
ops_of [] is vs = []
ops_of (k ∷ ks) [] vs = []
ops_of (k ∷ ks) (i ∷ is) [] = []
ops_of (k ∷ ks) (i ∷ is) (v ∷ vs) = record { kind = k; item = i; value = v } ∷ ops_of ks is vs

-- the number for which an operation is refused at site i, or 0
abbrev pub op_number : List Item → ℕ → Op → ℕ
op_number xs i o =
    first_number
    (number_if (ltb 1 o.kind || leb (length xs) o.item) 9
    ∷ number_if (reads o && not (owns xs i o.item || copies xs i o.item)) 10
    ∷ number_if (writes o && not (owns xs i o.item)) 11
    ∷ [])

-- an operation that writes an item of which site c has a copy
abbrev pub wanted_at : List Item → ℕ → Op → Bool
wanted_at xs c o = writes o && copies xs c o.item

-- site c has a copy of an item that is written
abbrev pub due : List Item → List Op → ℕ → Bool
due xs os c = any (wanted_at xs c) os

-- the causes that come after the lists' lengths
abbrev pub commit_causes : Network → ℕ → List Op → List ℕ
commit_causes n i os =
    first_number (map (op_number n.items i) os)
    ∷ number_if (leb records_most (length n.history)) 12
    ∷ number_if (some_line_full n i (due n.items os)) 13
    ∷ number_if (count_at_most n i) 14
    ∷ []

-- not 1 to 8 operations, or lists of several lengths
abbrev pub wrong_lists : ℕ → ℕ → ℕ → Bool
wrong_lists kinds items values = outside 1 ops_most kinds || (not (eqb items kinds) || not (eqb values kinds))

unfoldable pub commit_number : Network → ℕ → List ℕ → List ℕ → List ℤ → ℕ
commit_number n i ks is vs =
    first_number (number_if (no_such_site n i) 7 ∷ number_if (wrong_lists (length ks) (length is) (length vs)) 8 ∷ commit_causes n i (ops_of ks is vs))

-- the record that a commit makes
abbrev pub record_of : Network → ℕ → List Op → Record
record_of n i os = record { site = i; stamp = (committed os (site_at n i)).stamp; ops = (worked (site_at n i).table os).ops }

unfoldable pub commit_network : Network → ℕ → List Op → Network
commit_network n i os =
    let atSite = with_site n i (committed os (site_at n i)) in
    let told = with_lines atSite (sent_to (due n.items os) i (commit (length n.history)) sites_most n.lines) in
    with_record told (record_of n i os)

-- ---- dummy (site)
unfoldable pub dummy_number : Network → ℕ → ℕ
dummy_number n i =
    first_number
    (number_if (no_such_site n i) 7
    ∷ number_if (some_line_full n i (is_line n.items i)) 13
    ∷ number_if (count_at_most n i) 14
    ∷ [])

unfoldable pub dummy_network : Network → ℕ → Network
dummy_network n i =
    let raised = dummied (site_at n i) in
    with_lines (with_site n i raised) (sent_to (is_line n.items i) i (dummy raised.stamp) sites_most n.lines)

-- ---- epoch (site, new number)
unfoldable pub epoch_number : Network → ℕ → ℕ → ℕ
epoch_number n i e =
    first_number
    (number_if (no_such_site n i) 7
    ∷ number_if (has_parents n.items i) 15
    ∷ number_if (leb e (site_at n i).stamp.epoch) 16
    ∷ [])

unfoldable pub epoch_network : Network → ℕ → ℕ → Network
epoch_network n i e = with_site n i (at_epoch e (site_at n i))

-- ---- deliver (parent, child)
unfoldable pub deliver_number : Network → ℕ → ℕ → ℕ
deliver_number n p c =
    first_number
    (number_if (no_such_site n p || no_such_site n c) 7
    ∷ number_if (not (is_line n.items p c)) 17
    ∷ number_if (leb (length (line_at n p c).messages) (line_at n p c).arrived) 18
    ∷ [])

unfoldable pub deliver_network : Network → ℕ → ℕ → Network
deliver_network n p c = with_line n (line_number p c) (delivered (line_at n p c))

-- ---- schedule (site)
-- p is a parent of j and has nothing arrived there
abbrev pub lacks_arrived : Network → ℕ → ℕ → Bool
lacks_arrived n j p = is_line n.items p j && eqb (line_at n p j).arrived 0

unfoldable pub schedule_number : Network → ℕ → ℕ
schedule_number n j =
    first_number
    (number_if (no_such_site n j) 7
    ∷ number_if (not (has_parents n.items j)) 19
    ∷ number_if (some_below (lacks_arrived n j) sites_most) 20
    ∷ [])

-- the oldest message on the line from p to j, and its timestamp
abbrev pub head : Network → ℕ → ℕ → Message
head n p j = get_or (line_at n p j).messages 0 (commit 0)

abbrev pub head_stamp : Network → ℕ → ℕ → Stamp
head_stamp n p j = message_stamp n.history (head n p j)

-- the oldest message on the line from p is earlier than that on the line from q
abbrev pub head_earlier : Network → ℕ → ℕ → ℕ → Bool
head_earlier n j p q = is_earlier (order_by (place_of n.items) (head_stamp n p j) (head_stamp n q j))

-- q, unless p's oldest message is earlier; q is no parent where it is no site
abbrev pub earlier_of : Network → ℕ → ℕ → ℕ → ℕ
earlier_of n j p q = cond (leb sites_most q || head_earlier n j p q) p q

-- of the parents below k the one whose oldest message is the earliest, the lowest of equal ones; 8 where there is none
unfoldable pub earliest : Network → ℕ → ℕ → ℕ
earliest n j zero = sites_most
earliest n j (suc p) = let best = earliest n j p in cond (is_line n.items p j) (earlier_of n j p best) best

abbrev pub chosen : Network → ℕ → ℕ
chosen n j = earliest n j sites_most

-- a message's writes to the items that have a copy at j
abbrev pub writes_for : Network → ℕ → Message → List Op
writes_for n j m = keep (wanted_at n.items j) (message_ops n.history m)

unfoldable pub schedule_network : Network → ℕ → Network
schedule_network n j =
    let p = chosen n j in
    let m = head n p j in
    with_line (with_site n j (received (writes_for n j m) (message_stamp n.history m) (site_at n j))) (line_number p j) (taken (line_at n p j))
