-- A round: every site without parents gets an epoch above all others; then in the order of places each site gets its lines delivered, schedules until refused and
-- sends a dummy. It is the list of these calls.
use Rattle.std.specs.Prelude.{Bool, true, false, cond, List, [], ◌∷◌, ◌++◌, ℕ, zero, suc, ◌-◌, max, length, replicate, eqb, leb}
use Rattle.std.proofs.Math.Option.{Option, none, some}
use Rattle.limits.specs.Limits.{sites_most, held_most}
use Rattle.lists.specs.Lists.{any, some_below, up_to, fold}
use Rattle.lists.specs.Numbers.{first_number, number_if}
use Rattle.timestamp_order.specs.Timestamp.{Stamp, greatest}
use Rattle.placement.specs.Placement.{is_line, has_parents}
use Rattle.placement.specs.Places.{site_order}
use Rattle.lines.specs.Lines.{Line}
use Rattle.protocol.specs.Network.{Network, site_stamps, line_at}
use Rattle.protocol.specs.Steps.{count_at_most, dummy_network, epoch_network, deliver_network, schedule_number, schedule_network}
use Rattle.protocol.specs.Waiting.{into}
use Rattle.protocol.specs.Call.{Call, set_up, commit, dummy, epoch, deliver, schedule, collect, round, ask}

-- ---- calls one after another
-- the calls that a round is made of
abbrev pub is_step : Call → Bool
is_step (set_up sites items ps ms) = false
is_step (commit i ks is vs) = false
is_step (dummy i) = true
is_step (epoch i e) = true
is_step (deliver p c) = true
is_step (schedule j) = true
is_step collect = false
is_step round = false
is_step (ask q) = false

-- the network after one of them that is accepted
abbrev pub stepped : Network → Call → Network
stepped n (set_up sites items ps ms) = n
stepped n (commit i ks is vs) = n
stepped n (dummy i) = dummy_network n i
stepped n (epoch i e) = epoch_network n i e
stepped n (deliver p c) = deliver_network n p c
stepped n (schedule j) = schedule_network n j
stepped n collect = n
stepped n round = n
stepped n (ask q) = n

abbrev pub walked : Network → List Call → Network
walked n cs = fold stepped n cs

-- ---- the epoch
abbrev pub greatest_epoch : List Stamp → ℕ
greatest_epoch [] = 0
greatest_epoch (t ∷ ts) = max t.epoch (greatest_epoch ts)

-- one above the greatest at any site
abbrev pub next_epoch : Network → ℕ
next_epoch n = suc (greatest_epoch (site_stamps n))

-- ---- for each of some numbers
-- the calls for one after another, each on what the calls for the one before leave
abbrev pub one_by_one : (Network → ℕ → List Call) → Network → List ℕ → List Call
one_by_one calls n [] = []
one_by_one calls n (i ∷ is) = calls n i ++ one_by_one calls (walked n (calls n i)) is

-- a site without parents
abbrev pub epoch_calls : ℕ → Network → ℕ → List Call
epoch_calls e n i = cond (has_parents n.items i) [] (epoch i e ∷ [])

-- all that is on the way from p to j
abbrev pub line_calls : ℕ → Network → ℕ → List Call
line_calls j n p = cond (is_line n.items p j) (replicate (length (line_at n p j).messages - (line_at n p j).arrived) (deliver p j)) []

-- ---- at one site
-- all lines into it delivered
unfoldable pub deliver_calls : Network → ℕ → List Call
deliver_calls n j = one_by_one (line_calls j) n (up_to 0 sites_most)

-- until refused, at most so often
unfoldable pub schedule_calls : ℕ → Network → ℕ → List Call
schedule_calls zero n j = []
schedule_calls (suc most) n j = cond (eqb (schedule_number n j) 0) (schedule j ∷ schedule_calls most (schedule_network n j) j) []

-- each takes a message off a line into the site: it is refused after as many at most (`SchedulesUntilRefused`)
abbrev pub schedule_all : Network → ℕ → List Call
schedule_all n j = schedule_calls (length (into n j)) n j

unfoldable pub site_calls : Network → ℕ → List Call
site_calls n j =
    let delivers = deliver_calls n j in
    delivers ++ (schedule_all (walked n delivers) j ++ (dummy j ∷ []))

-- ---- at all sites
-- an epoch to those without parents
abbrev pub raise_calls : ℕ → Network → List Call
raise_calls e n = one_by_one (epoch_calls e) n (up_to 0 (length n.sites))

-- the sites in the order of their places: each stands at its place in it (`GroupPlaces`)
abbrev pub sites_in_order : Network → List ℕ
sites_in_order n = site_order (length n.sites) (is_line n.items)

abbrev pub hear_calls : Network → List Call
hear_calls n = one_by_one site_calls n (sites_in_order n)

unfoldable pub round_calls : Network → List Call
round_calls n =
    let epochs = raise_calls (next_epoch n) n in
    epochs ++ hear_calls (walked n epochs)

-- ---- the call
unfoldable pub round_number : Network → ℕ
round_number n =
    first_number
    (number_if (any (λ (l : Line). leb held_most (length l.messages)) n.lines) 13
    ∷ number_if (some_below (count_at_most n) (length n.sites)) 14
    ∷ number_if (leb greatest (greatest_epoch (site_stamps n))) 16
    ∷ [])

unfoldable pub round_network : Network → Network
round_network n = walked n (round_calls n)

-- the epoch that it sets; 0 where it is refused
unfoldable pub epoch_by : Option Network → ℕ
epoch_by none = 0
epoch_by (some n) = cond (eqb (round_number n) 0) (next_epoch n) 0
