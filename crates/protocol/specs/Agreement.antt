-- One-copy agreement: what holds after every list of calls from an accepted set-up.
use Rattle.std.specs.Prelude.{◌≡◌, Bool, true, false, not, cond, ◌&&◌, ◌||◌, List, [], ◌∷◌, ◌++◌, map, ◌⊎◌, ℕ, ◌≤◌, ◌<◌, ℤ, pos, length, get_or, eqb}
use Rattle.std.proofs.Math.Option.{Option, none, some}
use Rattle.lists.specs.Lists.{any, keep, up_to}
use Rattle.timestamp_order.specs.Timestamp.{Stamp}
use Rattle.timestamp_order.specs.Order.{order_by, not_later, IsEarlier, NotLater}
use Rattle.site_operations.specs.Operations.{values_read}
use Rattle.placement.specs.Placement.{Item, owns, copies}
use Rattle.records.specs.Records.{Record}
use Rattle.protocol.specs.Network.{Network, record_at, site_at, site_stamps, place_of}
use Rattle.protocol.specs.Steps.{items_of}
use Rattle.protocol.specs.Calls.{Call, set_up, commit, dummy, epoch, deliver, schedule, collect, round, ask, Outcome, perform}
use Rattle.protocol.specs.Book.{Book, no_book, book_stamp, noted_if}
use Rattle.protocol.specs.Run.{Turn, in_turn, after, start_table, shown, value_at}
use Rattle.protocol.specs.Earliest.{earliest_stamp}
use Rattle.protocol.specs.Collect.{staying, names_one, removed_by}
use Rattle.protocol.specs.Round.{round_calls, round_number, round_network}
use Rattle.lines.specs.Lines.{Line}

-- what is known after some calls: the state; from the calls and their answers alone, of a round from the calls that it counts as and what each answers alone, the book, the items of the last accepted
-- set-up, the values that each commit since it answered, which commits collects have removed since, and for each accepted commit and
-- dummy the timestamp that it answered and the one that the book had for its site right after it
pub record Known : Type 0 where
  pub state : Option Network
  pub book : Book
  pub items : List Item
  pub values : List (List ℤ)
  -- of each commit that there was at the last collect, whether one has removed it
  pub removed : List Bool
  pub answered : List Stamp
  pub booked : List Stamp

-- before any call, whatever the state
abbrev pub nothing_known : Option Network → Known
nothing_known s = record { state = s; book = no_book; items = []; values = []; removed = []; answered = []; booked = [] }

abbrev pub is_accepted : Outcome → Bool
is_accepted o = eqb o.number 0

-- ---- what an accepted call adds to the lists
abbrev pub placed_by : Call → List Item → List Item
placed_by (set_up sites items ps ms) xs = items_of ps ms
placed_by (commit i ks is vs) xs = xs
placed_by (dummy i) xs = xs
placed_by (epoch i e) xs = xs
placed_by (deliver p c) xs = xs
placed_by (schedule j) xs = xs
placed_by collect xs = xs
placed_by round xs = xs
placed_by (ask q) xs = xs

abbrev pub values_by : Call → List ℤ → List (List ℤ) → List (List ℤ)
values_by (set_up sites items ps ms) vs all = []
values_by (commit i ks is us) vs all = all ++ (vs ∷ [])
values_by (dummy i) vs all = all
values_by (epoch i e) vs all = all
values_by (deliver p c) vs all = all
values_by (schedule j) vs all = all
values_by collect vs all = all
values_by round vs all = all
values_by (ask q) vs all = all

-- the timestamps of the commits and dummies, with one more taken from `at` the call's site
abbrev pub stamps_by : Call → (ℕ → Stamp) → List Stamp → List Stamp
stamps_by (set_up sites items ps ms) at all = all
stamps_by (commit i ks is vs) at all = all ++ (at i ∷ [])
stamps_by (dummy i) at all = all ++ (at i ∷ [])
stamps_by (epoch i e) at all = all
stamps_by (deliver p c) at all = all
stamps_by (schedule j) at all = all
stamps_by collect at all = all
stamps_by round at all = all
stamps_by (ask q) at all = all

-- commit k has been removed
abbrev pub is_removed : List Bool → ℕ → Bool
is_removed marks k = get_or marks k false

-- of each commit of the book: it had been removed, or it is not later than the earliest of the book's timestamps
abbrev pub collected : (ℕ → ℕ) → Book → List Bool → List Bool
collected place b marks =
    let point = earliest_stamp place b.stamps in
    map (λ k. is_removed marks k || not_later (order_by place (record_at b.commits k).stamp point)) (up_to 0 (length b.commits))

abbrev pub marks_by : Call → (ℕ → ℕ) → Book → List Bool → List Bool
marks_by (set_up sites items ps ms) place b marks = []
marks_by (commit i ks is vs) place b marks = marks
marks_by (dummy i) place b marks = marks
marks_by (epoch i e) place b marks = marks
marks_by (deliver p c) place b marks = marks
marks_by (schedule j) place b marks = marks
marks_by collect place b marks = collected place b marks
marks_by round place b marks = marks
marks_by (ask q) place b marks = marks

-- one call that counts as itself, with what it answered and left
abbrev pub witnessed_alone : Known → Call → Outcome → Known
witnessed_alone k c o =
    let ok = is_accepted o in
    let book = noted_if c ok o.stamp k.book in
    record {
      state = o.after;
      book = book;
      items = cond ok (placed_by c k.items) k.items;
      values = cond ok (values_by c o.values k.values) k.values;
      removed = cond ok (marks_by c (place_of k.items) k.book k.removed) k.removed;
      answered = cond ok (stamps_by c (λ i. o.stamp) k.answered) k.answered;
      booked = cond ok (stamps_by c (book_stamp book) k.booked) k.booked;
    }

abbrev pub learned_alone : Known → Call → Known
learned_alone k c = witnessed_alone k c (perform k.state c)

-- each performed on what the one before left, and noted with the answer that it gives alone
abbrev pub learned_each : Known → List Call → Known
learned_each k [] = k
learned_each k (c ∷ cs) = learned_each (learned_alone k c) cs

-- the calls that an accepted round counts as; any other call counts as none but itself
abbrev pub calls_of : Option Network → Call → List Call
calls_of s (set_up sites items ps ms) = []
calls_of s (commit i ks is vs) = []
calls_of s (dummy i) = []
calls_of s (epoch i e) = []
calls_of s (deliver p c) = []
calls_of s (schedule j) = []
calls_of s collect = []
calls_of none round = []
calls_of (some n) round = cond (eqb (round_number n) 0) (round_calls n) []
calls_of s (ask q) = []

-- one more call, after the calls that it counts as; of a round itself nothing more is noted but the state that it left
abbrev pub witnessed : Known → Call → Outcome → Known
witnessed k c o = witnessed_alone (learned_each k (calls_of k.state c)) c o

abbrev pub learned : Known → Call → Known
learned k c = witnessed k c (perform k.state c)

-- calls one after another, each given the state that the one before left
abbrev pub learned_all : Known → List Call → Known
learned_all k [] = k
learned_all k (c ∷ cs) = learned_all (learned k c) cs

-- ---- the agreement
-- a site's place in the order of sites, from the arguments of the last accepted set-up alone; by it the run takes the book's commits
abbrev pub book_place : Known → ℕ → ℕ
book_place k = place_of k.items

abbrev pub holds : List Item → ℕ → ℕ → Bool
holds xs i x = owns xs i x || copies xs i x

-- the run's turns, of the commits that were removed and of the others
abbrev pub removed_turns : Known → List Turn
removed_turns k = keep (λ (c : Turn). is_removed k.removed c.number) (in_turn (book_place k) k.book.commits)

abbrev pub kept_turns : Known → List Turn
kept_turns k = keep (λ (c : Turn). not (is_removed k.removed c.number)) (in_turn (book_place k) k.book.commits)

pub record Agreement (k : Known) : Type 0 where
  pub network : Network
  pub state_is : k.state ≡ some network
  -- its items are those of the last accepted set-up
  pub items_agree : network.items ≡ k.items
  -- every value that a commit answered for a read is the value the run has there
  pub values_agree : k.values ≡ map (λ (r : Record). values_read r.ops) (shown (book_place k) start_table k.book.commits)
  -- the history is those of the book's commits that were not removed, in the order made, each read with that value
  pub history_agrees : network.history ≡ staying (is_removed k.removed) (shown (book_place k) start_table k.book.commits)
  -- the run takes the removed commits before all others
  pub removed_lead : in_turn (book_place k) k.book.commits ≡ removed_turns k ++ kept_turns k
  -- a base value is the run's value after all that were removed
  pub base_reaches : length network.base.values ≡ length k.items
  pub base_agrees : (x : ℕ) → x < length k.items → get_or network.base.values x (pos 0) ≡ get_or (after start_table (removed_turns k)) x (pos 0)
  -- the flag is set exactly where a commit was removed
  pub folded_agrees : network.base.folded ≡ any (λ (r : Bool). r) k.removed
  -- every accepted commit and dummy answered the timestamp that the book had for its site right after it
  pub answers_agree : k.answered ≡ k.booked
  -- each site's own timestamp is the book's
  pub stamps_agree : site_stamps network ≡ k.book.stamps
  -- every site's table has every item
  pub tables_reach : (i x : ℕ) → i < length k.book.stamps → x < length k.items → x < length (site_at network i).table
  -- every item at each site that owns or copies it holds the run's value after exactly the commits not later than that site's timestamp
  pub copies_agree : (i x : ℕ) → i < length k.book.stamps → x < length k.items → holds k.items i x ≡ true
      → get_or (site_at network i).table x (pos 0) ≡ value_at (book_place k) start_table k.book.commits (site_at network i).stamp x

-- for every state whatever, every set-up accepted on it, and every list of calls after it
abbrev pub Always : (Known → Type 0) → Type 0
Always holds_of =
    (s : Option Network) (sites items : ℕ) (primaries masks : List ℕ) → (perform s (set_up sites items primaries masks)).number ≡ 0
    → (calls : List Call) → holds_of (learned_all (nothing_known s) (set_up sites items primaries masks ∷ calls))

unfoldable pub OneCopyAgreement : Type 0
OneCopyAgreement = Always Agreement

-- ---- beside it
-- from no network at all, whatever is called: no set-up was accepted yet, and so nothing is known, or the agreement holds
abbrev pub AgreedOrUnset : Known → Type 0
AgreedOrUnset k = (k ≡ nothing_known none) ⊎ Agreement k

unfoldable pub FromNothing : Type 0
FromNothing = (calls : List Call) → AgreedOrUnset (learned_all (nothing_known none) calls)

-- no two commits of the book have one timestamp
unfoldable pub StampsDiffer : Type 0
StampsDiffer =
    Always (λ k. (a b : ℕ) → a < b → b < length k.book.commits → (record_at k.book.commits a).stamp ≡ (record_at k.book.commits b).stamp → ⊥)

-- no further call, whatever it is, finds the state not well shaped or never set up, and no collect a message that names what it would remove
abbrev pub No6 : Known → Type 0
No6 k = (c : Call) → (perform k.state c).number ≡ 6 → ⊥

unfoldable pub Never6 : Type 0
Never6 = Always No6

-- ---- collects
abbrev pub is_set_up : Call → Bool
is_set_up (set_up sites items ps ms) = true
is_set_up (commit i ks is vs) = false
is_set_up (dummy i) = false
is_set_up (epoch i e) = false
is_set_up (deliver p c) = false
is_set_up (schedule j) = false
is_set_up collect = false
is_set_up round = false
is_set_up (ask q) = false

-- no set-up among the calls is accepted
abbrev pub NoSetUp : Known → List Call → Type 0
NoSetUp k [] = Unit {0}
NoSetUp k (c ∷ cs) = ((is_set_up c && is_accepted (perform k.state c)) ≡ false) × NoSetUp (learned k c) cs

-- up to which a collect would remove commits: the earliest of the book's timestamps
abbrev pub book_point : Known → Stamp
book_point k = earliest_stamp (book_place k) k.book.stamps

-- no later commit before the next set-up falls at or before that point
abbrev pub LaterStay : Known → Type 0
LaterStay k =
    (calls : List Call) → NoSetUp k calls → (m : ℕ) → length k.book.commits ≤ m → m < length (learned_all k calls).book.commits
    → IsEarlier (book_place k) (book_point k) (record_at (learned_all k calls).book.commits m).stamp

unfoldable pub NoneAtOrBefore : Type 0
NoneAtOrBefore = Always LaterStay

-- the commits kept, each read with the value that the run over them has there, from the base values on
abbrev pub kept_shown : Network → List Record
kept_shown n = shown (place_of n.items) n.base.values n.history

-- that run shows what the history has and what the copies hold
pub record RunsFromBase (n : Network) : Type 0 where
  pub history_shown : n.history ≡ kept_shown n
  pub copies_shown : (i x : ℕ) → i < length n.sites → x < length n.items → holds n.items i x ≡ true
      → get_or (site_at n i).table x (pos 0) ≡ value_at (place_of n.items) n.base.values n.history (site_at n i).stamp x

abbrev pub KeptRuns : Known → Type 0
KeptRuns k = (n : Network) → k.state ≡ some n → RunsFromBase n

unfoldable pub KeptRun : Type 0
KeptRun = Always KeptRuns

-- ---- rounds
-- each of the calls is accepted, performed on what the one before left
abbrev pub EachAccepted : Known → List Call → Type 0
EachAccepted k [] = Unit {0}
EachAccepted k (c ∷ cs) = ((perform k.state c).number ≡ 0) × EachAccepted (learned_alone k c) cs

-- the calls that a round counts as are accepted, and it leaves what they leave
pub record CountsAs (k : Known) (n : Network) : Type 0 where
  pub each_accepted : EachAccepted k (round_calls n)
  pub leaves : (learned_each k (round_calls n)).state ≡ some (round_network n)

abbrev pub RoundCounts : Known → Type 0
RoundCounts k = (n : Network) → k.state ≡ some n → round_number n ≡ 0 → CountsAs k n

unfoldable pub RoundIsItsCalls : Type 0
RoundIsItsCalls = Always RoundCounts

-- what is known before a round and after it: every commit made before it is applied at all its copies
pub record Applied (k m : Known) : Type 0 where
  pub network : Network
  pub state_is : m.state ≡ some network
  -- none is made and none removed
  pub commits_same : m.book.commits ≡ k.book.commits
  pub removed_same : m.removed ≡ k.removed
  -- none of them is later than any site
  pub sites_past : (c i : ℕ) → c < length k.book.commits → i < length m.book.stamps → NotLater (book_place m) (record_at k.book.commits c).stamp (site_at network i).stamp
  -- every item at each site that owns or copies it holds the run's value after all of them
  pub copies_whole : (i x : ℕ) → i < length m.book.stamps → x < length m.items → holds m.items i x ≡ true
      → get_or (site_at network i).table x (pos 0) ≡ get_or (after start_table (in_turn (book_place m) k.book.commits)) x (pos 0)
  -- no message on a line names a commit
  pub lines_bare : any (λ (l : Line). any (names_one (λ c. true)) l.messages) network.lines ≡ false
  -- a collect straight after it removes all that are left of them, so that each has been removed
  pub collect_accepted : (perform m.state collect).number ≡ 0
  pub removes_all : removed_by m.state ≡ length network.history
  pub leaves_none : (n : Network) → (perform m.state collect).after ≡ some n → n.history ≡ []
  pub all_removed : (c : ℕ) → c < length k.book.commits → is_removed (learned m collect).removed c ≡ true

abbrev pub RoundApplies : Known → Type 0
RoundApplies k = (perform k.state round).number ≡ 0 → Applied k (learned k round)

unfoldable pub RoundReaches : Type 0
RoundReaches = Always RoundApplies
