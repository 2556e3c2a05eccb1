-- What the inner functions ask and answer about the read that is looked for and the writers of its item.
use Rattle.std.specs.Prelude.{Bool, cond, ◌||◌, List, ℕ, ◌≤◌, ◌<◌, length, ltb, leb, Ok, Err}
use Rattle.std.specs.declared.result.Result.{Result}
use Rattle.std.proofs.Math.Option.{Option, none, some}
use Rattle.causes.specs.declared.Refusal.{Refusal}
use Rattle.causes.specs.declared.Refusal.TheVariants.{NoSuchRead}
use Rattle.limits.specs.Limits.{records_most}
use Rattle.protocol.specs.Network.{Network, place_of}
use Rattle.protocol.specs.Questions.{nth_op, no_such_read}
use Rattle.origins.specs.Statements.{turn_at, precedes, FoundBelow, writes_before}
use Rattle.network_layout.specs.InWords.{network_in}
use Rattle.network_layout.specs.At.{AtNetwork, HasRecord, PlacesAre}
use Rattle.network_records.specs.Asked.{HasRecords}

-- a read that is looked for: its item, or that there is none
abbrev pub sought : Network → ℕ → ℕ → Result ℕ Refusal
sought n k a = cond (no_such_read n k a) (Err NoSuchRead) (Ok (nth_op n k a).item)

-- the words of a network, and record k of it
pub record OnRecord (w : List ℕ) (k : ℕ) : Type 0 where
  pub net : AtNetwork w
  pub there : k < length (network_in w).history

-- record i comes before record m
abbrev pub comes_before : Network → ℕ → ℕ → Bool
comes_before n i m = precedes (place_of n.items) (turn_at n.history i) (turn_at n.history m)

-- a record's number, or one that no record has
abbrev pub writer_of : ℕ → Option ℕ
writer_of b = cond (ltb b records_most) (some b) none

-- the last in turn of record b and record j; j where b is a number that no record has
abbrev pub later_of : Network → ℕ → ℕ → ℕ
later_of n b j = cond (leb records_most b || comes_before n b j) j b

-- b is the last in turn of the records below j that pass a test; where there is none, the first number that no record has
pub record LastSoFar (n : Network) (passes : ℕ → Bool) (j b : ℕ) : Type 0 where
  pub found : FoundBelow (place_of n.items) n.history passes j (writer_of b)
  pub few : b ≤ records_most

-- record i writes item x and comes before record k
abbrev pub is_writer : Network → ℕ → ℕ → ℕ → Bool
is_writer n k x = writes_before (place_of n.items) n.history k x

-- ---- what is asked: the words of a network and the places of its sites, with
-- two records
pub record Ordering (w : List ℕ) (first second : ℕ) (places : List ℕ) : Type 0 where
  pub records : HasRecords w first second
  pub places_are : PlacesAre w places

-- record j, and record b or a number that no record has
pub record Choosing (w : List ℕ) (b j : ℕ) (places : List ℕ) : Type 0 where
  pub best : b < records_most → HasRecord w b
  pub next : HasRecord w j
  pub places_are : PlacesAre w places

-- one more to look at, record j
pub record LookingAt (w : List ℕ) (k x j b : ℕ) (places : List ℕ) : Type 0 where
  pub reader : HasRecord w k
  pub next : HasRecord w j
  pub so_far : LastSoFar (network_in w) (is_writer (network_in w) k x) j b
  pub places_are : PlacesAre w places
