-- What is shown of origins: on every history which commit is named, and what commits leave of a value; and in every network that a set-up leads to that its last write of the item, in the read's own commit the last before it, has the value read.
use Rattle.std.specs.Prelude.{◌≡◌, Bool, true, false, cond, ◌&&◌, List, ◌⊎◌, ℕ, ◌<◌, ℤ, pos, length, get_or, take, eqb}
use Rattle.std.proofs.Math.Option
use Rattle.std.proofs.Math.Option.{Option, none, some}
use Rattle.lists.specs.Lists.{keep}
use Rattle.site_operations.specs.Operations.{Op, touches, last_written}
use Rattle.records.specs.Records.{Record}
use Rattle.protocol.specs.Network.{Network, record_at, nth_record, place_of}
use Rattle.protocol.specs.Precedes.{precedes_by}
use Rattle.protocol.specs.Run.{Turn, in_turn, after}
use Rattle.protocol.specs.Questions.{origin, nth_op, question_number}
use Rattle.protocol.specs.Agreement.{Known, Always}
use Rattle.origins.specs.Origin.{ops_before, origin_of}

-- ---- on every history
-- a commit with its number
abbrev pub turn_at : List Record → ℕ → Turn
turn_at h k = record { number = k; commit = record_at h k }

-- a commit comes before another: by timestamp, equal ones in the order made
abbrev pub precedes : (ℕ → ℕ) → Turn → Turn → Bool
precedes place c d = precedes_by place c.number c.commit.stamp d.number d.commit.stamp

-- of the commits below number j whose numbers pass the test, m is the last in turn
pub record LastBelow (place : ℕ → ℕ) (h : List Record) (passes : ℕ → Bool) (j m : ℕ) : Type 0 where
  pub low : m < j
  pub is_one : passes m ≡ true
  pub last : (i : ℕ) → i < j → passes i ≡ true → (i ≡ m) ⊎ (precedes place (turn_at h i) (turn_at h m) ≡ true)

-- there is none
abbrev pub NoneBelow : (ℕ → Bool) → ℕ → Type 0
NoneBelow passes j = (i : ℕ) → i < j → passes i ≡ true → ⊥

-- the last of them, where there is one
abbrev pub FoundBelow : (ℕ → ℕ) → List Record → (ℕ → Bool) → ℕ → Option ℕ → Type 0
FoundBelow place h passes j none = NoneBelow passes j
FoundBelow place h passes j (some m) = LastBelow place h passes j m

-- the commit of number i writes item x and comes before commit k
abbrev pub writes_before : (ℕ → ℕ) → List Record → ℕ → ℕ → ℕ → Bool
writes_before place h k x i = touches x (record_at h i).ops && precedes place (turn_at h i) (turn_at h k)

-- what an origin says of the read that is operation a of commit k: where an operation before it in that commit writes its item that commit's number, else the last of all commits before it that write it
pub record FoundFor (n : Network) (k a : ℕ) (o : Option ℕ) : Type 0 where
  pub own : touches (nth_op n k a).item (take a (nth_record n k).ops) ≡ true → o ≡ some k
  pub other : touches (nth_op n k a).item (take a (nth_record n k).ops) ≡ false → FoundBelow (place_of n.items) n.history (writes_before (place_of n.items) n.history k (nth_op n k a).item) (length n.history) o

-- that is so of the origin, and of nothing else: whatever the network
pub record OriginIs (n : Network) (k a : ℕ) : Type 0 where
  pub found : FoundFor n k a (origin_of n k a)
  pub alone : (o : Option ℕ) → FoundFor n k a o → o ≡ origin_of n k a

unfoldable pub OriginLast : Type 0
OriginLast = (n : Network) (k a : ℕ) → question_number n (origin k a) ≡ 0 → OriginIs n k a

-- ---- commits worked on values in turn
-- what is left of a value of item x where the last in turn of the commits that write it is this one
abbrev pub left_by : List Record → ℕ → Option ℕ → ℤ → ℤ
left_by h x none v = v
left_by h x (some m) v = Option.get_or (last_written x (record_at h m).ops) v

-- of the commits that pass a test the last in turn that writes an item leaves its value: on every history
unfoldable pub LastLeaves : Type 0
LastLeaves =
    (place : ℕ → ℕ) (h : List Record) (passes : Turn → Bool) (values : List ℤ) (x : ℕ) → x < length values
    → (o : Option ℕ) → FoundBelow place h (λ i. passes (turn_at h i) && touches x (record_at h i).ops) (length h) o
    → get_or (after values (keep passes (in_turn place h))) x (pos 0) ≡ left_by h x o (get_or values x (pos 0))

-- ---- in a network that a set-up leads to
-- the operations of commit m among which the write that operation a of commit k saw is sought: of its own commit those before it, of another all
abbrev pub seen_ops : Network → ℕ → ℕ → ℕ → List Op
seen_ops n k a m = cond (eqb m k) (ops_before n k a) (nth_record n m).ops

-- the last write of the item among these, of the commit named, has the value read; where none is named the base value was read, which is 0 where no commit has been removed
abbrev pub Traced : Network → ℕ → ℕ → Option ℕ → Type 0
Traced n k a none = ((nth_op n k a).value ≡ get_or n.base.values (nth_op n k a).item (pos 0)) × (n.base.folded ≡ false → (nth_op n k a).value ≡ pos 0)
Traced n k a (some m) = last_written (nth_op n k a).item (seen_ops n k a m) ≡ some (nth_op n k a).value

-- so for every read of the state that is known
abbrev pub AllTraced : Known → Type 0
AllTraced known = (n : Network) → known.state ≡ some n → (k a : ℕ) → question_number n (origin k a) ≡ 0 → Traced n k a (origin_of n k a)

unfoldable pub OriginTrue : Type 0
OriginTrue = Always AllTraced
