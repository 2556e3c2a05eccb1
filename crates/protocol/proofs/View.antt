-- A network with some commits taken out of its history, what it holds, and what is known of the commits that collects have taken.
use mathlib.Core.Path.{◌≡◌, refl, ap, ◌∙◌}
use mathlib.Core.Bool.{Bool, true, false, not}
use Prim.Native.Nat.{ℕ, ◌≤◌, ◌<◌}
use lib.IntN.{pos}
use lib.ListN.{length, get_or, length-map, get_or-map}
use Rattle.lists.specs.Lists.{keep_from}
use Rattle.lists.proofs.Renumber.{keep_at, keep_length}
use Rattle.lines.specs.Lines.{Line, no_line}
use Rattle.messages.specs.Messages.{Message, commit, dummy}
use Rattle.records.specs.Records.{Record}
use Rattle.protocol.specs.Network.{Network, Base, no_record, line_at, line_number, message_stamp, message_ops, nth_record}
use Rattle.protocol.specs.Steps.{head}
use Rattle.protocol.specs.Collect.{new_number, renamed, renamed_line}
use Rattle.protocol.proofs.Values.{last_value}
use Rattle.protocol.proofs.Places.{Before, UpTo}
use Rattle.protocol.proofs.Invariant.{stamp_at}
use Rattle.protocol.proofs.KeepsCollect.{left_by}
use Rattle.protocol.proofs.Stays.{Stays}

-- the commits that go taken out, messages naming the others by their new numbers
abbrev pub view : (ℕ → Bool) → Base → Network → Network
view goes base n = left_by goes base n

-- some commits of a network have been removed, and left these base values
pub record Removed (n : Network) (goes : ℕ → Bool) (base : Base) : Type 0 where
  pub few : (m : ℕ) → length n.history ≤ m → goes m ≡ false
  -- none is later than any site
  pub bound : (m : ℕ) → m < length n.history → goes m ≡ true → (j : ℕ) → j < length n.sites → UpTo n (nth_record n m).stamp (stamp_at n j)
  -- each is earlier than each that stays
  pub lead : (m k : ℕ) → m < length n.history → k < length n.history → goes m ≡ true → goes k ≡ false → Before n (nth_record n m).stamp (nth_record n k).stamp
  -- a base value is the last value of theirs
  pub base_length : length base.values ≡ length n.items
  pub base_is : (x : ℕ) → x < length n.items → get_or base.values x (pos 0) ≡ last_value x (keep_from goes 0 n.history)

-- ---- what the view holds
module _ (goes : ℕ → Bool) (base : Base) (n : Network) where
  abbrev v : Network
  v = view goes base n

  -- each commit that stays, under its new number; the next number is that of the next commit
  pub record_view : (k : ℕ) → k < length n.history → goes k ≡ false → nth_record v (new_number goes k) ≡ nth_record n k
  record_view k l e = keep_at (λ i. not (goes i)) n.history k no_record l (ap not e)

  pub history_view : length v.history ≡ new_number goes (length n.history)
  history_view = keep_length (λ i. not (goes i)) n.history

  -- each line, with as many messages
  pub line_view : (p j : ℕ) → line_at v p j ≡ renamed_line goes (line_at n p j)
  line_view p j = get_or-map (renamed_line goes) n.lines (line_number p j) no_line

  pub held_view : (p j : ℕ) → length (line_at v p j).messages ≡ length (line_at n p j).messages
  held_view p j = ap (λ (l : Line). length l.messages) (line_view p j) ∙ length-map (line_at n p j).messages (renamed goes)

  pub arrived_view : (p j : ℕ) → (line_at v p j).arrived ≡ (line_at n p j).arrived
  arrived_view p j = ap (λ (l : Line). l.arrived) (line_view p j)

  pub head_view : (p j : ℕ) → head v p j ≡ renamed goes (head n p j)
  head_view p j = ap (λ (l : Line). get_or l.messages 0 (commit 0)) (line_view p j) ∙ get_or-map (renamed goes) (line_at n p j).messages 0 (commit 0)

  -- a message that names a commit that stays means what it did
  pub stamp_view : (m : Message) → Stays goes n.history m → message_stamp v.history (renamed goes m) ≡ message_stamp n.history m
  stamp_view (commit k) s = ap (λ (r : Record). r.stamp) (record_view k s.0 s.1)
  stamp_view (dummy t) s = refl

  pub ops_view : (m : Message) → Stays goes n.history m → message_ops v.history (renamed goes m) ≡ message_ops n.history m
  ops_view (commit k) s = ap (λ (r : Record). r.ops) (record_view k s.0 s.1)
  ops_view (dummy t) s = refl
