-- What holds of the commits that a state keeps, from its base values on.
use mathlib.Core.Path.{◌≡◌, refl, ap, ◌∙◌}
use mathlib.Core.Bool.{Bool, true, false, not, ◌||◌}
use Prim.Native.Nat.{ℕ, ◌<◌}
use native.Mathlib.Omega.{arith}
use lib.IntN.{ℤ, pos}
use lib.ListN.{length, get_or, take, get_or-eq_default}
use lib.Dec.{ltb}
use borrow.Author.Tests.{ltb-true, ltb-false}
use Rattle.lists.specs.Lists.{every, keep}
use Rattle.lists.proofs.Chains.{each_at, chain_at, chain_by}
use Rattle.lists.proofs.KeptFrom.{each_from, kept_each, kept_chain, kept_none}
use Rattle.lists.proofs.Every.{every_all}
use Rattle.lists.proofs.Numbers.{flip_true}
use Rattle.timestamp_order.specs.Order.{is_earlier, IsEarlier}
use Rattle.site_operations.specs.Operations.{no_op, touches}
use Rattle.site_operations.proofs.Works.{wrote, ReadsFrom}
use Rattle.records.specs.Records.{Record}
use Rattle.protocol.specs.Network.{Network, Base, no_record, nth_record, is_zero, well_shaped}
use Rattle.protocol.proofs.Values.{last_from, last_value}
use Rattle.protocol.proofs.Places.{place_at, order_at, times_at}
use Rattle.protocol.proofs.Runs.{WritersRise}
use Rattle.protocol.proofs.Invariant.{Invariant, shaped, stamps_apart, writers_rise}
use Rattle.protocol.proofs.KeepsCollect.{keeps_left}
use Rattle.protocol.proofs.Stays.{none_stays}
use Rattle.protocol.proofs.View.{view, Removed}
use Rattle.protocol.proofs.FromBase.{from_base}

pub record Kept (n : Network) : Type 0 where
  -- no two have one timestamp; the writers of an item rise
  pub apart : (k m : ℕ) → k < m → m < length n.history → (nth_record n k).stamp ≡ (nth_record n m).stamp → ⊥
  pub rise : (x : ℕ) → WritersRise (place_at n) x n.history
  -- each is of the items there are
  pub items : (k : ℕ) → k < length n.history → (a : ℕ) → a < length (nth_record n k).ops → (get_or (nth_record n k).ops a no_op).item < length n.items
  -- a read has what the operations before it leave of the value that the commits before its own leave of the base value
  pub read : (k : ℕ) → k < length n.history
      → ReadsFrom (λ x. last_from x (get_or n.base.values x (pos 0)) (keep (λ (r : Record). is_earlier (order_at n r.stamp (nth_record n k).stamp)) n.history)) (nth_record n k).ops
  pub base_length : length n.base.values ≡ length n.items
  -- where none has been removed every base value is 0
  pub unfolded : n.base.folded ≡ false → (x : ℕ) → get_or n.base.values x (pos 0) ≡ pos 0

-- ---- of a network with the invariant, of which some commits have been removed
module _ (n : Network) (inv : Invariant n) (goes : ℕ → Bool) (base : Base) (r : Removed n goes base) where
  open times_at n use {before_test}

  abbrev v : Network
  v = view goes base n

  abbrev stays : ℕ → Bool
  stays k = not (goes k)

  -- what holds of each of its commits that stays, and of each two of them
  pub stay_each : (P : Record → Type 0) → ((k : ℕ) → k < length n.history → goes k ≡ false → P (nth_record n k)) → (k : ℕ) → k < length v.history → P (nth_record v k)
  stay_each P f k l =
      each_at P v.history no_record (kept_each stays P 0 n.history (each_from (λ i x. stays i ≡ true → P x) n.history no_record (λ i b e. f i b (flip_true (stays i) (goes i) refl e)))) k l

  stay_two : (R : Record → Record → Type 0) → ((k m : ℕ) → k < m → m < length n.history → R (nth_record n k) (nth_record n m))
      → (k m : ℕ) → k < m → m < length v.history → R (nth_record v k) (nth_record v m)
  stay_two R f = chain_at R v.history no_record (kept_chain stays R 0 n.history (chain_by R n.history no_record f))

  pub rise_view : (x : ℕ) → WritersRise (place_at n) x v.history
  rise_view x =
      stay_two (λ s t. touches x s.ops ≡ true → touches x t.ops ≡ true → IsEarlier (place_at n) s.stamp t.stamp) (writers_rise n inv x)

  items_view : (k : ℕ) → k < length v.history → (a : ℕ) → a < length (nth_record v k).ops → (get_or (nth_record v k).ops a no_op).item < length n.items
  items_view = stay_each (λ s. (a : ℕ) → a < length s.ops → (get_or s.ops a no_op).item < length n.items) (λ k l e a b. (inv.allowed k l a b).item)

  read_view : (k : ℕ) → k < length v.history
      → ReadsFrom (λ x. last_from x (get_or base.values x (pos 0)) (keep (λ (s : Record). is_earlier (order_at n s.stamp (nth_record v k).stamp)) v.history)) (nth_record v k).ops
  read_view =
      stay_each (λ t. ReadsFrom (λ x. last_from x (get_or base.values x (pos 0)) (keep (λ (s : Record). is_earlier (order_at n s.stamp t.stamp)) v.history)) t.ops)
      (λ k l e a b f.
      let t = nth_record n k in
      let x = (get_or t.ops a no_op).item in
      inv.read k l a b f
      ∙ ap (λ (u : ℤ). wrote x u (take a t.ops))
      (from_base n inv goes base r (λ s. is_earlier (order_at n s.stamp t.stamp)) (λ m c g. before_test (nth_record n m).stamp t.stamp (r.lead m k c l g e)) x (inv.allowed k l a b).item))

  zero_base : ((m : ℕ) → goes m ≡ false) → (x : ℕ) → get_or base.values x (pos 0) ≡ pos 0
  zero_base none x = go (ltb x (length n.items)) refl
    where
      go : (b : Bool) → ltb x (length n.items) ≡ b → get_or base.values x (pos 0) ≡ pos 0
      go true e = r.base_is x (ltb-true x (length n.items) e) ∙ ap (last_value x) (kept_none goes 0 n.history (each_from (λ i s. goes i ≡ false) n.history no_record (λ i l. none i)))
      go false e = get_or-eq_default base.values (pos 0) {n = x} (omega (arith, ltb-false x (length n.items) e, r.base_length))

  pub kept_of_lem : (base.folded ≡ false → (m : ℕ) → goes m ≡ false) → Kept v
  kept_of_lem none =
      record {
        apart = stay_two (λ s t. s.stamp ≡ t.stamp → ⊥) (stamps_apart n inv);
        rise = rise_view;
        items = items_view;
        read = read_view;
        base_length = r.base_length;
        unfolded = λ e. zero_base (none e);
      }

  -- what is left is well shaped
  pub shaped_view : (base.folded ≡ false → (m : ℕ) → goes m ≡ false) → well_shaped v ≡ true
  shaped_view none = keeps_left n goes base (shaped n inv) (none_stays n inv goes r.bound) (go base.folded refl)
    where
      go : (b : Bool) → base.folded ≡ b → (b || every is_zero base.values) ≡ true
      go true e = refl
      go false e = every_all is_zero base.values (pos 0) (λ x l. ap is_zero (zero_base (none e) x))
