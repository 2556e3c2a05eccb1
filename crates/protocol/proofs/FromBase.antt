-- What all commits leave of an item is what those that stay leave of its base value, where those that go come before them and leave the base value.
use mathlib.Core.Path.{◌≡◌, refl, ap, ap₂, sym, ◌∙◌}
use mathlib.Core.Bool.{Bool, true, false, not, cond}
use mathlib.Core.List.{List, [], ◌∷◌, map}
use Prim.Native.Nat.{ℕ, ◌<◌}
use native.Mathlib.Omega.{arith}
use lib.IntN.{ℤ, pos}
use lib.ListN.{length, get_or}
use Rattle.lists.specs.Lists.{keep}
use Rattle.lists.proofs.Chains.{Each, Chain, each_implied, each_keep, map_keep}
use Rattle.site_operations.specs.Operations.{touches}
use Rattle.site_operations.proofs.Works.{wrote, untouched}
use Rattle.records.specs.Records.{Record}
use Rattle.protocol.specs.Network.{Network, Base, nth_record}
use Rattle.protocol.specs.Run.{Turn, numbered}
use Rattle.protocol.specs.Collect.{staying}
use Rattle.protocol.proofs.Values.{last_from, last_value}
use Rattle.protocol.proofs.Turns.{each_number, chain_number, commits_numbered, kept_numbered}
use Rattle.protocol.proofs.Places.{times_at}
use Rattle.protocol.proofs.Invariant.{Invariant, writers_rise}
use Rattle.protocol.proofs.View.{Removed}

abbrev commits : List Turn → List Record
commits cs = map (λ (c : Turn). c.commit) cs

-- ---- turns in the order made, some of which go
module _ (x : ℕ) (goes : Turn → Bool) where
  abbrev writes : Turn → Bool
  writes c = touches x c.commit.ops

  abbrev leave : ℤ → List Turn → ℤ
  leave v cs = last_from x v (commits cs)

  none_write : (v : ℤ) (cs : List Turn) → Each (λ c. writes c ≡ false) cs → leave v cs ≡ v
  none_write v [] h = refl
  none_write v (c ∷ cs) h = none_write (wrote x v c.commit.ops) cs h.1 ∙ untouched x v c.commit.ops h.0

  -- of the writers of the item none that stays is before one that goes
  abbrev Leads : Turn → Turn → Type 0
  Leads c d = goes c ≡ false → writes c ≡ true → goes d ≡ true → writes d ≡ false

  -- so what one that stays writes may as well come last
  write_last : (v : ℤ) (c : Turn) (cs : List Turn) → goes c ≡ false → Each (Leads c) cs → leave (wrote x v c.commit.ops) (keep goes cs) ≡ wrote x (leave v (keep goes cs)) c.commit.ops
  write_last v c cs e h = go (writes c) refl
    where
      go : (b : Bool) → writes c ≡ b → leave (wrote x v c.commit.ops) (keep goes cs) ≡ wrote x (leave v (keep goes cs)) c.commit.ops
      go false t = ap (λ (u : ℤ). leave u (keep goes cs)) (untouched x v c.commit.ops t) ∙ sym (untouched x (leave v (keep goes cs)) c.commit.ops t)
      go true t =
          let none = each_keep goes (λ d. writes d ≡ false) cs (each_implied (Leads c) (λ d. goes d ≡ true → writes d ≡ false) (λ d f. f e t) cs h) in
          none_write (wrote x v c.commit.ops) (keep goes cs) none ∙ ap (λ (u : ℤ). wrote x u c.commit.ops) (sym (none_write v (keep goes cs) none))

  abbrev stay : List Turn → List Turn
  stay cs = keep (λ (c : Turn). not (goes c)) cs

  -- where those that go all pass a test: first they, then those that stay and pass
  split : (q : Turn → Bool) (v : ℤ) (cs : List Turn) → Each (λ c. goes c ≡ true → q c ≡ true) cs → Chain Leads cs → leave v (keep q cs) ≡ leave (leave v (keep goes cs)) (keep q (stay cs))
  split q v [] h l = refl
  split q v (c ∷ cs) h l = go (goes c) refl (λ u. split q u cs h.1 l.1)
    where
      Rest : Type 0
      Rest = (u : ℤ) → leave u (keep q cs) ≡ leave (leave u (keep goes cs)) (keep q (stay cs))

      either : (d : Bool) → goes c ≡ false → Rest → leave v (cond d (c ∷ keep q cs) (keep q cs)) ≡ leave (leave v (keep goes cs)) (cond d (c ∷ keep q (stay cs)) (keep q (stay cs)))
      either true e rest = rest (wrote x v c.commit.ops) ∙ ap (λ (u : ℤ). leave u (keep q (stay cs))) (write_last v c cs e l.0)
      either false e rest = rest v

      go : (b : Bool) → goes c ≡ b → Rest → leave v (keep q (c ∷ cs)) ≡ leave (leave v (cond b (c ∷ keep goes cs) (keep goes cs))) (keep q (cond (not b) (c ∷ stay cs) (stay cs)))
      go true e rest = rw (h.0 e) (rest (wrote x v c.commit.ops))
      go false e rest = either (q c) e rest

-- ---- the commits of a network, of which some have been removed
module _ (n : Network) (inv : Invariant n) (goes : ℕ → Bool) (base : Base) (r : Removed n goes base) where
  open times_at n use {before_trans, never_before}

  abbrev h : List Record
  h = n.history

  abbrev gone : Turn → Bool
  gone c = goes c.number

  removed_first : (x k m : ℕ) → k < m → m < length h → goes k ≡ false → touches x (nth_record n k).ops ≡ true → goes m ≡ true → touches x (nth_record n m).ops ≡ false
  removed_first x k m a b e t f = go (touches x (nth_record n m).ops) refl
    where
      go : (w : Bool) → touches x (nth_record n m).ops ≡ w → touches x (nth_record n m).ops ≡ false
      go false u = u
      go true u =
          absurd (never_before (nth_record n k).stamp (before_trans (nth_record n k).stamp (nth_record n m).stamp (nth_record n k).stamp (writers_rise n inv x k m a b t u) (r.lead m k b (omega arith) f e)))

  -- all those that pass a test, where each that has been removed does
  pub from_base : (q : Record → Bool) → ((m : ℕ) → m < length h → goes m ≡ true → q (nth_record n m) ≡ true) → (x : ℕ) → x < length n.items
      → last_value x (keep q h) ≡ last_from x (get_or base.values x (pos 0)) (keep q (staying goes h))
  from_base q all x near =
      let cs = numbered 0 h in
      let passes : Turn → Bool = λ c. q c.commit in
      let commits-passing : (ds : List Turn) → commits (keep passes ds) ≡ keep q (commits ds) = map_keep (λ c. c.commit) q in
      ap (last_value x) (sym (commits-passing cs ∙ ap (keep q) (commits_numbered 0 h)))
      ∙ split x gone passes (pos 0) cs (each_number h (λ c. gone c ≡ true → passes c ≡ true) all) (chain_number h (Leads x gone) (removed_first x))
      ∙ ap₂ (last_from x) (ap (last_value x) (kept_numbered goes 0 h) ∙ sym (r.base_is x near)) (commits-passing (stay x gone cs) ∙ ap (keep q) (kept_numbered (λ m. not (goes m)) 0 h))
