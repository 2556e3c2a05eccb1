-- What the code has compared and tested of a record and the one noted, and what noting it again does.
use mathlib.Core.Path.{◌≡◌, refl, sym, ap, ◌∙◌}
use mathlib.Core.Bool.{Bool, true, false, not, cond, beq}
use mathlib.Core.List.{List}
use Prim.Native.Nat.{ℕ, ◌≤◌, ◌<◌}
use lib.ListN.{length, get_or, set}
use lib.Seq.{set_out, set-get_or}
use lib.Dec.{ltb}
use borrow.Author.Tests.{lt-ltb, le-ltb}
use Rattle.protocol.specs.Network.{Network}
use Rattle.protocol.proofs.Places.{times_at}
use Rattle.network_noting.specs.Noting.{stamp_at, replaces, noted_then, note_item}

-- the test of the code
pub differs : (sooner latest : Bool) → not (beq sooner latest) ≡ cond latest (not sooner) sooner
differs true true = refl
differs true false = refl
differs false true = refl
differs false false = refl

module _ (latest : Bool) (n : Network) (r : ℕ) where
  -- ---- one item
  module _ (vs : List ℕ) (item x : ℕ) (at : x ≡ item) where
    write_noted : (ws : List ℕ) → ws ≡ note_item latest n r vs x → ws ≡ note_item latest n r vs item
    write_noted ws e = e ∙ ap (note_item latest n r vs) at

    pub none_there : length vs ≤ x → vs ≡ note_item latest n r vs item
    none_there h = write_noted vs (sym (set_out vs x (noted_then latest n (get_or vs x 0) r) h))

    pub first_there : length n.history ≤ get_or vs x 0 → set vs x r ≡ note_item latest n r vs item
    first_there h = write_noted (set vs x r) (ap (set vs x) (sym (rw (le-ltb (get_or vs x 0) (length n.history) h))))

    module _ (low : get_or vs x 0 < length n.history) where
      pub replaced_there : replaces latest n r (get_or vs x 0) ≡ true → set vs x r ≡ note_item latest n r vs item
      replaced_there e = write_noted (set vs x r) (ap (set vs x) (sym (rw (lt-ltb (get_or vs x 0) (length n.history) low, e))))

      pub other_stays : replaces latest n r (get_or vs x 0) ≡ false → vs ≡ note_item latest n r vs item
      other_stays e = write_noted vs (sym (ap (set vs x) (rw (lt-ltb (get_or vs x 0) (length n.history) low, e)) ∙ set-get_or vs x 0))

  -- ---- a record and itself
  open times_at n use {upto_self, test_fails}

  pub replaces_itself : latest ≡ replaces latest n r r
  replaces_itself = go latest ∙ sym (ap (λ (b : Bool). cond latest (not b) b) (test_fails (stamp_at n r) (stamp_at n r) (upto_self (stamp_at n r))))
    where
      go : (b : Bool) → b ≡ cond b true false
      go true = refl
      go false = refl

  noted_then_self : noted_then latest n r r ≡ r
  noted_then_self = go (ltb r (length n.history)) (replaces latest n r r)
    where
      go : (a b : Bool) → cond a (cond b r r) r ≡ r
      go true true = refl
      go true false = refl
      go false b = refl

  -- noted again
  pub noted_then_twice : (f : ℕ) → noted_then latest n (noted_then latest n f r) r ≡ noted_then latest n f r
  noted_then_twice f = go (ltb f (length n.history)) refl (replaces latest n r f) refl
    where
      go : (a : Bool) → ltb f (length n.history) ≡ a → (b : Bool) → replaces latest n r f ≡ b → noted_then latest n (cond a (cond b r f) r) r ≡ cond a (cond b r f) r
      go true d true e = noted_then_self
      go true d false e = rw (d, e)
      go false d b e = noted_then_self
