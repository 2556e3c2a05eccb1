-- No message on a line names a commit that is not later than any site.
use mathlib.Core.Path.{◌≡◌, refl, ap, sym, subst, ◌∙◌}
use mathlib.Core.Bool.{Bool, true, false, ◌||◌}
use mathlib.Core.List.{List, [], ◌∷◌}
use Prim.Native.Nat.{ℕ, ◌/◌, ◌%◌, ◌<◌}
use native.Mathlib.Omega.{arith}
use lib.ListN.{length, get_or}
use lib.Dec.{eqb, ltb}
use borrow.Author.Tests.{ltb-true}
use Rattle.lists.specs.Lists.{is_empty, any}
use Rattle.lists.proofs.Chains.{Each, each_by, none_each}
use Rattle.lists.proofs.Every.{and_true}
use Rattle.placement.specs.Placement.{is_line}
use Rattle.limits.specs.Limits.{sites_most}
use Rattle.lines.specs.Lines.{Line, no_line}
use Rattle.messages.specs.Messages.{Message, commit, dummy}
use Rattle.records.specs.Records.{Record}
use Rattle.protocol.specs.Network.{Network, line_number, message_stamp, message_fits, nth_record}
use Rattle.protocol.specs.Collect.{names_one}
use Rattle.protocol.proofs.Places.{place_at, Before, UpTo, times_at}
use Rattle.protocol.proofs.Invariant.{stamp_at, messages_at, message_at, Invariant, shaped, line_sites, message_fits_lem, sent_later}

-- a message that names a recorded commit, and none of those that go
abbrev pub Stays : (ℕ → Bool) → List Record → Message → Type 0
Stays goes h (commit k) = (k < length h) × (goes k ≡ false)
Stays goes h (dummy t) = Unit {0}

-- a line that holds something is one that the placement gives
held_line : (ms : List Message) (b : Bool) (a : ℕ) → a < length ms → (is_empty ms || b) ≡ true → b ≡ true
held_line [] b a l e = absurd (omega arith)
held_line (m ∷ ms) b a l e = e

module _ (n : Network) (inv : Invariant n) where
  open times_at n use {upto_then, never_before}

  -- the commits that go are not later than any site
  abbrev pub Settled : (ℕ → Bool) → Type 0
  Settled goes = (k : ℕ) → k < length n.history → goes k ≡ true → (j : ℕ) → j < length n.sites → UpTo n (nth_record n k).stamp (stamp_at n j)

  module _ (goes : ℕ → Bool) (settled : Settled goes) where
    -- a message to j is later than j
    module _ (p j : ℕ) (line : is_line n.items p j ≡ true) (a : ℕ) (l : a < length (messages_at n p j)) where
      named_stays : (k : ℕ) → message_at n p j a ≡ commit k → Stays goes n.history (commit k)
      named_stays k e = (old, go (goes k) refl)
        where
          old : k < length n.history
          old =
              ltb-true k (length n.history)
              (and_true (ltb k (length n.history)) (eqb (nth_record n k).site p) (ap (message_fits (place_at n) n.history p) (sym e) ∙ message_fits_lem n inv p j line a l)).0

          go : (b : Bool) → goes k ≡ b → goes k ≡ false
          go false f = f
          go true f =
              let t = (nth_record n k).stamp in
              let later : Before n (stamp_at n j) t = subst (Before n (stamp_at n j)) (ap (message_stamp n.history) e) (sent_later n inv p j line a l) in
              absurd (never_before t (upto_then t (stamp_at n j) t (settled k old f j (line_sites n inv p j line).1) later))

      pub line_stays : Stays goes n.history (message_at n p j a)
      line_stays = go (message_at n p j a) refl
        where
          go : (m : Message) → message_at n p j a ≡ m → Stays goes n.history m
          go (commit k) e = named_stays k e
          go (dummy t) e = tt

    -- so none of any line names one of them
    pub stays : (q : ℕ) → q < length n.lines → (a : ℕ) → a < length (get_or n.lines q no_line).messages → Stays goes n.history (get_or (get_or n.lines q no_line).messages a (commit 0))
    stays q near a l =
        let p = q / sites_most in
        let j = q % sites_most in
        let line : is_line n.items p j ≡ true = held_line (get_or n.lines q no_line).messages (is_line n.items p j) a l ((shaped n inv).lined q near).placed in
        let whole : line_number p j ≡ q = omega arith in
        subst (λ (i : ℕ). a < length (get_or n.lines i no_line).messages → Stays goes n.history (get_or (get_or n.lines i no_line).messages a (commit 0))) whole (line_stays p j line a) l

    pub each_stays : Each (λ (l : Line). Each (Stays goes n.history) l.messages) n.lines
    each_stays =
        each_by (λ (l : Line). Each (Stays goes n.history) l.messages) n.lines no_line
        (λ q near. let ms = (get_or n.lines q no_line).messages in each_by (Stays goes n.history) ms (commit 0) (stays q near))

    -- nor does any as it is
    pub none_stays : (q : ℕ) → q < length n.lines → any (names_one goes) (get_or n.lines q no_line).messages ≡ false
    none_stays q near = let ms = (get_or n.lines q no_line).messages in none_each (names_one goes) ms (each_by _ ms (commit 0) (λ a l. unnamed (get_or ms a (commit 0)) (stays q near a l)))
      where
        unnamed : (m : Message) → Stays goes n.history m → names_one goes m ≡ false
        unnamed (commit k) s = s.1
        unnamed (dummy t) s = refl
