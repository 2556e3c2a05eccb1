-- The origin of a read: refused, or what was found.
use mathlib.Core.Path.{◌≡◌, refl, sym, ap, ◌∙◌}
use mathlib.Core.Bool.{Bool, true, false, cond, true≢false}
use mathlib.Core.List.{List}
use mathlib.Core.Option.{Option, some}
use Prim.Native.Nat.{ℕ}
use lib.ListN.{length}
use Rattle.std.specs.Prelude.{Ok, Err, IsErrAnd, is_ok}
use Rattle.std.specs.declared.result.Result.{Result}
use Rattle.lists.specs.Numbers.{number_if}
use Rattle.causes.specs.declared.Refusal.{Refusal}
use Rattle.causes.specs.declared.Refusal.TheVariants.{NoState, NoSuchRead}
use Rattle.causes.specs.Refusals.{refusal_number, number_of}
use Rattle.protocol.specs.Network.{Network}
use Rattle.protocol.specs.Questions.{origin, nth_op, asked_read, no_such_read, question_number}
use Rattle.origins.specs.Origin.{own_write, origin_of}
use Rattle.origins.specs.Statements.{FoundFor, OriginLast}
use Rattle.origins.proofs.Last.{read_there, origin_last}
use Rattle.network_layout.specs.declared.Origin.{Origin}
use Rattle.network_layout.specs.declared.Origin.TheVariants.{Commit}
use Rattle.network_layout.specs.InWords.{network_in, shaped, meaning}
use Rattle.network_layout.specs.At.{AtNetwork}
use Rattle.network_layout.proofs.Performs.{number_unshaped, number_shaped}
use Rattle.network_layout.proofs.Questions.{asked}
use Rattle.network_writers.specs.Writers.{sought, OnRecord, writer_of, LastSoFar, is_writer}
use Rattle.network_origin.specs.Answer.{named, origin_in, OriginAnswered}

-- ---- the read that was sought
abbrev refusal_in : Result ℕ Refusal → Refusal
refusal_in (Ok x) = NoSuchRead
refusal_in (Err e) = e

not_sought : (b : Bool) (x : ℕ) (e : Refusal) → Err e ≡ cond b (Err NoSuchRead) (Ok x) → (b ≡ true) × (e ≡ NoSuchRead)
not_sought true x e is = (refl, ap refusal_in is)
not_sought false x e is = absurd (true≢false (sym (ap is_ok is)))

abbrev item_in : Result ℕ Refusal → ℕ
item_in (Ok x) = x
item_in (Err e) = 0

is_sought : (b : Bool) (x y : ℕ) → Ok y ≡ cond b (Err NoSuchRead) (Ok x) → (b ≡ false) × (y ≡ x)
is_sought true x y is = absurd (true≢false (ap is_ok is))
is_sought false x y is = (refl, ap item_in is)

pub read_sought : (n : Network) (k a y : ℕ) → Ok y ≡ sought n k a → (asked_read n k a ≡ 0) × (y ≡ (nth_op n k a).item)
read_sought n k a y is =
    let found = is_sought (no_such_read n k a) (nth_op n k a).item y is in
    (ap (λ (b : Bool). number_if b 26) found.0, found.1)

module _ (w : List ℕ) (k a : ℕ) where
  pub origin_unshaped : shaped w ≡ false → OriginAnswered k a w (Err NoState)
  unfolding meaning
  origin_unshaped e = record { performed = asked (origin k a) w 6 (number_unshaped w _ e); origin_is = rw e refl }

  module _ (net : AtNetwork w) where
    -- the answer is that of the question's number
    by_number_lem : (r : Result Origin Refusal) → number_of r ≡ asked_read (network_in w) k a → r ≡ origin_in (meaning w) k a → OriginAnswered k a w r
    unfolding question_number
    by_number_lem r e is = record { performed = asked (origin k a) w (number_of r) (e ∙ sym (number_shaped w _ net.formed)); origin_is = is }

    pub origin_refused : (r : Result Origin Refusal) (e : Refusal) → IsErrAnd r (λ x. x ≡ e) → Err e ≡ sought (network_in w) k a → OriginAnswered k a w r
    unfolding meaning question_number
    origin_refused (Ok o) e is of = absurd is
    origin_refused (Err x) e is of =
        let none = not_sought (no_such_read (network_in w) k a) (nth_op (network_in w) k a).item e of in
        let number : 26 ≡ asked_read (network_in w) k a = ap (λ (b : Bool). number_if b 26) (sym none.0) in
        by_number_lem (Err x) (ap refusal_number (is ∙ none.1) ∙ number) (rw (net.formed, ← number) (ap Err (is ∙ none.1)))

    module _ (z : asked_read (network_in w) k a ≡ 0) where
      pub reader_there : OnRecord w k
      unfolding question_number
      reader_there = record { net = net; there = (read_there (network_in w) k a z).commit }

      -- an origin that is right for the read is what is answered
      by_origin : (o : Option ℕ) → FoundFor (network_in w) k a o → OriginAnswered k a w (Ok (named (network_in w).base.folded o))
      unfolding meaning question_number OriginLast
      by_origin o f =
          let is : o ≡ origin_of (network_in w) k a = (origin_last (network_in w) k a z).alone o f in
          let folded = (network_in w).base.folded in
          by_number_lem (Ok (named folded o)) (sym z) (rw (net.formed, z) (ap (λ (m : Option ℕ). Ok (named folded m)) is))

      pub origin_own : own_write (network_in w) k a ≡ true → OriginAnswered k a w (Ok (Commit k))
      origin_own e = by_origin (some k) (record { own = λ t. refl; other = λ t. absurd (true≢false (sym e ∙ t)) })

      pub origin_found : own_write (network_in w) k a ≡ false → (b : ℕ) → LastSoFar (network_in w) (is_writer (network_in w) k (nth_op (network_in w) k a).item) (length (network_in w).history) b
          → OriginAnswered k a w (Ok (named (network_in w).base.folded (writer_of b)))
      origin_found e b f = by_origin (writer_of b) (record { own = λ t. absurd (true≢false (sym t ∙ e)); other = λ t. f.found })
