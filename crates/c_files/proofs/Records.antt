-- A record as words: its head before its operations, and these from the places of their fields.
use mathlib.Core.Path.{◌≡◌, refl, ap, ◌∙◌}
use mathlib.Core.List.{List, [], ◌∷◌, ◌++◌}
use Prim.Native.Nat.{ℕ, zero, suc, ◌+◌, ◌-◌, ◌≤◌}
use native.Mathlib.Omega.{arith}
use lib.ListN.{length, get_or, set, drop, replicate}
use Rattle.lists.specs.Lists.{padded}
use Rattle.limits.specs.Limits.{ops_most}
use Rattle.words.specs.Words.{laid}
use Rattle.words.proofs.Walks.{laid_in}
use Rattle.timestamp.specs.Value.{stamp_of}
use Rattle.timestamp_words.specs.InWords.{stamp_words}
use Rattle.site_operations.specs.Operations.{Op, no_op}
use Rattle.site_operations.specs.InWords.{ops_in, ops_size}
use Rattle.protocol.specs.Steps.{ops_of}
use Rattle.history_file.specs.Promises.{Step, Gives, places_from}
use Rattle.history_file.specs.declared.Found.{Found}
use Rattle.c_files.specs.Laid.{RecordLaid}

pub head_laid : (w xs : List ℕ) (a b : ℕ) → 2 + length xs ≤ length w → set (set (laid w 2 xs) 0 a) 1 b ≡ a ∷ (b ∷ (xs ++ drop (length xs) (drop 2 w)))
head_laid [] xs a b h = absurd (omega arith)
head_laid (x ∷ []) xs a b h = absurd (omega arith)
head_laid (x ∷ (y ∷ w)) xs a b h = ap (λ (l : List ℕ). set (set l 0 a) 1 b) (laid_in (x ∷ (y ∷ w)) 2 xs h)

-- operations at eight places, from those of their fields
places_zip : (os : List Op) (i n : ℕ) → ops_of (places_from (λ o. o.kind) os i n) (places_from (λ o. o.item) os i n) (places_from (λ o. o.value) os i n) ≡ places_from (λ o. o) os i n
places_zip os i zero = refl
places_zip os i (suc n) = ap (λ (l : List Op). get_or os i no_op ∷ l) (places_zip os (suc i) n)

places_skip : (o : Op) (os : List Op) (i n : ℕ) → places_from (λ x. x) (o ∷ os) (suc i) n ≡ places_from (λ x. x) os i n
places_skip o os i zero = refl
places_skip o os i (suc n) = ap (λ (l : List Op). get_or os i no_op ∷ l) (places_skip o os (suc i) n)

places_none : (i n : ℕ) → places_from (λ (x : Op). x) [] i n ≡ replicate n no_op
places_none i zero = refl
places_none i (suc n) = ap (λ (l : List Op). no_op ∷ l) (places_none (suc i) n)

places_padded : (os : List Op) (n : ℕ) → length os ≤ n → places_from (λ x. x) os 0 n ≡ padded n no_op os
places_padded [] n h = places_none 0 n ∙ ap (λ (k : ℕ). replicate k no_op) (let e : n ≡ n - 0 = omega arith in e)
places_padded (o ∷ os) zero h = absurd (omega arith)
places_padded (o ∷ os) (suc n) h =
    ap (λ (l : List Op). o ∷ l) (places_skip o os 0 n ∙ places_padded os n (omega arith))
    ∙ ap (λ (k : ℕ). o ∷ (os ++ replicate k no_op)) (let e : n - length os ≡ suc n - suc (length os) = omega arith in e)

pub record_laid : (g : Found) (s : Step) → Gives s g → g.count ≤ ops_most → (ys a : List ℕ) → length ys ≡ ops_size → ops_in ops_most ys ≡ ops_of g.kinds g.items g.values
    → a ≡ g.site ∷ (g.count ∷ (stamp_words (stamp_of g.stamp) ++ ys)) → RecordLaid s.found a
unfolding stamp_words
record_laid g s e few ys a size ops is =
    let os = s.found.ops in
    let fields : ops_of g.kinds g.items g.values ≡ padded ops_most no_op os
    = (λ t. ops_of (e.kinds_are t) (e.items_are t) (e.values_are t)) ∙ places_zip os 0 ops_most ∙ places_padded os ops_most (omega (arith, few, e.count_is)) in
    rw is
    (record {
      sized = omega (arith, size);
      site_is = e.site_is;
      count_is = e.count_is;
      stamp_is = ap stamp_words e.stamp_is.means;
      ops_are = ops ∙ fields;
    })
