-- The bytes that a call's outcome is printed as.
use Rattle.std.specs.Prelude.{cond, List, [], ◌∷◌, ◌++◌, ℕ, ◌≤◌, ℤ, length, eqb}
use Rattle.std.proofs.Math.Option.{none}
use Rattle.decimal.specs.Decimal.{digits, signed_digits, Printed}
use Rattle.timestamp_order.specs.Timestamp.{Pair, Stamp}
use Rattle.site_operations.specs.Operations.{Op}
use Rattle.records.specs.Records.{Record}
use Rattle.protocol.specs.Calls.{Call, set_up, commit, dummy, epoch, deliver, schedule, collect, round, ask, Outcome}
use Rattle.script_notation.specs.Fields.{space}

-- site.count
abbrev pub tuple_text : Pair → List ℕ
tuple_text t = digits t.site ++ (46 ∷ digits t.count)

-- tuples, the first behind the byte b and each other behind a comma
unfoldable pub tuples_text : ℕ → List Pair → List ℕ
tuples_text b [] = []
tuples_text b (t ∷ ts) = b ∷ (tuple_text t ++ tuples_text 44 ts)

-- a space, the epoch, a space and the tuples
abbrev pub stamp_text : Stamp → List ℕ
stamp_text t = space ∷ (digits t.epoch ++ tuples_text space t.tuples)

-- the text of each behind a space
unfoldable pub spaced : {A : Type 0} → (A → List ℕ) → List A → List ℕ
spaced text [] = []
spaced text (x ∷ xs) = space ∷ (text x ++ spaced text xs)

abbrev pub values_text : List ℤ → List ℕ
values_text = spaced signed_digits

-- ---- a record of the history
-- r for a read, w for any other kind
abbrev pub letter : ℕ → ℕ
letter kind = cond (eqb kind 0) 114 119

-- the letter, the item, = and the value
abbrev pub op_text : Op → List ℕ
op_text o = letter o.kind ∷ (digits o.item ++ (61 ∷ signed_digits o.value))

abbrev pub ops_text : List Op → List ℕ
ops_text = spaced op_text

-- the site, the timestamp and the operations
abbrev pub record_text : Record → List ℕ
record_text r = digits r.site ++ (stamp_text r.stamp ++ ops_text r.ops)

-- ---- an answer

-- what an accepted call prints behind its number
abbrev pub accepted_text : Call → Outcome → List ℕ
accepted_text (set_up sites items ps ms) o = []
accepted_text (commit i ks is vs) o = stamp_text o.stamp ++ values_text o.values
accepted_text (dummy i) o = stamp_text o.stamp
accepted_text (epoch i e) o = []
accepted_text (deliver p c) o = []
accepted_text (schedule j) o = space ∷ (digits o.parent ++ stamp_text o.stamp)
accepted_text collect o = []
accepted_text round o = []
accepted_text (ask q) o = []

-- a refusal prints its number alone
unfoldable pub print : Call → Outcome → List ℕ
print call o = digits o.number ++ cond (eqb o.number 0) (accepted_text call o) []

-- ---- what the contracts say
-- an answer's fields as an outcome; what is printed does not depend on the state after
abbrev pub fields_of : ℕ → ℕ → Stamp → List ℤ → Outcome
fields_of number parent stamp values = record { number = number; parent = parent; stamp = stamp; values = values; after = none }

-- the longest answer: a number of ten digits, a timestamp of eight tuples, eight values
abbrev pub answer_most : ℕ
answer_most = 293

-- the longest record: a site of ten digits, a timestamp of eight tuples, eight operations
abbrev pub record_most : ℕ
record_most = 389

-- printed, and not more than so many bytes
pub record Put (most : ℕ) (entry exit : List ℕ) (at end : ℕ) (bytes : List ℕ) : Type 0 where
  pub printed : Printed entry exit at end bytes
  pub small : length bytes ≤ most
