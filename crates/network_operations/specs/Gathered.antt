-- A commit's operations as records: the call that they make, and what is gathered of their fields.
use Rattle.std.specs.Prelude.{◌≡◌, List, map, ℕ, ℤ, length, take}
use Rattle.network_layout.specs.declared.Operation.{Operation}
use Rattle.network_operations.specs.declared.Gathered.{Gathered}
use Rattle.protocol.specs.Calls.{Call, commit}

abbrev pub kind_fields : List Operation → List ℕ
kind_fields os = map (λ (o : Operation). o.kind) os

abbrev pub item_fields : List Operation → List ℕ
item_fields os = map (λ (o : Operation). o.item) os

abbrev pub value_fields : List Operation → List ℤ
value_fields os = map (λ (o : Operation). o.value) os

-- the commit of the lists of their fields
abbrev pub operations_call : ℕ → List Operation → Call
operations_call site os = commit site (kind_fields os) (item_fields os) (value_fields os)

-- how many are gathered at most: one more than a commit takes
abbrev pub gathered_most : ℕ
gathered_most = 9

-- `g` has the fields of the operations `os`, in its first places
pub record Gathers (os : List Operation) (g : Gathered) : Type 0 where
  pub count_is : g.count ≡ length os
  pub kinds_are : take g.count g.kinds ≡ kind_fields os
  pub items_are : take g.count g.items ≡ item_fields os
  pub values_are : take g.count g.values ≡ value_fields os
