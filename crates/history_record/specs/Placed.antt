-- Operations as the code holds them: one by its fields, and of several the fields at eight places each.
use Rattle.std.specs.Prelude.{◌≡◌, List, ℕ, ℤ}
use Rattle.limits.specs.Limits.{ops_most}
use Rattle.site_operations.specs.Operations.{Op}
use Rattle.history_file.specs.Promises.{places_from}

pub record Operated (o : Op) (kind item : ℕ) (value : ℤ) : Type 0 where
  pub kind_is : kind ≡ o.kind
  pub item_is : item ≡ o.item
  pub value_is : value ≡ o.value

pub record Placed (os : List Op) (kinds items : List ℕ) (values : List ℤ) : Type 0 where
  pub kinds_are : kinds ≡ places_from (λ o. o.kind) os 0 ops_most
  pub items_are : items ≡ places_from (λ o. o.item) os 0 ops_most
  pub values_are : values ≡ places_from (λ o. o.value) os 0 ops_most
