-- Lists, values, a base and the order as words.
use Rattle.std.specs.Prelude.{Bool, cond, List, ◌∷◌, map, ℕ, ℤ, pos, negsuc, length}
use Rattle.std.proofs.Common.{of_z}
use Rattle.std.specs.Int.{w32}
use Rattle.limits.specs.Limits.{items_most}
use Rattle.lists.specs.Lists.{padded}
use Rattle.timestamp_order.specs.declared.Order.{Order}
use Rattle.timestamp_order.specs.declared.Order.TheVariants.{Earlier, Equal, Later}

-- how many there are, and a place for each; 0 in the places past them
abbrev pub listed : ℕ → List ℕ → List ℕ
listed places xs = length xs ∷ padded places 0 xs

abbrev pub value_words : List ℤ → List ℕ
value_words vs = map (of_z w32) vs

-- whether records have been removed, as a word; and that with the base values
abbrev pub flag_word : Bool → ℕ
flag_word folded = cond folded 1 0

abbrev pub base_words : Bool → List ℤ → List ℕ
base_words folded vs = flag_word folded ∷ listed items_most (value_words vs)

-- the order of two timestamps
abbrev pub order_number : Order → ℤ
order_number Earlier = negsuc 0
order_number Equal = pos 0
order_number Later = pos 1
