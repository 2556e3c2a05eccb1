use mathlib.Core.Path.{◌≡◌}
use mathlib.Core.List.{map}
use lib.ListN.{drop}
use Rattle.site_operations.specs.InWords.{ops_in}
use Rattle.lists.specs.Numbers.{first_number}
use Rattle.protocol.specs.Steps.{op_number}
use Rattle.network_layout.specs.InWords.{network_in}
use Rattle.network_commit.proofs.operation_causes.ops_number.Given as goal

abbrev pub invariant-loop-k : goal.invariant-loop-k
invariant-loop-k l = first_number (map (op_number (network_in l.state).items l.site) (ops_in l.n l.ops)) ≡ first_number (map (op_number (network_in l.state).items l.site) (drop l.k (ops_in l.n l.ops)))
