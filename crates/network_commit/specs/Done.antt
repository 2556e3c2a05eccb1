-- What the parts of a commit's code ask and say.
use Rattle.std.specs.Prelude.{◌≡◌, true, List, ℕ, ◌≤◌, ◌<◌, pos, length, take, IfOk, IfErr}
use Rattle.std.specs.declared.result.Result.{Result}
use Rattle.causes.specs.declared.Refusal.{Refusal}
use Rattle.causes.specs.Refusals.{number_of}
use Rattle.limits.specs.Limits.{sites_most, ops_most}
use Rattle.lists.specs.Lists.{Filled}
use Rattle.lists.specs.Numbers.{first_number}
use Rattle.timestamp.specs.Value.{PlainValue}
use Rattle.site_operations.specs.Operations.{Op, values_read}
use Rattle.placement.specs.Masks.{mask_of}
use Rattle.protocol.specs.Steps.{due, commit_causes, record_of, commit_network}
use Rattle.protocol.specs.Allowed.{CommitAllowed}
use Rattle.network_layout.specs.declared.Committed.{Committed}
use Rattle.network_layout.specs.InWords.{network_in, in_range}
use Rattle.network_layout.specs.At.{AtNetwork}

-- operation i is in each of the lists of the fields
pub record InLists (i kinds items values : ℕ) : Type 0 where
  pub few_ops : i < ops_most
  pub in_kinds : i < kinds
  pub in_items : i < items
  pub in_values : i < values

-- at operation i, with so many values read before it, and so many places for them
pub record Reading (count i places : ℕ) : Type 0 where
  pub before : count ≤ i
  pub few_ops : i < ops_most
  pub room : ops_most ≤ places

-- a commit of n operations in words, at a site that is there
pub record CommitAt (w : List ℕ) (i n : ℕ) : Type 0 where
  pub net : AtNetwork w
  pub there : i < length (network_in w).sites
  pub some_ops : 1 ≤ n
  pub few_ops : n ≤ ops_most

-- and the mask of the sites that are due a message
pub record Masked (w : List ℕ) (i n mask : ℕ) (os : List Op) : Type 0 where
  pub at : CommitAt w i n
  pub mask_is : mask ≡ mask_of (due (network_in w).items os) sites_most

-- no cause refuses it
pub record CommitReady (w : List ℕ) (i n mask : ℕ) (os : List Op) : Type 0 where
  pub masked : Masked w i n mask os
  pub allowed : CommitAllowed (network_in w) i os

-- what a commit of the operations `os` at site i that no cause refuses answers and leaves
pub record CommitDone (entry exit : List ℕ) (i : ℕ) (os : List Op) (r : Committed) : Type 0 where
  pub stamp_is : PlainValue (record_of (network_in entry) i os).stamp r.stamp
  pub values_are : take r.count r.values ≡ values_read (record_of (network_in entry) i os).ops
  pub filled : Filled (pos 0) ops_most r.count r.values
  pub network_is : network_in exit ≡ commit_network (network_in entry) i os
  pub ranged : in_range exit ≡ true

-- a commit that a cause from 9 on may refuse
pub record CommitTried (entry exit : List ℕ) (i : ℕ) (os : List Op) (r : Result Committed Refusal) : Type 0 where
  pub number_is : number_of r ≡ first_number (commit_causes (network_in entry) i os)
  pub done : IfOk r (λ a. CommitDone entry exit i os a)
  pub kept : IfErr r (λ e. exit ≡ entry)
