-- Worked examples of tables, waiting report and collect: three sites, item 0 at site 0 with copies at 1 and 2, item 1 at site 1 with a copy at 2.
use Rattle.std.specs.Prelude.{◌≡◌, true, List, [], ◌∷◌, map, ℕ, ℤ, pos, length, get_or}
use Rattle.std.proofs.Math.Option.{none, some}
use Rattle.limits.specs.Limits.{sites_most}
use Rattle.lists.specs.Lists.{keep, up_to}
use Rattle.site_operations.specs.Operations.{Op, values_read}
use Rattle.site.specs.Site.{Site}
use Rattle.messages.specs.Messages.{commit as naming}
use Rattle.records.specs.Records.{Record}
use Rattle.protocol.specs.Network.{Network, start_base, line_number, line_at, with_line}
use Rattle.protocol.specs.Steps.{set_up_network, commit_network, dummy_network, deliver_network, schedule_network}
use Rattle.protocol.specs.Collect.{collect_number, collect_network, removed_by}
use Rattle.protocol.specs.Calls.{Call, set_up, commit, dummy, deliver, schedule, collect}
use Rattle.protocol.specs.Agreement.{Known, nothing_known, learned_all, kept_shown}
use Rattle.protocol.specs.Waiting.{is_waiting, waiting_items}

-- p 3 2 0 6 1 4, then c 0 w0=5, l 0 1, s 1
abbrev pub after_commit : Network
after_commit = commit_network (set_up_network 3 (0 ∷ 1 ∷ []) (6 ∷ 4 ∷ [])) 0 (record { kind = 1; item = 0; value = pos 5 } ∷ [])

abbrev pub after_deliver : Network
after_deliver = deliver_network after_commit 0 1

abbrev pub after_schedule : Network
after_schedule = schedule_network after_deliver 1

-- p 3 2 0 6 1 4, then c 0 w0=5, c 1 w1=7: of their timestamps 0.1 and 1.1 the second is the earlier one, as the site of the higher place is earlier, and here places are numbers; and c 0 w0=6
abbrev pub after_both : Network
after_both = commit_network after_commit 1 (record { kind = 1; item = 1; value = pos 7 } ∷ [])

abbrev pub after_three : Network
after_three = commit_network after_both 0 (record { kind = 1; item = 0; value = pos 6 } ∷ [])

-- p 2 4 0 2 0 2 0 2 0 2, then c 0 w3=1 w1=1, c 0 w0=1 w3=1
abbrev pub write : ℕ → Op
write k = record { kind = 1; item = k; value = pos 1 }

abbrev pub after_first : Network
after_first = commit_network (set_up_network 2 (0 ∷ 0 ∷ 0 ∷ 0 ∷ []) (2 ∷ 2 ∷ 2 ∷ 2 ∷ [])) 0 (write 3 ∷ write 1 ∷ [])

abbrev pub after_second : Network
after_second = commit_network after_first 0 (write 0 ∷ write 3 ∷ [])

-- p 3 2 0 6 1 4, then c 0 w0=5, l 0 1, s 1, d 1, l 0 2, l 1 2, s 2, collect: every site has heard of the commit, whose timestamp is the earliest of all sites'
abbrev pub after_all : Network
after_all = schedule_network (deliver_network (deliver_network (dummy_network after_schedule 1) 0 2) 1 2) 2

abbrev pub collect_calls : List Call
collect_calls =
    set_up 3 2 (0 ∷ 1 ∷ []) (6 ∷ 4 ∷ [])
    ∷ commit 0 (1 ∷ []) (0 ∷ []) (pos 5 ∷ [])
    ∷ deliver 0 1
    ∷ schedule 1
    ∷ dummy 1
    ∷ deliver 0 2
    ∷ deliver 1 2
    ∷ schedule 2
    ∷ collect
    ∷ []

abbrev pub after_collect : Known
after_collect = learned_all (nothing_known none) collect_calls

-- one commit more, c 0 w0=6 or c 0 r0 w0=6, of which no other site has heard; and a line with a message of the first, to which no steps lead
abbrev pub after_again : Network
after_again = commit_network after_all 0 (record { kind = 1; item = 0; value = pos 6 } ∷ [])

abbrev pub after_read : Network
after_read = commit_network after_all 0 (record { kind = 0; item = 0; value = pos 0 } ∷ record { kind = 1; item = 0; value = pos 6 } ∷ [])

abbrev pub collected_once : Network
collected_once = collect_network after_again

abbrev pub told_again : Network
told_again = with_line after_all (line_number 0 1) (record { messages = naming 0 ∷ []; arrived = 0 })

-- p 2 2 0 0 1 0, then c 1 w1=7: no lines, and of the timestamps 0.0 and 1.1 the second, which is the commit's too, is the earlier one
abbrev pub after_no_lines : Network
after_no_lines = commit_network (set_up_network 2 (0 ∷ 1 ∷ []) (0 ∷ 0 ∷ [])) 1 (record { kind = 1; item = 1; value = pos 7 } ∷ [])

-- one site with one item, at 0.2, and its two commits with the later one first: no steps from a set-up lead there
abbrev pub wrote : ℕ → ℤ → Record
wrote count value = record { site = 0; stamp = record { epoch = 0; tuples = record { site = 0; count = count } ∷ [] }; ops = record { kind = 1; item = 0; value = value } ∷ [] }

abbrev pub later_first : Network
later_first =
    record {
      sites = record { table = pos 2 ∷ []; stamp = (wrote 2 (pos 2)).stamp } ∷ [];
      items = record { primary = 0; mask = 0 } ∷ [];
      lines = [];
      history = wrote 2 (pos 2) ∷ wrote 1 (pos 1) ∷ [];
      base = start_base 1;
    }

-- the sites at which an item is waiting
abbrev pub waiting_at : Network → ℕ → List ℕ
waiting_at n k = keep (λ i. is_waiting n i k) (up_to 0 sites_most)

-- an item's value at each site
abbrev pub values_of : Network → ℕ → List ℤ
values_of n k = map (λ (s : Site). get_or s.table k (pos 0)) n.sites

pub record ExampleHolds : Type 0 where
  -- nothing delivered: the write is in its own site's table alone and waits at the sites with a copy
  pub written : values_of after_commit 0 ≡ pos 5 ∷ pos 0 ∷ pos 0 ∷ []
  pub sent : waiting_at after_commit 0 ≡ 1 ∷ 2 ∷ []
  pub none_else : waiting_at after_commit 1 ≡ []
  -- arrived at site 1, it waits there still
  pub arrived : waiting_at after_deliver 0 ≡ 1 ∷ 2 ∷ []
  -- scheduled there, it is in that table and waits at site 2 alone
  pub copied : values_of after_schedule 0 ≡ pos 5 ∷ pos 5 ∷ pos 0 ∷ []
  pub left : waiting_at after_schedule 0 ≡ 2 ∷ []
  -- the report of site 2 has the item with the earlier write first, and a later write of another changes nothing
  pub in_order : waiting_items after_both 2 ≡ 1 ∷ 0 ∷ []
  pub still : waiting_items after_three 2 ≡ 1 ∷ 0 ∷ []
  -- of the items of one commit the lower number comes first, and an item that is written again keeps its place
  pub one_commit : waiting_items after_first 1 ≡ 1 ∷ 3 ∷ []
  pub two_commits : waiting_items after_second 1 ≡ 1 ∷ 3 ∷ 0 ∷ []
  -- a collect before site 2 has heard of the commit folds nothing, and one after it folds it
  pub none_folded : (collect_network after_schedule).base ≡ start_base 2
  pub folded : (collect_network after_all).base ≡ record { values = pos 5 ∷ pos 0 ∷ []; folded = true }
  pub removed : removed_by (some after_all) ≡ 1
  -- where no site hears of another, the commit of the earliest site goes
  pub no_lines : removed_by (some after_no_lines) ≡ 1
  -- a message names the other one by its new number, and a second collect removes none and leaves the base as it is
  pub accepted : collect_number after_again ≡ 0
  pub renamed : (line_at collected_once 0 1).messages ≡ naming 0 ∷ []
  pub base_stays : (collect_network collected_once).base ≡ record { values = pos 5 ∷ pos 0 ∷ []; folded = true }
  -- the run over the commit kept starts from there
  pub kept_run : map (λ (r : Record). values_read r.ops) (kept_shown (collect_network after_read)) ≡ (pos 5 ∷ []) ∷ []
  -- refused where a message names the one that would go
  pub refused : collect_number told_again ≡ 6
  -- by rising timestamp, not in the order made
  pub in_turn_lem : (collect_network later_first).base.values ≡ pos 2 ∷ []
  -- the book marks it, and keeps it
  pub marked : after_collect.removed ≡ true ∷ []
  pub booked : length after_collect.book.commits ≡ 1
