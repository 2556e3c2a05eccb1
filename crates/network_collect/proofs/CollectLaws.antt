-- Collect: its number, and the network after it, by the table of names.
use mathlib.Core.Path.{◌≡◌, refl, sym, ap, subst, ◌∙◌}
use mathlib.Core.Bool.{Bool, true, false, not, ◌||◌, not-not}
use mathlib.Core.List.{List, [], map}
use Prim.Native.Nat.{ℕ, ◌/◌, ◌<◌}
use native.Mathlib.Omega.{arith}
use lib.ListN.{length, get_or}
use lib.Dec.{eqb, ltb}
use borrow.Author.Tests.{ltb-true}
use Rattle.std.specs.Prelude.{Ok, Err}
use Rattle.causes.specs.declared.Refusal.TheVariants.{NoState}
use Rattle.limits.specs.Limits.{sites_most}
use Rattle.lists.specs.Lists.{any, every, some_below, count_below, keep_from}
use Rattle.lists.specs.Numbers.{number_if}
use Rattle.lists.proofs.Every.{and_true, every_at}
use Rattle.lists.proofs.Some.{none_at, some_below_same}
use Rattle.lists.proofs.Chains.{each_by, map_same, any_same}
use Rattle.lists.proofs.Renumber.{count_same}
use Rattle.lists.proofs.KeptFrom.{each_from, kept_same}
use Rattle.messages.specs.Messages.{Message, commit, dummy}
use Rattle.lines.specs.Lines.{Line, no_line}
use Rattle.records.specs.Records.{Record}
use Rattle.record_names.specs.Names.{stays, Names}
use Rattle.record_names.proofs.NameLaws.{name_stays, new_name}
use Rattle.line_renaming.specs.Renaming.{names_gone, renamed_by, line_renamed_by}
use Rattle.protocol.specs.Network.{Network, no_record, no_stamp, place_of, record_at, message_fits}
use Rattle.protocol.specs.Collect.{is_past, staying, names_one, renamed, renamed_line, collect_number, folded_base, collect_network, removed_by}
use Rattle.protocol.specs.Calls.{collect, accepted, perform}
use Rattle.protocol.proofs.WellShaped.{Shape}
use Rattle.protocol.proofs.KeepsCollect.{keeps_collect}
use Rattle.network_layout.specs.InWords.{network_in, shaped, meaning}
use Rattle.network_layout.specs.At.{AtNetwork}
use Rattle.network_layout.specs.Promises.{Performed}
use Rattle.network_layout.proofs.OnNetwork.{well_on, refused_on, accepted_on, unshaped}
use Rattle.network_renaming.specs.Renamed.{line_gone, some_gone}
use Rattle.network_removal.specs.Removed.{goes_by}
use Rattle.network_collect.specs.Collect.{CollectAnswered, CollectStep}

-- ---- what the table tells of a network's messages and records
module _ (n : Network) (shape : Shape n) (names : List ℕ) (named : Names (is_past n) (length n.history) names) where
  abbrev goes : ℕ → Bool
  goes = is_past n

  abbrev h : List Record
  h = n.history

  abbrev fits : ℕ → Message → Bool
  fits = message_fits (place_of n.items) h

  gone_is : (k : ℕ) → k < length h → goes_by names k ≡ goes k
  gone_is k there = ap not (name_stays goes (length h) names named k there) ∙ not-not (goes k)

  known : (p k : ℕ) → fits p (commit k) ≡ true → k < length h
  known p k f = ltb-true k (length h) (and_true (ltb k (length h)) (eqb (record_at h k).site p) f).0

  message_tells : (p : ℕ) (m : Message) → fits p m ≡ true → names_gone names m ≡ names_one goes m
  message_tells p (commit k) f = gone_is k (known p k f)
  message_tells p (dummy t) f = refl

  message_renamed : (p : ℕ) (m : Message) → fits p m ≡ true → names_one goes m ≡ false → renamed_by names m ≡ renamed goes m
  message_renamed p (commit k) f e = ap {B = Message} commit (new_name goes (length h) names named k (known p k f) e)
  message_renamed p (dummy t) f e = refl

  module _ (p : ℕ) (ms : List Message) (fit : every (fits p) ms ≡ true) where
    abbrev nth : ℕ → Message
    nth a = get_or ms a (commit 0)

    fits_at : (a : ℕ) → a < length ms → fits p (nth a) ≡ true
    fits_at a l = every_at (fits p) ms a (commit 0) fit l

    messages_tell : any (names_gone names) ms ≡ any (names_one goes) ms
    messages_tell = any_same _ _ ms (each_by _ ms (commit 0) (λ a l. message_tells p (nth a) (fits_at a l)))

    messages_renamed : any (names_one goes) ms ≡ false → map (renamed_by names) ms ≡ map (renamed goes) ms
    messages_renamed e = map_same _ _ ms (each_by _ ms (commit 0) (λ a l. message_renamed p (nth a) (fits_at a l) (none_at (names_one goes) ms a (commit 0) e l)))

  -- ---- on all lines
  abbrev names_past : Line → Bool
  names_past l = any (names_one goes) l.messages

  lines_tell : some_gone names n ≡ any names_past n.lines
  lines_tell = any_same (line_gone names) names_past n.lines (each_by _ n.lines no_line (λ k l. messages_tell (k / sites_most) (get_or n.lines k no_line).messages (shape.lined k l).fitting))

  pub number_is : number_if (some_gone names n) 6 ≡ collect_number n
  unfolding collect_number
  number_is = ap (λ (b : Bool). number_if b 6) lines_tell

  -- ---- the network after it, where no message names one that goes
  module _ (none : some_gone names n ≡ false) where
    lines_renamed : map (line_renamed_by names) n.lines ≡ map (renamed_line goes) n.lines
    lines_renamed =
        map_same (line_renamed_by names) (renamed_line goes) n.lines
        (each_by _ n.lines no_line
        (λ k l.
        let line = get_or n.lines k no_line in
        let quiet : any (names_one goes) line.messages ≡ false = none_at names_past n.lines k no_line (sym lines_tell ∙ none) l in
        λ i. record { messages = messages_renamed (k / sites_most) line.messages (shape.lined k l).fitting quiet i; arrived = line.arrived }))

    kept : keep_from (stays names) 0 h ≡ staying goes h
    kept = kept_same (stays names) (λ k. not (goes k)) 0 h (each_from (λ k r. stays names k ≡ not (goes k)) h no_record (name_stays goes (length h) names named))

    flag : some_below (goes_by names) (length h) ≡ some_below goes (length h)
    flag = some_below_same (goes_by names) goes (length h) gone_is

    pub count_is : count_below (goes_by names) (length h) ≡ count_below goes (length h)
    count_is = count_same (goes_by names) goes (length h) gone_is

    -- folded, renamed and removed one after another
    abbrev stepped : Network
    stepped =
        record {
          sites = n.sites;
          items = n.items;
          lines = map (line_renamed_by names) n.lines;
          history = keep_from (stays names) 0 h;
          base = record { values = (folded_base n).values; folded = n.base.folded || some_below (goes_by names) (length h) };
        }

    pub network_is : stepped ≡ collect_network n
    unfolding collect_network
    network_is = λ i. record { sites = n.sites; items = n.items; lines = lines_renamed i; history = kept i; base = record { values = (folded_base n).values; folded = n.base.folded || flag i } }

-- ---- the call on words
module _ (w : List ℕ) where
  pub collect_unshaped : shaped w ≡ false → CollectAnswered w w (Err NoState)
  unfolding perform meaning removed_by
  collect_unshaped e = record { performed = unshaped collect refl w e; removed_is = rw e refl }

  module _ (net : AtNetwork w) where
    pub collect_refused : collect_number (network_in w) ≡ 6 → CollectAnswered w w (Err NoState)
    unfolding perform meaning removed_by
    collect_refused e =
        record {
          performed = refused_on collect refl collect_number (λ m. accepted 0 no_stamp [] (collect_network m)) (λ m. refl) w net 6 (sym e) (λ z. omega arith);
          removed_is = rw (net.formed, e) refl;
        }

    pub collect_done : collect_number (network_in w) ≡ 0 → (v : List ℕ) (removed : ℕ) → CollectStep w v removed → CollectAnswered w v (Ok removed)
    unfolding perform meaning removed_by
    collect_done e v removed step =
        let n = network_in w in
        record {
          performed = accepted_on collect refl collect_number (λ m. accepted 0 no_stamp [] (collect_network m)) (λ m. refl) w net v 0 no_stamp [] (collect_network n) e refl step.ranged step.meant (keeps_collect n (well_on w net) e);
          removed_is = step.count ∙ sym (rw (net.formed, e) refl);
        }
