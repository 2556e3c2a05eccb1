-- The words of a new network: the counts, the items, the sites at their start, the lines empty and the base 0, over whatever words there were.
use mathlib.Core.Path.{◌≡◌, refl, sym, ap, subst, ◌∙◌}
use mathlib.Core.Bool.{true, false}
use mathlib.Core.List.{List, [], ◌∷◌, map}
use Prim.Native.Nat.{ℕ, zero, suc, ◌+◌, ◌≤◌, ◌<◌}
use native.Mathlib.Omega.{arith}
use lib.IntN.{ℤ, pos}
use lib.ListN.{length, get_or, set, take, replicate, length-set}
use lib.Seq.{get_or-set_same, get_or-set_other}
use Rattle.words.specs.Words.{part, put, chunks, laid}
use Rattle.lists.specs.Lists.{every}
use Rattle.words.proofs.Parts.{put_length, put_here, put_below, put_get_d_below}
use Rattle.words.proofs.Walks.{laid_in}
use Rattle.limits.specs.Limits.{items_most}
use Rattle.site_operations.specs.InWords.{table_in}
use Rattle.placement.specs.InWords.{items_in}
use Rattle.placement.proofs.Items.{items_length}
use Rattle.records.specs.InWords.{record_in, record_range, record_size}
use Rattle.protocol.specs.Network.{lines_most, start_base}
use Rattle.network_layout.specs.Layout.{items_at, items_size, sites_at, sites_size, lines_at, lines_size, history_at, history_size, base_at, base_size, state_size}
use Rattle.network_layout.specs.InWords.{base_in}
use Rattle.network_layout.proofs.Assembled.{parts_of, network_of, network_of_lem, Range, range_whole}
use Rattle.network_new_lines.specs.Cleared.{Cleared, Replaced}
use Rattle.network_new.specs.New.{Begun, Started, LayingOut}

-- nothing removed and every value 0
abbrev no_base : List ℕ
no_base = replicate base_size 0

zeros_taken : (k m : ℕ) → k ≤ m → table_in (take k (replicate m 0)) ≡ replicate k (pos 0)
zeros_taken zero m h = refl
zeros_taken (suc k) zero h = absurd (omega arith)
zeros_taken (suc k) (suc m) h = ap (λ (vs : List ℤ). pos 0 ∷ vs) (zeros_taken k m (omega arith))

no_base_lem : (items : ℕ) → items ≤ items_most → base_in items no_base ≡ start_base items
no_base_lem items few = ap (λ (vs : List ℤ). record { values = vs; folded = false }) (zeros_taken items items_most few)

no_records : (w : List ℕ) → (map record_in (chunks record_size 0 w) ≡ []) × (every record_range (chunks record_size 0 w) ≡ true)
unfolding chunks
no_records w = (refl, refl)

module _ (w placed : List ℕ) (sites items : ℕ) (asked : LayingOut w placed sites items) where
  -- the counts; with the items' words behind them
  abbrev heads : List ℕ
  heads = set (set (set w 0 sites) 1 items) 2 0

  abbrev itemed : List ℕ
  itemed = put heads items_at items_size placed

  heads_size : length heads ≡ state_size
  heads_size = length-set (set (set w 0 sites) 1 items) 2 0 ∙ length-set (set w 0 sites) 1 items ∙ length-set w 0 sites ∙ asked.sized

  items_inside : items_at + items_size ≤ length heads
  items_inside = omega (arith, heads_size)

  itemed_size : length itemed ≡ state_size
  itemed_size = put_length heads items_at items_size placed items_inside asked.placed_sized ∙ heads_size

  sites_inside : sites_at + sites_size ≤ length itemed
  sites_inside = omega (arith, itemed_size)

  -- the sites' words behind those, the lines', and the base's
  module _ (housed lined : List ℕ) (housed-sized : length housed ≡ sites_size) (lined-sized : length lined ≡ lines_size) where
    abbrev sited : List ℕ
    sited = put itemed sites_at sites_size housed

    abbrev wired : List ℕ
    wired = put sited lines_at lines_size lined

    abbrev all : List ℕ
    all = put wired base_at base_size no_base

    sited_size : length sited ≡ state_size
    sited_size = put_length itemed sites_at sites_size housed sites_inside housed-sized ∙ itemed_size

    lines_inside : lines_at + lines_size ≤ length sited
    lines_inside = omega (arith, sited_size)

    wired_size : length wired ≡ state_size
    wired_size = put_length sited lines_at lines_size lined lines_inside lined-sized ∙ sited_size

    base_inside : base_at + base_size ≤ length wired
    base_inside = omega (arith, wired_size)

    below_base : (at n : ℕ) → at + n ≤ base_at → part all at n ≡ part wired at n
    below_base = put_below wired base_at base_size no_base base_inside refl

    count_kept : (i : ℕ) → i < items_at → get_or all i 0 ≡ get_or heads i 0
    count_kept i h =
        put_get_d_below wired base_at base_size no_base base_inside refl i (omega arith)
        ∙ put_get_d_below sited lines_at lines_size lined lines_inside lined-sized i (omega arith)
        ∙ put_get_d_below itemed sites_at sites_size housed sites_inside housed-sized i (omega arith)
        ∙ put_get_d_below heads items_at items_size placed items_inside asked.placed_sized i h

    all_parts : parts_of all ≡ record { sites = sites; items = items; made = 0; placed = placed; housed = housed; lined = lined; kept = part all history_at history_size; based = no_base }
    unfolding parts_of
    all_parts =
        let one = set w 0 sites in
        let two = set one 1 items in
        let one_size : length one ≡ length w = length-set w 0 sites in
        let two_size : length two ≡ length w = length-set one 1 items ∙ one_size in
        λ j.
        record {
          sites = (count_kept 0 (omega arith) ∙ get_or-set_other two 2 0 0 0 (λ z. omega arith) ∙ get_or-set_other one 1 0 items 0 (λ z. omega arith) ∙ get_or-set_same w 0 sites 0 (omega (arith, asked.sized))) j;
          items = (count_kept 1 (omega arith) ∙ get_or-set_other two 2 1 0 0 (λ z. omega arith) ∙ get_or-set_same one 1 items 0 (omega (arith, one_size, asked.sized))) j;
          made = (count_kept 2 (omega arith) ∙ get_or-set_same two 2 0 0 (omega (arith, two_size, asked.sized))) j;
          placed =
              (below_base items_at items_size (omega arith)
              ∙ put_below sited lines_at lines_size lined lines_inside lined-sized items_at items_size (omega arith)
              ∙ put_below itemed sites_at sites_size housed sites_inside housed-sized items_at items_size (omega arith)
              ∙ put_here heads items_at items_size placed items_inside asked.placed_sized)
              j;
          housed =
              (below_base sites_at sites_size (omega arith)
              ∙ put_below sited lines_at lines_size lined lines_inside lined-sized sites_at sites_size (omega arith)
              ∙ put_here itemed sites_at sites_size housed sites_inside housed-sized)
              j;
          lined = (below_base lines_at lines_size (omega arith) ∙ put_here sited lines_at lines_size lined lines_inside lined-sized) j;
          kept = part all history_at history_size;
          based = put_here wired base_at base_size no_base base_inside refl j;
        }

    begun : Started housed sites → Cleared lined lines_most → Begun all sites (items_in items placed)
    unfolding network_of
    begun s e =
        record {
          meant =
              network_of_lem all
              ∙ ap network_of all_parts
              ∙ (λ j.
              record {
                sites = s.are j;
                items = items_in items placed;
                lines = e.are j;
                history = (no_records (part all history_at history_size)).0 j;
                base = (no_base_lem items asked.few_items ∙ ap start_base (sym (items_length items placed))) j;
              });
          ranged =
              range_whole all
              (subst Range (sym all_parts)
              (record {
                some_sites = asked.some_sites;
                few_sites = asked.few_sites;
                some_items = asked.some_items;
                few_items = asked.few_items;
                few_records = omega arith;
                site_ranges = s.ranged;
                line_ranges = e.ranged;
                record_ranges = (no_records (part all history_at history_size)).1;
              }));
        }

  -- as the code lays them: the counts and the items' words, l; the sites' words, s; the lines' words, e; the base's words, b
  pub out_begun : (l : List ℕ) → l ≡ laid heads items_at placed
      → (s : List ℕ) → Replaced sites_at sites_size (λ (x : List ℕ). Started x sites) l s
      → (e : List ℕ) → Replaced lines_at lines_size (λ (x : List ℕ). Cleared x lines_most) s e
      → (b : List ℕ) → b ≡ laid e base_at no_base → Begun b sites (items_in items placed)
  out_begun l laid-items s started e cleared b laid-base =
      let laid-words : l ≡ itemed
      = laid-items ∙ laid_in heads items_at placed (omega (arith, items_inside, asked.placed_sized)) ∙ ap (λ (k : ℕ). put heads items_at k placed) asked.placed_sized in
      let lines-laid : e ≡ wired started.words cleared.words started.sized cleared.sized
      = cleared.is
      ∙ ap (λ (x : List ℕ). put x lines_at lines_size cleared.words) started.is
      ∙ ap (λ (x : List ℕ). put (put x sites_at sites_size started.words) lines_at lines_size cleared.words) laid-words in
      let inside : base_at + base_size ≤ length e = omega (arith, ap length lines-laid, base_inside started.words cleared.words started.sized cleared.sized) in
      let base-laid : b ≡ all started.words cleared.words started.sized cleared.sized
      = laid-base ∙ laid_in e base_at no_base inside ∙ ap (λ (x : List ℕ). put x base_at base_size no_base) lines-laid in
      subst (λ (x : List ℕ). Begun x sites (items_in items placed)) (sym base-laid) (begun started.words cleared.words started.sized cleared.sized started.are cleared.are)
