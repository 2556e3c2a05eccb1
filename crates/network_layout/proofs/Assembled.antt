-- A state's words and the network they stand for: one line, one site or one record read, and what is put in its place; other words in the history or the base.
use mathlib.Core.Path.{◌≡◌, refl, sym, ap, ap₂, subst, ◌∙◌}
use mathlib.Core.Bool.{Bool, true, not}
use mathlib.Core.List.{List, [], ◌∷◌, ◌++◌, map, map-append}
use Prim.Native.Nat.{ℕ, ◌+◌, ◌*◌, ◌≤◌, ◌<◌}
use native.Mathlib.Omega.{arith}
use native.Mathlib.Numerals.{add-one}
use native.Mathlib.Nat.{mul-le-mul_right}
use lib.ListN.{length, get_or, set, take, get_or-map}
use lib.Seq.{get_or-set_same, get_or-set_other, drop-set-lt}
use lib.IntN.{ℤ}
use lib.Dec.{eqb, leb}
use borrow.Author.Tests.{leb-true, le-leb}
use mir.Val.{to_z}
use mir.Syntax.{w32}
use Rattle.words.specs.Words.{part, put, chunks}
use Rattle.lists.specs.Lists.{every}
use Rattle.words.proofs.Parts.{part_length, part_part, put_length, put_here, put_below, put_above, put_in, put_get_d_below, set_put}
use Rattle.words.proofs.Chunks.{mul_room, chunks_length, chunks_at, chunks_put, chunks_last, chunks_below}
use Rattle.lists.proofs.Lists.{map_set}
use Rattle.lists.proofs.Every.{and_true, every_at, every_set, every_snoc}
use Rattle.timestamp_words.specs.InWords.{stamp_in}
use Rattle.site.specs.Site.{Site}
use Rattle.site_operations.specs.InWords.{table_in}
use Rattle.site.specs.InWords.{site_in, site_range, site_size}
use Rattle.placement.specs.InWords.{items_in}
use Rattle.limits.specs.Limits.{items_most, sites_most, records_most}
use Rattle.lines.specs.Lines.{no_line}
use Rattle.lines.specs.InWords.{line_in, line_range, line_size}
use Rattle.records.specs.InWords.{record_in, record_range, record_size}
use Rattle.network_layout.specs.Layout.{site_count, item_count, record_count, items_at, items_size, sites_at, sites_size, lines_at, lines_size, history_at, history_size, base_at, base_size, state_size}
use Rattle.protocol.specs.Network.{lines_most, Network, with_site, with_line, with_lines, with_record, no_site, no_record, nth_record}
use Rattle.network_layout.specs.InWords.{site_words, line_words, record_words, base_in, network_in, in_range, with_history, with_base}

-- ---- the parts of a state: three counts, and the words of the placement, the sites, the lines, the history, the base
pub record Parts : Type 0 where
  pub sites : ℕ
  pub items : ℕ
  pub made : ℕ
  pub placed : List ℕ
  pub housed : List ℕ
  pub lined : List ℕ
  pub kept : List ℕ
  pub based : List ℕ

unfoldable pub parts_of : List ℕ → Parts
parts_of w =
    record {
      sites = site_count w;
      items = item_count w;
      made = record_count w;
      placed = part w items_at items_size;
      housed = part w sites_at sites_size;
      lined = part w lines_at lines_size;
      kept = part w history_at history_size;
      based = part w base_at base_size;
    }

unfoldable pub network_of : Parts → Network
network_of p =
    record {
      sites = map site_in (chunks site_size p.sites p.housed);
      items = items_in p.items p.placed;
      lines = map line_in (chunks line_size lines_most p.lined);
      history = map record_in (chunks record_size p.made p.kept);
      base = base_in p.items p.based;
    }

-- the counts and what each thing holds are in range
pub record Range (p : Parts) : Type 0 where
  pub some_sites : 1 ≤ p.sites
  pub few_sites : p.sites ≤ sites_most
  pub some_items : 1 ≤ p.items
  pub few_items : p.items ≤ items_most
  pub few_records : p.made ≤ records_most
  pub site_ranges : every site_range (chunks site_size p.sites p.housed) ≡ true
  pub line_ranges : every line_range (chunks line_size lines_most p.lined) ≡ true
  pub record_ranges : every record_range (chunks record_size p.made p.kept) ≡ true

pub network_of_lem : (w : List ℕ) → network_in w ≡ network_of (parts_of w)
unfolding network_in network_of parts_of
network_of_lem w = refl

pub range_parts : (w : List ℕ) → in_range w ≡ true → Range (parts_of w)
unfolding in_range parts_of
range_parts w e =
    let a = and_true (leb 1 (site_count w)) _ e in
    let b = and_true (leb (site_count w) sites_most) _ a.1 in
    let c = and_true (leb 1 (item_count w)) _ b.1 in
    let d = and_true (leb (item_count w) items_most) _ c.1 in
    let f = and_true (leb (record_count w) records_most) _ d.1 in
    let g = and_true (every site_range (site_words w)) _ f.1 in
    let h = and_true (every line_range (line_words w)) (every record_range (record_words w)) g.1 in
    record {
      some_sites = leb-true 1 (site_count w) a.0;
      few_sites = leb-true (site_count w) sites_most b.0;
      some_items = leb-true 1 (item_count w) c.0;
      few_items = leb-true (item_count w) items_most d.0;
      few_records = leb-true (record_count w) records_most f.0;
      site_ranges = g.0;
      line_ranges = h.0;
      record_ranges = h.1;
    }

pub range_whole : (w : List ℕ) → Range (parts_of w) → in_range w ≡ true
unfolding in_range parts_of
range_whole w r =
    rw (
      le-leb 1 (site_count w) r.some_sites,
      le-leb (site_count w) sites_most r.few_sites,
      le-leb 1 (item_count w) r.some_items,
      le-leb (item_count w) items_most r.few_items,
      le-leb (record_count w) records_most r.few_records,
      r.site_ranges,
      r.line_ranges,
    )
    r.record_ranges

-- ---- another count of records
abbrev counting : ℕ → Parts → Parts
counting m p = record { sites = p.sites; items = p.items; made = m; placed = p.placed; housed = p.housed; lined = p.lined; kept = p.kept; based = p.based }

count_parts : (w : List ℕ) (m : ℕ) → 2 < length w → parts_of (set w 2 m) ≡ counting m (parts_of w)
unfolding parts_of
count_parts w m there =
    let beyond : (a k : ℕ) → 2 < a → part (set w 2 m) a k ≡ part w a k = λ a k h. ap (take k) (drop-set-lt a w 2 m h) in
    λ i.
    record {
      sites = get_or-set_other w 2 0 m 0 (λ z. omega arith) i;
      items = get_or-set_other w 2 1 m 0 (λ z. omega arith) i;
      made = get_or-set_same w 2 m 0 there i;
      placed = beyond items_at items_size (omega arith) i;
      housed = beyond sites_at sites_size (omega arith) i;
      lined = beyond lines_at lines_size (omega arith) i;
      kept = beyond history_at history_size (omega arith) i;
      based = beyond base_at base_size (omega arith) i;
    }

pub no_record_lem : no_record ≡ record_in []
unfolding record_in stamp_in chunks
no_record_lem = refl

-- ---- thing k of a bank of n things, m words each from a place on: read, in range, and with other words in its place
record Thing {A : Type 0} (meaning : List ℕ → A) (range : List ℕ → Bool) (w bank : List ℕ) (first m n k : ℕ) : Type 0 where
  read : get_or (map meaning (chunks m n bank)) k (meaning []) ≡ meaning (part w (first + k * m) m)
  ranged : every range (chunks m n bank) ≡ true → range (part w (first + k * m) m) ≡ true
  put_meant : (ys : List ℕ) → length ys ≡ m → map meaning (chunks m n (put bank (k * m) m ys)) ≡ set (map meaning (chunks m n bank)) k (meaning ys)
  put_ranged : (ys : List ℕ) → length ys ≡ m → every range (chunks m n bank) ≡ true → range ys ≡ true → every range (chunks m n (put bank (k * m) m ys)) ≡ true

thing : {A : Type 0} (meaning : List ℕ → A) (range : List ℕ → Bool) (w : List ℕ) (first m most n k : ℕ) → first + most * m ≤ length w → n ≤ most → k < n → Thing meaning range w (part w first (most * m)) first m n k
thing meaning range w first m most n k inside few there =
    let bank = part w first (most * m) in
    let all : n * m ≤ most * m = mul-le-mul_right m few in
    let words : get_or (chunks m n bank) k [] ≡ part w (first + k * m) m = chunks_at m n bank k there ∙ part_part w first (most * m) (k * m) m (mul_room k most m (omega arith)) in
    let replaced : (ys : List ℕ) → length ys ≡ m → chunks m n (put bank (k * m) m ys) ≡ set (chunks m n bank) k ys
    = λ ys fits. chunks_put m n bank k ys fits there (omega (arith, part_length w first (most * m) inside)) in
    record {
      read = get_or-map meaning (chunks m n bank) k [] ∙ ap meaning words;
      ranged = λ e. ap range (sym words) ∙ every_at range (chunks m n bank) k [] e (omega (arith, chunks_length m n bank));
      put_meant = λ ys fits. ap (map meaning) (replaced ys fits) ∙ map_set meaning (chunks m n bank) k ys;
      put_ranged = λ ys fits e g. ap (every range) (replaced ys fits) ∙ every_set range (chunks m n bank) k ys e g;
    }

module _ (w : List ℕ) (size : length w ≡ state_size) where
  pub lined_size : length (part w lines_at lines_size) ≡ lines_size
  lined_size = part_length w lines_at lines_size (omega arith)

  pub kept_size : length (part w history_at history_size) ≡ history_size
  kept_size = part_length w history_at history_size (omega arith)

  -- ---- the same sites, items and placement, with other words in the banks
  abbrev standing : ℕ → List ℕ → List ℕ → List ℕ → List ℕ → Parts
  standing made housed lined kept based =
      record { sites = site_count w; items = item_count w; made = made; placed = part w items_at items_size; housed = housed; lined = lined; kept = kept; based = based }

  module _ (v : List ℕ) (made : ℕ) (housed lined kept based : List ℕ) (e : parts_of v ≡ standing made housed lined kept based) where
    network_stands : network_in v
        ≡ record {
          sites = map site_in (chunks site_size (site_count w) housed);
          items = (network_in w).items;
          lines = map line_in (chunks line_size lines_most lined);
          history = map record_in (chunks record_size made kept);
          base = base_in (item_count w) based;
        }
    unfolding network_in network_of
    network_stands = network_of_lem v ∙ ap network_of e

    range_stands : Range (parts_of w) → made ≤ records_most → every site_range (chunks site_size (site_count w) housed) ≡ true → every line_range (chunks line_size lines_most lined) ≡ true → every record_range (chunks record_size made kept) ≡ true → in_range v ≡ true
    unfolding parts_of
    range_stands r few h l k =
        range_whole v
        (subst Range (sym e)
        (record {
          some_sites = r.some_sites;
          few_sites = r.few_sites;
          some_items = r.some_items;
          few_items = r.few_items;
          few_records = few;
          site_ranges = h;
          line_ranges = l;
          record_ranges = k;
        }))

  -- words put at a place of a bank
  module _ (at n : ℕ) (ys : List ℕ) (fits : length ys ≡ n) (inside : at + n ≤ length w) (behind : sites_at ≤ at) where
    parts_put : (housed lined kept based : List ℕ) → part (put w at n ys) sites_at sites_size ≡ housed → part (put w at n ys) lines_at lines_size ≡ lined → part (put w at n ys) history_at history_size ≡ kept
        → part (put w at n ys) base_at base_size ≡ based → parts_of (put w at n ys) ≡ standing (record_count w) housed lined kept based
    unfolding parts_of
    parts_put housed lined kept based h l k b =
        let count_is = put_get_d_below w at n ys inside fits in
        λ i.
        record {
          sites = count_is 0 (omega arith) i;
          items = count_is 1 (omega arith) i;
          made = count_is 2 (omega arith) i;
          placed = put_below w at n ys inside fits items_at items_size (omega arith) i;
          housed = h i;
          lined = l i;
          kept = k i;
          based = b i;
        }

  -- ---- one line
  module _ (k : ℕ) (b : k < lines_most) where
    line : Thing line_in line_range w (part w lines_at lines_size) lines_at line_size lines_most k
    line = thing line_in line_range w lines_at line_size lines_most lines_most k (omega arith) (omega arith) b

    pub line_read : get_or (network_in w).lines k no_line ≡ line_in (part w (lines_at + k * line_size) line_size)
    unfolding network_in line_in
    line_read = line.read

    pub line_in_range : in_range w ≡ true → line_range (part w (lines_at + k * line_size) line_size) ≡ true
    unfolding parts_of
    line_in_range e = line.ranged (range_parts w e).line_ranges

    module _ (ys : List ℕ) (fits : length ys ≡ line_size) where
      abbrev rewired : List ℕ
      rewired = put w (lines_at + k * line_size) line_size ys

      line_parts : parts_of rewired ≡ standing (record_count w) (part w sites_at sites_size) (put (part w lines_at lines_size) (k * line_size) line_size ys) (part w history_at history_size) (part w base_at base_size)
      line_parts =
          let at = lines_at + k * line_size in
          let inside : at + line_size ≤ length w = omega arith in
          parts_put at line_size ys fits inside (omega arith) _ _ _ _
          (put_below w at line_size ys inside fits sites_at sites_size (omega arith))
          (put_in w lines_at lines_size (k * line_size) line_size ys (omega arith) (omega arith) fits)
          (put_above w at line_size ys inside fits history_at history_size (omega arith))
          (put_above w at line_size ys inside fits base_at base_size (omega arith))

      pub line_put : network_in rewired ≡ with_line (network_in w) k (line_in ys)
      unfolding network_in
      line_put =
          network_stands rewired _ _ _ _ _ line_parts ∙ ap (with_lines (network_in w)) (line.put_meant ys fits)

      pub line_range_lem : in_range w ≡ true → line_range ys ≡ true → in_range rewired ≡ true
      unfolding parts_of
      line_range_lem e g =
          let r = range_parts w e in
          range_stands rewired _ _ _ _ _ line_parts r r.few_records r.site_ranges (line.put_ranged ys fits r.line_ranges g) r.record_ranges

  -- ---- one site
  module _ (few : site_count w ≤ sites_most) (i : ℕ) (b : i < site_count w) where
    site : Thing site_in site_range w (part w sites_at sites_size) sites_at site_size (site_count w) i
    site = thing site_in site_range w sites_at site_size sites_most (site_count w) i (omega arith) few b

    pub site_read : get_or (network_in w).sites i no_site ≡ site_in (part w (sites_at + i * site_size) site_size)
    unfolding network_in site_in stamp_in
    site_read = site.read

    pub site_in_range : in_range w ≡ true → site_range (part w (sites_at + i * site_size) site_size) ≡ true
    unfolding parts_of
    site_in_range e = site.ranged (range_parts w e).site_ranges

    module _ (ys : List ℕ) (fits : length ys ≡ site_size) where
      abbrev rehoused : List ℕ
      rehoused = put w (sites_at + i * site_size) site_size ys

      site_parts : parts_of rehoused ≡ standing (record_count w) (put (part w sites_at sites_size) (i * site_size) site_size ys) (part w lines_at lines_size) (part w history_at history_size) (part w base_at base_size)
      site_parts =
          let at = sites_at + i * site_size in
          let inside : at + site_size ≤ length w = omega arith in
          parts_put at site_size ys fits inside (omega arith) _ _ _ _
          (put_in w sites_at sites_size (i * site_size) site_size ys (omega arith) (omega arith) fits)
          (put_above w at site_size ys inside fits lines_at lines_size (omega arith))
          (put_above w at site_size ys inside fits history_at history_size (omega arith))
          (put_above w at site_size ys inside fits base_at base_size (omega arith))

      pub site_put : network_in rehoused ≡ with_site (network_in w) i (site_in ys)
      unfolding network_in
      site_put =
          network_stands rehoused _ _ _ _ _ site_parts
          ∙ ap (λ (ss : List Site). record { sites = ss; items = (network_in w).items; lines = (network_in w).lines; history = (network_in w).history; base = (network_in w).base }) (site.put_meant ys fits)

      pub site_range_lem : in_range w ≡ true → site_range ys ≡ true → in_range rehoused ≡ true
      unfolding parts_of
      site_range_lem e g =
          let r = range_parts w e in
          range_stands rehoused _ _ _ _ _ site_parts r r.few_records (site.put_ranged ys fits r.site_ranges g) r.line_ranges r.record_ranges

  -- ---- one record
  module _ (k : ℕ) (b : k < record_count w) (few : k < records_most) where
    pub record_read_lem : nth_record (network_in w) k ≡ record_in (part w (history_at + k * record_size) record_size)
    unfolding network_in
    record_read_lem =
        ap (get_or (network_in w).history k) no_record_lem
        ∙ get_or-map record_in (record_words w) k []
        ∙ ap record_in (chunks_at record_size (record_count w) (part w history_at history_size) k b ∙ part_part w history_at history_size (k * record_size) record_size (omega arith))

  -- ---- a record more: its words behind the others, and the count of records one higher
  module _ (room : record_count w < records_most) (ys : List ℕ) (fits : length ys ≡ record_size) where
    abbrev kept_more : List ℕ
    kept_more = put (part w history_at history_size) (record_count w * record_size) record_size ys

    abbrev pub longer : List ℕ
    longer = set (put w (history_at + record_count w * record_size) record_size ys) 2 (record_count w + 1)

    record_parts : parts_of longer ≡ standing (record_count w + 1) (part w sites_at sites_size) (part w lines_at lines_size) kept_more (part w base_at base_size)
    unfolding parts_of
    record_parts =
        let m = record_count w in
        let at = history_at + m * record_size in
        let inside : at + record_size ≤ length w = omega arith in
        let x = put w at record_size ys in
        count_parts x (m + 1) (omega (arith, put_length w at record_size ys inside fits))
        ∙ ap (counting (m + 1))
        (parts_put at record_size ys fits inside (omega arith) _ _ _ _
        (put_below w at record_size ys inside fits sites_at sites_size (omega arith))
        (put_below w at record_size ys inside fits lines_at lines_size (omega arith))
        (put_in w history_at history_size (m * record_size) record_size ys (omega arith) (omega arith) fits)
        (put_above w at record_size ys inside fits base_at base_size (omega arith)))

    records_put : chunks record_size (record_count w + 1) kept_more ≡ record_words w ++ (ys ∷ [])
    records_put =
        let m = record_count w in
        let rs = part w history_at history_size in
        let inside : m * record_size + record_size ≤ length rs = omega (arith, kept_size) in
        ap (λ (k : ℕ). chunks record_size k kept_more) (add-one m)
        ∙ chunks_last record_size m kept_more
        ∙ ap₂ (λ (x : List (List ℕ)) (y : List ℕ). x ++ (y ∷ [])) (chunks_below record_size m rs (m * record_size) record_size ys (omega arith) inside fits) (put_here rs (m * record_size) record_size ys inside fits)

    pub record_put : network_in longer ≡ with_record (network_in w) (record_in ys)
    unfolding network_in
    record_put =
        network_stands longer _ _ _ _ _ record_parts
        ∙ ap (with_history (network_in w)) (ap (map record_in) records_put ∙ map-append record_in (record_words w) (ys ∷ []))

    pub record_range_lem : in_range w ≡ true → record_range ys ≡ true → in_range longer ≡ true
    unfolding parts_of
    record_range_lem e g =
        let r = range_parts w e in
        range_stands longer _ _ _ _ _ record_parts r (omega (arith, room)) r.site_ranges r.line_ranges (ap (every record_range) records_put ∙ every_snoc record_range (record_words w) ys r.record_ranges g)

  -- ---- other records: words in the place of all, and a count of them
  module _ (m : ℕ) (few : m ≤ records_most) (ys : List ℕ) (fits : length ys ≡ history_size) where
    abbrev pub rewritten : List ℕ
    rewritten = set (put w history_at history_size ys) 2 m

    history_parts : parts_of rewritten ≡ standing m (part w sites_at sites_size) (part w lines_at lines_size) ys (part w base_at base_size)
    history_parts =
        let inside : history_at + history_size ≤ length w = omega arith in
        count_parts (put w history_at history_size ys) m (omega (arith, put_length w history_at history_size ys inside fits))
        ∙ ap (counting m)
        (parts_put history_at history_size ys fits inside (omega arith) _ _ _ _
        (put_below w history_at history_size ys inside fits sites_at sites_size (omega arith))
        (put_below w history_at history_size ys inside fits lines_at lines_size (omega arith))
        (put_here w history_at history_size ys inside fits)
        (put_above w history_at history_size ys inside fits base_at base_size (omega arith)))

    pub history_put : network_in rewritten ≡ with_history (network_in w) (map record_in (chunks record_size m ys))
    unfolding network_in
    history_put = network_stands rewritten _ _ _ _ _ history_parts

    pub history_range : in_range w ≡ true → every record_range (chunks record_size m ys) ≡ true → in_range rewritten ≡ true
    unfolding parts_of
    history_range e g = let r = range_parts w e in range_stands rewritten _ _ _ _ _ history_parts r few r.site_ranges r.line_ranges g

  -- ---- words of the base, n of them from place a on
  module _ (a n : ℕ) (room : a + n ≤ base_size) (ys : List ℕ) (fits : length ys ≡ n) where
    abbrev rebased : List ℕ
    rebased = put w (base_at + a) n ys

    base_parts : parts_of rebased ≡ standing (record_count w) (part w sites_at sites_size) (part w lines_at lines_size) (part w history_at history_size) (put (part w base_at base_size) a n ys)
    base_parts =
        let at = base_at + a in
        let inside : at + n ≤ length w = omega arith in
        parts_put at n ys fits inside (omega arith) _ _ _ _
        (put_below w at n ys inside fits sites_at sites_size (omega arith))
        (put_below w at n ys inside fits lines_at lines_size (omega arith))
        (put_below w at n ys inside fits history_at history_size (omega arith))
        (put_in w base_at base_size a n ys room (omega arith) fits)

    base_put : network_in rebased ≡ with_base (network_in w) (base_in (item_count w) (put (part w base_at base_size) a n ys))
    unfolding network_in
    base_put = network_stands rebased _ _ _ _ _ base_parts

    base_range : in_range w ≡ true → in_range rebased ≡ true
    unfolding parts_of
    base_range e =
        let r = range_parts w e in
        range_stands rebased _ _ _ _ _ base_parts r r.few_records r.site_ranges r.line_ranges r.record_ranges

  abbrev base_words_lem : List ℕ
  base_words_lem = part w base_at base_size

  base_size_lem : length base_words_lem ≡ base_size
  base_size_lem = part_length w base_at base_size (omega arith)

  -- its first word: whether commits have been removed
  module _ (v : ℕ) where
    flag_word_lem : set w base_at v ≡ put w base_at 1 (v ∷ [])
    flag_word_lem = set_put w base_at v (omega arith)

    pub flag_set : network_in (set w base_at v) ≡ with_base (network_in w) (record { values = (network_in w).base.values; folded = not (eqb v 0) })
    unfolding network_in
    flag_set =
        ap network_in flag_word_lem
        ∙ base_put 0 1 (omega arith) (v ∷ []) refl
        ∙ ap (λ (ys : List ℕ). with_base (network_in w) (record { values = table_in ys; folded = not (eqb v 0) })) (put_above base_words_lem 0 1 (v ∷ []) (omega (arith, base_size_lem)) refl 1 (item_count w) (omega arith))

    pub flag_range : in_range w ≡ true → in_range (set w base_at v) ≡ true
    flag_range e = ap in_range flag_word_lem ∙ base_range 0 1 (omega arith) (v ∷ []) refl e

  -- one of the words behind it: the value of an item
  module _ (x v : ℕ) (there : x < items_most) where
    value_word : set w (base_at + 1 + x) v ≡ put w (base_at + (1 + x)) 1 (v ∷ [])
    value_word = let same : base_at + 1 + x ≡ base_at + (1 + x) = omega arith in ap (λ (k : ℕ). set w k v) same ∙ set_put w (base_at + (1 + x)) v (omega arith)

    pub value_set : item_count w ≤ items_most → x < item_count w
        → network_in (set w (base_at + 1 + x) v) ≡ with_base (network_in w) (record { values = set (network_in w).base.values x (to_z w32 v); folded = (network_in w).base.folded })
    unfolding network_in
    value_set few held =
        let k = item_count w in
        let inside : 1 + x + 1 ≤ length base_words_lem = omega (arith, base_size_lem) in
        let values = part base_words_lem 1 k in
        let many : length values ≡ k = part_length base_words_lem 1 k (omega (arith, base_size_lem)) in
        let here : part (put base_words_lem (1 + x) 1 (v ∷ [])) 1 k ≡ set values x v
        = put_in base_words_lem 1 k x 1 (v ∷ []) (omega arith) (omega (arith, base_size_lem)) refl ∙ sym (set_put values x v (omega arith)) in
        ap network_in value_word
        ∙ base_put (1 + x) 1 (omega arith) (v ∷ []) refl
        ∙ ap₂ (λ (vs : List ℤ) (b : ℕ). with_base (network_in w) (record { values = vs; folded = not (eqb b 0) }))
        (ap table_in here ∙ map_set (to_z w32) values x v)
        (put_get_d_below base_words_lem (1 + x) 1 (v ∷ []) inside refl 0 (omega arith))

    pub value_range : in_range w ≡ true → in_range (set w (base_at + 1 + x) v) ≡ true
    value_range e = ap in_range value_word ∙ base_range (1 + x) 1 (omega arith) (v ∷ []) refl e
