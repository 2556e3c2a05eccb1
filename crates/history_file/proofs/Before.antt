-- Files without a table of places and without base values are what they were before there were any.
use mathlib.Core.Path.{◌≡◌, refl, sym, ap, ◌∙◌}
use mathlib.Core.Bool.{Bool, true, false, not, cond, ◌&&◌, ◌||◌}
use mathlib.Core.List.{List, [], ◌∷◌, ◌++◌}
use Prim.Native.Nat.{ℕ, ◌+◌, ◌-◌, ◌*◌, ◌/◌, ◌%◌, ◌≤◌, ◌<◌}
use native.Mathlib.Omega.{arith}
use lib.IntN.{pos}
use lib.ListN.{length, get_or, take, drop, replicate}
use lib.Seq.{get_or-drop}
use lib.Dec.{eqb, ltb, leb}
use borrow.Author.Tests.{le-leb, ltb-false}
use Rattle.words.specs.Words.{part}
use Rattle.lists.specs.Lists.{up_to}
use Rattle.lists.specs.Numbers.{first_number, number_if, outside}
use Rattle.lists.proofs.Numbers.{or_false}
use Rattle.limits.specs.Limits.{sites_most}
use Rattle.timestamp_order.specs.Order.{rank, by_number}
use Rattle.placement.specs.Placement.{is_line}
use Rattle.placement.proofs.Groups.{numbers_stay}
use Rattle.protocol.specs.Network.{Network}
use Rattle.history_file.specs.Bytes.{all_zero, value_size}
use Rattle.history_file.specs.File.{History, history_of, is_numbers, lead, flag, trailer, trailer_size, body, file_of}
use Rattle.history_file.specs.Reading.{within, records_read, records_fill, trailer_at, marked, count_read, distance_read, sites_read, items_read, flag_read, has_table, has_base, start_read, lead_size, places_read, base_read, part_read, table_fits, trailer_fits, valid, file_number, history_read}
use Rattle.history_file.specs.Statements.{part_before, valid_before, number_before}
use Rattle.history_file.proofs.Tables.{rank_numbers, numbers_same, numbers_take}
use Rattle.history_file.proofs.Files.{and_last, history_read_lem}

-- ---- bytes without a flag
two_zeros : (l : List ℕ) → all_zero (take 2 l) ≡ (eqb (get_or l 0 0) 0 && eqb (get_or l 1 0) 0)
two_zeros [] = refl
two_zeros (x ∷ []) = refl
two_zeros (x ∷ (y ∷ l)) = ap (λ (t : Bool). eqb x 0 && t) (and_last (eqb y 0))

number_same : (x y v u : Bool) → (y ≡ false → v ≡ u)
    → first_number (number_if x 21 ∷ number_if y 22 ∷ number_if (not v) 23 ∷ []) ≡ first_number (number_if x 21 ∷ number_if y 22 ∷ number_if (not u) 23 ∷ [])
number_same x true v u e = refl
number_same x false v u e = ap (λ (t : Bool). first_number (number_if x 21 ∷ number_if false 22 ∷ number_if (not t) 23 ∷ [])) (e refl)

module _ (b : List ℕ) (z : flag_read b ≡ 0) where
  no_table : has_table b ≡ false
  no_table = ap (λ (k : ℕ). eqb (k % 2) 1) z

  no_base_lem : has_base b ≡ false
  no_base_lem = ap (λ (k : ℕ). eqb (k / 2 % 2) 1) z

  no_lead : lead_size b ≡ 0
  no_lead = λ i. cond (no_table i) (sites_read b) 0 + cond (no_base_lem i) (items_read b * value_size) 0

  places_are : places_read b ≡ up_to 0 (sites_read b)
  unfolding places_read
  places_are = ap (λ (t : Bool). cond t (part b (start_read b) (sites_read b)) (up_to 0 (sites_read b))) no_table

  values_are : base_read b ≡ replicate (items_read b) (pos 0)
  unfolding base_read
  values_are = rw no_base_lem

  pub part_same : part_read b ≡ part_before b
  unfolding part_read
  part_same = let start : start_read b + 0 ≡ start_read b = omega arith in (λ i. part b (start_read b + no_lead i) (distance_read b - (no_lead i + trailer_size))) ∙ ap (λ (k : ℕ). part b k (distance_read b - trailer_size)) start

  trailer_same : trailer_fits b ≡ (within 1 8 (sites_read b) && (within 1 64 (items_read b) && all_zero (part b (trailer_at b + 14) 2)))
  trailer_same =
      let t = trailer_at b in
      let first : get_or (drop (t + 14) b) 0 0 ≡ 0 = get_or-drop (t + 14) b 0 0 ∙ (let k : t + 14 + 0 ≡ t + 14 = omega arith in ap (λ (i : ℕ). get_or b i 0) k) ∙ z in
      let second : get_or (drop (t + 14) b) 1 0 ≡ get_or b (t + 15) 0 = get_or-drop (t + 14) b 1 0 ∙ (let k : t + 14 + 1 ≡ t + 15 = omega arith in ap (λ (i : ℕ). get_or b i 0) k) in
      let zeros : all_zero (part b (t + 14) 2) ≡ eqb (get_or b (t + 15) 0) 0 = two_zeros (drop (t + 14) b) ∙ (λ i. eqb (first i) 0 && eqb (second i) 0) in
      (λ i. within 1 8 (sites_read b) && (within 1 64 (items_read b) && (leb (z i) 3 && eqb (get_or b (t + 15) 0) 0)))
      ∙ ap (λ (q : Bool). within 1 8 (sites_read b) && (within 1 64 (items_read b) && q)) (sym zeros)

  valid_same : trailer_size ≤ distance_read b → valid b ≡ valid_before b
  unfolding valid valid_before table_fits
  valid_same low =
      let far : leb (lead_size b + trailer_size) (distance_read b) ≡ true = le-leb (lead_size b + trailer_size) (distance_read b) (omega (arith, no_lead)) in
      let fills : records_fill (rank (places_read b)) (sites_read b) (items_read b) (count_read b) (part_read b) ≡ records_fill by_number (sites_read b) (items_read b) (count_read b) (part_before b)
      = λ i. records_fill ((ap rank places_are ∙ rank_numbers (sites_read b)) i) (sites_read b) (items_read b) (count_read b) (part_same i) in
      rw (far, no_table) (λ i. trailer_same i && (leb (count_read b) 256 && fills i))

  pub old_number : file_number b ≡ number_before b
  unfolding file_number number_before
  old_number =
      number_same (ltb (length b) trailer_size || not (marked b)) (outside trailer_size (length b) (distance_read b)) (valid b) (valid_before b)
      (λ e. valid_same (ltb-false (distance_read b) trailer_size (or_false (ltb (distance_read b) trailer_size) (ltb (length b) (distance_read b)) e).0))

  pub old_history : file_number b ≡ 0 → history_read b ≡ record { sites = sites_read b; items = items_read b; places = up_to 0 (sites_read b); folded = false; base = replicate (items_read b) (pos 0); records = records_read (count_read b) (part_before b) }
  old_history e = history_read_lem b e ∙ (λ i. record { sites = sites_read b; items = items_read b; places = places_are i; folded = no_base_lem i; base = values_are i; records = records_read (count_read b) (part_same i) })

-- ---- a history whose places are the numbers, and of which no record was removed
pub old_file : (h : History) → is_numbers h.places ≡ true → h.folded ≡ false → file_of h ≡ body h ++ trailer (length h.records) (length (body h) + trailer_size) h.sites h.items 0
unfolding file_of lead flag
old_file h e none =
    let size : 0 + (length (body h) + trailer_size) ≡ length (body h) + trailer_size = omega arith in
    rw (e, none) (ap (λ (k : ℕ). body h ++ trailer (length h.records) k h.sites h.items 0) size)

pub old_network : (n : Network) → length n.sites ≤ sites_most → ((p c : ℕ) → p < sites_most → c < sites_most → is_line n.items p c ≡ true → p < c) → n.base.folded ≡ false
    → file_of (history_of n) ≡ body (history_of n) ++ trailer (length n.history) (length (body (history_of n)) + trailer_size) (length n.sites) (length n.items) 0
old_network n few up none =
    let k = length n.sites in
    let table : (history_of n).places ≡ up_to 0 k = ap (take k) (numbers_stay n.items up) ∙ numbers_take k 0 sites_most few in
    old_file (history_of n) (ap is_numbers table ∙ numbers_same k) none
