-- Walks over eights of bytes.
use mathlib.Core.Path.{◌≡◌, refl, sym, ap, ◌∙◌}
use mathlib.Core.Bool.{Bool, true, false, ◌&&◌}
use mathlib.Core.List.{List, [], ◌∷◌, ◌++◌, map}
use Prim.Native.Nat.{ℕ, ◌+◌, ◌-◌, ◌*◌, ◌≤◌, ◌<◌, ◌/◌}
use native.Mathlib.Omega.{arith}
use lib.ListN.{length, get_or, drop, length-map, length-drop, get_or-map, drop_of_length-le}
use lib.Seq.{take_all}
use lib.Dec.{leb}
use borrow.Author.Tests.{le-leb, lt-leb}
use Rattle.words.specs.Words.{part, chunks}
use Rattle.lists.specs.Lists.{every}
use Rattle.words.proofs.Parts.{part_get_d, part_part}
use Rattle.words.proofs.Chunks.{chunks_length, chunks_at}
use Rattle.lists.proofs.Every.{every_false, every_next, every_done}
use Rattle.timestamp_order.specs.Timestamp.{Pair, no_pair, last_pair}
use Rattle.timestamp_order.proofs.Timestamp.{last_at}
use Rattle.history_file.specs.Bytes.{value_size, unit_size, byte, little, unit, number_at, padded, all_zero}
use Rattle.history_file.specs.Reading.{pair_read, counts_fit}

-- ---- the counts of a record

module _ (t o : ℕ) where
  pub no_tuples : t < 1 → false ≡ counts_fit t o
  no_tuples h = sym (rw (lt-leb 1 t h))

  module _ (h : 1 ≤ t) where
    pub many_tuples : 8 < t → false ≡ counts_fit t o
    many_tuples g = sym (rw (le-leb 1 t h, lt-leb t 8 g))

    module _ (g : t ≤ 8) where
      pub no_ops : o < 1 → false ≡ counts_fit t o
      no_ops k = sym (rw (le-leb 1 t h, le-leb t 8 g, lt-leb 1 o k))

      pub ops_counted : 1 ≤ o → leb o 8 ≡ counts_fit t o
      ops_counted k = sym (rw (le-leb 1 t h, le-leb t 8 g, le-leb 1 o k))

-- ---- a test of each eight
module _ (p : List ℕ → Bool) (n : ℕ) (b : List ℕ) (i : ℕ) (e : every p (chunks unit_size n b) ≡ every p (drop i (chunks unit_size n b))) where
  pub units_done : n ≤ i → every p (chunks unit_size n b) ≡ true
  units_done h = every_done p (chunks unit_size n b) i [] e (omega (arith, chunks_length unit_size n b))

  module _ (h : i < n) where
    at_unit : p (get_or (chunks unit_size n b) i []) ≡ p (part b (i * unit_size) unit_size)
    at_unit = ap p (chunks_at unit_size n b i h)

    inside : i < length (chunks unit_size n b)
    inside = omega (arith, chunks_length unit_size n b)

    pub unit_fails : p (part b (i * unit_size) unit_size) ≡ false → every p (chunks unit_size n b) ≡ false
    unit_fails q = every_false p (chunks unit_size n b) i [] e inside (at_unit ∙ q)

    pub unit_passes : p (part b (i * unit_size) unit_size) ≡ true → every p (chunks unit_size n b) ≡ every p (drop (i + 1) (chunks unit_size n b))
    unit_passes q = every_next p (chunks unit_size n b) i [] e inside (at_unit ∙ q)

-- a byte of an eight
unit_byte : (b : List ℕ) (i j : ℕ) → j < unit_size → get_or (part b (i * unit_size) unit_size) j 0 ≡ get_or b (i * unit_size + j) 0
unit_byte b i j h = part_get_d b (i * unit_size) unit_size j h

-- ---- 00 bytes
module _ (b : List ℕ) (n from i : ℕ) (low : from ≤ 4) (e : every (padded from) (chunks unit_size n b) ≡ every (padded from) (drop i (chunks unit_size n b))) where
  pub pads_done : n ≤ i → true ≡ every (padded from) (chunks unit_size n b)
  pads_done h = sym (units_done (padded from) n b i e h)

  module _ (h : i < n) (r : Bool) (is : r ≡ all_zero (part b (i * unit_size + from) (i * unit_size + 4 - (i * unit_size + from)))) where
    pad_is : padded from (part b (i * unit_size) unit_size) ≡ r
    pad_is =
        let k : i * unit_size + 4 - (i * unit_size + from) ≡ 4 - from = omega arith in
        ap all_zero (part_part b (i * unit_size) unit_size from (4 - from) (omega arith)) ∙ sym (is ∙ ap (λ (m : ℕ). all_zero (part b (i * unit_size + from) m)) k)

    pub pad_fails : r ≡ false → false ≡ every (padded from) (chunks unit_size n b)
    pad_fails f = sym (unit_fails (padded from) n b i e h (pad_is ∙ f))

    pub pad_passes : r ≡ true → every (padded from) (chunks unit_size n b) ≡ every (padded from) (drop (i + 1) (chunks unit_size n b))
    pad_passes t = unit_passes (padded from) n b i e h (pad_is ∙ t)

-- ---- what n chunks of bytes are read as, one after another
module _ {A : Type 0} (read : List ℕ → A) (size n : ℕ) (b : List ℕ) where
  pub read_length : length (map read (chunks size n b)) ≡ n
  read_length = length-map (chunks size n b) read ∙ chunks_length size n b

  pub read_at : (none : A) → none ≡ read [] → (i : ℕ) → i < n → get_or (map read (chunks size n b)) i none ≡ read (part b (i * size) size)
  read_at none e i h = ap (get_or (map read (chunks size n b)) i) e ∙ get_or-map read (chunks size n b) i [] ∙ ap read (chunks_at size n b i h)

-- ---- tuples
no_pair_lem : no_pair ≡ pair_read []
unfolding number_at
no_pair_lem = refl

module _ (b : List ℕ) (n : ℕ) where
  abbrev pub pairs_of : List Pair
  pairs_of = map pair_read (chunks unit_size n b)

  pub pairs_length : length pairs_of ≡ n
  pairs_length = read_length pair_read unit_size n b

  pub pair_at_lem : (i : ℕ) → i < n → get_or pairs_of i no_pair ≡ pair_read (part b (i * unit_size) unit_size)
  pair_at_lem = read_at pair_read unit_size n b no_pair no_pair_lem

  pub pair_site : (i at : ℕ) → i < n → at ≡ i * unit_size → (get_or pairs_of i no_pair).site ≡ get_or b at 0
  pair_site i at h e =
      let f : i * unit_size + 0 ≡ at = omega arith in
      ap (λ (p : Pair). p.site) (pair_at_lem i h) ∙ unit_byte b i 0 (omega arith) ∙ ap (λ (k : ℕ). get_or b k 0) f

  pub last_site : 0 < n → (last_pair pairs_of).site ≡ get_or b (n * unit_size - unit_size) 0
  last_site h =
      let f : length pairs_of - 1 ≡ n - 1 = omega (arith, pairs_length) in
      ap (λ (p : Pair). p.site) (last_at pairs_of ∙ ap (λ (k : ℕ). get_or pairs_of k no_pair) f) ∙ pair_site (n - 1) (n * unit_size - unit_size) (omega arith) (omega arith)

-- ---- a test of what each stands for
pub every_map : {A B : Type 0} (q : B → Bool) (f : A → B) (l : List A) → every q (map f l) ≡ every (λ x. q (f x)) l
every_map q f [] = refl
every_map q f (x ∷ l) = ap (λ (t : Bool). q (f x) && t) (every_map q f l)

-- ---- four bytes copied over four
pub number_copied : (d out : List ℕ) (n p q r s : ℕ) → length d ≡ value_size → out ≡ (p ∷ (q ∷ (r ∷ (s ∷ [])))) ++ drop value_size d
    → p ≡ byte n → q ≡ byte (n / 256) → r ≡ byte (n / 256 / 256) → s ≡ byte (n / 256 / 256 / 256) → out ≡ little n
number_copied d out n p q r s size e ep eq er es =
    e
    ∙ ap (λ (l : List ℕ). (p ∷ (q ∷ (r ∷ (s ∷ [])))) ++ l) (drop_of_length-le d {i = value_size} (omega arith))
    ∙ (λ t. ep t ∷ (eq t ∷ (er t ∷ (es t ∷ []))))

-- ---- eight bytes copied over eight
pub unit_copied : (d out : List ℕ) (x y z n a b c p q r s : ℕ) → length d ≡ unit_size
    → out ≡ (a ∷ (b ∷ (c ∷ (0 ∷ (p ∷ (q ∷ (r ∷ (s ∷ [])))))))) ++ drop unit_size d
    → a ≡ byte x → b ≡ byte y → c ≡ byte z → p ≡ byte n → q ≡ byte (n / 256) → r ≡ byte (n / 256 / 256) → s ≡ byte (n / 256 / 256 / 256) → out ≡ unit x y z n
unfolding unit
unit_copied d out x y z n a b c p q r s size e ea eb ec ep eq er es =
    e
    ∙ ap (λ (l : List ℕ). (a ∷ (b ∷ (c ∷ (0 ∷ (p ∷ (q ∷ (r ∷ (s ∷ [])))))))) ++ l) (drop_of_length-le d {i = unit_size} (omega arith))
    ∙ (λ t. ea t ∷ (eb t ∷ (ec t ∷ (0 ∷ (ep t ∷ (eq t ∷ (er t ∷ (es t ∷ []))))))))

-- the bytes from a place on, as they are lent
pub rest_part : (b : List ℕ) (a : ℕ) → part b a (length b - a) ≡ drop a b
rest_part b a = take_all (length b - a) (drop a b) (omega (arith, length-drop a b))

pub rest_length : (b : List ℕ) (a : ℕ) → length (part b a (length b - a)) ≡ length b - a
rest_length b a = ap length (rest_part b a) ∙ length-drop a b
