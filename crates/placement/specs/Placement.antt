-- Placement: each item's primary site and copy mask, what set-up refuses of it, and the lines that it gives.
use Rattle.std.specs.Prelude.{Bool, cond, ◌&&◌, ◌||◌, List, map, ℕ, ◌*◌, ◌/◌, ◌%◌, ◌^◌, get_or, eqb, ltb, leb}
use Rattle.lists.specs.Numbers.{first_number}
use Rattle.lists.specs.Lists.{any}
use Rattle.limits.specs.Limits.{sites_most}
use Rattle.placement.specs.Masks.{bit, Names}

pub record Item : Type 0 where
  pub primary : ℕ
  pub mask : ℕ

-- ---- what set-up refuses, in a group of `sites` sites
-- the mask has a bit of weight 2 to the power `sites` or more
abbrev pub names_missing : ℕ → ℕ → Bool
names_missing sites mask = ltb 0 (mask / 2 ^ sites)

-- the number for which set-up refuses an item, or 0
unfoldable pub item_number : ℕ → Item → ℕ
item_number sites x =
    cond (leb sites x.primary) 3
    (cond (names_missing sites x.mask || bit x.mask x.primary) 4 0)

-- the number of the first faulty item, from item 0 on
abbrev pub items_number : ℕ → List Item → ℕ
items_number sites xs = first_number (map (item_number sites) xs)

-- ---- what the placement gives
abbrev pub no_item : Item
no_item = record { primary = 0; mask = 0 }

-- item k has its primary at site i; it has a copy there
abbrev pub owns : List Item → ℕ → ℕ → Bool
owns xs i k = eqb (get_or xs k no_item).primary i

abbrev pub copies : List Item → ℕ → ℕ → Bool
copies xs i k = bit (get_or xs k no_item).mask i

-- the item has its primary at site p and a copy at site c
abbrev pub gives_line : ℕ → ℕ → Item → Bool
gives_line p c x = eqb x.primary p && bit x.mask c

-- there is a line from site p to site c: some item gives it
unfoldable pub is_line : List Item → ℕ → ℕ → Bool
is_line xs p c = any (gives_line p c) xs

-- the bits of all lines: bit 8 p + c is that of the line from site p to site c
abbrev pub LineBits : List Item → ℕ → Type 0
LineBits xs m = Names (sites_most * sites_most) m (λ k. is_line xs (k / sites_most) (k % sites_most))

-- site c has a parent: some item has a copy there
unfoldable pub has_parents : List Item → ℕ → Bool
has_parents xs c = any (λ (x : Item). bit x.mask c) xs
