-- What removing records leaves of the words of a history, and what is asked of them.
use Rattle.std.specs.Prelude.{◌≡◌, cond, List, ℕ, ◌+◌, ◌*◌, ◌≤◌, ◌<◌, length}
use Rattle.limits.specs.Limits.{records_most}
use Rattle.lists.specs.Lists.{keep_from, count_below}
use Rattle.words.specs.Words.{part, put, chunks}
use Rattle.records.specs.InWords.{record_size}
use Rattle.record_names.specs.Names.{stays}

-- the words of as many records as there is room for, of which so many are there
pub record Bank (w : List ℕ) (made : ℕ) : Type 0 where
  pub sized : length w ≡ records_most * record_size
  pub few : made ≤ records_most

-- those that stay, in their order, and how many they are
pub record Removal (names : List ℕ) (made : ℕ) (entry exit : List ℕ) (kept : ℕ) : Type 0 where
  pub sized : length exit ≡ length entry
  pub are : chunks record_size kept exit ≡ keep_from (stays names) 0 (chunks record_size made entry)
  pub count : kept ≡ count_below (stays names) made

-- ---- one record
-- record k, of those before which so many stay
pub record AtRecord (w : List ℕ) (k kept : ℕ) : Type 0 where
  pub sized : length w ≡ records_most * record_size
  pub few : k < records_most
  pub low : kept ≤ k

-- its words over those of record j
abbrev pub moved : ℕ → ℕ → List ℕ → List ℕ
moved k j w = put w (j * record_size) record_size (part w (k * record_size) record_size)

-- moved behind those where it stays
pub record Kept (names : List ℕ) (k before : ℕ) (entry exit : List ℕ) (kept : ℕ) : Type 0 where
  pub is : exit ≡ cond (stays names k) (moved k before entry) entry
  pub count : kept ≡ before + cond (stays names k) 1 0
