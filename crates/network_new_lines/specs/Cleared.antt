-- Lines that hold nothing, in words, and words that are put in the place of others.
use Rattle.std.specs.Prelude.{◌≡◌, true, List, map, ℕ, ◌<◌, length, replicate}
use Rattle.words.specs.Words.{chunks, put}
use Rattle.lists.specs.Lists.{every}
use Rattle.lines.specs.Lines.{no_line}
use Rattle.lines.specs.InWords.{line_in, line_range, line_size}
use Rattle.protocol.specs.Network.{lines_most}
use Rattle.network_layout.specs.Layout.{lines_size}

-- the first k lines of the lines' words hold nothing
pub record Cleared (w : List ℕ) (k : ℕ) : Type 0 where
  pub are : map line_in (chunks line_size k w) ≡ replicate k no_line
  pub ranged : every line_range (chunks line_size k w) ≡ true

-- the lines' words, with k of them cleared and one more to come
pub record ClearingNext (w : List ℕ) (k : ℕ) : Type 0 where
  pub sized : length w ≡ lines_size
  pub room : k < lines_most
  pub so_far : Cleared w k

-- the words with the n from a place on replaced by some of which something holds
pub record Replaced (at n : ℕ) (Are : List ℕ → Type 0) (entry exit : List ℕ) : Type 0 where
  pub words : List ℕ
  pub sized : length words ≡ n
  pub is : exit ≡ put entry at n words
  pub are : Are words
