-- A site in words: its timestamp and its table.
use Rattle.std.specs.Prelude.{◌≡◌, Bool, List, [], ℕ, ◌+◌, length}
use Rattle.limits.specs.Limits.{items_most}
use Rattle.words.specs.Words.{part, Stepped}
use Rattle.timestamp_words.specs.InWords.{stamp_in, stamp_size, stamp_range}
use Rattle.site_operations.specs.Operations.{Op, worked}
use Rattle.site_operations.specs.InWords.{table_in, OpsLaid}
use Rattle.site.specs.Site.{Site, committed}

abbrev pub table_size : ℕ
table_size = items_most

abbrev pub site_size : ℕ
site_size = stamp_size + table_size

abbrev pub site_from : List ℕ → List ℕ → Site
site_from s t = record { stamp = stamp_in s; table = table_in t }

unfoldable pub site_in : List ℕ → Site
site_in w = site_from (part w 0 stamp_size) (part w stamp_size table_size)

-- its timestamp's words say at most eight tuples
unfoldable pub site_range : List ℕ → Bool
site_range w = stamp_range w

-- what a call leaves of a site's words
abbrev pub Changed : List ℕ → List ℕ → (Site → Site) → Type 0
Changed entry exit step = Stepped site_size site_in site_range step entry exit

-- what a commit of n operations `os` leaves, and the words of the operations that it answers: 0 throughout where the words are no site
pub record Committed (entry exit : List ℕ) (n : ℕ) (os : List Op) (answered : List ℕ) : Type 0 where
  pub changed : Changed entry exit (committed os)
  pub sized : length entry ≡ site_size → OpsLaid n (worked (site_in entry).table os).ops answered
  pub unsized : (length entry ≡ site_size → ⊥) → OpsLaid 0 [] answered
