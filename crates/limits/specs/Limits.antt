-- The scope's limits.
use Rattle.std.specs.Prelude.{ℕ}

-- the most sites of a group
abbrev pub sites_most : ℕ
sites_most = 8

-- the most items of a group
abbrev pub items_most : ℕ
items_most = 64

-- the most operations of a commit
abbrev pub ops_most : ℕ
ops_most = 8

-- the most messages of a line, on the way and arrived together
abbrev pub held_most : ℕ
held_most = 16

-- the most commits of a history
abbrev pub records_most : ℕ
records_most = 256
