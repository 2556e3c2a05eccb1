-- How many sites, items and records there may be.
use Rattle.std.specs.Prelude.{Bool, ◌&&◌, ℕ, leb}
use Rattle.limits.specs.Limits.{sites_most, items_most, records_most}

abbrev pub counts_fit : ℕ → ℕ → ℕ → Bool
counts_fit sites items made = leb 1 sites && (leb sites sites_most && (leb 1 items && (leb items items_most && leb made records_most)))
