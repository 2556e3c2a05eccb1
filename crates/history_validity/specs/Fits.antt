-- What is asked of a record's bytes, with its 00 bytes.
use Rattle.std.specs.Prelude.{Bool, ◌&&◌, List, ℕ}
use Rattle.records.specs.Records.{record_fits}
use Rattle.history_file.specs.Reading.{record_read, pads_zero}

-- a whole record, each site at its `place`
abbrev pub fields_fit : (ℕ → ℕ) → ℕ → ℕ → List ℕ → Bool
fields_fit place sites items b = pads_zero b && record_fits place sites items (record_read b)
