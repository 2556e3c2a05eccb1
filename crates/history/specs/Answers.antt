-- What a check of a file answers.
use Rattle.std.specs.Prelude.{◌≡◌, Bool, List, ℕ, ℤ, length}
use Rattle.history_file.specs.declared.Checked.{Checked}
use Rattle.history_file.specs.Reading.{file_number, history_read}
use Rattle.history_file.specs.Promises.{part_answered, places_answered, base_answered}

-- beside its part: the places of its sites, whether a record was removed, and its base values
pub record Says (b places : List ℕ) (folded : Bool) (base : List ℤ) : Type 0 where
  pub places_are : places ≡ places_answered b
  pub folded_is : folded ≡ (history_read b).folded
  pub base_is : base ≡ base_answered b

-- its number, how many records, sites and items and how long a part the history in the bytes has, and what it says beside the part
pub record Checks (b : List ℕ) (r : Checked) : Type 0 where
  pub number_is : r.number ≡ file_number b
  pub records_are : r.records ≡ length (history_read b).records
  pub sites_are : r.sites ≡ (history_read b).sites
  pub items_are : r.items ≡ (history_read b).items
  pub length_is : r.length ≡ length (part_answered b)
  pub beside : Says b r.places r.folded r.base
