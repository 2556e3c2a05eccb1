-- What the functions that read a file's part ask of the bytes that the file ends.
use Rattle.std.specs.Prelude.{◌≡◌, List, ℕ, ◌≤◌, ◌<◌, length}
use Rattle.limits.specs.Limits.{sites_most, items_most}
use Rattle.history_file.specs.File.{trailer_size}
use Rattle.history_file.specs.Reading.{count_read, distance_read, sites_read, items_read, file_number, history_read}
use Rattle.history_file.specs.Promises.{places_answered}
use Rattle.history_fields.specs.Asked.{Led}

-- a trailer, and a distance that reaches over it and stays within the bytes
pub record Reached (b : List ℕ) : Type 0 where
  pub long : trailer_size ≤ length b
  pub low : trailer_size ≤ distance_read b
  pub high : distance_read b ≤ length b

-- a distance that reaches over what leads the records too, of eight sites at most; of 64 items at most
pub record Placed (b : List ℕ) : Type 0 where
  pub led : Led b
  pub few : sites_read b ≤ sites_most

pub record Valued (b : List ℕ) : Type 0 where
  pub led : Led b
  pub few : items_read b ≤ items_most

-- a file that is not refused and has a record of that number, and what it says of its group
pub record Numbered (b : List ℕ) (k sites items : ℕ) (places : List ℕ) : Type 0 where
  pub accepted : file_number b ≡ 0
  pub inside : k < count_read b
  pub sites_are : sites ≡ (history_read b).sites
  pub items_are : items ≡ (history_read b).items
  pub places_are : places ≡ places_answered b
