-- What the contracts of the calls say.
use Rattle.std.specs.Prelude.{◌≡◌, cond, List, [], ◌∷◌, ◌++◌, map, ℕ, zero, suc, ◌+◌, ℤ, pos, length, get_or, drop, replicate, eqb, ltb, leb}
use Rattle.std.proofs.Math.Option.{Option, none, some}
use Rattle.timestamp_order.specs.Order.{rank}
use Rattle.timestamp.specs.Value.{PlainValue}
use Rattle.site_operations.specs.Operations.{Op, no_op}
use Rattle.limits.specs.Limits.{ops_most, sites_most, items_most}
use Rattle.lists.specs.Lists.{up_to, padded}
use Rattle.lists.specs.Numbers.{first_number, number_if}
use Rattle.records.specs.Records.{Record}
use Rattle.protocol.specs.Network.{Network, no_record}
use Rattle.history_file.specs.declared.Found.{Found}
use Rattle.history_file.specs.File.{history_of, file_of}
use Rattle.history_file.specs.Reading.{file_number, history_read, part_read, places_read, record_read, record_valid, size_read, start_of}

-- ---- export: its number, the file's length, and the buffer afterwards; refused, the buffer as it was
pub record Export : Type 0 where
  pub number : ℕ
  pub size : ℕ
  pub buffer : List ℕ

-- the file over the front of the buffer
abbrev pub exported : List ℕ → List ℕ → Export
exported file b = cond (ltb (length b) (length file)) (record { number = 25; size = 0; buffer = b }) (record { number = 0; size = length file; buffer = file ++ drop (length file) b })

-- of a network, or of a state that is none
unfoldable pub export_of : Option Network → List ℕ → Export
export_of none b = record { number = 6; size = 0; buffer = b }
export_of (some n) b = exported (file_of (history_of n)) b

-- ---- read: the part, empty where refused
unfoldable pub part_answered : List ℕ → List ℕ
part_answered b = cond (eqb (file_number b) 0) (part_read b) []

-- the places beside it: of a history's sites, and the numbers behind them; 0 where refused
abbrev pub eight : List ℕ → List ℕ
eight ps = map (rank ps) (up_to 0 sites_most)

unfoldable pub places_answered : List ℕ → List ℕ
places_answered b = cond (eqb (file_number b) 0) (eight (places_read b)) (replicate sites_most 0)

-- and the history's base values, 0 in the places past them; all 0 where refused
abbrev pub sixty_four : List ℤ → List ℤ
sixty_four vs = padded items_most (pos 0) vs

abbrev pub base_answered : List ℕ → List ℤ
base_answered b = sixty_four (history_read b).base

-- ---- read one record
-- a field of n operations from number i on, that of no operation past the last
abbrev pub places_from : {A : Type 0} → (Op → A) → List Op → ℕ → ℕ → List A
places_from f os i zero = []
places_from f os i (suc n) = f (get_or os i no_op) ∷ places_from f os (suc i) n

-- what reading one record answers: its number, where the next starts in the part, and the record
pub record Step : Type 0 where
  pub number : ℕ
  pub next : ℕ
  pub found : Record

-- refused: the number alone
abbrev pub no_step : ℕ → Step
no_step k = record { number = k; next = 0; found = no_record }

-- the fields of the code's value are those of the answer, its timestamp plain; its operations stand at eight places
pub record Gives (s : Step) (r : Found) : Type 0 where
  pub number_is : r.number ≡ s.number
  pub next_is : r.next ≡ s.next
  pub site_is : r.site ≡ s.found.site
  pub stamp_is : PlainValue s.found.stamp r.stamp
  pub count_is : r.count ≡ length s.found.ops
  pub kinds_are : r.kinds ≡ places_from (λ o. o.kind) s.found.ops 0 ops_most
  pub items_are : r.items ≡ places_from (λ o. o.item) s.found.ops 0 ops_most
  pub values_are : r.values ≡ places_from (λ o. o.value) s.found.ops 0 ops_most

-- ---- by its number in a file
unfoldable pub record_number : List ℕ → ℕ → ℕ
record_number b k = first_number (file_number b ∷ number_if (leb (length (history_read b).records) k) 24 ∷ [])

unfoldable pub step_numbered : List ℕ → ℕ → Step
step_numbered b k =
    cond (eqb (record_number b k) 0) (record { number = 0; next = start_of (suc k) (part_read b); found = get_or (history_read b).records k no_record }) (no_step (record_number b k))

-- ---- by where in a part it starts, of a group of that many sites and items, each site at its `place`
abbrev pub step_at : (ℕ → ℕ) → ℕ → ℕ → ℕ → List ℕ → Step
step_at place sites items at b =
    cond (record_valid place sites items b) (record { number = 0; next = at + size_read b; found = record_read b }) (no_step 23)

unfoldable pub step_of : List ℕ → ℕ → (ℕ → ℕ) → ℕ → ℕ → Step
step_of b at place sites items = cond (leb (length b) at) (no_step 24) (step_at place sites items at (drop at b))
