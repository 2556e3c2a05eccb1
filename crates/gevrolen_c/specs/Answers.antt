-- The structs that C lends, as words: what each call writes to them, all of it on each call, zeros where it is refused.
use Rattle.std.specs.Prelude.{◌≡◌, cond, List, [], ◌∷◌, ◌++◌, ℕ, ◌+◌, ◌-◌, length, get_or, drop, eqb}
use Rattle.limits.specs.Limits.{ops_most, items_most}
use Rattle.words.specs.Words.{part}
use Rattle.timestamp_words.specs.InWords.{stamp_words}
use Rattle.protocol.specs.Calls.{Call, Outcome, perform}
use Rattle.network_layout.specs.InWords.{meaning}
use Rattle.network_waiting.specs.Report.{report_answer}
use Rattle.network_readers.specs.Readers.{table_answer, held_answer, arrived_answer}
use Rattle.network_base.specs.Base.{folded_answer, base_answer}
use Rattle.network_origin.specs.Answer.{origin_in}
use Rattle.script_notation.specs.Fields.{position}
use Rattle.console_notation.specs.Lines.{newline, used}
use Rattle.console_lines.specs.Promises.{Walked}
use Rattle.c_fields.specs.Fields.{origin_words}
use Rattle.c_answers.specs.Answers.{listed, value_words, base_words}
use Rattle.history_file.specs.File.{trailer_size}
use Rattle.history_file.specs.Reading.{file_number, history_read}
use Rattle.history_file.specs.Promises.{part_answered, places_answered}

-- ---- the steps
abbrev pub committed_words : Outcome → List ℕ
committed_words o = stamp_words o.stamp ++ listed ops_most (value_words o.values)

abbrev pub dummied_words : Outcome → List ℕ
dummied_words o = stamp_words o.stamp

abbrev pub scheduled_words : Outcome → List ℕ
scheduled_words o = o.parent ∷ stamp_words o.stamp

-- a call on the words of a state: its number, the words of its answer, and the state afterwards, every word as it was where it is refused
pub record Answered (call : Call) (answerWords : Outcome → List ℕ) (entry exit : List ℕ) (number : ℕ) (answer : List ℕ) : Type 0 where
  pub number_is : number ≡ (perform (meaning entry) call).number
  pub answer_is : answer ≡ answerWords (perform (meaning entry) call)
  pub after_is : meaning exit ≡ (perform (meaning entry) call).after
  pub kept : (number ≡ 0 → ⊥) → exit ≡ entry

-- ---- the calls that only look
abbrev pub report_words : ℕ → List ℕ → List ℕ
report_words site w = listed items_most (report_answer site w)

abbrev pub table_words : ℕ → List ℕ → List ℕ
table_words site w = listed items_most (value_words (table_answer site w))

abbrev pub line_words : ℕ → ℕ → List ℕ → List ℕ
line_words parent child w = held_answer parent child w ∷ (arrived_answer parent child w ∷ [])

abbrev pub origin_laid : ℕ → ℕ → List ℕ → List ℕ
origin_laid reader operation w = origin_words (origin_in (meaning w) reader operation)

abbrev pub base_laid : List ℕ → List ℕ
base_laid w = base_words (folded_answer w) (base_answer w)

-- ---- the history file
-- where its part starts in the buffer: before the trailer, as far as it is long
abbrev pub start_answered : List ℕ → ℕ
start_answered b = cond (eqb (file_number b) 0) (length b - trailer_size - length (part_answered b)) 0

abbrev pub file_words : List ℕ → List ℕ
file_words b =
    start_answered b
    ∷ (length (part_answered b) ∷ (length (history_read b).records ∷ ((history_read b).sites ∷ ((history_read b).items ∷ []))))

-- the part is that of the buffer from there on, and beside it are the places of the sites and the base
pub record FileRead (b : List ℕ) (number : ℕ) (answer places base : List ℕ) : Type 0 where
  pub number_is : number ≡ file_number b
  pub answer_is : answer ≡ file_words b
  pub places_are : places ≡ places_answered b
  pub base_is : base ≡ base_words (history_read b).folded (history_read b).base
  pub part_is : part b (get_or answer 0 0) (get_or answer 1 0) ≡ part_answered b

-- ---- many lines
-- how far they came: the bytes that are answered, up to the start of a line that does not end in them or finds no room, and the bytes of the answers
pub record LinesRun (text entry exit out₀ out progress : List ℕ) : Type 0 where
  pub walked : Walked text entry exit out₀ out 0 (get_or progress 0 0) (get_or progress 1 0)
  pub used_is : get_or progress 0 0 + position newline (drop (get_or progress 0 0) text) ≡ used (meaning entry) (length out₀) 0 [] text
