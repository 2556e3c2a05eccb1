-- The worked examples of the file: its 40 bytes, after the first two lines of the script; a file with a table of places, after a set-up; one
-- with base values, after a collect, and one with both; and files that are refused for what leads them.
use Rattle.std.specs.Prelude.{◌≡◌, List, [], ◌∷◌, ◌++◌, ℕ, pos}
use Rattle.std.proofs.Math.Option.{Option, none, some}
use Rattle.protocol.specs.Network.{Network}
use Rattle.protocol.specs.Calls.{Call, set_up, commit, dummy, deliver, schedule, collect, perform}
use Rattle.history_file.specs.File.{history_of, file_of}
use Rattle.history_file.specs.Reading.{file_number}

-- the state after some calls
abbrev pub state_after : Option Network → List Call → Option Network
state_after s [] = s
state_after s (c ∷ cs) = state_after (perform s c).after cs

-- p 3 2 0 6 1 4, then c 0 w0=5
abbrev pub example_state : Option Network
example_state = state_after none (set_up 3 2 (0 ∷ (1 ∷ [])) (6 ∷ (4 ∷ [])) ∷ (commit 0 (1 ∷ []) (0 ∷ []) (pos 5 ∷ []) ∷ []))

abbrev pub file_after : Option Network → List ℕ
file_after none = []
file_after (some n) = file_of (history_of n)

abbrev pub example_bytes : List ℕ
example_bytes =
    0x00 ∷ 0x01 ∷ 0x01 ∷ 0x00 ∷ 0x00 ∷ 0x00 ∷ 0x00 ∷ 0x00
    ∷ 0x00 ∷ 0x00 ∷ 0x00 ∷ 0x00 ∷ 0x01 ∷ 0x00 ∷ 0x00 ∷ 0x00
    ∷ 0x01 ∷ 0x00 ∷ 0x00 ∷ 0x00 ∷ 0x05 ∷ 0x00 ∷ 0x00 ∷ 0x00
    ∷ 0x53 ∷ 0x45 ∷ 0x41 ∷ 0x54 ∷ 0x01 ∷ 0x00 ∷ 0x00 ∷ 0x00
    ∷ 0x28 ∷ 0x00 ∷ 0x00 ∷ 0x00 ∷ 0x03 ∷ 0x02 ∷ 0x00 ∷ 0x00 ∷ []

-- p 4 2 3 5 0 4, which puts the sites in the order 1, 3, 0, 2
abbrev pub table_state : Option Network
table_state = state_after none (set_up 4 2 (3 ∷ (0 ∷ [])) (5 ∷ (4 ∷ [])) ∷ [])

abbrev pub table_bytes : List ℕ
table_bytes =
    0x02 ∷ 0x00 ∷ 0x03 ∷ 0x01
    ∷ 0x53 ∷ 0x45 ∷ 0x41 ∷ 0x54 ∷ 0x00 ∷ 0x00 ∷ 0x00 ∷ 0x00
    ∷ 0x14 ∷ 0x00 ∷ 0x00 ∷ 0x00 ∷ 0x04 ∷ 0x02 ∷ 0x01 ∷ 0x00 ∷ []

-- the first two lines again, then l 0 1, l 0 2, s 1, d 1, l 1 2 and s 2, after which every site has heard of the commit; and a collect, which removes it
abbrev pub folded_state : Option Network
folded_state = state_after example_state (deliver 0 1 ∷ deliver 0 2 ∷ schedule 1 ∷ dummy 1 ∷ deliver 1 2 ∷ schedule 2 ∷ collect ∷ [])

abbrev pub folded_bytes : List ℕ
folded_bytes =
    0x05 ∷ 0x00 ∷ 0x00 ∷ 0x00 ∷ 0x00 ∷ 0x00 ∷ 0x00 ∷ 0x00
    ∷ 0x53 ∷ 0x45 ∷ 0x41 ∷ 0x54 ∷ 0x00 ∷ 0x00 ∷ 0x00 ∷ 0x00
    ∷ 0x18 ∷ 0x00 ∷ 0x00 ∷ 0x00 ∷ 0x03 ∷ 0x02 ∷ 0x02 ∷ 0x00 ∷ []

-- p 3 3 2 3 0 2 1 0, which puts the sites in the order 2, 0, 1; c 2 w0=5, l 2 0, s 0, c 0 r0 w1=7, l 0 1, l 2 1, s 1; and a collect, which removes the first commit
abbrev pub both_state : Option Network
both_state =
    state_after none
    (set_up 3 3 (2 ∷ (0 ∷ (1 ∷ []))) (3 ∷ (2 ∷ (0 ∷ [])))
    ∷ commit 2 (1 ∷ []) (0 ∷ []) (pos 5 ∷ [])
    ∷ deliver 2 0
    ∷ schedule 0
    ∷ commit 0 (0 ∷ (1 ∷ [])) (0 ∷ (1 ∷ [])) (pos 0 ∷ (pos 7 ∷ []))
    ∷ deliver 0 1
    ∷ deliver 2 1
    ∷ schedule 1
    ∷ collect
    ∷ [])

abbrev pub both_bytes : List ℕ
both_bytes =
    0x01 ∷ 0x02 ∷ 0x00
    ∷ 0x05 ∷ 0x00 ∷ 0x00 ∷ 0x00 ∷ 0x00 ∷ 0x00 ∷ 0x00 ∷ 0x00 ∷ 0x00 ∷ 0x00 ∷ 0x00 ∷ 0x00
    ∷ 0x00 ∷ 0x02 ∷ 0x02 ∷ 0x00 ∷ 0x00 ∷ 0x00 ∷ 0x00 ∷ 0x00
    ∷ 0x02 ∷ 0x00 ∷ 0x00 ∷ 0x00 ∷ 0x01 ∷ 0x00 ∷ 0x00 ∷ 0x00
    ∷ 0x00 ∷ 0x00 ∷ 0x00 ∷ 0x00 ∷ 0x01 ∷ 0x00 ∷ 0x00 ∷ 0x00
    ∷ 0x00 ∷ 0x00 ∷ 0x00 ∷ 0x00 ∷ 0x05 ∷ 0x00 ∷ 0x00 ∷ 0x00
    ∷ 0x01 ∷ 0x01 ∷ 0x00 ∷ 0x00 ∷ 0x07 ∷ 0x00 ∷ 0x00 ∷ 0x00
    ∷ 0x53 ∷ 0x45 ∷ 0x41 ∷ 0x54 ∷ 0x01 ∷ 0x00 ∷ 0x00 ∷ 0x00
    ∷ 0x47 ∷ 0x00 ∷ 0x00 ∷ 0x00 ∷ 0x03 ∷ 0x03 ∷ 0x03 ∷ 0x00 ∷ []

-- a table of four places, or another lead, with a trailer of no records, of that distance and with that flag byte
abbrev pub tabled : List ℕ → ℕ → ℕ → List ℕ
tabled table distance flag =
    table
    ++ (0x53 ∷ 0x45 ∷ 0x41 ∷ 0x54 ∷ 0x00 ∷ 0x00 ∷ 0x00 ∷ 0x00
    ∷ distance ∷ 0x00 ∷ 0x00 ∷ 0x00 ∷ 0x04 ∷ 0x02 ∷ flag ∷ 0x00 ∷ [])

-- a table of four places and two base values
abbrev pub both : List ℕ
both = 2 ∷ 0 ∷ 3 ∷ 1 ∷ 5 ∷ 0 ∷ 0 ∷ 0 ∷ 0 ∷ 0 ∷ 0 ∷ 0 ∷ []

pub record LeadsRefused : Type 0 where
  pub place_twice : file_number (tabled (2 ∷ 0 ∷ 2 ∷ 1 ∷ []) 20 1) ≡ 23
  pub place_missing : file_number (tabled (2 ∷ 0 ∷ 4 ∷ 1 ∷ []) 20 1) ≡ 23
  pub numbers : file_number (tabled (0 ∷ 1 ∷ 2 ∷ 3 ∷ []) 20 1) ≡ 23
  pub flag_of_4 : file_number (tabled [] 16 4) ≡ 23
  pub too_near : file_number (tabled (2 ∷ 0 ∷ 3 ∷ 1 ∷ []) 19 1) ≡ 23
  pub no_values : file_number (tabled (2 ∷ 0 ∷ 3 ∷ 1 ∷ []) 20 2) ≡ 23
  pub values_too_near : file_number (tabled (5 ∷ 0 ∷ 0 ∷ 0 ∷ 0 ∷ 0 ∷ 0 ∷ 0 ∷ []) 23 2) ≡ 23
  pub values_unsaid : file_number (tabled both 28 1) ≡ 23
