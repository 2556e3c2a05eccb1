-- Three bookings on a table in which item 0 has 7 and item 1 has 3, and what their reads give.
use Rattle.std.specs.Prelude.{List, [], ◌∷◌, ℕ, ℤ, pos}
use Rattle.site_operations.specs.Operations.{Op}

abbrev pub read : ℕ → Op
read x = record { kind = 0; item = x; value = pos 0 }

abbrev pub write : ℕ → ℕ → Op
write x v = record { kind = 1; item = x; value = pos v }

abbrev pub table_before : List ℤ
table_before = pos 7 ∷ (pos 3 ∷ [])

-- a read on either side of a write; a read after each of two writes; a read of another item than the one written
abbrev pub bookings : List (List Op)
bookings =
    (read 0 ∷ (write 0 5 ∷ (read 0 ∷ [])))
    ∷ ((write 0 1 ∷ (read 0 ∷ (write 0 2 ∷ (read 0 ∷ []))))
    ∷ ((write 0 5 ∷ (read 1 ∷ [])) ∷ []))

abbrev pub readings : List (List ℤ)
readings = (pos 7 ∷ (pos 5 ∷ [])) ∷ ((pos 1 ∷ (pos 2 ∷ [])) ∷ ((pos 3 ∷ []) ∷ []))
