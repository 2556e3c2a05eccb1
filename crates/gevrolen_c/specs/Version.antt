-- The library's version: layout or a signature raises the middle number, a mended fault the last.
use Rattle.std.specs.Prelude.{ℕ, ◌+◌, ◌*◌}

abbrev pub major : ℕ
major = 0

abbrev pub minor : ℕ
minor = 8

abbrev pub patch : ℕ
patch = 0

abbrev pub version : ℕ
version = major * 10000 + minor * 100 + patch
