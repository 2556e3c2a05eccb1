-- The calls that differ in nothing but the step: those of a site, and those of two numbers.
use Rattle.std.specs.Prelude.{Bool, cond, ℕ}
use Rattle.protocol.specs.Calls.{Call, dummy, epoch, deliver, schedule}

abbrev pub site_call : Bool → ℕ → Call
site_call schedules = cond schedules schedule dummy

abbrev pub pair_call : Bool → ℕ → ℕ → Call
pair_call delivers = cond delivers deliver epoch
