-- One site: its table and its timestamp, and what a commit, a dummy, an epoch and an arriving message do to it.
use Rattle.std.specs.Prelude.{List, ℕ, ℤ}
use Rattle.timestamp_order.specs.Timestamp.{Stamp, with_epoch, appended_or_same, raised_or_same, own_site, own_count}
use Rattle.site_operations.specs.Operations.{Op, worked}

-- a site. Its own number is the site of its timestamp's last tuple.
pub record Site : Type 0 where
  pub table : List ℤ
  pub stamp : Stamp

-- a commit: its operations, and the own count one higher
abbrev pub committed : List Op → Site → Site
committed os s = record { table = (worked s.table os).table; stamp = raised_or_same s.stamp }

-- a dummy: a commit without operations
abbrev pub dummied : Site → Site
dummied s = record { table = s.table; stamp = raised_or_same s.stamp }

-- another epoch; the tuples stay
abbrev pub at_epoch : ℕ → Site → Site
at_epoch e s = record { table = s.table; stamp = with_epoch s.stamp e }

-- a message: its writes, and its timestamp with the site's own tuple, count as before, added
abbrev pub received : List Op → Stamp → Site → Site
received os t s =
    record {
      table = (worked s.table os).table;
      stamp = appended_or_same t (own_site s.stamp) (own_count s.stamp);
    }
