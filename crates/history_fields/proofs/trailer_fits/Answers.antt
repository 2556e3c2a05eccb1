-- `trailer_fits` tests the sites, the items, the flags and the last byte.
use native.Mathlib.Omega.{arith}
use Rattle.history_file.proofs.Files.{no_sites, many_sites, no_items, many_items, other_flag, trailer_last}
use Rattle.history_fields.proofs.trailer_fits.Goals as goal

pub returns-then-sites-lt1 : goal.returns-then-sites-lt1
returns-then-sites-lt1 c =
    no_sites c.args.b.now c.sites_said-sites.result c.items_said-items.result c.flag_said-flag.result c.last_said-last.result c.sites_said-sites.ensures c.items_said-items.ensures c.flag_said-flag.ensures c.last_said-last.ensures c.if-sites-lt1.true

pub returns-then-sites-gt8 : goal.returns-then-sites-gt8
returns-then-sites-gt8 c =
    many_sites c.args.b.now c.sites_said-sites.result c.items_said-items.result c.flag_said-flag.result c.last_said-last.result c.sites_said-sites.ensures c.items_said-items.ensures c.flag_said-flag.ensures c.last_said-last.ensures c.if-sites-lt1.false c.if-sites-gt8.true

pub returns-then-items-lt1 : goal.returns-then-items-lt1
returns-then-items-lt1 c =
    no_items c.args.b.now c.sites_said-sites.result c.items_said-items.result c.flag_said-flag.result c.last_said-last.result c.sites_said-sites.ensures c.items_said-items.ensures c.flag_said-flag.ensures c.last_said-last.ensures c.if-sites-lt1.false c.if-sites-gt8.false c.if-items-lt1.true

pub returns-then-items-gt64 : goal.returns-then-items-gt64
returns-then-items-gt64 c =
    many_items c.args.b.now c.sites_said-sites.result c.items_said-items.result c.flag_said-flag.result c.last_said-last.result c.sites_said-sites.ensures c.items_said-items.ensures c.flag_said-flag.ensures c.last_said-last.ensures c.if-sites-lt1.false c.if-sites-gt8.false c.if-items-lt1.false c.if-items-gt64.true

pub returns-then-flag-gt-FLAGS : goal.returns-then-flag-gt-FLAGS
returns-then-flag-gt-FLAGS c =
    other_flag c.args.b.now c.sites_said-sites.result c.items_said-items.result c.flag_said-flag.result c.last_said-last.result c.sites_said-sites.ensures c.items_said-items.ensures c.flag_said-flag.ensures c.last_said-last.ensures c.if-sites-lt1.false c.if-sites-gt8.false c.if-items-lt1.false c.if-items-gt64.false (omega (arith, c.if-flag-gt-FLAGS.true))

pub returns : goal.returns
returns c =
    trailer_last c.args.b.now c.sites_said-sites.result c.items_said-items.result c.flag_said-flag.result c.last_said-last.result c.sites_said-sites.ensures c.items_said-items.ensures c.flag_said-flag.ensures c.last_said-last.ensures c.if-sites-lt1.false c.if-sites-gt8.false c.if-items-lt1.false c.if-items-gt64.false (omega (arith, c.if-flag-gt-FLAGS.false))
