-- Sites out of bytes.
use Rattle.std.specs.Prelude.{◌≡◌, Option, Some, None, Result, Ok, Err}
use Rattle.site_core.specs.declared.site_stop.SiteStop.{SiteStop}
use Rattle.site_core.specs.declared.site_stop.SiteStop.TheVariants.{Bad, Memory}

-- exactly the site that the bytes say, and `Bad` exactly where they say none; or `Memory`
abbrev pub ReadsSite : {S : Type 0} → Result S SiteStop → Option S → Type 0
ReadsSite (Ok site) said = said ≡ Some site
ReadsSite (Err Bad) said = said ≡ None
ReadsSite (Err Memory) said = Unit {0}
