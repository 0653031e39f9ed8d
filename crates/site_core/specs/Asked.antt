-- What may be asked of a site, where S are sites.
use Rattle.std.specs.Prelude.{List, map}
use Rattle.res_core.specs.Asked as requests
use Rattle.res_core.specs.Asked.{Wanted}
use Rattle.agent_machine.specs.declared.report.Report.{Report}
use Rattle.site_core.specs.declared.plain.Plain.{Plain}
use Rattle.site_core.specs.declared.plain.Plain.TheVariants as ask

-- a catalog for a node, or a plain entry
pub data Asked (S : Type 0) : Type 0 where
  compile : Wanted → Asked S
  plain : Plain S → Asked S

module _ {S : Type 0} where
  -- what is asked for by whoever files a report: an entry with it and its node
  abbrev pub filed : Report → Plain S
  filed report = ask.Report report.node report

  -- what a request of a bundle asks of a site
  abbrev pub asks : requests.Asked → Asked S
  asks (requests.compile w) = compile w
  asks (requests.deactivate node) = plain (ask.Deactivate node)

  abbrev pub all_asks : List requests.Asked → List (Asked S)
  all_asks = map asks
