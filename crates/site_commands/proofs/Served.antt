-- From the parts of a service to how the run ended, and its status.
use Rattle.std.proofs.Common.{◌≡◌, ◌⊎◌, ◌≤◌, ℕ, Bool, true, false, List, sym, ap, subst, refl, inl, inr, arith}
use Rattle.std.specs.Prelude.{if◌then◌else◌, [], ◌∷◌, codes}
use Rattle.std.specs.List.{list_any}
use Rattle.command_outputs.specs.Lines.{line}
use Rattle.compile_core.specs.Puppet.{puppet, listed, said_site}
use Rattle.site_bundle.specs.SiteView.{SiteView}
use Rattle.site_bundle.specs.declared.bundle.Bundle.{Bundle}
use Rattle.site_core.specs.Events.{Event, opens}
use Rattle.site_core.specs.declared.history.TheConstants.{MOST_ENTRIES}
use Rattle.site_docs.specs.CatalogText.{catalog_text}
use Rattle.site_docs.specs.FaultText.{fault_text}
use Rattle.site_docs.specs.JournalText.{journal_text}
use Rattle.site_io.specs.Net.{Net}
use Rattle.site_io.specs.Stream.{Stream, Rose, HasWritten}
use Rattle.site_io.proofs.Streams.{Rose-after}
use Rattle.site_serve.specs.Ends.{dialect}
use Rattle.site_serve.specs.declared.conn_end.ConnEnd.{ConnEnd}
use Rattle.site_service.specs.Served.{HasServedAll, IsWhy}
use Rattle.site_service.specs.declared.service_stop.ServiceStop.{ServiceStop}
use Rattle.site_service.specs.declared.service_stop.ServiceStop.TheVariants as s
use Rattle.site_words.specs.Asked as a
use Rattle.site_commands.proofs.Worked.{IsOfWork, either_of_work, ends_worked}
use Rattle.site_commands.specs.Endings.{Ends}
use Rattle.site_commands.specs.Inputs.{folder, site, HasInput}
use Rattle.site_commands.specs.Serving.{is_memory, stop_ending, service_ending, end_lines, EndsSaying, TellsService, TellsServed, Serves, ServesFrom}
use Rattle.site_commands.specs.Settled.{IsFaultStatus}
use Rattle.site_commands.specs.Status.{status_of}
use Rattle.site_commands.specs.Work.{HasLogged}
use Rattle.site_commands.specs.World.{World, Says}
use Rattle.site_commands.specs.declared.ending.Ending.{Ending}
use Rattle.site_commands.specs.declared.ending.Ending.TheVariants as e

-- ---- what is told

-- what is told of a service behind the journal and the lines, by whether memory was wanting, and why no more connections
-- were taken
told_by : (ending : Ending) (short : Bool) (why : ServiceStop) (journal lines : List ℕ)
    (out out' err logged err' : Stream) → HasWritten journal out out' → HasLogged lines err logged →
    EndsSaying ending (if short then e.Memory else stop_ending why) logged err' →
    TellsService ending (if short then e.Memory else stop_ending why) journal lines out out' err err'
told_by ending true why journal lines out out' err logged err' wrote log (is, last) =
    subst (λ x. TellsService x e.Memory journal lines out out' err err') (sym is)
    (refl, record { journal_is = wrote; logged = logged; lines_are = log; last = last })
told_by ending false s.Counted journal lines out out' err logged err' wrote log (is, last) =
    subst (λ x. TellsService x e.Done journal lines out out' err err') (sym is)
    (refl, record { journal_is = wrote; logged = logged; lines_are = log; last = last })
told_by ending false s.Closed journal lines out out' err logged err' wrote log (is, last) =
    subst (λ x. TellsService x e.Done journal lines out out' err err') (sym is)
    (refl, record { journal_is = wrote; logged = logged; lines_are = log; last = last })
told_by e.WriteFault false s.NetFault journal lines out out' err logged err' wrote log lost =
    inr (inr (record { whole_is = refl; journal_is = wrote; logged = logged; lines_are = log; lost = lost }))
told_by ending false s.NetFault journal lines out out' err logged err' wrote log (is, last) =
    subst (λ x. TellsService x e.NetFault journal lines out out' err err') (sym is)
    (refl, record { journal_is = wrote; logged = logged; lines_are = log; last = last })

pub tells_last : (ending whole : Ending) (ends : List ConnEnd) (why : ServiceStop) (journal lines : List ℕ)
    (out out' err logged err' : Stream) → whole ≡ service_ending ends why → HasWritten journal out out' →
    HasLogged lines err logged → EndsSaying ending whole logged err' →
    TellsService ending (service_ending ends why) journal lines out out' err err'
tells_last ending whole ends why journal lines out out' err logged err' same wrote log last =
    told_by ending (list_any is_memory ends) why journal lines out out' err logged err' wrote log
    (subst (λ x. EndsSaying ending x logged err') same last)

tells_ending : (ending whole : Ending) (journal lines : List ℕ) (out out' err err' : Stream) →
    TellsService ending whole journal lines out out' err err' → (ending ≡ whole) ⊎ (ending ≡ e.WriteFault)
tells_ending e.WriteFault whole journal lines out out' err err' did = inr refl
tells_ending ending whole journal lines out out' err err' did = inl did.0

-- the texts were those of the service
pub served_tells : (ending : Ending) (history : List (Event SiteView)) (ends : List ConnEnd) (why : ServiceStop)
    (journal lines : List ℕ) (out out' err err' : Stream) → journal ≡ journal_text history → lines ≡ end_lines 1 ends →
    TellsService ending (service_ending ends why) journal lines out out' err err' →
    TellsServed ending history ends why out out' err err'
served_tells e.Memory history ends why journal lines out out' err err' first second did =
    inr (subst (λ t. TellsService e.Memory (service_ending ends why) t (end_lines 1 ends) out out' err err') first
    (subst (λ t. TellsService e.Memory (service_ending ends why) journal t out out' err err') second did))
served_tells ending history ends why journal lines out out' err err' first second did =
    subst (λ t. TellsService ending (service_ending ends why) t (end_lines 1 ends) out out' err err') first
    (subst (λ t. TellsService ending (service_ending ends why) journal t out out' err err') second did)

-- ---- what came of the service

module _ (base : ℕ) (first : List (Event SiteView)) (count : ℕ) (out out' err err' : Stream) (n n' : Net) where
  -- connections were served, and told of
  pub serves_told : (ending : Ending) (history : List (Event SiteView)) (ends : List ConnEnd) (why : ServiceStop) →
      HasServedAll puppet listed (dialect said_site catalog_text fault_text) MOST_ENTRIES base first count n n' ends why
      history → TellsServed ending history ends why out out' err err' →
      ServesFrom ending base first count out out' err err' n n'
  serves_told e.Memory history ends why served (inl did) =
      inl (did, inr (record { history = history; ends = ends; why = why; served = served }))
  serves_told e.Memory history ends why served (inr did) =
      inr (record { served = record { history = history; ends = ends; why = why; served = served }; told = did })
  serves_told ending history ends why served did =
      record { served = record { history = history; ends = ends; why = why; served = served }; told = did }

  -- memory was wanting before the listener was called
  pub serves_lacking : (ending : Ending) → ending ≡ e.Memory → Says (line (codes "memory")) err err' → out' ≡ out →
      n' ≡ n → ServesFrom ending base first count out out' err err' n n'
  serves_lacking ending is said same net =
      subst (λ x. ServesFrom x base first count out out' err err' n n') (sym is) (inl ((said, same), inl net))

-- ---- how the run ended

by_service : (short : Bool) (why : ServiceStop) → IsOfWork (if short then e.Memory else stop_ending why)
by_service true why = tt
by_service false s.Counted = tt
by_service false s.Closed = tt
by_service false s.NetFault = tt

pub served_of_work : (ending : Ending) (base : ℕ) (first : List (Event SiteView)) (count : ℕ) (out out' err err' : Stream)
    (n n' : Net) → ServesFrom ending base first count out out' err err' n n' → IsOfWork ending
served_of_work e.Memory base first count out out' err err' n n' did = tt
served_of_work ending base first count out out' err err' n n' did =
    either_of_work ending (service_ending did.served.ends did.served.why)
    (by_service (list_any is_memory did.served.ends) did.served.why)
    (tells_ending ending (service_ending did.served.ends did.served.why) (journal_text did.served.history)
    (end_lines 1 did.served.ends) out out' err err' did.told)

pub ends_served : (ending : Ending) (port count : ℕ) (dir : List ℕ) (said : Bundle) (before after : World) →
    HasInput (folder dir) (site said) before.source after.source before.folder after.folder →
    after.machine ≡ before.machine →
    Serves ending said.site count before.out after.out before.err after.err before.net after.net →
    Ends ending (a.serve port count dir) before after
ends_served ending port count dir said before after read machine did =
    ends_worked ending (a.serve port count dir) before after
    (served_of_work ending 0 (opens said.site ∷ []) count before.out after.out before.err after.err before.net after.net
    did)
    (record { input = site said; read = read; work = (did, machine) })

-- ---- its status

status_by : (short : Bool) (why : ServiceStop) →
    (status_of (if short then e.Memory else stop_ending why) ≡ 0)
    ⊎ IsFaultStatus (status_of (if short then e.Memory else stop_ending why))
status_by true why = inr (inr (inr (inr (inr refl))))
status_by false s.Counted = inl refl
status_by false s.Closed = inl refl
status_by false s.NetFault = inr (inr (inr (inl refl)))

pub served_status : (ending : Ending) (base : ℕ) (first : List (Event SiteView)) (count : ℕ)
    (out out' err err' : Stream) (n n' : Net) → ServesFrom ending base first count out out' err err' n n' →
    (status_of ending ≡ 0) ⊎ IsFaultStatus (status_of ending)
served_status e.Memory base first count out out' err err' n n' did = inr (inr (inr (inr (inr refl))))
served_status ending base first count out out' err err' n n' did =
    elim (tells_ending ending (service_ending did.served.ends did.served.why) (journal_text did.served.history)
    (end_lines 1 did.served.ends) out out' err err' did.told) [
      | inl is ↦ subst (λ x. (status_of x ≡ 0) ⊎ IsFaultStatus (status_of x)) (sym is)
          (status_by (list_any is_memory did.served.ends) did.served.why)
      | inr is ↦ inr (inr (inl (ap status_of is)))
    ]

-- ---- its faults

-- no fault is taken back by a log
logged_later : (text : List ℕ) (before after : Stream) → HasLogged text before after → before.faults ≤ after.faults
logged_later [] before after same = omega (arith, ap (λ x. x.faults) same)
logged_later (b ∷ bs) before after wrote = wrote.later

pub served_sinks : (base : ℕ) (first : List (Event SiteView)) (count : ℕ) (out out' err err' : Stream) (n n' : Net) →
    ServesFrom e.WriteFault base first count out out' err err' n n' →
    Rose out.faults out'.faults ⊎ Rose err.faults err'.faults
served_sinks base first count out out' err err' n n' did =
    elim did.told [
      | inl wrote ↦ inl wrote.0.0
      | inr rest ↦ elim rest [
        | inl wrote ↦ inr wrote.1.0
        | inr lost ↦ inr (Rose-after err.faults lost.logged.faults err'.faults
            (logged_later (end_lines 1 did.served.ends) err lost.logged lost.lines_are) lost.lost.0)
      ]
    ]

net_by : (short : Bool) (why : ServiceStop) → e.NetFault ≡ (if short then e.Memory else stop_ending why) → why ≡ s.NetFault
net_by true why is = cc
net_by false s.Counted is = cc
net_by false s.Closed is = cc
net_by false s.NetFault is = refl

pub served_net : (base : ℕ) (first : List (Event SiteView)) (count : ℕ) (out out' err err' : Stream) (n n' : Net) →
    ServesFrom e.NetFault base first count out out' err err' n n' → Rose n.faults n'.faults
served_net base first count out out' err err' n n' did =
    subst (λ w. IsWhy w count did.served.served.taken n n')
    (net_by (list_any is_memory did.served.ends) did.served.why did.told.0) did.served.served.why_is
