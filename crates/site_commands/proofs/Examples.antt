-- What is read, how a run ends by what stands in the way, and what is told of connections, on examples.
use Rattle.std.proofs.Common.{◌≡◌, true, false, [], ◌∷◌, refl}
use Rattle.std.specs.Fmt.{digits}
use Rattle.std.specs.Prelude.{codes, Some, None, Err}
use Rattle.http_wire.specs.declared.request.H.TheVariants as h
use Rattle.site_bundle.specs.declared.bundle_stop.BundleStop.TheVariants as b
use Rattle.site_io.specs.declared.transfer.ReadStop.TheVariants as r
use Rattle.site_serve.specs.declared.conn_end.ConnEnd.TheVariants as c
use Rattle.site_service.specs.declared.service_stop.ServiceStop.TheVariants as s
use Rattle.site_words.specs.Asked as a
use Rattle.site_commands.specs.Applying.{ending_by}
use Rattle.site_bundle.specs.Refusals.{bad_shape}
use Rattle.site_commands.specs.JournalParts.{behind_last, journal_part, requests_part, requests_said}
use Rattle.site_commands.specs.Inputs.{bundle, folder, journal, resuming, reading_of, line_behind, stop_text, stop_ending, whole_of}
use Rattle.site_commands.specs.Serving.{connection_line, end_lines, service_ending}
use Rattle.site_commands.specs.declared.ending.Ending.TheVariants as e
use Rattle.site_commands.specs.declared.input.InputStop.TheVariants as i

from_source : reading_of (a.check None) ≡ bundle
from_source = refl

from_folder : reading_of (a.check (Some (codes "d"))) ≡ folder (codes "d")
from_folder = refl

too_long : stop_text (whole_of (a.manifest (codes "n"))) (i.Unread r.TooLong) ≡ codes "B3 manifests/site.pp"
too_long = refl

tree_told : stop_text (codes "bundle") (i.Refused (b.TreeFault (codes "d/data/"))) ≡ codes "tree fault d/data/"
tree_told = refl

tree_ends : stop_ending (i.Refused (b.TreeFault (codes "d/data/"))) ≡ e.TreeFault
tree_ends = refl

from_journal : reading_of a.migrate ≡ journal
from_journal = refl

bad_line_told : stop_text (whole_of a.audit) (i.BadLine (codes "3")) ≡ codes "bad line 3"
bad_line_told = refl

too_many_told : stop_text (whole_of a.audit) i.TooManyEntries ≡ codes "B3 journal"
too_many_told = refl

no_journal_ends : stop_ending (i.BadLine (codes "3")) ≡ e.BadInput
no_journal_ends = refl

third_line : line_behind (codes "a\nb\nc") ≡ 3
third_line = refl

from_old_service : reading_of (a.serve_on 8140 3) ≡ journal
from_old_service = refl

from_both : reading_of (a.resume 2) ≡ resuming
from_both = refl

-- a journal ends with its last line; what begins as that line does within another one is none
parts_told : (journal_part (codes "x\n{\"entries\":0}\n[]\n") ≡ codes "x\n{\"entries\":0}\n")
    × (requests_part (codes "x\n{\"entries\":0}\n[]\n") ≡ codes "[]\n")
    × (requests_part (codes "x{\"entries\":0}\n[]") ≡ [])
    × (journal_part (codes "x\n[]") ≡ codes "x\n[]")
    × (requests_part (codes "{\"entries\":0}") ≡ [])
unfolding behind_last
parts_told = (refl, refl, refl, refl, refl)

two_lines : requests_said (codes "{\"entries\":0}\n[\n]") ≡ Err (bad_shape (codes "requests"))
unfolding behind_last
two_lines = refl

changed_alone : ending_by true false ≡ e.Changed
changed_alone = refl

lines_told : end_lines 1 (c.Closed ∷ c.Bad h.Truncated 3 ∷ c.Memory ∷ []) ≡
    codes "connection 2 H4\nconnection 3 memory\n"
unfolding end_lines connection_line digits
lines_told = refl

memory_decides : service_ending (c.Closed ∷ c.Memory ∷ []) s.NetFault ≡ e.Memory
memory_decides = refl

net_decides : service_ending (c.Closed ∷ []) s.NetFault ≡ e.NetFault
net_decides = refl
