-- Small tables, for the examples.
use Rattle.std.proofs.Common.{ℕ, true, false, List, [], ◌∷◌, Option, None, Some, codes}
use Rattle.pp_values.specs.Datum as d
use Rattle.pp_values.specs.Datum.{Datum, Pair, data_of, entries_of}
use Rattle.pp_values.specs.Settings.{Setting}
use Rattle.pp_values.specs.Sort.{of, integer, none, bound}
use Rattle.pp_values.specs.declared.bounds.Bound.TheVariants.{Default}
use Rattle.pp_values.specs.declared.place.Place.{Place}
use Rattle.pp_values.specs.declared.reference.Reference.{Reference}
use Rattle.res_book.specs.Relations.{Related}
use Rattle.res_book.specs.declared.collector.Collector.{Collector}
use Rattle.res_book.specs.declared.containment.Containment.{Containment}
use Rattle.res_book.specs.declared.mode.Mode.{Mode}
use Rattle.res_book.specs.declared.mode.Mode.TheVariants as mode
use Rattle.res_book.specs.declared.row.Row.{Row}
use Rattle.res_core.specs.Criteria.{all}
use Rattle.override_rules.specs.Lines.{Line}
use Rattle.override_rules.specs.Meaning.{State}
use Rattle.override_rules.specs.declared.override_line.Right.TheVariants as right

abbrev pub text : List ℕ → Datum
text t = d.text t

abbrev pub list : List Datum → Datum
list ds = d.list (data_of ds)

abbrev pub hash : List Pair → Datum
hash ps = d.hash (entries_of ps)

-- `Integer[default]`
abbrev pub a_type : Datum
a_type = d.kind (of integer (bound Default none))

abbrev pub place : ℕ → Place
place n = record { file = codes "site.pp"; line = n }

abbrev pub named : List ℕ → List ℕ → Reference
named kind title = record { kind = kind; title = title }

abbrev pub imported : Mode
imported = mode.Imported (codes "other") 0

-- a declaration in line n, in this container, with these attributes
abbrev pub row : List ℕ → List ℕ → ℕ → Option ℕ → List Setting → Mode → Row
row kind title n container ss m = record {
  declared = record {
    item = record { kind = kind; title = title; attributes = ss; tags = title ∷ [] };
    at = place n;
    scope = 0;
    container = container;
    class = codes "class main";
    known = [];
  };
  mode = m;
  marked = false;
  bound = None;
}

abbrev pub marked : Row → Row
marked r = record r { marked = true }

abbrev pub bound_to : List Setting → Row → Row
bound_to ss r = record r { bound = Some ss }

abbrev pub class : List ℕ → ℕ → Row
class title n = row (codes "class") title n None [] mode.Plain

abbrev pub notify : List ℕ → ℕ → List Setting → Mode → Row
notify title n ss m = row (codes "notify") title n (Some 0) ss m

abbrev pub contains : ℕ → ℕ → Containment
contains outer inner = record { outer = outer; inner = inner }

abbrev pub untouched : State
untouched = record { lines = []; scopes = []; defaults = [] }

-- `KIND[TITLE] { message => x }` in line n
abbrev pub line_on : List ℕ → List ℕ → ℕ → Line
line_on kind title n = record {
  target = named kind title;
  name = codes "message";
  append = false;
  value = text (codes "x");
  at = place n;
  right = right.Any;
}

abbrev pub overridden : List Line → State
overridden ls = record { lines = ls; scopes = []; defaults = [] }

-- `realize` of a notify of this title in line n
abbrev pub realize : List ℕ → ℕ → Collector
realize title n = record {
  kind = codes "notify";
  query = all;
  at = place n;
  owner = 0;
  exported = false;
  lines = [];
  realized = Some (named (codes "notify") title);
}

-- `Notify <| |>`
abbrev pub collect : ℕ → Collector
collect n = record {
  kind = codes "notify";
  query = all;
  at = place n;
  owner = 0;
  exported = false;
  lines = [];
  realized = None;
}

abbrev pub related : List Containment → List Collector → Related
related pairs cs = record { lines = []; containments = pairs; collectors = cs; applied = [] }
