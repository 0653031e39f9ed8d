-- Documents, and their texts.
use Rattle.std.proofs.Common.{◌≡◌, ℕ, true, List, [], ◌∷◌, ◌++◌, None, map, refl, codes}
use Rattle.std.specs.Fmt.{digits}
use Rattle.serde_json.proofs.OnLiterals.{serde_json_on_literals}
use Rattle.pp_values.specs.Datum as d
use Rattle.pp_values.specs.declared.fault.Fault.{Fault}
use Rattle.pp_values.specs.declared.fault.What.{What}
use Rattle.pp_values.specs.declared.fault.What.TheVariants.{Syntax, Failed, Cycle, AlreadySet, Duplicate}
use Rattle.pp_values.specs.declared.fault.Subject.TheVariants as subject
use Rattle.pp_values.specs.declared.place.TheConstants.{MAIN_MANIFEST}
use Rattle.pp_values.specs.Settings.{Setting}
use Rattle.res_core.specs.declared.held.Held.{Held}
use Rattle.res_core.specs.declared.catalog.Catalog.{Catalog}
use Rattle.res_core.specs.declared.log_line.LogLine.{LogLine}
use Rattle.res_core.specs.declared.exported.Exported.{Exported}
use Rattle.res_core.specs.Asked.{Asked, compile, deactivate}
use Rattle.site_core.specs.Events.{Event, opens, publishes, adds}
use Rattle.site_core.specs.declared.plain.Plain.TheVariants as ask
use Rattle.site_core.specs.declared.reply.ReplyOf.{ReplyOf}
use Rattle.site_core.specs.declared.reply.ReplyOf.TheVariants.{Served, Refused, HistoryFull, SeenAhead, UnknownNode, Deactivated, Deployed, Reported, Memory}
use Rattle.site_bundle.specs.SiteView.{SiteView}
use Rattle.site_docs.specs.CatalogText.{held_object, held_data, edge_data, catalog_object, catalog_data, catalog_text}
use Rattle.site_docs.specs.FaultText.{plain_line, fault_text}
use Rattle.site_docs.specs.LogText.{log_text}
use Rattle.site_docs.specs.declared.fault_names.TheConstants.{FAULT_NAMES}
use Rattle.site_docs.specs.SiteText.{site_object, site_data, site_text}
use Rattle.agent_docs.specs.ReportText.{report_object, report_data}
use Rattle.site_docs.specs.JournalText.{export_object, export_data, opening_object, publication_object, deactivation_object, deployment_object, filing_object, count_object, plain_data, entry_data, entry_lines, journal_text}
use Rattle.site_docs.specs.ReplyText.{served_text, refused_object, full_object, ahead_object, unknown_object, deactivated_object, deployed_object, reported_object, memory_object, reply_text, reply_line}

abbrev fault : What → Fault
fault what = record { at = record { file = codes "m.pp"; line = 7 }; what = what }

-- the names, whole
names : map (λ name. name.now) FAULT_NAMES ≡
    codes "Syntax" ∷ codes "UnknownVariable" ∷ codes "Reassigned" ∷ codes "UnknownClass" ∷ codes "UnknownType" ∷
    codes "UnknownFunction" ∷ codes "WrongArguments" ∷ codes "TypeMismatch" ∷ codes "MissingParameter" ∷
    codes "UnknownParameter" ∷
    codes "BadOperand" ∷ codes "NumberRange" ∷ codes "ZeroDivisor" ∷ codes "Duplicate" ∷ codes "AlreadySet" ∷
    codes "NoOverrideTarget" ∷ codes "NoRelationTarget" ∷ codes "Cycle" ∷ codes "NoNode" ∷ codes "LookupMissing" ∷
    codes "LookupLoop" ∷ codes "MergeMismatch" ∷ codes "BadData" ∷ codes "BadInterpolation" ∷ codes "Failed" ∷
    codes "ClassVirtual" ∷ codes "RoundLimit" ∷ codes "ResourceLimit" ∷ codes "DepthLimit" ∷ codes "SameNamevar" ∷ []
names = refl

-- details that are none, or empty; a line feed within; a cycle; an earlier place
lines : (fault_text (fault Syntax) ≡ codes "F1 m.pp:7 Syntax")
    × (fault_text (fault (Failed [])) ≡ codes "F25 m.pp:7 Failed")
    × (fault_text (fault (Failed (97 ∷ 10 ∷ 98 ∷ []))) ≡ codes "F25 m.pp:7 Failed a b")
    × (fault_text (fault (AlreadySet (subject.Kind (codes "web::vhost")) (codes "ip"))) ≡ codes
    "F15 m.pp:7 AlreadySet Web::Vhost ip")
    × (fault_text (fault (Cycle (record { kind = codes "notify"; title = codes "f" } ∷
    record { kind = codes "file"; title = codes "/a" } ∷ []))) ≡ codes
    "F18 m.pp:7 Cycle Notify[f] -> File[/a] -> Notify[f]")
    × (fault_text (fault (Duplicate (record { kind = codes "notify"; title = codes "a" })
    (record { file = codes "n.pp"; line = 10 }))) ≡ codes "F14 m.pp:7 Duplicate Notify[a] n.pp:10")
unfolding fault_text plain_line digits
lines = (refl, refl, refl, refl, refl, refl)

abbrev main_class : Held
main_class = record {
  item = record {
    kind = codes "class";
    title = codes "main";
    attributes = [];
    tags = codes "class" ∷ codes "main" ∷ [];
  };
  inside = [];
}

abbrev notify : List Setting → Held
notify attributes = record {
  item = record {
    kind = codes "notify";
    title = codes "hi";
    attributes = attributes;
    tags = codes "hi" ∷ codes "notify" ∷ [];
  };
  inside = 0 ∷ [];
}

-- a catalog with nothing but its first resource, and one with an attribute and an edge; log lines are no part of the
-- text
catalogs : (catalog_text (record {
  node = codes "a";
  resources = main_class ∷ [];
  edges = [];
  log = record { level = codes "notice"; text = codes "x" } ∷ [];
})
    ≡ codes "{\"catalog\":1,\"edges\":[],\"node\":\"a\",\"resources\":[{\"attrs\":{},\"in\":[],\"tags\":[\"class\",\"main\"],\"title\":\"main\",\"type\":\"Class\"}]}")
    × (catalog_text (record {
      node = codes "a";
      resources = notify ((codes "message", d.text (codes "hello")) ∷ []) ∷
          [];
      edges = record { from = 1; to = 0; signal = true } ∷ [];
      log = [];
    })
    ≡ codes "{\"catalog\":1,\"edges\":[[1,0,true]],\"node\":\"a\",\"resources\":[{\"attrs\":{\"message\":\"hello\"},\"in\":[0],\"tags\":[\"hi\",\"notify\"],\"title\":\"hi\",\"type\":\"Notify\"}]}")
unfolding held_object held_data edge_data catalog_object catalog_data digits serde_json_on_literals
catalogs = (refl, refl)

abbrev logged : List ℕ → List ℕ → LogLine
logged level text = record { level = level; text = text }

-- a log without lines, with an empty text, with a line feed within a text, and with lines in the order in which they
-- were written
logs : (log_text [] ≡ [])
    × (log_text (logged (codes "notice") [] ∷ []) ≡ codes "notice: " ++ 10 ∷ [])
    × (log_text (logged (codes "err") (codes "a" ++ 10 ∷ codes "b") ∷ []) ≡ codes "err: a" ++ 10 ∷ codes "b" ++ 10 ∷ [])
    × (log_text (logged (codes "warning") (codes "b") ∷ logged (codes "debug") (codes "a") ∷ []) ≡
    codes "warning: b" ++ 10 ∷ codes "debug: a" ++ 10 ∷ [])
unfolding log_text
logs = (refl, refl, refl, refl)

abbrev listing : List ℕ → List (List ℕ) → SiteView
listing manifest [] = record { manifests = (MAIN_MANIFEST.now, manifest) ∷ []; «data» = []; nodes = [] }
listing manifest (n ∷ ns) = record {
  manifests = (MAIN_MANIFEST.now, manifest) ∷ [];
  «data» = [];
  nodes = (n, d.hash d.no_entries) ∷
      (listing manifest ns).nodes;
}

-- sites with no node, and with two of which one has a fact
sites : (site_text (listing [] []) ≡ codes "{\"files\":{\"manifests/site.pp\":\"\"},\"nodes\":{}}")
    × (site_text (record {
      manifests = (MAIN_MANIFEST.now, codes "x") ∷ (codes "modules/a/init.pp", codes "y") ∷ [];
      «data» = [];
      nodes = (codes "a", d.hash d.no_entries) ∷ (
        codes "b.c",
        d.hash (d.entry (d.text (codes "os")) (d.flag true) d.no_entries),
      ) ∷ [];
    })
    ≡ codes "{\"files\":{\"manifests/site.pp\":\"x\",\"modules/a/init.pp\":\"y\"},\"nodes\":{\"a\":{},\"b.c\":{\"os\":true}}}")
unfolding site_object site_data digits serde_json_on_literals
sites = (refl, refl)

-- manifests and other files stand in one object, by path in byte order
any_file : site_text (record {
  manifests = (MAIN_MANIFEST.now, codes "x") ∷ (codes "modules/m/manifests/init.pp", codes "y") ∷ [];
  «data» = (codes "data/a.json", codes "{}") ∷ (codes "modules/m/hiera.yaml", codes "no: JSON") ∷ (codes "z", []) ∷ [];
  nodes = [];
})
    ≡ codes "{\"files\":{\"data/a.json\":\"{}\",\"manifests/site.pp\":\"x\",\"modules/m/hiera.yaml\":\"no: JSON\",\"modules/m/manifests/init.pp\":\"y\",\"z\":\"\"},\"nodes\":{}}"
unfolding site_object site_data digits serde_json_on_literals
any_file = refl

-- entry `call` of author 0, who published this set for node `a`
abbrev published : ℕ → ℕ → List Exported → Event SiteView
published call k set = publishes (record {
  author = 0;
  call = call;
  node = codes "a";
  facts = d.hash d.no_entries;
  k = k;
  set = record { items = set };
})

abbrev me : Exported
me = record {
  node_place = record { file = codes "manifests/site.pp"; line = 1 };
  item = record {
    kind = codes "notify";
    title = codes "me";
    attributes = [];
    tags = codes "class" ∷ codes "main" ∷
        codes "me" ∷ codes "notify" ∷ [];
  };
}

-- an empty manifest, compiled once
once : journal_text (opens (listing [] (codes "a" ∷ [])) ∷ published 0 1 [] ∷ [])
    ≡ codes "{\"entry\":0,\"journal\":2,\"kind\":\"open\",\"site\":{\"files\":{\"manifests/site.pp\":\"\"},\"nodes\":{\"a\":{}}}}" ++ 10 ∷
    codes "{\"author\":0,\"call\":0,\"entry\":1,\"facts\":{},\"k\":1,\"kind\":\"publish\",\"node\":\"a\",\"set\":[]}" ++ 10 ∷
    codes "{\"entries\":2}" ++ 10 ∷ []
unfolding site_object site_data opening_object publication_object count_object entry_data entry_lines digits
    serde_json_on_literals
once = refl

-- a node that exports a resource, compiled twice
again : journal_text (opens (listing (codes "@@notify { 'me': }" ++ 10 ∷ codes "Notify <<| |>>") (codes "a" ∷ [])) ∷
    published 0 1 (me ∷ []) ∷ published 1 2 (me ∷ []) ∷ [])
    ≡ codes "{\"entry\":0,\"journal\":2,\"kind\":\"open\",\"site\":{\"files\":{\"manifests/site.pp\":\"@@notify { 'me': }\\nNotify <<| |>>\"},\"nodes\":{\"a\":{}}}}" ++ 10 ∷
    codes "{\"author\":0,\"call\":0,\"entry\":1,\"facts\":{},\"k\":1,\"kind\":\"publish\",\"node\":\"a\",\"set\":[{\"at\":\"manifests/site.pp:1\",\"attrs\":{},\"tags\":[\"class\",\"main\",\"me\",\"notify\"],\"title\":\"me\",\"type\":\"Notify\"}]}" ++ 10 ∷
    codes "{\"author\":0,\"call\":1,\"entry\":2,\"facts\":{},\"k\":2,\"kind\":\"publish\",\"node\":\"a\",\"set\":[{\"at\":\"manifests/site.pp:1\",\"attrs\":{},\"tags\":[\"class\",\"main\",\"me\",\"notify\"],\"title\":\"me\",\"type\":\"Notify\"}]}" ++ 10 ∷
    codes "{\"entries\":3}" ++ 10 ∷ []
unfolding site_object site_data export_object export_data opening_object publication_object count_object entry_data
    entry_lines digits serde_json_on_literals
again = refl

-- a node is gone
gone : journal_text (opens (listing [] []) ∷ adds 3 7 (ask.Deactivate (codes "b")) ∷ [])
    ≡ codes "{\"entry\":0,\"journal\":2,\"kind\":\"open\",\"site\":{\"files\":{\"manifests/site.pp\":\"\"},\"nodes\":{}}}" ++ 10 ∷
    codes "{\"author\":3,\"call\":7,\"entry\":1,\"kind\":\"deactivate\",\"node\":\"b\"}" ++ 10 ∷
    codes "{\"entries\":2}" ++ 10 ∷ []
unfolding site_object site_data opening_object deactivation_object count_object plain_data entry_data entry_lines digits
    serde_json_on_literals
gone = refl

-- another manifest, and no nodes any more
deployed : journal_text (opens (listing [] (codes "a" ∷ [])) ∷ adds 0 0 (ask.Deploy (listing (codes "notify { 'hi': }") [])) ∷ [])
    ≡ codes "{\"entry\":0,\"journal\":2,\"kind\":\"open\",\"site\":{\"files\":{\"manifests/site.pp\":\"\"},\"nodes\":{\"a\":{}}}}" ++ 10 ∷
    codes "{\"author\":0,\"call\":0,\"entry\":1,\"kind\":\"deploy\",\"site\":{\"files\":{\"manifests/site.pp\":\"notify { 'hi': }\"},\"nodes\":{}}}" ++ 10 ∷
    codes "{\"entries\":2}" ++ 10 ∷ []
unfolding site_object site_data opening_object deployment_object count_object plain_data entry_data entry_lines digits
    serde_json_on_literals
deployed = refl

-- the report of a run in which no resource had a turn
filed : journal_text (opens (listing [] []) ∷ adds 0 0 (ask.Report (codes "n") (record { node = codes "n"; lines = [] })) ∷ [])
    ≡ codes "{\"entry\":0,\"journal\":2,\"kind\":\"open\",\"site\":{\"files\":{\"manifests/site.pp\":\"\"},\"nodes\":{}}}" ++ 10 ∷
    codes "{\"author\":0,\"call\":0,\"entry\":1,\"kind\":\"report\",\"node\":\"n\",\"report\":{\"changed\":0,\"failed\":0,\"node\":\"n\",\"noop\":0,\"report\":2,\"resources\":[]}}" ++ 10 ∷
    codes "{\"entries\":2}" ++ 10 ∷ []
unfolding site_object site_data opening_object filing_object report_data report_object count_object plain_data entry_data
    entry_lines digits serde_json_on_literals
filed = refl

abbrev asks : List ℕ → ℕ → Asked
asks node seen = compile (record { node = node; facts = None; seen = seen })

abbrev replies : ℕ → Asked → ReplyOf Catalog Fault → List ℕ
replies = reply_line catalog_text fault_text

-- one of each kind of reply
served : replies 0 (asks (codes "a") 0) (Served 1 1
    (record { node = codes "a"; resources = main_class ∷ []; edges = []; log = [] }))
    ≡ codes "{\"catalog\":{\"catalog\":1,\"edges\":[],\"node\":\"a\",\"resources\":[{\"attrs\":{},\"in\":[],\"tags\":[\"class\",\"main\"],\"title\":\"main\",\"type\":\"Class\"}]},\"entry\":1,\"k\":1,\"reply\":0}" ++ 10 ∷ []
unfolding reply_text served_text held_object held_data edge_data catalog_object catalog_data digits
    serde_json_on_literals
served = refl

refused : replies 1 (asks (codes "b") 0) (Refused 2 (record {
  at = record { file = codes "manifests/site.pp"; line = 1 };
  what = Duplicate (record { kind = codes "notify"; title = codes "me" })
      (record { file = codes "manifests/site.pp"; line = 1 });
}))
    ≡ codes "{\"fault\":\"F14 manifests/site.pp:1 Duplicate Notify[me] manifests/site.pp:1\",\"k\":2,\"reply\":1}" ++ 10 ∷ []
unfolding reply_text refused_object fault_text plain_line digits serde_json_on_literals
refused = refl

others : (replies 0 (asks (codes "z") 0) (UnknownNode 1) ≡ codes "{\"k\":1,\"reply\":0,\"unknown\":\"z\"}" ++ 10 ∷ [])
    × (replies 1 (asks (codes "a") 2) (SeenAhead 1) ≡ codes "{\"length\":1,\"reply\":1,\"seen\":2}" ++ 10 ∷ [])
    × (replies 2 (asks (codes "a") 0) (HistoryFull 10) ≡ codes "{\"full\":10,\"reply\":2}" ++ 10 ∷ [])
    × (replies 3 (deactivate (codes "a")) (Deactivated 4) ≡ codes "{\"entry\":4,\"reply\":3}" ++ 10 ∷ [])
    × (replies 4 (deactivate (codes "a")) (Deployed 5) ≡ codes "{\"deployed\":5,\"reply\":4}" ++ 10 ∷ [])
    × (replies 5 (deactivate (codes "a")) (Reported 6) ≡ codes "{\"reply\":5,\"reported\":6}" ++ 10 ∷ [])
    × (replies 12 (deactivate (codes "a")) Memory ≡ codes "{\"memory\":true,\"reply\":12}" ++ 10 ∷ [])
unfolding reply_text full_object ahead_object unknown_object deactivated_object deployed_object reported_object memory_object
    digits serde_json_on_literals
others = (refl, refl, refl, refl, refl, refl, refl)
