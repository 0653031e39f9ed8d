-- The line that tells what a request was answered: compact JSON, with the members of each object in byte order.
use Rattle.std.specs.Prelude.{ℕ, true, List, [], ◌∷◌, ◌++◌, codes, decimal}
use Rattle.serde_json.specs.Data.{Data, boolean, string, object, no_members, member}
use Rattle.serde_json.specs.Written.{compact_text}
use Rattle.res_core.specs.Asked.{Asked, compile, deactivate}
use Rattle.site_core.specs.declared.reply.ReplyOf.{ReplyOf}
use Rattle.site_core.specs.declared.reply.ReplyOf.TheVariants.{Served, Refused, HistoryFull, SeenAhead, UnknownNode}
use Rattle.site_core.specs.declared.reply.ReplyOf.TheVariants.{Deactivated, Deployed, Reported, Memory}
use Rattle.json_documents.specs.Tokens.{index_data}

-- the node that is asked about
abbrev pub node_of : Asked → List ℕ
node_of (compile wanted) = wanted.node
node_of (deactivate node) = node

-- how many entries whoever asks has seen; with a deactivation that is not said
abbrev pub seen_of : Asked → ℕ
seen_of (compile wanted) = wanted.seen
seen_of (deactivate node) = 0

-- the catalog's text stands in it as it is
unfoldable pub served_text : (reply entry k : ℕ) → List ℕ → List ℕ
served_text reply entry k catalog =
    codes "{\"catalog\":"
    ++ (catalog
    ++ (codes ",\"entry\":"
    ++ (decimal entry
    ++ (codes ",\"k\":" ++ (decimal k ++ (codes ",\"reply\":" ++ (decimal reply ++ codes "}")))))))

unfoldable pub refused_object : (reply k : ℕ) → List ℕ → Data
refused_object reply k fault =
    object (member (codes "fault") (string fault) (member (codes "k") (index_data k)
    (member (codes "reply") (index_data reply) no_members)))

unfoldable pub full_object : (reply length : ℕ) → Data
full_object reply length = object (member (codes "full") (index_data length)
    (member (codes "reply") (index_data reply) no_members))

unfoldable pub ahead_object : (reply length seen : ℕ) → Data
ahead_object reply length seen =
    object (member (codes "length") (index_data length)
    (member (codes "reply") (index_data reply) (member (codes "seen") (index_data seen) no_members)))

unfoldable pub unknown_object : (reply k : ℕ) → List ℕ → Data
unknown_object reply k node =
    object (member (codes "k") (index_data k) (member (codes "reply") (index_data reply)
    (member (codes "unknown") (string node) no_members)))

unfoldable pub deactivated_object : (reply entry : ℕ) → Data
deactivated_object reply entry = object (member (codes "entry") (index_data entry)
    (member (codes "reply") (index_data reply) no_members))

unfoldable pub deployed_object : (reply entry : ℕ) → Data
deployed_object reply entry = object (member (codes "deployed") (index_data entry)
    (member (codes "reply") (index_data reply) no_members))

unfoldable pub reported_object : (reply entry : ℕ) → Data
reported_object reply entry = object (member (codes "reply") (index_data reply)
    (member (codes "reported") (index_data entry) no_members))

unfoldable pub memory_object : (reply : ℕ) → Data
memory_object reply = object (member (codes "memory") (boolean true)
    (member (codes "reply") (index_data reply) no_members))

-- the reply with this number, over the texts of catalogs and faults
module _ {C F : Type 0} (catalog_form : C → List ℕ) (fault_form : F → List ℕ) where
  unfoldable pub reply_text : ℕ → Asked → ReplyOf C F → List ℕ
  reply_text reply asked (Served entry k catalog) = served_text reply entry k (catalog_form catalog)
  reply_text reply asked (Refused k fault) = compact_text (refused_object reply k (fault_form fault))
  reply_text reply asked (HistoryFull length) = compact_text (full_object reply length)
  reply_text reply asked (SeenAhead length) = compact_text (ahead_object reply length (seen_of asked))
  reply_text reply asked (UnknownNode k) = compact_text (unknown_object reply k (node_of asked))
  reply_text reply asked (Deactivated entry) = compact_text (deactivated_object reply entry)
  reply_text reply asked (Deployed entry) = compact_text (deployed_object reply entry)
  reply_text reply asked (Reported entry) = compact_text (reported_object reply entry)
  reply_text reply asked Memory = compact_text (memory_object reply)

  abbrev pub reply_line : ℕ → Asked → ReplyOf C F → List ℕ
  reply_line reply asked answer = reply_text reply asked answer ++ 10 ∷ []
