-- The site that its own JSON says is the site, and what is said to be a site is one.
use Rattle.std.proofs.Common.{◌≡◌, ℕ, Bool, true, false, ◌&&◌, List, [], ◌∷◌, cond, codes, Option, Some, None, option_and_then, Less, Equal, Greater, refl, sym, ap, subst, ◌∙◌}
use Rattle.std.specs.Cmp.{first_so, second_so}
use Rattle.std.specs.Cmp.Derive.{both_true}
use Rattle.std.specs.Ordering.{is_lt, match_ordering}
use Rattle.std.specs.Prelude.{IsTrue, if◌then◌else◌, not, filter}
use Rattle.serde_json.proofs.OnLiterals.{serde_json_on_literals}
use Rattle.serde_json.specs.Data as j
use Rattle.serde_json.specs.Data.{Data, Members, no_members, member, put, string, array, object}
use Rattle.serde_json.specs.Find.{get, get_member, as_object}
use Rattle.pp_values.proofs.RisingLemmas.{above_first}
use Rattle.pp_values.specs.Datum.{Datum, text}
use Rattle.pp_values.specs.Facts.{are_facts}
use Rattle.pp_values.specs.Rising.{text_cmp, precedes, is_rising}
use Rattle.pp_values.specs.Settings.{Setting, setting_names}
use Rattle.json_values.specs.Forms.{value_of}
use Rattle.json_values.specs.FromData.{both}
use Rattle.json_values.specs.ValueForm.{form, setting_members, put_all}
use Rattle.json_values.proofs.SettingMembers.{put_all-settings}
use Rattle.json_documents.specs.ExactData.{names, has_rising, is_read, are_members_read}
use Rattle.json_documents.specs.ProperValues.{is_proper, have_proper}
use Rattle.json_documents.specs.SmallNumbers.{has_small}
use Rattle.json_documents.proofs.ReadData.{Each, any, all, each_then, each_if, each_both}
use Rattle.json_documents.proofs.ReadForms.{read_is_proper}
use Rattle.json_documents.proofs.SmallForms.{form_back, settings_small, object_rises}
use Rattle.agent_docs.proofs.ReportsRead.{Holds}
use Rattle.site_bundle.specs.Given.{are_distinct, has_main, are_short, is_manifest_path}
use Rattle.site_bundle.specs.SiteView.{SiteView, Filed, Listed, have_facts, manifests_among, data_among, put_in, site_of}
use Rattle.site_docs.specs.SiteText.{site_object, file_settings, file_members, site_data}
use Rattle.journal_reading.specs.Journals.{IsSite, paths_of}
use Rattle.journal_reading.specs.SiteReading.{members_at, texts_said, are_files, if_files, files_said, if_facts, facts_said, listed_said, if_rising, nodes_said, site_said}
use Rattle.journal_reading.proofs.Ordered.{distinct_rising, less, without_second, kept_behind, kept_rising, put_in_rising}

-- ---- files of both kinds in one object

names_same : (fs : List Filed) → setting_names (file_settings fs) ≡ paths_of fs
names_same [] = refl
names_same (f ∷ fs) = ap (λ ns. f.0 ∷ ns) (names_same fs)

rising_settings : (fs : List Filed) → is_rising (paths_of fs) ≡ true → is_rising (setting_names (file_settings fs)) ≡ true
rising_settings fs h = ap is_rising (names_same fs) ∙ h

put_past : (k : List ℕ) (d : Data) (ss : List Setting) (ms : Members) → is_rising (k ∷ setting_names ss) ≡ true →
    put_all ss (member k d ms) ≡ member k d (put_all ss ms)
put_past k d [] ms h = refl
put_past k d (s ∷ ss) ms h =
    ap (λ o. put_all ss (match_ordering o (member s.0 (form s.1) (member k d ms)) (member k (form s.1) ms)
    (member k d (put s.0 (form s.1) ms)))) (above_first k s.0 [] (setting_names ss) h)
    ∙ put_past k d ss (put s.0 (form s.1) ms) (without_second k s.0 (setting_names ss) h)

put_first : (k : List ℕ) (v : Datum) (ss : List Setting) → is_rising (k ∷ setting_names ss) ≡ true →
    put k (form v) (setting_members ss) ≡ member k (form v) (setting_members ss)
put_first k v [] h = refl
put_first k v (s ∷ ss) h = rw (less _ (first_so (is_lt (text_cmp k s.0)) _ h)) refl

behind : (is : List ℕ → Bool) (f : Filed) (fs : List Filed) → is_rising (paths_of (f ∷ fs)) ≡ true →
    is_rising (f.0 ∷ setting_names (file_settings (filter (λ g. is g.0) fs))) ≡ true
behind is f fs h =
    ap (λ ns. is_rising (f.0 ∷ ns)) (names_same (filter (λ g. is g.0) fs)) ∙ kept_behind is f.0 fs h

woven : (fs : List Filed) → is_rising (paths_of fs) ≡ true →
    put_all (file_settings (data_among fs)) (setting_members (file_settings (manifests_among fs)))
    ≡ setting_members (file_settings fs)
woven [] h = refl
woven (f ∷ fs) h =
    let rest = woven fs (second_so (precedes f.0 (paths_of fs)) _ h) in
    let others = behind (λ p. not (is_manifest_path p)) f fs h in
    elim (is_manifest_path f.0) as (λ b.
    put_all (file_settings (cond (not b) (f ∷ data_among fs) (data_among fs)))
    (setting_members (file_settings (cond b (f ∷ manifests_among fs) (manifests_among fs))))
    ≡ member f.0 (string f.1) (setting_members (file_settings fs))) [
      | true ↦
          put_past f.0 (string f.1) (file_settings (data_among fs)) (setting_members (file_settings (manifests_among fs))) others
          ∙ ap (member f.0 (string f.1)) rest
      | false ↦
          ap (put_all (file_settings (data_among fs)))
          (put_first f.0 (text f.1) (file_settings (manifests_among fs)) (behind is_manifest_path f fs h))
          ∙ put_past f.0 (string f.1) (file_settings (data_among fs)) (setting_members (file_settings (manifests_among fs))) others
          ∙ ap (member f.0 (string f.1)) rest
    ]

pub files_woven : (fs : List Filed) (ns : List Listed) → is_rising (paths_of fs) ≡ true →
    file_members (site_of fs ns) ≡ setting_members (file_settings fs)
files_woven fs ns h =
    ap (λ ms. put_all (file_settings (put_in [] (data_among fs))) (put_all (file_settings ms) no_members))
    (put_in_rising (manifests_among fs) (kept_rising is_manifest_path fs h))
    ∙ ap (λ ds. put_all (file_settings ds) (put_all (file_settings (manifests_among fs)) no_members))
    (put_in_rising (data_among fs) (kept_rising (λ p. not (is_manifest_path p)) fs h))
    ∙ ap (put_all (file_settings (data_among fs))) (put_all-settings (file_settings (manifests_among fs))
    (rising_settings (manifests_among fs) (kept_rising is_manifest_path fs h)))
    ∙ woven fs h

-- ---- the site's JSON, over the pairs that it is made of

abbrev woven_data : List Filed → List Listed → Data
woven_data fs ns = site_object (object (setting_members (file_settings fs))) (object (setting_members ns))

site_is : (s : SiteView) (h : IsSite s) → site_data s ≡ woven_data h.files h.nodes
unfolding site_data
site_is s h =
    ap (λ x. site_object (object (file_members x)) (object (setting_members x.nodes))) h.made
    ∙ ap (λ ms. site_object (object ms) (object (setting_members (put_in [] h.nodes)))) (files_woven h.files h.nodes h.paths)
    ∙ ap (λ ns. woven_data h.files ns) (put_in_rising h.nodes h.names)

-- ---- what is said

texts_back : (fs : List Filed) → texts_said (setting_members (file_settings fs)) ≡ Some fs
texts_back [] = refl
texts_back (f ∷ fs) = ap (both (λ t files. (f.0, t) ∷ files) (Some f.1)) (texts_back fs)

pub facts_back : (v : Datum) → are_facts v ≡ true → is_proper v ≡ true → facts_said (form v) ≡ Some v
facts_back v h p = ap (option_and_then if_facts) (form_back v p) ∙ ap (λ b. if b then Some v else None) h

listed_back : (ns : List Listed) → have_facts ns ≡ true → have_proper ns ≡ true → listed_said (setting_members ns) ≡ Some ns
listed_back [] h p = refl
listed_back (n ∷ ns) h p =
    ap (λ o. both (λ facts nodes. (n.0, facts) ∷ nodes) o (listed_said (setting_members ns)))
    (facts_back n.1 (first_so (are_facts n.1) _ h) (first_so (is_proper n.1) _ p))
    ∙ ap (both (λ facts nodes. (n.0, facts) ∷ nodes) (Some n.1))
    (listed_back ns (second_so (are_facts n.1) _ h) (second_so (is_proper n.1) _ p))

files_back : (fs : List Filed) → are_files fs ≡ true →
    option_and_then if_files (texts_said (setting_members (file_settings fs))) ≡ Some fs
files_back fs h = ap (option_and_then if_files) (texts_back fs) ∙ ap (λ b. if b then Some fs else None) h

nodes_back : (ns : List Listed) → is_rising (setting_names ns) ≡ true → have_facts ns ≡ true → have_proper ns ≡ true →
    option_and_then if_rising (listed_said (setting_members ns)) ≡ Some ns
nodes_back ns r h p = ap (option_and_then if_rising) (listed_back ns h p) ∙ ap (λ b. if b then Some ns else None) r

woven_back : (fs : List Filed) (ns : List Listed) → are_files fs ≡ true → is_rising (setting_names ns) ≡ true →
    have_facts ns ≡ true → have_proper ns ≡ true → site_said (woven_data fs ns) ≡ Some (site_of fs ns)
unfolding site_said site_object serde_json_on_literals
woven_back fs ns f r h p = λ i. both site_of (files_back fs f i) (nodes_back ns r h p i)

pub site_back : (s : SiteView) → IsSite s → site_said (site_data s) ≡ Some s
site_back s h =
    ap site_said (site_is s h)
    ∙ woven_back h.files h.nodes (both_true h.paths (both_true h.main h.short)) h.names h.facts h.proper
    ∙ ap Some (sym h.made)

-- ---- small numbers and rising names

texts_proper : (fs : List Filed) → have_proper (file_settings fs) ≡ true
texts_proper [] = refl
texts_proper (f ∷ fs) = texts_proper fs

woven_small : (fs : List Filed) (ns : List Listed) → have_proper ns ≡ true → has_small (woven_data fs ns) ≡ true
unfolding site_object
woven_small fs ns p =
    both_true (settings_small (file_settings fs) (texts_proper fs)) (both_true (settings_small ns p) refl)

woven_rises : (fs : List Filed) (ns : List Listed) → is_rising (paths_of fs) ≡ true → is_rising (setting_names ns) ≡ true →
    has_rising (woven_data fs ns) ≡ true
unfolding site_object
woven_rises fs ns f n =
    both_true (object_rises (file_settings fs) (rising_settings fs f)) (both_true (object_rises ns n) refl)

pub site_small : (s : SiteView) → IsSite s → has_small (site_data s) ≡ true
site_small s h = ap has_small (site_is s h) ∙ woven_small h.files h.nodes h.proper

pub site_rises : (s : SiteView) → IsSite s → has_rising (site_data s) ≡ true
site_rises s h = ap has_rising (site_is s h) ∙ woven_rises h.files h.nodes h.paths h.names

-- ---- what stands in JSON that was read

read_member : (k : List ℕ) (ms : Members) → are_members_read ms ≡ true → Each is_read (get_member k ms)
read_member k no_members h = tt
read_member k (member l d ms) h =
    let rest = read_member k ms (second_so (is_read d) _ h) in
    elim (text_cmp k l) as (λ o. Each is_read (match_ordering o (get_member k ms) (Some d) (get_member k ms))) [
      | Less ↦ rest
      | Equal ↦ first_so (is_read d) _ h
      | Greater ↦ rest
    ]

pub read_at : (k : List ℕ) (d : Data) → is_read d ≡ true → Each is_read (get k d)
read_at k j.null h = tt
read_at k (j.boolean b) h = tt
read_at k (j.number n) h = tt
read_at k (string s) h = tt
read_at k (array ds) h = tt
read_at k (object ms) h = read_member k ms (second_so (is_rising (names ms)) _ h)

its_members : (d : Data) → is_read d ≡ true → Each are_members_read (as_object d)
its_members j.null h = tt
its_members (j.boolean b) h = tt
its_members (j.number n) h = tt
its_members (string s) h = tt
its_members (array ds) h = tt
its_members (object ms) h = second_so (is_rising (names ms)) _ h

pub members_read : (k : List ℕ) (d : Data) → is_read d ≡ true → Each are_members_read (members_at k d)
members_read k d h = each_then is_read are_members_read as_object its_members (get k d) (read_at k d h)

pub value_proper : (d : Data) → is_read d ≡ true → Each is_proper (value_of d)
value_proper d h =
    elim (value_of d) as (λ o. value_of d ≡ o → Each is_proper o) [
      | None ↦ λ e. tt
      | Some v ↦ λ e. read_is_proper d v h e
    ] refl

abbrev pub proper_facts : Datum → Bool
proper_facts v = are_facts v && is_proper v

pub facts_proper : (d : Data) → is_read d ≡ true → Each proper_facts (facts_said d)
facts_proper d h =
    each_then is_proper proper_facts if_facts
    (λ v p. each_if proper_facts (are_facts v) (Some v) None (λ e. both_true e p) (λ e. tt)) (value_of d) (value_proper d h)

abbrev proper_nodes : List Listed → Bool
proper_nodes ns = have_facts ns && have_proper ns

node_step : (name : List ℕ) (v : Datum) (ns : List Listed) → proper_facts v ≡ true → proper_nodes ns ≡ true →
    proper_nodes ((name, v) ∷ ns) ≡ true
node_step name v ns h k =
    both_true (both_true (first_so (are_facts v) _ h) (first_so (have_facts ns) _ k))
    (both_true (second_so (are_facts v) _ h) (second_so (have_facts ns) _ k))

listed_proper : (ms : Members) → are_members_read ms ≡ true → Each proper_nodes (listed_said ms)
listed_proper no_members h = refl
listed_proper (member name d ms) h =
    each_both proper_facts proper_nodes proper_nodes (λ facts nodes. (name, facts) ∷ nodes) (node_step name)
    (facts_said d) (listed_said ms) (facts_proper d (first_so (is_read d) _ h)) (listed_proper ms (second_so (is_read d) _ h))

abbrev good_nodes : List Listed → Bool
good_nodes ns = is_rising (setting_names ns) && proper_nodes ns

nodes_good : (d : Data) → is_read d ≡ true → Each good_nodes (nodes_said d)
nodes_good d h =
    each_then proper_nodes good_nodes if_rising
    (λ ns p. each_if good_nodes (is_rising (setting_names ns)) (Some ns) None (λ e. both_true e p) (λ e. tt))
    (option_and_then listed_said (members_at (codes "nodes") d))
    (each_then are_members_read proper_nodes listed_said listed_proper (members_at (codes "nodes") d) (members_read (codes "nodes") d h))

pub files_good : (d : Data) → Each are_files (files_said d)
files_good d =
    each_then any are_files if_files (λ fs p. each_if are_files (are_files fs) (Some fs) None (λ e. e) (λ e. tt))
    (option_and_then texts_said (members_at (codes "files") d)) (all _)

pub holds_both : {A B C : Type 0} (f : A → Bool) (g : B → Bool) (P : C → Type 0) (make : A → B → C) →
    ((a : A) (b : B) → f a ≡ true → g b ≡ true → P (make a b)) → (o : Option A) (p : Option B) →
    Each f o → Each g p → Holds P (both make o p)
holds_both f g P make step None p x y = tt
holds_both f g P make step (Some a) None x y = tt
holds_both f g P make step (Some a) (Some b) x y = step a b x y

made_so : (fs : List Filed) (ns : List Listed) → are_files fs ≡ true → good_nodes ns ≡ true → IsSite (site_of fs ns)
made_so fs ns f n =
    let rest = second_so (is_rising (paths_of fs)) _ f in
    let proper = second_so (is_rising (setting_names ns)) _ n in record {
      files = fs;
      nodes = ns;
      made = refl;
      paths = first_so (is_rising (paths_of fs)) _ f;
      main = first_so (has_main fs) _ rest;
      short = second_so (has_main fs) _ rest;
      names = first_so (is_rising (setting_names ns)) _ n;
      facts = first_so (have_facts ns) _ proper;
      proper = second_so (have_facts ns) _ proper;
    }

pub site_holds : (d : Data) → is_read d ≡ true → Holds IsSite (site_said d)
unfolding site_said
site_holds d h = holds_both are_files good_nodes IsSite site_of made_so (files_said d) (nodes_said d) (files_good d) (nodes_good d h)

-- ---- of what a site may be made

-- the files that are said
pub record ReadyFiles (fs : List Filed) : Type 0 where
  pub distinct : IsTrue (are_distinct fs)
  pub main : IsTrue (has_main fs)
  pub short : IsTrue (are_short fs)

pub files_ready : (d : Data) (fs : List Filed) → Some fs ≡ files_said d → ReadyFiles fs
files_ready d fs e =
    let h = subst (Each are_files) (sym e) (files_good d) in
    let rest = second_so (is_rising (paths_of fs)) _ h in record {
      distinct = distinct_rising fs (first_so (is_rising (paths_of fs)) _ h);
      main = first_so (has_main fs) _ rest;
      short = second_so (has_main fs) _ rest;
    }

facts_listed : (ms : Members) → Each have_facts (listed_said ms)
facts_listed no_members = refl
facts_listed (member name d ms) =
    each_both are_facts have_facts have_facts (λ facts nodes. (name, facts) ∷ nodes) (λ f ns x y. both_true x y)
    (facts_said d) (listed_said ms)
    (each_then any are_facts if_facts (λ v h. each_if are_facts (are_facts v) (Some v) None (λ e. e) (λ e. tt)) (value_of d) (all _))
    (facts_listed ms)

abbrev ready_nodes : List Listed → Bool
ready_nodes ns = is_rising (setting_names ns) && have_facts ns

nodes_listed : (d : Data) → Each ready_nodes (nodes_said d)
nodes_listed d =
    each_then have_facts ready_nodes if_rising
    (λ ns p. each_if ready_nodes (is_rising (setting_names ns)) (Some ns) None (λ e. both_true e p) (λ e. tt))
    (option_and_then listed_said (members_at (codes "nodes") d))
    (each_then any have_facts listed_said (λ ms h. facts_listed ms) (members_at (codes "nodes") d) (all _))

-- the nodes that are said
pub record ReadyNodes (ns : List Listed) : Type 0 where
  pub distinct : IsTrue (are_distinct ns)
  pub facts : IsTrue (have_facts ns)

pub nodes_ready : (d : Data) (ns : List Listed) → Some ns ≡ nodes_said d → ReadyNodes ns
nodes_ready d ns e =
    let h = subst (Each ready_nodes) (sym e) (nodes_listed d) in record {
      distinct = distinct_rising ns (first_so (is_rising (setting_names ns)) _ h);
      facts = second_so (is_rising (setting_names ns)) _ h;
    }
