-- The routes find what the path names.
use Rattle.std.proofs.Common.{◌≡◌, ℕ, zero, suc, ◌-◌, Bool, true, false, ◌==◌, IsTrue, List, [], ◌∷◌, ◌++◌, length, drop, Option, Some, None, refl, sym, ap, ◌∙◌, subst, arith}
use Rattle.std.specs.Prelude.{Result, IfOk, nat_eq, if◌then◌else◌, cond, codes, option_map, option_and_then, nat_le, ◌&&◌}
use Rattle.std.specs.Cmp.Lexicographic.{pointwise}
use Rattle.std.specs.List.{list_all, starts_with}
use Rattle.std.proofs.lemmas.Bool.{and_from, and_parts, eqb-true}
use Rattle.std.proofs.lemmas.Bool.Decides.{Decides-eqb}
use Rattle.std.proofs.lemmas.Slice.Eq.{starts_is, slice_eq-Decides}
use Rattle.matchit.proofs.OnLiterals.{matchit_on_literals}
use Rattle.matchit.specs.Rows.{RowsOf, param_token}
use Rattle.matchit.specs.Router.{RouteOf}
use Rattle.matchit.specs.Seek.{first, seek, step, own, or_else as or_route, has_slash, slash, param_step}
use Rattle.site_io.specs.Folders.{after_front}
use Rattle.word_rules.specs.NodeNames.{is_node_name, is_node_name_byte}
use Rattle.word_rules.specs.declared.limits.TheConstants.{MOST_NAME_CHARACTERS}
use Rattle.site_bundle.specs.RequestsOf.{if_node_name}
use Rattle.site_serve.specs.Endpoints.{node_behind, or_else, site_at, endpoint_of}
use Rattle.site_serve.specs.Steps.{node_route, site_route, known_routes, route_of, named_by}
use Rattle.site_serve.specs.declared.endpoint.Endpoint.{Endpoint}
use Rattle.site_serve.specs.declared.endpoint.Endpoint.TheVariants as at
use Rattle.site_serve.specs.declared.routes.Route.{Route}
use Rattle.site_serve.specs.declared.routes.Route.TheVariants as route

-- ---- one path over rows

module _ {K : Type 0} where
  or_first : (o x : Option K) (k : K) → o ≡ Some k → or_route o x ≡ Some k
  or_first o x k is = ap (λ a. or_route a x) is

  or_second : (o p x : Option K) (k : K) → o ≡ None → p ≡ Some k → or_route o (or_route p x) ≡ Some k
  or_second o p x k none is = ap (λ a. or_route a (or_route p x)) none ∙ ap (λ a. or_route a x) is

  -- the rows that go on behind these bytes
  abbrev steps : List ℕ → RowsOf K → RowsOf K
  steps [] rs = rs
  steps (b ∷ word) rs = steps word (step b rs)

  one_byte : (b : ℕ) (rs : RowsOf K) (path : List ℕ) (k : K) → seek 0 (step b rs) path ≡ Some k →
      seek 0 rs (b ∷ path) ≡ Some k
  unfolding seek
  one_byte b rs path k is = or_first (seek 0 (step b rs) path) _ k is

  behind : (word : List ℕ) (rs : RowsOf K) (path : List ℕ) (k : K) → seek 0 (steps word rs) path ≡ Some k →
      seek 0 rs (word ++ path) ≡ Some k
  behind [] rs path k is = is
  behind (b ∷ word) rs path k is = one_byte b rs (word ++ path) k (behind word (step b rs) path k is)

  or_none : (o p x : Option K) → o ≡ None → p ≡ None → x ≡ None → or_route o (or_route p x) ≡ None
  or_none o p x first second third =
      ap (λ a. or_route a (or_route p x)) first ∙ ap (λ a. or_route a x) second ∙ third

  -- what a parameter takes where no row goes on with one
  abbrev no_step : Bool → ℕ → ℕ × RowsOf K
  no_step c n = cond c (0, []) (n, [])

  no_rows : (c : Bool) (n : ℕ) → (no_step c n).1 ≡ []
  no_rows true n = refl
  no_rows false n = refl

  nothing : (skip : ℕ) (path : List ℕ) → seek {K = K} skip [] path ≡ None
  unfolding seek param_step
  nothing zero [] = refl
  nothing (suc skip) [] = refl
  nothing (suc skip) (b ∷ path) = nothing skip path
  nothing zero (b ∷ path) =
      or_none _ _ _ (nothing 0 path)
      (subst (λ rs. seek {K = K} ((no_step (has_slash (b ∷ path)) (length (b ∷ path))).0 - 1) rs path ≡ None)
      (sym (no_rows (has_slash (b ∷ path)) (length (b ∷ path))))
      (nothing ((no_step (has_slash (b ∷ path)) (length (b ∷ path))).0 - 1) path))
      refl

  all_taken : (rs : RowsOf K) (path : List ℕ) → seek (length path) rs path ≡ own rs
  unfolding seek
  all_taken rs [] = refl
  all_taken rs (b ∷ path) = all_taken rs path

  abbrev ends_here : K → RowsOf K
  ends_here k = ([], k) ∷ []

  no_literal : (c : Bool) (k : K) (path : List ℕ) → c ≡ false → seek 0 (cond c (ends_here k) []) path ≡ None
  no_literal true k path is = absurd cc
  no_literal false k path is = nothing 0 path

  -- what a parameter takes where a row ends with one
  abbrev one_step : Bool → ℕ → K → ℕ × RowsOf K
  one_step c n k = cond c (0, []) (n, ends_here k)

  whole : (c : Bool) (k : K) (path : List ℕ) → c ≡ false →
      seek ((one_step c (suc (length path)) k).0 - 1) (one_step c (suc (length path)) k).1 path ≡ Some k
  whole true k path is = absurd cc
  whole false k path is =
      subst (λ n. seek n (ends_here k) path ≡ Some k) (omega arith) (all_taken (ends_here k) path)

  -- a parameter takes a segment whole
  one_segment : (x : ℕ) (xs : List ℕ) (k : K) → (param_token == x) ≡ false → has_slash (x ∷ xs) ≡ false →
      seek 0 ((param_token ∷ [], k) ∷ []) (x ∷ xs) ≡ Some k
  unfolding seek param_step
  one_segment x xs k other apart =
      or_second _ _ _ k (no_literal (param_token == x) k xs other) (whole (has_slash (x ∷ xs)) k xs apart)

-- ---- names of nodes

no_name_byte : (b n : ℕ) (c : Bool) → (b == n) ≡ c → is_node_name_byte n ≡ false → is_node_name_byte b ≡ true →
    c ≡ false
no_name_byte b n true same out is =
    absurd (cc (sym is ∙ ap is_node_name_byte (eqb-true b n same) ∙ out))
no_name_byte b n false same out is = refl

no_slash : (name : List ℕ) → list_all is_node_name_byte name ≡ true → has_slash name ≡ false
no_slash [] all = refl
no_slash (b ∷ bs) all =
    let here = and_parts _ _ all in
    ap (λ c. cond c true (has_slash bs)) (no_name_byte b slash (b == slash) refl refl here.0) ∙ no_slash bs here.1

no_param : (b : ℕ) → is_node_name_byte b ≡ true → (param_token == b) ≡ false
no_param b is = no_name_param (param_token == b) refl
  where
    no_name_param : (c : Bool) → (param_token == b) ≡ c → c ≡ false
    no_name_param true same = absurd (cc (sym is ∙ ap is_node_name_byte (sym (eqb-true param_token b same))))
    no_name_param false same = refl

-- ---- what stands behind a front

split_at : (front path rest : List ℕ) (c : Bool) → c ≡ starts_with nat_eq path front →
    (if c then Some (drop (length front) path) else None) ≡ Some rest → path ≡ front ++ rest
split_at front path rest true is some =
    let e : drop (length front) path ≡ rest = cc (some) in
    (starts_is Decides-eqb path front true is).0 refl ∙ ap (λ l. front ++ l) e
split_at front path rest false is some = absurd (cc some)

named_text : (c : Bool) (text name : List ℕ) → c ≡ is_node_name text → (if c then Some text else None) ≡ Some name →
    (text ≡ name) × (is_node_name name ≡ true)
named_text true text name is some =
    let e : text ≡ name = cc (some) in (e, ap is_node_name (sym e) ∙ sym is)
named_text false text name is some = absurd (cc some)

name_behind : (o : Option (List ℕ)) (name : List ℕ) → option_and_then if_node_name o ≡ Some name →
    (o ≡ Some name) × (is_node_name name ≡ true)
name_behind None name is = absurd (cc is)
name_behind (Some text) name is =
    let here = named_text (is_node_name text) text name refl is in (ap Some here.0, here.1)

node_is : (front path name : List ℕ) → node_behind front path ≡ Some name →
    (path ≡ front ++ name) × (is_node_name name ≡ true)
node_is front path name is =
    let here = name_behind (after_front front path) name is in
    (split_at front path name (starts_with nat_eq path front) refl here.0, here.1)

name_bytes : (name : List ℕ) → is_node_name name ≡ true → list_all is_node_name_byte name ≡ true
name_bytes name is =
    (and_parts (nat_le 1 (length name) && nat_le (length name) MOST_NAME_CHARACTERS) (list_all is_node_name_byte name)
    is).1

module _ {K : Type 0} where
  one_node : (name : List ℕ) (k : K) → is_node_name name ≡ true → seek 0 ((param_token ∷ [], k) ∷ []) name ≡ Some k
  one_node [] k is = absurd (cc is)
  one_node (x ∷ xs) k is =
      let bytes = name_bytes (x ∷ xs) is in
      one_segment x xs k (no_param x (and_parts _ _ bytes).0) (no_slash (x ∷ xs) bytes)

routed : (front path name : List ℕ) (r : RouteOf Route) → steps front known_routes ≡ (param_token ∷ [], r) ∷ [] →
    node_behind front path ≡ Some name → route_of path ≡ Some r.value
routed front path name r rows is =
    let here = node_is front path name is in
    ap (λ p. route_of p) here.0 ∙ ap (option_map (λ x. x.value)) (behind front known_routes name r
    (subst (λ l. seek 0 l name ≡ Some r) (sym rows) (one_node name r here.1)))

catalog_routed : (path name : List ℕ) → node_behind (codes "/catalog/") path ≡ Some name →
    route_of path ≡ Some route.Catalog
catalog_routed path name is = routed (codes "/catalog/") path name _ refl is

node_routed : (path name : List ℕ) → node_behind (codes "/node/") path ≡ Some name → route_of path ≡ Some route.Node
node_routed path name is = routed (codes "/node/") path name _ refl is

report_routed : (path name : List ℕ) → node_behind (codes "/report/") path ≡ Some name →
    route_of path ≡ Some route.Report
report_routed path name is = routed (codes "/report/") path name _ refl is

site_found : route_of (codes "/site") ≡ Some route.Site
unfolding matchit_on_literals
site_found = refl

is_site : (path : List ℕ) (c : Bool) (e : Endpoint) → c ≡ pointwise nat_eq path (codes "/site") →
    (if c then Some at.Site else None) ≡ Some e → route_of path ≡ Some route.Site
is_site path true e is some =
    ap route_of ((slice_eq-Decides Decides-eqb path (codes "/site") true is).0 refl) ∙ site_found
is_site path false e is some = absurd (cc some)

-- ---- all paths

-- what is named by a route, from what each form of path names
abbrev picked : Option Route → (c n r : Option (List ℕ)) → Option Endpoint → Option Endpoint
picked (Some route.Catalog) c n r s = option_map at.Catalog c
picked (Some route.Node) c n r s = option_map at.Node n
picked (Some route.Report) c n r s = option_map at.Report r
picked (Some route.Site) c n r s = s
picked None c n r s = None

picked_none : (o : Option Route) → picked o None None None None ≡ None
picked_none (Some route.Catalog) = refl
picked_none (Some route.Node) = refl
picked_none (Some route.Report) = refl
picked_none (Some route.Site) = refl
picked_none None = refl

first_is : (o : Option Route) (c n r : Option (List ℕ)) (s : Option Endpoint) →
    ((x : List ℕ) → c ≡ Some x → o ≡ Some route.Catalog) → ((x : List ℕ) → n ≡ Some x → o ≡ Some route.Node) →
    ((x : List ℕ) → r ≡ Some x → o ≡ Some route.Report) → ((e : Endpoint) → s ≡ Some e → o ≡ Some route.Site) →
    picked o c n r s ≡ or_else (option_map at.Catalog c) (or_else (option_map at.Node n)
    (or_else (option_map at.Report r) s))
first_is o (Some x) n r s c_is n_is r_is s_is = ap (λ a. picked a (Some x) n r s) (c_is x refl)
first_is o None (Some x) r s c_is n_is r_is s_is = ap (λ a. picked a None (Some x) r s) (n_is x refl)
first_is o None None (Some x) s c_is n_is r_is s_is = ap (λ a. picked a None None (Some x) s) (r_is x refl)
first_is o None None None (Some e) c_is n_is r_is s_is = ap (λ a. picked a None None None (Some e)) (s_is e refl)
first_is o None None None None c_is n_is r_is s_is = picked_none o

named_picked : (o : Option Route) (path : List ℕ) →
    named_by o path ≡ picked o (node_behind (codes "/catalog/") path) (node_behind (codes "/node/") path)
    (node_behind (codes "/report/") path) (site_at path)
named_picked (Some route.Catalog) path = refl
named_picked (Some route.Node) path = refl
named_picked (Some route.Report) path = refl
named_picked (Some route.Site) path = refl
named_picked None path = refl

named_is : (path : List ℕ) → named_by (route_of path) path ≡ endpoint_of path
named_is path =
    named_picked (route_of path) path
    ∙ first_is (route_of path) (node_behind (codes "/catalog/") path) (node_behind (codes "/node/") path)
    (node_behind (codes "/report/") path) (site_at path) (catalog_routed path) (node_routed path) (report_routed path)
    (λ e. is_site path (pointwise nat_eq path (codes "/site")) e refl)

pub endpoint_named : {M : Type 0} (path : List ℕ) (r : Option Route) (result : Result (Option Endpoint) M) →
    r ≡ route_of path → IfOk result (λ e. e ≡ named_by r path) → IfOk result (λ e. e ≡ endpoint_of path)
endpoint_named path r result is named =
    subst (λ x. IfOk result (λ e. e ≡ x)) (ap (λ o. named_by o path) is ∙ named_is path) named
