-- Plain forms are plain, and what is plain is its own plain form.
use Rattle.std.proofs.Common.{◌≡◌, Bool, true, false, ◌&&◌, not, List, [], ◌∷◌, refl, ap, ap₂, ◌∙◌}
use Rattle.pp_values.specs.Datum.{Datum, undef, flag, int, text, list, hash, reference, kind, default, Data, no_data, datum, Entries, no_entries, entry, Pair, data_of, entries_of}
use Rattle.pp_values.specs.Keys.{is_key, same_key, lacks, are_distinct}
use Rattle.pp_values.specs.Plain.{is_plain_value, are_plain_values, are_plain_pairs}
use Rattle.catalog_finish.specs.PlainForms.{plain_of, plain_members, plain_entries, plain_pairs, plain_list}

both : (a b : Bool) → (a && b) ≡ true → (a ≡ true) × (b ≡ true)
both true true e = (refl, refl)
both true false e = absurd cc
both false b e = absurd cc

together : (a b : Bool) → a ≡ true → b ≡ true → (a && b) ≡ true
together true b p q = q
together false b p q = absurd cc

mutual
  pub plain_of-plain : (d : Datum) → is_plain_value (plain_of d) ≡ true
  plain_of-plain undef = refl
  plain_of-plain (flag b) = refl
  plain_of-plain (int z) = refl
  plain_of-plain (text t) = refl
  plain_of-plain (list ds) = plain_members-plain ds
  plain_of-plain (hash es) = plain_entries-plain es
  plain_of-plain (reference r) = refl
  plain_of-plain (kind s) = refl
  plain_of-plain default = refl

  plain_members-plain : (ds : Data) → are_plain_values (plain_members ds) ≡ true
  plain_members-plain no_data = refl
  plain_members-plain (datum d ds) =
      together (is_plain_value (plain_of d)) (are_plain_values (plain_members ds)) (plain_of-plain d)
      (plain_members-plain ds)

  plain_entries-plain : (es : Entries) → are_plain_pairs (plain_entries es) ≡ true
  plain_entries-plain no_entries = refl
  plain_entries-plain (entry k v es) =
      together (is_plain_value (plain_of k)) (is_plain_value (plain_of v) && are_plain_pairs (plain_entries es))
      (plain_of-plain k)
      (together (is_plain_value (plain_of v)) (are_plain_pairs (plain_entries es)) (plain_of-plain v)
      (plain_entries-plain es))

mutual
  pub plain_stays : (d : Datum) → is_plain_value d ≡ true → plain_of d ≡ d
  plain_stays undef e = refl
  plain_stays (flag b) e = refl
  plain_stays (int z) e = refl
  plain_stays (text t) e = refl
  plain_stays (list ds) e = ap list (members_stay ds e)
  plain_stays (hash es) e = ap hash (entries_stay es e)
  plain_stays (reference r) e = refl
  plain_stays (kind s) e = absurd cc
  plain_stays default e = absurd cc

  members_stay : (ds : Data) → are_plain_values ds ≡ true → plain_members ds ≡ ds
  members_stay no_data e = refl
  members_stay (datum d ds) e =
      let parts = both (is_plain_value d) (are_plain_values ds) e in
      ap₂ datum (plain_stays d parts.0) (members_stay ds parts.1)

  entries_stay : (es : Entries) → are_plain_pairs es ≡ true → plain_entries es ≡ es
  entries_stay no_entries e = refl
  entries_stay (entry k v es) e =
      let parts = both (is_plain_value k) (is_plain_value v && are_plain_pairs es) e in
      let more = both (is_plain_value v) (are_plain_pairs es) parts.1 in
      λ i. entry (plain_stays k parts.0 i) (plain_stays v more.0 i) (entries_stay es more.1 i)

pub members_as_list : (ds : List Datum) → plain_members (data_of ds) ≡ data_of (plain_list ds)
members_as_list [] = refl
members_as_list (d ∷ ds) = ap (datum (plain_of d)) (members_as_list ds)

pub pairs_as_list : (ps : List Pair) → plain_entries (entries_of ps) ≡ entries_of (plain_pairs ps)
pairs_as_list [] = refl
pairs_as_list (p ∷ ps) = ap (entry (plain_of p.0) (plain_of p.1)) (pairs_as_list ps)

-- ---- keys stay as they are

key_stays : (d : Datum) → is_key d ≡ true → plain_of d ≡ d
key_stays undef e = absurd cc
key_stays (flag b) e = absurd cc
key_stays (int z) e = refl
key_stays (text t) e = refl
key_stays (list ds) e = absurd cc
key_stays (hash es) e = absurd cc
key_stays (reference r) e = absurd cc
key_stays (kind s) e = absurd cc
key_stays default e = absurd cc

still_lacks : (k : Datum) (ps : List Pair) → are_distinct ps ≡ true → lacks k ps ≡ true →
    lacks k (plain_pairs ps) ≡ true
still_lacks k [] d e = refl
still_lacks k (p ∷ ps) d e =
    let keys = both (is_key p.0) (lacks p.0 ps && are_distinct ps) d in
    let rest = both (lacks p.0 ps) (are_distinct ps) keys.1 in
    let parts = both (not (same_key p.0 k)) (lacks k ps) e in
    together (not (same_key (plain_of p.0) k)) (lacks k (plain_pairs ps))
    (ap (λ x. not (same_key x k)) (key_stays p.0 keys.0) ∙ parts.0) (still_lacks k ps rest.1 parts.1)

pub still_distinct : (ps : List Pair) → are_distinct ps ≡ true → are_distinct (plain_pairs ps) ≡ true
still_distinct [] e = refl
still_distinct (p ∷ ps) e =
    let keys = both (is_key p.0) (lacks p.0 ps && are_distinct ps) e in
    let rest = both (lacks p.0 ps) (are_distinct ps) keys.1 in
    together (is_key (plain_of p.0)) (lacks (plain_of p.0) (plain_pairs ps) && are_distinct (plain_pairs ps))
    (ap is_key (key_stays p.0 keys.0) ∙ keys.0)
    (together (lacks (plain_of p.0) (plain_pairs ps)) (are_distinct (plain_pairs ps))
    (ap (λ x. lacks x (plain_pairs ps)) (key_stays p.0 keys.0) ∙ still_lacks p.0 ps rest.1 rest.0)
    (still_distinct ps rest.1))
