-- The codes by which a proof tells values apart.
use Rattle.std.specs.Prelude.{◌≡◌, ℕ, List, refl}
use Rattle.std.proofs.Common.{ap, subst}
use Rattle.std.specs.Coded.{Coded, code_by, coded×, coded_ℕ, coded_ℤ, coded_bool, coded_list}
use base.Stored.{Gv, gnil, gnum, gcons}
use Rattle.pp_values.specs.declared.reference.Reference.{Reference}
use Rattle.pp_values.specs.SortCodes.{head, tail, tag, Tagged, coded_sort}
use Rattle.pp_values.specs.Datum.{Datum, undef, flag, int, text, list, hash, reference, kind, default, Data, no_data}
use Rattle.pp_values.specs.Datum.{datum, Entries, no_entries, entry, Pair}

abbrev pub coded_text : Coded (List ℕ)
coded_text = coded_list coded_ℕ

abbrev pub coded_reference : Coded Reference
coded_reference =
    code_by (List ℕ × List ℕ) (coded× coded_text coded_text) (λ r. (r.kind, r.title))
    (λ p. record { kind = p.0; title = p.1 }) (λ _. refl)

abbrev mutual
  pub datum_code : Datum → Gv
  datum_code undef = gcons (gnum 0) gnil
  datum_code (flag b) = gcons (gnum 1) (coded_bool.code b)
  datum_code (int z) = gcons (gnum 2) (coded_ℤ.code z)
  datum_code (text t) = gcons (gnum 3) (coded_text.code t)
  datum_code (list ds) = gcons (gnum 4) (data_code ds)
  datum_code (hash es) = gcons (gnum 5) (entries_code es)
  datum_code (reference r) = gcons (gnum 6) (coded_reference.code r)
  datum_code (kind s) = gcons (gnum 7) (coded_sort.code s)
  datum_code default = gcons (gnum 8) gnil

  pub data_code : Data → Gv
  data_code no_data = gcons (gnum 0) gnil
  data_code (datum d ds) = gcons (gnum 1) (gcons (datum_code d) (data_code ds))

  pub entries_code : Entries → Gv
  entries_code no_entries = gcons (gnum 0) gnil
  entries_code (entry k v es) = gcons (gnum 1) (gcons (datum_code k) (gcons (datum_code v) (entries_code es)))

mutual
  pub datum_inj : (x y : Datum) → datum_code x ≡ datum_code y → x ≡ y
  datum_inj undef undef p = refl
  datum_inj (flag a) (flag b) p = λ i. flag (coded_bool.inj a b (ap tail p) i)
  datum_inj (int a) (int b) p = λ i. int (coded_ℤ.inj a b (ap tail p) i)
  datum_inj (text a) (text b) p = λ i. text (coded_text.inj a b (ap tail p) i)
  datum_inj (list a) (list b) p = λ i. list (data_inj a b (ap tail p) i)
  datum_inj (hash a) (hash b) p = λ i. hash (entries_inj a b (ap tail p) i)
  datum_inj (reference a) (reference b) p = λ i. reference (coded_reference.inj a b (ap tail p) i)
  datum_inj (kind a) (kind b) p = λ i. kind (coded_sort.inj a b (ap tail p) i)
  datum_inj default default p = refl
  datum_inj x y p = absurd (subst (Tagged (tag (datum_code x))) p tt)

  pub data_inj : (x y : Data) → data_code x ≡ data_code y → x ≡ y
  data_inj no_data no_data p = refl
  data_inj (datum a xs) (datum b ys) p =
      λ i. datum (datum_inj a b (ap (λ g. head (tail g)) p) i) (data_inj xs ys (ap (λ g. tail (tail g)) p) i)
  data_inj x y p = absurd (subst (Tagged (tag (data_code x))) p tt)

  pub entries_inj : (x y : Entries) → entries_code x ≡ entries_code y → x ≡ y
  entries_inj no_entries no_entries p = refl
  entries_inj (entry k v es) (entry l w fs) p =
      λ i. entry (datum_inj k l (ap (λ g. head (tail g)) p) i) (datum_inj v w (ap (λ g. head (tail (tail g))) p) i)
      (entries_inj es fs (ap (λ g. tail (tail (tail g))) p) i)
  entries_inj x y p = absurd (subst (Tagged (tag (entries_code x))) p tt)

abbrev pub coded_datum : Coded Datum
coded_datum = record { code = datum_code; inj = datum_inj }

abbrev pub coded_data : Coded (List Datum)
coded_data = coded_list coded_datum

abbrev pub coded_pairs : Coded (List Pair)
coded_pairs = coded_list (coded× coded_datum coded_datum)
