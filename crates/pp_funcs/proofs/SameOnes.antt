-- Values that are exactly the same are one value.
use Rattle.std.proofs.Common.{◌≡◌, true, refl, sym, ap, ◌∙◌, true≢false}
use Rattle.std.specs.Cmp.{first_so, second_so, booleans_Decides, signed_Decides, unsigned_Decides}
use Rattle.std.proofs.lemmas.Slice.Eq.{bytes_eq-Decides}
use Rattle.pp_ops.specs.Same.{same, members_same, entries_same}
use Rattle.pp_values.specs.declared.bounds.Bound.{Bound}
use Rattle.pp_values.specs.declared.bounds.Bound.TheVariants.{Default, Number}
use Rattle.pp_values.specs.declared.reference.Reference.{Reference}
use Rattle.pp_values.specs.Datum as d
use Rattle.pp_values.specs.Datum.{Datum, Data, Entries}
use Rattle.pp_values.specs.References.{same_reference}
use Rattle.pp_values.specs.Sort as s
use Rattle.pp_values.specs.Sort.{Name, Sort, Arguments, name_number, named_kind, same_name, same_bound, same_type, same_arguments}
use Rattle.pp_values.specs.SortCodes.{name_from, name_back}

one_reference : (r t : Reference) → same_reference r t ≡ true → r ≡ t
one_reference r t h =
    let kinds : r.kind ≡ t.kind = (bytes_eq-Decides r.kind t.kind).0 (first_so _ _ h) in
    let titles : r.title ≡ t.title = (bytes_eq-Decides r.title t.title).0 (second_so _ _ h) in
    λ i. record { kind = kinds i; title = titles i }

one_name : (m n : Name) → same_name m n ≡ true → m ≡ n
one_name m n h =
    let numbers : name_number m ≡ name_number n =
    (unsigned_Decides (name_number m) (name_number n)).0 (first_so _ _ h) in
    let kinds : named_kind m ≡ named_kind n = (bytes_eq-Decides (named_kind m) (named_kind n)).0 (second_so _ _ h) in
    sym (name_back m) ∙ (λ i. name_from (numbers i, kinds i)) ∙ name_back n

one_bound : (a b : Bound) → same_bound a b ≡ true → a ≡ b
one_bound Default Default h = refl
one_bound (Number a) (Number b) h = ap Number ((signed_Decides a b).0 h)
one_bound a b h = absurd (true≢false (sym h))

mutual
  one_type : (x y : Sort) → same_type x y ≡ true → x ≡ y
  one_type (s.of m xs) (s.of n ys) h =
      λ i. s.of (one_name m n (first_so _ _ h) i) (one_arguments xs ys (second_so _ _ h) i)

  one_arguments : (x y : Arguments) → same_arguments x y ≡ true → x ≡ y
  one_arguments s.none s.none h = refl
  one_arguments (s.kind t xs) (s.kind u ys) h =
      λ i. s.kind (one_type t u (first_so _ _ h) i) (one_arguments xs ys (second_so _ _ h) i)
  one_arguments (s.bound a xs) (s.bound b ys) h =
      λ i. s.bound (one_bound a b (first_so _ _ h) i) (one_arguments xs ys (second_so _ _ h) i)
  one_arguments (s.text a xs) (s.text b ys) h =
      λ i. s.text ((bytes_eq-Decides a b).0 (first_so _ _ h) i) (one_arguments xs ys (second_so _ _ h) i)
  one_arguments x y h = absurd (true≢false (sym h))

mutual
  pub one_value : (x y : Datum) → same x y ≡ true → x ≡ y
  one_value d.undef d.undef h = refl
  one_value (d.flag a) (d.flag b) h = ap d.flag ((booleans_Decides a b).0 h)
  one_value (d.int a) (d.int b) h = ap d.int ((signed_Decides a b).0 h)
  one_value (d.text a) (d.text b) h = ap d.text ((bytes_eq-Decides a b).0 h)
  one_value (d.list a) (d.list b) h = ap d.list (one_list a b h)
  one_value (d.hash a) (d.hash b) h = ap d.hash (one_hash a b h)
  one_value (d.reference r) (d.reference t) h = ap d.reference (one_reference r t h)
  one_value (d.kind t) (d.kind u) h = ap d.kind (one_type t u h)
  one_value d.default d.default h = refl
  one_value x y h = absurd (true≢false (sym h))

  one_list : (x y : Data) → members_same x y ≡ true → x ≡ y
  one_list d.no_data d.no_data h = refl
  one_list (d.datum a xs) (d.datum b ys) h =
      λ i. d.datum (one_value a b (first_so _ _ h) i) (one_list xs ys (second_so _ _ h) i)
  one_list x y h = absurd (true≢false (sym h))

  one_hash : (x y : Entries) → entries_same x y ≡ true → x ≡ y
  one_hash d.no_entries d.no_entries h = refl
  one_hash (d.entry k v xs) (d.entry l w ys) h =
      λ i. d.entry (one_value k l (first_so _ _ (first_so _ _ h)) i) (one_value v w (second_so _ _ (first_so _ _ h)) i)
      (one_hash xs ys (second_so _ _ h) i)
  one_hash x y h = absurd (true≢false (sym h))
