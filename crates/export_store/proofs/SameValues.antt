-- Values are exactly the same where they are one value.
use Rattle.std.proofs.Common.{◌≡◌, true, refl, sym, ap, ◌∙◌, subst, true≢false}
use Rattle.std.specs.Bool.{Decides}
use Rattle.std.specs.Cmp.{first_so, second_so, booleans_Decides, signed_Decides, unsigned_Decides}
use Rattle.std.proofs.lemmas.Bool.{and_from}
use Rattle.std.proofs.lemmas.Slice.Eq.{bytes_eq-Decides}
use Rattle.pp_ops.specs.Same.{same, members_same, entries_same}
use Rattle.pp_values.specs.declared.bounds.Bound.{Bound}
use Rattle.pp_values.specs.declared.bounds.Bound.TheVariants.{Default, Number}
use Rattle.pp_values.specs.declared.reference.Reference.{Reference}
use Rattle.pp_values.specs.Datum as d
use Rattle.pp_values.specs.Datum.{Datum, Data, Entries}
use Rattle.pp_values.specs.References.{same_reference, same_reference_equiv}
use Rattle.pp_values.specs.Sort as s
use Rattle.pp_values.specs.Sort.{Name, Sort, Arguments, name_number, named_kind, same_name, same_bound, same_type, same_arguments}
use Rattle.pp_values.specs.SortCodes.{name_from, name_back}

name_itself : (n : Name) → same_name n n ≡ true
name_itself n =
    and_from _ _ ((unsigned_Decides (name_number n) (name_number n)).1 refl)
    ((bytes_eq-Decides (named_kind n) (named_kind n)).1 refl)

bound_itself : (b : Bound) → same_bound b b ≡ true
bound_itself Default = refl
bound_itself (Number a) = (signed_Decides a a).1 refl

mutual
  type_itself : (t : Sort) → same_type t t ≡ true
  type_itself (s.of n xs) = and_from _ _ (name_itself n) (arguments_itself xs)

  arguments_itself : (xs : Arguments) → same_arguments xs xs ≡ true
  arguments_itself s.none = refl
  arguments_itself (s.kind t xs) = and_from _ _ (type_itself t) (arguments_itself xs)
  arguments_itself (s.bound b xs) = and_from _ _ (bound_itself b) (arguments_itself xs)
  arguments_itself (s.text t xs) = and_from _ _ ((bytes_eq-Decides t t).1 refl) (arguments_itself xs)

mutual
  value_itself : (v : Datum) → same v v ≡ true
  value_itself d.undef = refl
  value_itself (d.flag b) = (booleans_Decides b b).1 refl
  value_itself (d.int z) = (signed_Decides z z).1 refl
  value_itself (d.text t) = (bytes_eq-Decides t t).1 refl
  value_itself (d.list vs) = members_itself vs
  value_itself (d.hash es) = entries_itself es
  value_itself (d.reference r) = same_reference_equiv.refl r
  value_itself (d.kind t) = type_itself t
  value_itself d.default = refl

  members_itself : (vs : Data) → members_same vs vs ≡ true
  members_itself d.no_data = refl
  members_itself (d.datum v vs) = and_from _ _ (value_itself v) (members_itself vs)

  entries_itself : (es : Entries) → entries_same es es ≡ true
  entries_itself d.no_entries = refl
  entries_itself (d.entry k v es) = and_from _ _ (and_from _ _ (value_itself k) (value_itself v)) (entries_itself es)

one_reference : (r t : Reference) → same_reference r t ≡ true → r ≡ t
one_reference r t h =
    let kinds : r.kind ≡ t.kind = (bytes_eq-Decides r.kind t.kind).0 (first_so _ _ h) in
    let titles : r.title ≡ t.title = (bytes_eq-Decides r.title t.title).0 (second_so _ _ h) in
    λ i. record { kind = kinds i; title = titles i }

one_name : (m n : Name) → same_name m n ≡ true → m ≡ n
one_name m n h =
    let numbers : name_number m ≡ name_number n =
    (unsigned_Decides (name_number m) (name_number n)).0 (first_so _ _ h) in
    let kinds : named_kind m ≡ named_kind n = (bytes_eq-Decides (named_kind m) (named_kind n)).0 (second_so _ _ h) in
    sym (name_back m) ∙ (λ i. name_from (numbers i, kinds i)) ∙ name_back n

one_bound : (a b : Bound) → same_bound a b ≡ true → a ≡ b
one_bound Default Default h = refl
one_bound (Number a) (Number b) h = ap Number ((signed_Decides a b).0 h)
one_bound a b h = absurd (true≢false (sym h))

mutual
  one_type : (x y : Sort) → same_type x y ≡ true → x ≡ y
  one_type (s.of m xs) (s.of n ys) h =
      λ i. s.of (one_name m n (first_so _ _ h) i) (one_arguments xs ys (second_so _ _ h) i)

  one_arguments : (x y : Arguments) → same_arguments x y ≡ true → x ≡ y
  one_arguments s.none s.none h = refl
  one_arguments (s.kind t xs) (s.kind u ys) h =
      λ i. s.kind (one_type t u (first_so _ _ h) i) (one_arguments xs ys (second_so _ _ h) i)
  one_arguments (s.bound a xs) (s.bound b ys) h =
      λ i. s.bound (one_bound a b (first_so _ _ h) i) (one_arguments xs ys (second_so _ _ h) i)
  one_arguments (s.text a xs) (s.text b ys) h =
      λ i. s.text ((bytes_eq-Decides a b).0 (first_so _ _ h) i) (one_arguments xs ys (second_so _ _ h) i)
  one_arguments x y h = absurd (true≢false (sym h))

mutual
  one_value : (x y : Datum) → same x y ≡ true → x ≡ y
  one_value d.undef d.undef h = refl
  one_value (d.flag a) (d.flag b) h = ap d.flag ((booleans_Decides a b).0 h)
  one_value (d.int a) (d.int b) h = ap d.int ((signed_Decides a b).0 h)
  one_value (d.text a) (d.text b) h = ap d.text ((bytes_eq-Decides a b).0 h)
  one_value (d.list a) (d.list b) h = ap d.list (one_list a b h)
  one_value (d.hash a) (d.hash b) h = ap d.hash (one_hash a b h)
  one_value (d.reference r) (d.reference t) h = ap d.reference (one_reference r t h)
  one_value (d.kind t) (d.kind u) h = ap d.kind (one_type t u h)
  one_value d.default d.default h = refl
  one_value x y h = absurd (true≢false (sym h))

  one_list : (x y : Data) → members_same x y ≡ true → x ≡ y
  one_list d.no_data d.no_data h = refl
  one_list (d.datum a xs) (d.datum b ys) h =
      λ i. d.datum (one_value a b (first_so _ _ h) i) (one_list xs ys (second_so _ _ h) i)
  one_list x y h = absurd (true≢false (sym h))

  one_hash : (x y : Entries) → entries_same x y ≡ true → x ≡ y
  one_hash d.no_entries d.no_entries h = refl
  one_hash (d.entry k v xs) (d.entry l w ys) h =
      λ i. d.entry (one_value k l (first_so _ _ (first_so _ _ h)) i) (one_value v w (second_so _ _ (first_so _ _ h)) i)
      (one_hash xs ys (second_so _ _ h) i)
  one_hash x y h = absurd (true≢false (sym h))

pub same_Decides : (x y : Datum) → Decides (same x y) (x ≡ y)
same_Decides x y = (one_value x y, λ is. subst (λ (z : Datum). same x z ≡ true) is (value_itself x))
