-- Each value is the same as itself; and texts that are the same.
use Rattle.std.proofs.Common.{◌≡◌, ℕ, true, List, refl, sym, ap, true≢false}
use Rattle.std.specs.Cmp.{booleans_Decides, signed_Decides, unsigned_Decides}
use Rattle.std.proofs.lemmas.Bool.{and_from}
use Rattle.std.proofs.lemmas.Slice.Eq.{bytes_eq-Decides}
use Rattle.pp_ops.specs.Same.{same, members_same, entries_same}
use Rattle.pp_values.specs.declared.bounds.Bound.{Bound}
use Rattle.pp_values.specs.declared.bounds.Bound.TheVariants.{Default, Number}
use Rattle.pp_values.specs.Datum as d
use Rattle.pp_values.specs.Datum.{Datum, Data, Entries}
use Rattle.pp_values.specs.References.{same_reference_equiv}
use Rattle.pp_values.specs.Sort as s
use Rattle.pp_values.specs.Sort.{Name, Sort, Arguments, name_number, named_kind, same_name, same_bound, same_type, same_arguments}

name_itself : (n : Name) → same_name n n ≡ true
name_itself n =
    and_from _ _ ((unsigned_Decides (name_number n) (name_number n)).1 refl)
    ((bytes_eq-Decides (named_kind n) (named_kind n)).1 refl)

bound_itself : (b : Bound) → same_bound b b ≡ true
bound_itself Default = refl
bound_itself (Number a) = (signed_Decides a a).1 refl

mutual
  type_itself : (t : Sort) → same_type t t ≡ true
  type_itself (s.of n xs) = and_from _ _ (name_itself n) (arguments_itself xs)

  arguments_itself : (xs : Arguments) → same_arguments xs xs ≡ true
  arguments_itself s.none = refl
  arguments_itself (s.kind t xs) = and_from _ _ (type_itself t) (arguments_itself xs)
  arguments_itself (s.bound b xs) = and_from _ _ (bound_itself b) (arguments_itself xs)
  arguments_itself (s.text t xs) = and_from _ _ ((bytes_eq-Decides t t).1 refl) (arguments_itself xs)

mutual
  pub same_itself : (v : Datum) → same v v ≡ true
  same_itself d.undef = refl
  same_itself (d.flag b) = (booleans_Decides b b).1 refl
  same_itself (d.int z) = (signed_Decides z z).1 refl
  same_itself (d.text t) = (bytes_eq-Decides t t).1 refl
  same_itself (d.list vs) = members_itself vs
  same_itself (d.hash es) = entries_itself es
  same_itself (d.reference r) = same_reference_equiv.refl r
  same_itself (d.kind t) = type_itself t
  same_itself d.default = refl

  members_itself : (vs : Data) → members_same vs vs ≡ true
  members_itself d.no_data = refl
  members_itself (d.datum v vs) = and_from _ _ (same_itself v) (members_itself vs)

  entries_itself : (es : Entries) → entries_same es es ≡ true
  entries_itself d.no_entries = refl
  entries_itself (d.entry k v es) = and_from _ _ (and_from _ _ (same_itself k) (same_itself v)) (entries_itself es)

-- a value is a text that it is the same as
pub text_before : (v : Datum) (t : List ℕ) → same v (d.text t) ≡ true → v ≡ d.text t
text_before (d.text a) t h = ap d.text ((bytes_eq-Decides a t).0 h)
text_before v t h = absurd (true≢false (sym h))

pub text_behind : (v : Datum) (t : List ℕ) → same (d.text t) v ≡ true → v ≡ d.text t
text_behind (d.text a) t h = ap d.text (sym ((bytes_eq-Decides t a).0 h))
text_behind v t h = absurd (true≢false (sym h))
