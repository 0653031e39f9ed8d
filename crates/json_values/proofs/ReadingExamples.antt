-- Some JSON as data, and some forms as values.
use Rattle.std.proofs.Common.{◌≡◌, ℕ, true, List, [], pos, negsuc, Some, None, refl, codes}
use Rattle.std.specs.Prelude.{Float}
use Rattle.serde_json.specs.Data as j
use Rattle.pp_values.specs.Datum as d
use Rattle.json_values.specs.declared.stops.Numbers.TheVariants as numbers
use Rattle.json_values.specs.FromData.{data_value}
use Rattle.json_values.specs.ValueForm.{form, long_form, reference_form}
use Rattle.json_values.specs.Forms.{form_of, value_of}

-- ---- data

number : ℕ → j.Data
number n = j.number (j.unsigned n)

-- the number is no 64-bit integer: 9223372036854775808, or any float
others : (x : Float) → (data_value numbers.Lenient (number 9223372036854775807) ≡ Some (d.int (pos 9223372036854775807)))
    × (data_value numbers.Lenient (number 9223372036854775808) ≡ Some d.undef)
    × (data_value numbers.Strict (number 9223372036854775808) ≡ None)
    × (data_value numbers.Lenient (j.number (j.float x)) ≡ Some d.undef)
    × (data_value numbers.Strict (j.number (j.float x)) ≡ None)
    × (data_value numbers.Strict (j.number (j.negative (negsuc 0))) ≡ Some (d.int (negsuc 0)))
unfolding number
others x = (refl, refl, refl, refl, refl, refl)

load : Float → j.Data
load x = j.object (j.member (codes "load") (j.number (j.float x)) (j.member (codes "n") (number 3) j.no_members))

-- one number within is enough
within : (x : Float) → (data_value numbers.Lenient (load x) ≡ Some (d.hash (d.entry (d.text (codes "load")) d.undef (d.entry (d.text (codes "n")) (d.int (pos 3)) d.no_entries))))
    × (data_value numbers.Strict (load x) ≡ None)
    × (data_value numbers.Strict (j.array (j.item (number 3) (j.item (load x) j.no_items))) ≡ None)
unfolding number load
within x = (refl, refl, refl)

same : (data_value numbers.Strict j.null ≡ Some d.undef)
    × (data_value numbers.Strict (j.boolean true) ≡ Some (d.flag true))
    × (data_value numbers.Strict (j.string (codes "a")) ≡ Some (d.text (codes "a")))
    × (data_value numbers.Strict (j.array (j.item j.null (j.item (j.array j.no_items) j.no_items))) ≡ Some (d.list (d.datum d.undef (d.datum (d.list d.no_data) d.no_data))))
    × (data_value numbers.Strict (j.object j.no_members) ≡ Some (d.hash d.no_entries))
same = (refl, refl, refl, refl, refl)

-- ---- forms

abbrev one : d.Datum → d.Datum → d.Datum
one k v = d.hash (d.entry k v d.no_entries)

abbrev two : List ℕ → List ℕ → d.Datum
two a b = d.hash (d.entry (d.text a) (d.int (pos 1)) (d.entry (d.text b) (d.int (pos 2)) d.no_entries))

-- what has a form is read out of it again
again : (value_of (form (two (codes "a") (codes "b"))) ≡ Some (two (codes "a") (codes "b")))
    × (value_of (form (two (codes "b") (codes "a"))) ≡ Some (two (codes "b") (codes "a")))
    × (value_of (form (two (codes "__p") (codes "a"))) ≡ Some (two (codes "__p") (codes "a")))
    × (value_of (form (one (d.int (pos 1)) (two (codes "b") (codes "a")))) ≡ Some (one (d.int (pos 1)) (two (codes "b") (codes "a"))))
    × (value_of (form (one (d.text (codes "a")) (d.list d.no_data))) ≡ Some (one (d.text (codes "a")) (d.list d.no_data)))
    × (value_of (form (d.hash d.no_entries)) ≡ Some (d.hash d.no_entries))
unfolding long_form
again = (refl, refl, refl, refl, refl, refl)

long : j.Items → j.Data
long items = long_form (j.array items)

abbrev listed : j.Data → j.Data → j.Items
listed a b = j.item a (j.item b j.no_items)

-- the long form where the short one is due; a key without a value, twice, or that is none; other names that begin with `__p`
no_hashes : (value_of (long j.no_items) ≡ None)
    × (value_of (long (listed (j.string (codes "a")) j.null)) ≡ None)
    × (value_of (long (listed (j.string (codes "__p")) j.null)) ≡ Some (one (d.text (codes "__p")) d.undef))
    × (value_of (long (j.item (number 1) j.no_items)) ≡ None)
    × (value_of (long (j.item (number 1) (j.item j.null (listed (number 1) j.null)))) ≡ None)
    × (value_of (long (listed j.null j.null)) ≡ None)
    × (value_of (j.object (j.member (codes "__pa") j.null j.no_members)) ≡ None)
    × (value_of (j.object (j.member (codes "__ptype") (j.string (codes "Hash")) (j.member (codes "__pvalue") j.null j.no_members))) ≡ None)
    × (value_of (j.object (j.member (codes "b") j.null (j.member (codes "a") j.null j.no_members))) ≡ None)
unfolding long_form long number
no_hashes = (refl, refl, refl, refl, refl, refl, refl, refl, refl)

-- a reference has its kind in lower case, and a title
references : (value_of (reference_form (codes "web::vhost") (codes "/A")) ≡ Some (d.reference (record { kind = codes "web::vhost"; title = codes "/A" })))
    × (value_of (reference_form (codes "File") (codes "/A")) ≡ None)
    × (value_of (reference_form [] (codes "/A")) ≡ None)
unfolding reference_form
references = (refl, refl, refl)

-- a number that is no 64-bit integer is no form
no_numbers : (x : Float) → (value_of (j.number (j.float x)) ≡ None) × (value_of (j.array (j.item (number 9223372036854775808) j.no_items)) ≡ None)
unfolding number
no_numbers x = (refl, refl)

-- nothing with `default` within has a form
without : (form_of (d.list (d.datum (d.int (pos 1)) (d.datum d.default d.no_data))) ≡ None)
    × (form_of (one (d.text (codes "a")) d.default) ≡ None)
    × (form_of (d.list (d.datum d.undef d.no_data)) ≡ Some (j.array (j.item j.null j.no_items)))
without = (refl, refl, refl)
