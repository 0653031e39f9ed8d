-- The forms of some values.
use Rattle.std.proofs.Common.{◌≡◌, ℕ, true, List, [], pos, negsuc, refl, codes}
use Rattle.std.specs.Fmt.{digits}
use Rattle.serde_json.specs.Written.{compact_text}
use Rattle.serde_json.proofs.OnLiterals.{serde_json_on_literals}
use Rattle.pp_values.specs.Datum as d
use Rattle.json_values.specs.ValueForm.{form, reference_form, long_form}

abbrev pair : d.Datum → d.Datum → d.Entries → d.Entries
pair = d.entry

abbrev pairs : List ℕ → List ℕ → d.Datum
pairs first second = d.hash (pair (d.text first) (d.int (pos 1)) (pair (d.text second) (d.int (negsuc 1)) d.no_entries))

-- a hash is an object where its keys are texts that rise, and none begins with `__p`
hashes : (compact_text (form (pairs (codes "a") (codes "b"))) ≡ codes "{\"a\":1,\"b\":-2}")
    × (compact_text (form (pairs (codes "b") (codes "a"))) ≡ codes "{\"__ptype\":\"Hash\",\"__pvalue\":[\"b\",1,\"a\",-2]}")
    × (compact_text (form (pairs (codes "a") (codes "a"))) ≡ codes "{\"__ptype\":\"Hash\",\"__pvalue\":[\"a\",1,\"a\",-2]}")
    × (compact_text (form (pairs (codes "__p") (codes "a"))) ≡ codes "{\"__ptype\":\"Hash\",\"__pvalue\":[\"__p\",1,\"a\",-2]}")
    × (compact_text (form (pairs (codes "__p") (codes "__q"))) ≡ codes "{\"__ptype\":\"Hash\",\"__pvalue\":[\"__p\",1,\"__q\",-2]}")
    × (compact_text (form (pairs (codes "__") (codes "__q"))) ≡ codes "{\"__\":1,\"__q\":-2}")
    × (compact_text (form (d.hash d.no_entries)) ≡ codes "{}")
    × (compact_text (form (d.hash (pair (d.int (pos 1)) (d.flag true) d.no_entries))) ≡ codes "{\"__ptype\":\"Hash\",\"__pvalue\":[1,true]}")
unfolding long_form digits serde_json_on_literals
hashes = (refl, refl, refl, refl, refl, refl, refl, refl)

-- a reference keeps its kind in lower case; a data type and `default` are `null`
others : (compact_text (form (d.reference (record { kind = codes "web::vhost"; title = codes "/A" }))) ≡ codes "{\"__ptype\":\"Ref\",\"kind\":\"web::vhost\",\"title\":\"/A\"}")
    × (compact_text (form (d.list (d.datum d.undef (d.datum (d.text []) (d.datum d.default d.no_data))))) ≡ codes "[null,\"\",null]")
    × (compact_text (form (d.int (negsuc 9223372036854775807))) ≡ codes "-9223372036854775808")
    × (compact_text (form (d.text (codes "a\"b"))) ≡ codes "\"a\\\"b\"")
unfolding reference_form digits serde_json_on_literals
others = (refl, refl, refl, refl)
