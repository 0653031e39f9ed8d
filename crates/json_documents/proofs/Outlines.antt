-- The tokens of JSON, as its text; what of them is left in a loop; and those of a long form.
use Rattle.std.proofs.Common.{◌≡◌, List, [], ◌∷◌, ◌++◌, ap, sym, ◌∙◌, append_assoc}
use Rattle.json.specs.Token.{Token, end_array, end_object}
use Rattle.json.specs.Print.{print}
use Rattle.json.specs.Tree.{items_tokens, members_tokens}
use Rattle.serde_json.specs.Data.{Data, Items, array}
use Rattle.serde_json.specs.View.{items_of}
use Rattle.serde_json.specs.Written.{compact_text, items_outline, members_outline}
use Rattle.serde_json.proofs.Texts.{print-outline}
use Rattle.pp_values.specs.declared.value.Value.{Value}
use Rattle.pp_values.specs.Datum.{data_of, entries_of}
use Rattle.pp_values.specs.Settings.{Setting}
use Rattle.pp_values.specs.Views.{views, pair_views}
use Rattle.json_values.specs.ValueForm.{list_form, pair_forms, member_forms, long_form, setting_members}
use Rattle.json_documents.specs.Tokens.{data_tokens, long_begins}

-- the text of a value is the print of its tokens
pub printed_data : (d : Data) → print (data_tokens d) ≡ compact_text d
printed_data = print-outline

-- ---- what is left, with the bracket that closes it

-- of an array
abbrev pub item_tokens : List Data → List Token
item_tokens ds = items_tokens (items_outline (items_of ds))

-- of attributes
abbrev pub setting_tokens : List Setting → List Token
setting_tokens ss = members_tokens (members_outline (setting_members ss))

-- of the members of a list
abbrev pub value_tokens : List Value → List Token
value_tokens vs = items_tokens (items_outline (list_form (data_of (views vs))))

-- of a hash whose keys are names in order
abbrev pub member_tokens : List (Value × Value) → List Token
member_tokens ps = members_tokens (members_outline (member_forms (entries_of (pair_views ps))))

-- of any other hash: each key and its value in turn
abbrev pub pair_tokens : List (Value × Value) → List Token
pair_tokens ps = items_tokens (items_outline (pair_forms (entries_of (pair_views ps))))

-- ---- whole objects

-- the array within a long form ends, and then the form
pub long_ends : (out start : List Token) (ds : Items) →
    out ++ end_array ∷ [] ≡ start ++ (long_begins ++ items_tokens (items_outline ds)) →
    out ++ end_array ∷ end_object ∷ [] ≡ start ++ data_tokens (long_form (array ds))
unfolding long_form
long_ends out start ds h =
    sym (append_assoc out (end_array ∷ []) (end_object ∷ []))
    ∙ ap (λ ts. ts ++ end_object ∷ []) h
    ∙ append_assoc start (long_begins ++ items_tokens (items_outline ds)) (end_object ∷ [])
