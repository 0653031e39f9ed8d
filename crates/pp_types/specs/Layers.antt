-- What the code's readings of a data type stand for.
use Rattle.std.specs.Prelude.{[], ◌∷◌, option_map}
use Rattle.pp_values.specs.PTypes.{sort}
use Rattle.pp_values.specs.Sort.{types_arguments}
use Rattle.pp_types.specs.declared.seen.Seen.{Seen, Given, OrUndef', Reference, Any, Undef, Boolean, Integer, String}
use Rattle.pp_types.specs.declared.seen.Seen.{Array, Hash, Data}
use Rattle.pp_types.specs.declared.layer.Choices.{Choices}
use Rattle.pp_types.specs.declared.layer.Choices.TheVariants as choices
use Rattle.pp_types.specs.declared.layer.Layer.{Layer}
use Rattle.pp_types.specs.declared.layer.Layer.TheVariants as layer
use Rattle.pp_types.specs.declared.data.DataPart.{DataPart}
use Rattle.pp_types.specs.declared.data.DataPart.TheVariants as part
use Rattle.pp_types.specs.Ranges.{all_integers, any_count}
use Rattle.pp_types.specs.Forms as f
use Rattle.pp_types.specs.Forms.{Form, Forms, form, optional, reference_form, forms_of, all_arrays, all_hashes}
use Rattle.pp_types.specs.Forms.{given_forms, array_of_data, hash_of_data}

abbrev pub seen_form : Seen → Form
seen_form (Given t) = form (sort t.now)
seen_form (OrUndef' p t) = optional (seen_form t)
seen_form (Reference r) = reference_form r.now
seen_form Any = f.any
seen_form Undef = f.undef
seen_form Boolean = f.boolean
seen_form Integer = f.integer all_integers
seen_form String = f.string any_count
seen_form Array = all_arrays
seen_form Hash = all_hashes
seen_form Data = f.data_

-- the types of a `Variant`
abbrev pub choice_forms : Choices → Forms
choice_forms (choices.Given ts) = given_forms (types_arguments ts.now)
choice_forms (choices.OrUndef t) = forms_of (f.undef ∷ seen_form t ∷ [])
choice_forms choices.Scalar = forms_of (f.boolean ∷ f.integer all_integers ∷ f.string any_count ∷ [])
choice_forms choices.Collection = forms_of (all_arrays ∷ all_hashes ∷ [])

abbrev pub layer_form : Layer → Form
layer_form layer.Any = f.any
layer_form layer.Undef = f.undef
layer_form layer.Default = f.default
layer_form layer.Boolean = f.boolean
layer_form (layer.Integer r) = f.integer r
layer_form (layer.String r) = f.string r
layer_form (layer.Enum ts) = f.enum ts.now
layer_form layer.Data = f.data_
layer_form (layer.Array t r) = f.array (seen_form t) r
layer_form (layer.Hash k v r) = f.hash (seen_form k) (seen_form v) r
layer_form (layer.Variant cs) = f.variant (choice_forms cs)
layer_form (layer.NotUndef t) = f.not_undef (seen_form t)
layer_form (layer.Tuple ts) = f.tuple (given_forms (types_arguments ts.now))
layer_form (layer.KindOf t) = f.type_ (seen_form t)
layer_form layer.CatalogEntry = f.catalog_entry
layer_form (layer.Class c) = f.class (option_map (λ t. t.now) c)
layer_form layer.ResourceKind = f.resource
layer_form (layer.Resource k t) = f.kind_of_resource k.now (option_map (λ t. t.now) t)

-- the types among those of `Data` in which it stands itself
abbrev pub part_form : DataPart → Form
part_form part.Array = array_of_data
part_form part.Hash = hash_of_data
