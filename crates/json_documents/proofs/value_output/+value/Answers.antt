-- Each value within another is smaller.
use Rattle.std.proofs.Common.{◌≡◌, ◌∷◌, ◌++◌, [], arith, ap, refl, subst, ◌∙◌, append_assoc}
use Rattle.std.proofs.lemmas.List.{drop_all}
use Rattle.json.specs.Token.{end_array, end_object}
use Rattle.pp_values.specs.Sizes.{datum_size, data_size, pairs_size}
use Rattle.pp_values.specs.Falls.{inner_size-data_of, entries_size-entries_of}
use Rattle.pp_values.specs.Views.{view}
use Rattle.pp_values.proofs.Inner.{item_falls, pair_falls}
use Rattle.json_documents.specs.Tokens.{long_begins}
use Rattle.json_documents.proofs.Outlines.{pair_tokens, long_ends}
use Rattle.json_documents.proofs.value_output.+value.Goals as goal

pub write_value-write_list-requires : goal.write_value-write_list-requires
write_value-write_list-requires t c =
    (omega (arith, c.decreases, ap data_size c.as_slice.ensures, ap (λ x. datum_size (view x)) c.in-List.is, inner_size-data_of c.in-List.items), tt)

pub write_value-write_members-requires : goal.write_value-write_members-requires
write_value-write_members-requires t c =
    (omega (arith, c.decreases, ap pairs_size c.as_slice-pairs.ensures.pairs, ap (λ x. datum_size (view x)) c.in-Hash.is, entries_size-entries_of c.in-Hash.pairs), tt)

pub write_value-write_pairs-requires : goal.write_value-write_pairs-requires
write_value-write_pairs-requires t c =
    (omega (arith, c.decreases, ap pairs_size c.as_slice-pairs.ensures.pairs, ap (λ x. datum_size (view x)) c.in-Hash.is, entries_size-entries_of c.in-Hash.pairs), tt)

pub write_list-write_value-requires : goal.write_list-write_value-requires
write_list-write_value-requires t c = (omega (arith, c.decreases, item_falls c.args.items.now _ _ _ refl c.loop-item-test.true c.item-item.is), tt)

pub write_members-write_value-requires : goal.write_members-write_value-requires
write_members-write_value-requires t c = (omega (arith, c.decreases, pair_falls c.args.pairs.now _ _ _ refl c.loop-key-test.true c.loop-key-item.is), tt)

pub write_pairs-write_value-requires : goal.write_pairs-write_value-requires
write_pairs-write_value-requires t c = (omega (arith, c.decreases, pair_falls c.args.pairs.now _ _ _ refl c.loop-key-test.true c.loop-key-item.is), tt)

pub write_pairs-write_value-requires-in-loop-key : goal.write_pairs-write_value-requires-in-loop-key
write_pairs-write_value-requires-in-loop-key t c =
    (omega (arith, c.decreases, pair_falls c.args.pairs.now _ _ _ refl c.loop-key-test.true c.loop-key-item.is), tt)

pub write_pairs-returns : goal.write_pairs-returns
write_pairs-returns t c =
    c.in_ok-end_object.ensures
    ∙ ap (λ ts. ts ++ end_object ∷ []) c.in_ok-end_array.ensures
    ∙ append_assoc _ (end_array ∷ []) (end_object ∷ [])
    ∙ long_ends _ _ _
    (subst (λ ps. c.loop-key.out ++ pair_tokens ps ≡ c.args.out.now ++ (long_begins ++ pair_tokens c.args.pairs.now))
    (drop_all c.loop-key.key-index c.args.pairs.now (omega arith)) c.loop-key.invariant)
