use Rattle.std.proofs.Common.{◌≡◌, [], ◌++◌, sym, ap, ◌∙◌, rules}
use Rattle.std.proofs.lemmas.List.{append-nil}
use Rattle.pp_values.specs.Rising.{is_rising, sorted}
use Rattle.pp_values.specs.Settings.{setting_names}
use Rattle.res_core.specs.AttributeViews.{settings}
use Rattle.override_rules.proofs.Among.{all_rising}
use Rattle.override_rules.proofs.overrides.Overrides.attributes_among.Goals as goal
use Rattle.override_rules.specs.Meaning.{attribute_of}
use Rattle.override_rules.specs.Names.{attributes_of, names_of, settings_among}

pub from_vec-requires : goal.from_vec-requires
from_vec-requires c =
    let s = c.args.self.now in
    let r = c.args.row.now in
    let items = settings c.loop-name.items.items in
    let ended : c.loop-name.name-iterator ≡ [] = search rules in
    let all : items ≡ settings_among (attribute_of s r) (sorted (names_of s r)) =
    sym (c.loop-name.invariant ∙ ap (λ t. items ++ settings_among (attribute_of s r) t) ended ∙ append-nil items) in
    ap (λ ss. is_rising (setting_names ss)) all ∙ all_rising s r

pub returns : goal.returns
unfolding attributes_of
returns c =
    let s = c.args.self.now in
    let r = c.args.row.now in
    let items = settings c.loop-name.items.items in
    let ended : c.loop-name.name-iterator ≡ [] = search rules in
    let all : items ≡ settings_among (attribute_of s r) (sorted (names_of s r)) =
    sym (c.loop-name.invariant ∙ ap (λ t. items ++ settings_among (attribute_of s r) t) ended ∙ append-nil items) in
    c.from_vec.ensures ∙ all
