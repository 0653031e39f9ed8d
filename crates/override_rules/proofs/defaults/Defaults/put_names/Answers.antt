use Rattle.std.proofs.Common.{◌≡◌, [], map, ap, ◌∙◌, rules}
use Rattle.std.specs.BTreeMap.Range.{entries_between}
use Rattle.std.specs.declared.ops.Bound.TheVariants.{Included, Excluded}
use Rattle.std.specs.Ordering.{is_gt}
use Rattle.pp_values.specs.Rising.{with_texts}
use Rattle.override_rules.proofs.Ranges.{forward, names_between}
use Rattle.override_rules.proofs.defaults.Defaults.put_names.Goals as goal
use Rattle.override_rules.specs.Defaults.{default_key}
use Rattle.override_rules.specs.Inside.{defaults_of}
use Rattle.override_rules.specs.Keys.{key_cmp}
use Rattle.override_rules.specs.Names.{names_in}

pub range-key-items-requires : goal.range-key-items-requires
range-key-items-requires c =
    ap (λ k. is_gt (key_cmp k c.in_ok-end.end)) c.in_ok-first.ensures
    ∙ ap (λ k. is_gt (key_cmp (default_key c.args.kind.now c.from-number.result []) k)) c.in_ok-end.ensures
    ∙ forward c.args.kind.now c.from-number.result

pub loop-key-init : goal.loop-key-init
loop-key-init c =
    let es = c.self.inside.values.entries in
    let kind = c.args.kind.now in
    let number = c.from-number.result in
    let iterated : c.into_iter-key-iterator.result ≡ c.range-key-items.result = search rules in
    let between : c.range-key-items.result ≡ entries_between key_cmp (Included c.in_ok-first.first)
    (Excluded c.in_ok-end.end) es =
    c.range-key-items.ensures.between tt in
    ap (λ l. with_texts c.args.names.now.keys (map (λ e. e.0.name) l)) (iterated ∙ between)
    ∙ ap (with_texts c.args.names.now.keys)
    ((λ i. map (λ e. e.0.name) (entries_between key_cmp (Included (c.in_ok-first.ensures i))
    (Excluded (c.in_ok-end.ensures i)) es))
    ∙ names_between kind number es
    ∙ ap (names_in (defaults_of es) kind) c.from-number.ensures
    ∙ ap (λ ds. names_in ds kind c.args.scope) c.self.view_is)
