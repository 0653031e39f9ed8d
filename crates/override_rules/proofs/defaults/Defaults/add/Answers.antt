use Rattle.std.proofs.Common.{◌≡◌, ◌≤◌, length, sym, ap, subst, ◌∙◌, arith}
use Rattle.std.specs.BTreeMap.{insert_entry}
use Rattle.std.specs.Str.{bytes_eq}
use Rattle.pp_values.specs.Views.{view}
use Rattle.override_rules.proofs.Kept.{default_at, counts_more, put_seen}
use Rattle.override_rules.proofs.Places.{length-filter-le}
use Rattle.override_rules.proofs.defaults.Defaults.add.Goals as goal
use Rattle.override_rules.specs.Counts.{count_of, AddsOne}
use Rattle.override_rules.specs.Defaults.{default_key, default_in, with_default, defaults_for}
use Rattle.override_rules.specs.Inside.{defaults_of}
use Rattle.override_rules.specs.Keys.{key_cmp}
use Rattle.override_rules.specs.declared.default_key.DefaultKey.{DefaultKey}

pub raise-requires-clause-fits : goal.raise-requires-clause-fits
raise-requires-clause-fits c =
    let es = c.self.inside.values.entries in
    let k = c.as_text-2.result.now in
    let same : count_of c.open.new.self.by_kind k ≡ length (defaults_for k (defaults_of es)) =
    c.in_ok-open.ensures.keeps k ∙ c.self.invariant k in
    let fits : length (defaults_for k (defaults_of es)) ≤ length (defaults_of es) =
    length-filter-le (λ d. bytes_eq k d.0.kind) (defaults_of es) in
    let size : length (defaults_of es) ≡ length c.args.self.now = ap length c.self.view_is in
    let room = c.requires.room in
    omega arith

pub invariant_of-self-2 : goal.invariant_of-self-2
invariant_of-self-2 c =
    let es = c.self.inside.values.entries in
    let v = c.into_inner.result in
    let key : DefaultKey = default_key c.args.kind.now c.args.scope c.args.name.now in
    let entries : c.insert.new.self.entries ≡ insert_entry key_cmp es key v =
    c.in_ok-insert.ensures.entries
    ∙ λ i. insert_entry key_cmp es
    (default_key (c.in_ok-copy.ensures i) (c.from.ensures i) (c.in_ok-copy-2.ensures i)) v in
    λ kind. counts_more c.self.inside.counts.by_kind c.open.new.self.by_kind c.raise.new.self.by_kind es key v
    (sym (default_at (defaults_of es) c.args.kind.now c.args.scope c.args.name.now)
    ∙ ap (λ ds. default_in ds c.args.kind.now c.args.scope c.args.name.now) c.self.view_is ∙ c.requires.new)
    c.in_ok-open.ensures.keeps
    (subst (λ t. AddsOne t c.open.new.self.by_kind c.raise.new.self.by_kind) c.as_text-2.ensures.text c.raise.ensures)
    c.self.invariant kind
    ∙ ap (λ e. length (defaults_for kind (defaults_of e))) (sym entries)

pub returns : goal.returns
returns c =
    let es = c.self.inside.values.entries in
    let v = c.into_inner.result in
    let key : DefaultKey = default_key c.args.kind.now c.args.scope c.args.name.now in
    let entries : c.insert.new.self.entries ≡ insert_entry key_cmp es key v =
    c.in_ok-insert.ensures.entries
    ∙ λ i. insert_entry key_cmp es
    (default_key (c.in_ok-copy.ensures i) (c.from.ensures i) (c.in_ok-copy-2.ensures i)) v in
    ap defaults_of entries
    ∙ put_seen es key v
    ∙ ap (λ ds. with_default ds key (view v)) c.self.view_is
    ∙ ap (λ d. with_default c.args.self.now key (view d)) (c.into_inner.ensures ∙ c.new-value.ensures)
