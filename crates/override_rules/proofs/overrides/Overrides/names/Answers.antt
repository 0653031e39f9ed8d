use Rattle.std.proofs.Common.{List, ℕ, ◌++◌, ap, ◌∙◌}
use Rattle.pp_values.specs.Rising.{with_texts, sorted}
use Rattle.pp_values.specs.Settings.{setting_names}
use Rattle.res_book.specs.Rows.{reference_of}
use Rattle.override_rules.proofs.Gathered.{three_parts}
use Rattle.override_rules.proofs.overrides.Overrides.names.Goals as goal
use Rattle.override_rules.specs.Lines.{lines_on}
use Rattle.override_rules.specs.Names.{line_names, default_names}

pub returns : goal.returns
returns c =
    let r = c.args.row.now in
    let own : List (List ℕ) = setting_names r.declared.item.attributes in
    let lines : List (List ℕ) = line_names (lines_on (reference_of r.declared) c.self.inside.lines) in
    let defaults : List (List ℕ) = default_names c.args.self.now r in
    c.in_ok-put_default_names.ensures
    ∙ ap (λ t. with_texts t defaults) (c.in_ok-put_overridden.ensures
    ∙ ap (λ t. with_texts t lines) (c.in_ok-put_own.ensures ∙ ap (λ t. with_texts t own) c.new-names.ensures.empty))
    ∙ three_parts own lines defaults
    ∙ ap (λ s. sorted (own ++ (line_names (lines_on (reference_of r.declared) s.lines) ++ defaults))) c.self.view_is
