-- A template: its tree, or its first fault.
use Rattle.std.specs.Prelude.{ℕ, List, Result}
use Rattle.pp_lexer.specs.Bytes.{end_line}
use Rattle.pp_parser.specs.Templates.{template_told}
use Rattle.pp_tree.specs.declared.template.Template.{Template}
use Rattle.pp_values.specs.declared.fault.Fault.{Fault}
use Rattle.epp_text.specs.Pieces.{pieces_of}
use Rattle.epp_text.specs.TemplateTokens.{template_tokens}

-- the template of this text, in the file at this path
unfoldable pub template_of : List ℕ → List ℕ → Result Template Fault
template_of path text = template_told path (end_line text) (template_tokens (pieces_of text))
