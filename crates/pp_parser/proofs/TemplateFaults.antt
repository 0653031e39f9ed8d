-- A template's fault stands on the line of its token.
use Rattle.std.proofs.Common.{◌≡◌, ℕ, ◌-◌, List, [], ◌∷◌, drop, length, Err, refl, ap, ◌∙◌}
use Rattle.std.proofs.lemmas.List.{length-map, drop-map}
use Rattle.pp_values.specs.declared.fault.What.TheVariants.{Syntax, DepthLimit}
use Rattle.pp_lexer.specs.Seen.{Token}
use Rattle.pp_parser.specs.declared.refusal.Refusal.{Refusal}
use Rattle.pp_parser.specs.declared.refusal.Refusal.TheVariants as refusals
use Rattle.pp_parser.specs.Manifest.{fault_at, line_from, line_of}
use Rattle.pp_parser.specs.TemplateLines.{lines_of, first_or, line_in, refused_by}
use Rattle.pp_parser.specs.Templates.{template_from}

first_line : (end : ℕ) (ts : List Token) → first_or end (lines_of ts) ≡ line_from end ts
unfolding first_or line_from
first_line end [] = refl
first_line end (t ∷ ts) = refl

line_same : (end : ℕ) (ts : List Token) (left : ℕ) → line_in end (lines_of ts) left ≡ line_of end ts left
line_same end ts left =
    ap (λ n. first_or end (drop (n - left) (lines_of ts))) (length-map ts (λ t. t.line))
    ∙ ap (first_or end) (drop-map (λ t. t.line) (length ts - left) ts)
    ∙ first_line end (drop (length ts - left) ts)

pub refused_same : (path : List ℕ) (end : ℕ) (ts : List Token) (r : Refusal) → refused_by path end (lines_of ts) r ≡ template_from path end ts (Err r)
refused_same path end ts (refusals.Wrong left) = ap (λ n. Err (fault_at path Syntax n)) (line_same end ts left)
refused_same path end ts (refusals.Deep left) = ap (λ n. Err (fault_at path DepthLimit n)) (line_same end ts left)
refused_same path end ts refusals.Memory = refl
