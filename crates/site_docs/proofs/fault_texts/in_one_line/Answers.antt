use Rattle.std.proofs.Common.{ap, sym, ◌++◌, ◌∙◌, Some, None, rules, arith, string_bytes}
use Rattle.std.proofs.lemmas.Str.Pattern.{split_parts}
use Rattle.site_docs.proofs.LineLemmas.{in_line_whole, in_line_more}
use Rattle.site_docs.proofs.fault_texts.in_one_line.Goals as goal

pub loop-piece-preserved : goal.loop-piece-preserved
loop-piece-preserved c = (
  search rules,
  in_line_more _ _ _ _ _ _ _ c.in_ok-push_str.ensures.bytes c.in_ok-push_str-2.ensures.bytes
      (split_parts 10 c.loop-piece.rest.now (Some (c.in-Some.piece, c.in-Some.after)) c.in-Some.ensures.cases
      (omega arith)) c.loop-piece.invariant.1,
)

pub returns : goal.returns
returns c =
    c.new.ensures ∙ c.in_ok-push_str-3.ensures.bytes
    ∙ ap (λ x. string_bytes c.loop-piece.line ++ x)
    (sym (in_line_whole _ (split_parts 10 c.loop-piece.rest.now None c.in_default.ensures.cases (omega arith))))
    ∙ c.loop-piece.invariant.1
