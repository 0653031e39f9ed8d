-- Tokens have a template exactly where one stands there, and one fault at most, as a template has none.
use Rattle.std.proofs.Common.{◌≡◌, ◌≢◌, ℕ, List, ◌∷◌, ◌++◌, Option, Some, None, Ok, Err, refl, sym, ap, subst, ◌∙◌}
use Rattle.pp_values.specs.declared.fault.Fault.{Fault}
use Rattle.pp_values.specs.declared.fault.What.TheVariants.{Syntax, DepthLimit}
use Rattle.pp_lexer.specs.Seen.{Token}
use Rattle.pp_tree.specs.declared.template.Template.{Template}
use Rattle.pp_parser.specs.declared.refusal.Refusal.TheVariants as refusals
use Rattle.pp_parser.specs.Templates.{template_told}
use Rattle.pp_grammar.proofs.Reader.Input.{Input, Outcome}
use Rattle.pp_grammar.proofs.Reader.Manifest.{start, line_from, line_of, fault_at, template_with, template_from}
use Rattle.pp_grammar.proofs.Reader.Templates.{template}
use Rattle.pp_grammar.specs.Laws.{the_end, max_levels, Limit, everywhere, a_template, IsTemplateFault}
use Rattle.pp_grammar.proofs.Whole.Parser.{template_told_by}
use Rattle.pp_grammar.proofs.Whole.Places.{one_place, one_depth, never_both, refused_stands, deep_stands}
use Rattle.pp_grammar.proofs.Whole.Reading.{reading}
use Rattle.pp_grammar.proofs.Whole.Reads.{template_reads}
use Rattle.pp_grammar.proofs.Whole.Stops.{refused_fault, deep_fault}
use Rattle.pp_grammar.proofs.Whole.Trees.{same_found}

-- tokens have one template at most
pub one_template : (limit : Limit) (ts : List Token) (one other : Template) (d e : Option ℕ) → a_template limit ts one d → a_template limit ts other e → (one ≡ other) × (d ≡ e)
one_template limit ts one other d e a b =
    let same = same_found one other (the_end d) (the_end e) (reading template limit (start ts)) (template_reads.read limit ts one d a) (template_reads.read limit ts other e b) in
    (same.0, ap (λ (i : Input). i.doubled) same.1)

module _ (path : List ℕ) (end : ℕ) (ts : List Token) where
  -- ---- trees

  with_key : (found : Template) (key : Option ℕ) (t : Template) → template_with path found key ≡ Ok t → (key ≡ None) × (found ≡ t)
  with_key found (Some line) t e = absurd cc
  with_key found None t e = (refl, cc)

  is_template_by : (o : Outcome Template) (t : Template) → reading template (everywhere max_levels) (start ts) ≡ o → template_from path end ts o ≡ Ok t → a_template (everywhere max_levels) ts t None
  is_template_by (Ok r) t is h =
      let same = with_key r.0 r.1.doubled t h in
      let stands = template_reads.stands (everywhere max_levels) ts r.0 r.1 is in
      subst (λ (k : Option ℕ). a_template (everywhere max_levels) ts t k) same.0 (subst (λ (f : Template). a_template (everywhere max_levels) ts f r.1.doubled) same.1 stands)
  is_template_by (Err (refusals.Wrong k)) t is h = absurd cc
  is_template_by (Err (refusals.Deep k)) t is h = absurd cc
  is_template_by (Err refusals.Memory) t is h = absurd cc

  -- the template that is read stands there
  pub is_template : (t : Template) → template_told path end ts ≡ Ok t → a_template (everywhere max_levels) ts t None
  is_template t h = is_template_by (reading template (everywhere max_levels) (start ts)) t refl (sym (template_told_by path end ts) ∙ h)

  -- and the other way round
  pub template_is_read : (t : Template) → a_template (everywhere max_levels) ts t None → template_told path end ts ≡ Ok t
  template_is_read t h = template_told_by path end ts ∙ ap (λ (o : Outcome Template). template_from path end ts o) (template_reads.read (everywhere max_levels) ts t None h)

  -- ---- faults

  key_fault : (found : Template) (key : Option ℕ) (fault : Fault) → a_template (everywhere max_levels) ts found key → template_with path found key ≡ Err fault → IsTemplateFault path end ts fault
  key_fault found (Some line) fault stands e =
      let same : fault_at path Syntax line ≡ fault = cc in
      subst (λ (f : Fault). IsTemplateFault path end ts f) same (IsTemplateFault.doubled found line stands)
  key_fault found None fault stands e = absurd cc

  fault_by : (o : Outcome Template) (fault : Fault) → reading template (everywhere max_levels) (start ts) ≡ o → template_from path end ts o ≡ Err fault → IsTemplateFault path end ts fault
  fault_by (Ok r) fault is h = key_fault r.0 r.1.doubled fault (template_reads.stands (everywhere max_levels) ts r.0 r.1 is) h
  fault_by (Err (refusals.Wrong k)) fault is h =
      let same : fault_at path Syntax (line_of end ts k) ≡ fault = cc in
      subst (λ (f : Fault). IsTemplateFault path end ts f) same (refused_fault template_reads path end ts (IsTemplateFault path end ts) IsTemplateFault.refused IsTemplateFault.too_deep k is)
  fault_by (Err (refusals.Deep k)) fault is h =
      let same : fault_at path DepthLimit (line_of end ts k) ≡ fault = cc in
      subst (λ (f : Fault). IsTemplateFault path end ts f) same (deep_fault template_reads path end ts (IsTemplateFault path end ts) IsTemplateFault.refused IsTemplateFault.too_deep k is)
  fault_by (Err refusals.Memory) fault is h = absurd (template_reads.looks.memory max_levels ts is)

  -- the fault that is answered is one
  pub is_template_fault : (fault : Fault) → template_told path end ts ≡ Err fault → IsTemplateFault path end ts fault
  is_template_fault fault h = fault_by (reading template (everywhere max_levels) (start ts)) fault refl (sym (template_told_by path end ts) ∙ h)

  no_key : (line : ℕ) → Some line ≢ None
  no_key line e = cc

  -- tokens with a fault have no template
  pub no_template : (fault : Fault) (t : Template) → IsTemplateFault path end ts fault → a_template (everywhere max_levels) ts t None → ⊥
  no_template fault t (IsTemplateFault.refused front rest is r) stands =
      refused_stands template_reads front rest t None r (subst (λ (us : List Token). a_template (everywhere max_levels) us t None) is stands)
  no_template fault t (IsTemplateFault.too_deep front rest u is d) stands =
      deep_stands template_reads front rest u t None d (subst (λ (us : List Token). a_template (everywhere max_levels) us t None) is stands)
  no_template fault t (IsTemplateFault.doubled found line there) stands = no_key line (one_template (everywhere max_levels) ts found t (Some line) None there stands).1

  -- a key that stands twice, and no template
  refused_key : (front rest : List Token) (found : Template) (key : Option ℕ) → ts ≡ front ++ rest → a_template (everywhere max_levels) ts found key → a_template (everywhere max_levels) (front ++ rest) found key
  refused_key front rest found key is stands = subst (λ (us : List Token). a_template (everywhere max_levels) us found key) is stands

  same_key : (line at : ℕ) → Some line ≡ Some at → line ≡ at
  same_key line at e = cc

  -- of tokens at most one fault holds
  pub one_template_fault : (fault other : Fault) → IsTemplateFault path end ts fault → IsTemplateFault path end ts other → fault ≡ other
  one_template_fault fault other (IsTemplateFault.refused front rest is r) (IsTemplateFault.refused ahead behind at s) =
      ap (λ (us : List Token). fault_at path Syntax (line_from end us)) (one_place template_reads front rest ahead behind (sym is ∙ at) r s).1
  one_template_fault fault other (IsTemplateFault.refused front rest is r) (IsTemplateFault.too_deep ahead behind u at s) = absurd (never_both template_reads front rest ahead behind u (sym is ∙ at) r s)
  one_template_fault fault other (IsTemplateFault.refused front rest is r) (IsTemplateFault.doubled found line there) =
      absurd (refused_stands template_reads front rest found (Some line) r (refused_key front rest found (Some line) is there))
  one_template_fault fault other (IsTemplateFault.too_deep front rest t is d) (IsTemplateFault.refused ahead behind at s) = absurd (never_both template_reads ahead behind front rest t (sym at ∙ is) s d)
  one_template_fault fault other (IsTemplateFault.too_deep front rest t is d) (IsTemplateFault.too_deep ahead behind u at s) =
      ap (λ (x : Token). fault_at path DepthLimit x.line) (one_depth template_reads front rest ahead behind t u (sym is ∙ at) d s)
  one_template_fault fault other (IsTemplateFault.too_deep front rest t is d) (IsTemplateFault.doubled found line there) =
      absurd (deep_stands template_reads front rest t found (Some line) d (refused_key front (t ∷ rest) found (Some line) is there))
  one_template_fault fault other (IsTemplateFault.doubled found line there) (IsTemplateFault.refused ahead behind at s) =
      absurd (refused_stands template_reads ahead behind found (Some line) s (refused_key ahead behind found (Some line) at there))
  one_template_fault fault other (IsTemplateFault.doubled found line there) (IsTemplateFault.too_deep ahead behind u at s) =
      absurd (deep_stands template_reads ahead behind u found (Some line) s (refused_key ahead (u ∷ behind) found (Some line) at there))
  one_template_fault fault other (IsTemplateFault.doubled found line there) (IsTemplateFault.doubled twin at stands) =
      ap (λ (l : ℕ). fault_at path Syntax l) (same_key line at (one_template (everywhere max_levels) ts found twin (Some line) (Some at) there stands).1)
