-- Before the token at which a file or a template is refused, and which no text goes on with, some text goes on: the refused
-- token is the first fault of the file.
use Rattle.std.proofs.Common.{◌≡◌, ℕ, suc, ◌-◌, ◌<◌, ◌≤◌, Bool, List, [], ◌∷◌, ◌++◌, length, take, drop, Option, None, Err, refl, sym, subst, ◌∙◌, length-drop, append-nil, arith}
use Rattle.std.proofs.lemmas.List.{take-append-drop}
use Rattle.std.proofs.Math.Decide.{dec_le}
use Rattle.pp_lexer.specs.declared.kind.Kind.{Kind}
use Rattle.pp_lexer.specs.Seen.{Token}
use Rattle.pp_parser.specs.declared.refusal.Refusal.TheVariants as refusals
use Rattle.pp_grammar.proofs.Reader.Input.{Input, Outcome, Parser, kind_at}
use Rattle.pp_grammar.proofs.Reader.Levels.{within}
use Rattle.pp_grammar.proofs.Reader.Definitions.{main_manifest, module_file}
use Rattle.pp_grammar.proofs.Reader.Templates.{template}
use Rattle.pp_grammar.proofs.Reader.Manifest.{start}
use Rattle.pp_grammar.proofs.Local.Ahead.{LooksAtNext}
use Rattle.pp_grammar.proofs.Local.Steps.{Alike, at_it, before_it, Falls}
use Rattle.pp_grammar.proofs.Local.Laws.{main_manifest_looks, module_file_looks, template_looks}
use Rattle.pp_grammar.proofs.Ways.Ahead.{GoesOn}
use Rattle.pp_grammar.proofs.Ways.Steps.{Way, Goes, Rule}
use Rattle.pp_grammar.proofs.Ways.Lists.{always}
use Rattle.pp_grammar.proofs.Ways.Levels.{inner_goes}
use Rattle.pp_grammar.proofs.Ways.Files.{file_ends, main_manifest_goes, module_file_goes}
use Rattle.pp_grammar.proofs.Ways.Templates.{template_goes}

alike_behind : (pre r s : List Token) → Alike r s (pre ++ r) (pre ++ s)
alike_behind [] r s = at_it
alike_behind (t ∷ pre) r s = before_it t (alike_behind pre r s)

wrong_within : {A : Type 0} (i : Input) (o : Outcome A) (k : ℕ) → o ≡ Err (refusals.Wrong k) → Falls (λ _. 0) i o → k ≤ length i.left
wrong_within i o k e h = subst (λ (x : Outcome _). Falls (λ _. 0) i x) e h

way_on : {A : Type 0} (n : ℕ) (E : A → Option Kind → Bool) {q : ℕ → Parser A} (i : Input) (o : Outcome A) (k : ℕ) → o ≡ Err (refusals.Wrong k) → Goes n E i o q → k < length i.left → Way E i k q
way_on n E {q = q} i o k e h = subst (λ (x : Outcome _). Goes n E i x q) e h

module _ {A : Type 0} (p : ℕ → Parser A) (R : (n : ℕ) → Rule n None (always file_ends) (p n) p) (looks : LooksAtNext p) where
  goes_by : (n : ℕ) (ts : List Token) (k : ℕ) → p n (start ts) ≡ Err (refusals.Wrong k) → k ≤ length ts → Dec (suc k ≤ length ts) → GoesOn p n ts k
  unfolding kind_at
  goes_by n ts k e h (yes w) =
      let W = way_on n (always file_ends) (start ts) (p n (start ts)) k e ((R n).holds.goes (start ts)) w in
      let pre = take (length ts - k) ts in
      let r = drop (length ts - k) ts in
      let s : pre ++ r ≡ ts = take-append-drop (length ts - k) ts in
      let l : length r ≡ k = omega (arith, length-drop (length ts - k) ts) in
      let a : Alike r (W.way ++ []) ts (pre ++ W.way) = subst (λ (us : List Token). Alike r (W.way ++ []) us (pre ++ W.way)) s (subst (λ (us : List Token). Alike r (W.way ++ []) (pre ++ r) (pre ++ us)) (append-nil W.way) (alike_behind pre r (W.way ++ []))) in
      let t = W.reads r [] (start (pre ++ W.way)) W.enough (omega arith) l a refl in
      record { before = pre; behind = r; is = sym s; count = l; way = W.way; enough = W.enough; found = W.found; end = t.0; reads = λ more m. looks.read W.enough more (pre ++ W.way) W.found t.0 m t.1; to_its_end = t.2 }
  goes_by n ts k e h (no w) =
      let X = (R n).fresh in
      let t = X.reads (start []) [] X.enough (omega arith) (sym (append-nil X.way ∙ X.begins)) refl in
      record { before = []; behind = ts; is = refl; count = omega arith; way = []; enough = X.enough; found = X.found; end = t.0; reads = λ more m. looks.read X.enough more [] X.found t.0 m t.1; to_its_end = t.2 }

  goes_on : (n : ℕ) (ts : List Token) (k : ℕ) → p n (start ts) ≡ Err (refusals.Wrong k) → GoesOn p n ts k
  goes_on n ts k e = goes_by n ts k e (wrong_within (start ts) (p n (start ts)) k e ((R n).holds.falls (start ts))) (dec_le (suc k) (length ts))

pub main_manifest_goes_on : (n : ℕ) (ts : List Token) (k : ℕ) → main_manifest (within n) (start ts) ≡ Err (refusals.Wrong k) → GoesOn (λ m. main_manifest (within m)) n ts k
main_manifest_goes_on = goes_on (λ m. main_manifest (within m)) (λ n. main_manifest_goes (inner_goes n)) main_manifest_looks

pub module_file_goes_on : (n : ℕ) (ts : List Token) (k : ℕ) → module_file (within n) (start ts) ≡ Err (refusals.Wrong k) → GoesOn (λ m. module_file (within m)) n ts k
module_file_goes_on = goes_on (λ m. module_file (within m)) (λ n. module_file_goes (inner_goes n)) module_file_looks

pub template_goes_on : (n : ℕ) (ts : List Token) (k : ℕ) → template (within n) (start ts) ≡ Err (refusals.Wrong k) → GoesOn (λ m. template (within m)) n ts k
template_goes_on = goes_on (λ m. template (within m)) (λ n. template_goes (inner_goes n)) template_looks
