-- The functions `epp` and `inline_epp` at worked examples. Each line holds by computing.
use Rattle.std.proofs.Common.{◌≡◌, List, [], ◌∷◌, None, Some}
use Rattle.std.proofs.Common.{Ok, Err, refl, codes}
use Rattle.pp_values.specs.Datum as d
use Rattle.pp_values.specs.Datum.{Datum}
use Rattle.pp_values.specs.Faults as faults
use Rattle.pp_values.specs.declared.fault.What.TheVariants as what
use Rattle.scope_core.specs.Names.{last_cut}
use Rattle.scope_core.specs.Scopes as scopes
use Rattle.eval_world.specs.Environment.{Environment}
use Rattle.eval_world.specs.Inner.{Inner}
use Rattle.eval_world.specs.Outcomes.{Step, ◌>>=◌, ◌>>◌}
use Rattle.eval_world.specs.Owners.{inline_in, owner_at}
use Rattle.eval_world.specs.Worlds.{assign, empty, enter_inline, enter_lambda, fault, read}
use Rattle.eval_calls.specs.Templating.{epp_rule, file_rule, inline_rule, rendering, template_path, text_rule}
use Rattle.eval_calls.proofs.Samples.{text, hash, list, one, x, top, at, refuses, inner, fails, run}

-- ---- names of templates

paths : (template_path (codes "m/t.epp") ≡ Some (codes "modules/m/templates/t.epp"))
    × (template_path (codes "m/a/t.epp") ≡ Some (codes "modules/m/templates/a/t.epp"))
    × (template_path (codes "t.epp") ≡ None)
paths = (refl, refl, refl)

-- ---- what is rendered

-- a site with a template, and a manifest that is named as one
abbrev site : Environment
site = record {
  main = record { statements = []; definitions = [] };
  files = (codes "modules/m/templates/a.pp", record { text = codes "manifest"; read = Ok (record { statements = []; definitions = [] }) }) ∷ [];
  site_data = (codes "modules/m/templates/t.epp", codes "template") ∷ [];
}

abbrev parts : Inner
parts = inner d.undef fails

abbrev epp_of : List Datum → Step Datum
epp_of arguments = epp_rule parts (codes "epp") arguments 3 top

abbrev inline_of : List Datum → Step Datum
inline_of arguments = inline_rule parts (codes "inline_epp") arguments 3 top

-- its file, its text, and the call
of_file : (epp_of (text (codes "m/t.epp") ∷ []) (empty site)
    ≡ file_rule parts (rendering (codes "modules/m/templates/t.epp") (codes "template") None (codes "epp") (at 3)) (empty site))
    × (epp_of (text (codes "m/a.pp") ∷ hash [] ∷ []) (empty site)
    ≡ file_rule parts (rendering (codes "modules/m/templates/a.pp") (codes "manifest") (Some (hash [])) (codes "epp") (at 3))
    (empty site))
unfolding epp_rule owner_at
of_file = (refl, refl)

of_text : inline_of (text (codes "a") ∷ []) (empty site)
    ≡ text_rule parts (rendering (codes "inline_epp") (codes "a") None (codes "inline_epp") (at 3)) top (empty site)
unfolding inline_rule owner_at
of_text = refl

-- a text is rendered within the scope of the call
reads_the_call : run (enter_lambda top >>= (λ own. assign own x one 1 >> (enter_inline own >>= (λ within. read within x 4)))) site
    ≡ Ok (one, [])
unfolding enter_inline enter_lambda inline_in assign read scopes.assign scopes.read scopes.found last_cut scopes.seen_from
reads_the_call = refl

-- a fault within it stands in a file of that name
file_of_text : run (enter_inline top >>= (λ own. fault own 4 (what.Failed []))) site
    ≡ Err (faults.fault (record { file = codes "inline_epp"; line = 4 }) (what.Failed []))
unfolding enter_inline inline_in owner_at
file_of_text = refl

-- ---- arguments

wrong_arguments : (m : Environment)
    → (run (epp_of []) m ≡ refuses 3 (what.WrongArguments (codes "epp")))
    × (run (epp_of (one ∷ [])) m ≡ refuses 3 (what.WrongArguments (codes "epp")))
    × (run (epp_of (text (codes "m/t.epp") ∷ list [] ∷ [])) m ≡ refuses 3 (what.WrongArguments (codes "epp")))
    × (run (epp_of (text (codes "m/t.epp") ∷ hash [] ∷ one ∷ [])) m ≡ refuses 3 (what.WrongArguments (codes "epp")))
    × (run (epp_of (text (codes "t.epp") ∷ [])) m ≡ refuses 3 (what.WrongArguments (codes "epp")))
    × (run (inline_of (one ∷ [])) m ≡ refuses 3 (what.WrongArguments (codes "inline_epp")))
    × (run (inline_of (text [] ∷ d.undef ∷ [])) m ≡ refuses 3 (what.WrongArguments (codes "inline_epp")))
unfolding epp_rule inline_rule owner_at
wrong_arguments m = (refl, refl, refl, refl, refl, refl, refl)

no_file : run (epp_of (text (codes "m/u.epp") ∷ [])) site ≡ refuses 3 (what.WrongArguments (codes "epp"))
unfolding epp_rule owner_at
no_file = refl
