-- The functions `epp` and `inline_epp`.
use Rattle.std.specs.Prelude.{ℕ, nat_lt, ◌==◌, Bool, if◌then◌else◌, List, [], ◌∷◌, ◌++◌, length, Option, None, Some}
use Rattle.std.specs.Prelude.{option_map, codes}
use Rattle.std.specs.List.{before_first, after_first, position_or_len}
use Rattle.pp_values.specs.Datum as d
use Rattle.pp_values.specs.Datum.{Datum}
use Rattle.pp_values.specs.Views.{view}
use Rattle.pp_values.specs.declared.place.Place.{Place}
use Rattle.eval_world.specs.Environment.{text_at}
use Rattle.eval_world.specs.Inner.{Inner}
use Rattle.eval_world.specs.Outcomes.{Step, ◌>>=◌, ◌>>◌, pure}
use Rattle.eval_world.specs.Owners.{inline_file}
use Rattle.eval_world.specs.Worlds.{enter_function, enter_inline, leave, place_at, wrong}
use Rattle.eval_world.specs.declared.here.Here.{Here}
use Rattle.eval_calls.specs.Renderings.{Rendering}
use Rattle.eval_calls.specs.Templates.{template_rule}
use Rattle.eval_calls.specs.declared.asked.Asked as held

-- ---- the arguments: a text, and a hash behind it where there is one

pub record Asked : Type 0 where
  pub text : List ℕ
  pub given : Option Datum

-- what the code holds says this
abbrev pub asked_seen : held.Asked → Asked
asked_seen a = record { text = a.text.now; given = option_map (λ v. view v.now) a.given }

abbrev pub text_with : Datum → Option Datum → Option Asked
text_with (d.text t) given = Some (record { text = t; given = given })
text_with _ given = None

abbrev pub with_hash : Datum → Datum → Option Asked
with_hash first (d.hash es) = text_with first (Some (d.hash es))
with_hash first _ = None

-- None where the function does not take these arguments
abbrev pub asked_of : List Datum → Option Asked
asked_of [] = None
asked_of (first ∷ []) = text_with first None
asked_of (first ∷ given ∷ []) = with_hash first given
asked_of (first ∷ given ∷ x ∷ xs) = None

-- ---- the file of a template

abbrev pub is_slash : ℕ → Bool
is_slash b = b == 47

abbrev pub has_slash : List ℕ → Bool
has_slash name = nat_lt (position_or_len is_slash name) (length name)

-- `m/p` names `modules/m/templates/p`
abbrev pub template_path : List ℕ → Option (List ℕ)
template_path name =
    if has_slash name
    then Some (codes "modules/" ++ (before_first is_slash name ++ (codes "/templates/" ++ after_first is_slash name)))
    else None

-- ---- what is rendered

abbrev pub rendering : List ℕ → List ℕ → Option Datum → List ℕ → Place → Rendering
rendering file text given f at = record { file = file; text = text; given = given; function = f; at = at }

-- The template is rendered in a scope of its own, which ends with the call.
unfoldable pub rendered_in : Inner → Rendering → Here → Step Datum
rendered_in inner r own = do
  d ← template_rule inner r own
  leave own
  pure d

-- a template of a file stands within top scope
unfoldable pub file_rule : Inner → Rendering → Step Datum
file_rule inner r = do
  own ← enter_function r.file
  rendered_in inner r own

-- F7 where there is no such file
abbrev pub file_by : Inner → Option (List ℕ) → List ℕ → Option Datum → List ℕ → ℕ → Here → Step Datum
file_by inner None path given f line here = wrong f line here
file_by inner (Some text) path given f line here =
    λ w. file_rule inner (rendering path text given f (place_at w here line)) w

abbrev pub named_by : Inner → Option (List ℕ) → Option Datum → List ℕ → ℕ → Here → Step Datum
named_by inner None given f line here = wrong f line here
named_by inner (Some path) given f line here =
    λ w. file_by inner (text_at path w.environment) path given f line here w

abbrev pub epp_by : Inner → Option Asked → List ℕ → ℕ → Here → Step Datum
epp_by inner None f line here = wrong f line here
epp_by inner (Some asked) f line here = named_by inner (template_path asked.text) asked.given f line here

-- `epp('m/p', { 'x' => 1 })`
unfoldable pub epp_rule : Inner → List ℕ → List Datum → ℕ → Here → Step Datum
epp_rule inner f arguments line here = epp_by inner (asked_of arguments) f line here

-- a text that is handed over stands within the scope of the call
unfoldable pub text_rule : Inner → Rendering → Here → Step Datum
text_rule inner r here = do
  own ← enter_inline here
  rendered_in inner r own

abbrev pub inline_by : Inner → Option Asked → List ℕ → ℕ → Here → Step Datum
inline_by inner None f line here = wrong f line here
inline_by inner (Some asked) f line here =
    λ w. text_rule inner (rendering inline_file asked.text asked.given f (place_at w here line)) here w

-- `inline_epp('<%= $x %>', { 'x' => 1 })`
unfoldable pub inline_rule : Inner → List ℕ → List Datum → ℕ → Here → Step Datum
inline_rule inner f arguments line here = inline_by inner (asked_of arguments) f line here
