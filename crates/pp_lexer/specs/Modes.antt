-- What stands round a place: what is behind it, and which braces are open there.
use Rattle.std.specs.Prelude.{◌-◌, Bool, true, false, List, [], ◌∷◌, ◌++◌, length, take, slice_get, Option, Some}
use Rattle.pp_lexer.specs.declared.front.Found.{Found}
use Rattle.pp_lexer.specs.declared.front.Found.TheVariants as found
use Rattle.pp_lexer.specs.declared.kind.Kind.{Kind}
use Rattle.pp_lexer.specs.declared.kind.Kind.TheVariants as kinds
use Rattle.pp_lexer.specs.declared.mode.Mode.{Mode}
use Rattle.pp_lexer.specs.declared.mode.Mode.TheVariants as modes
use Rattle.pp_lexer.specs.declared.mode.Open.{Open}
use Rattle.pp_lexer.specs.declared.mode.Open.TheVariants as opens

-- the mode behind a token that says nothing
abbrev pub mode_after_mark : Kind → Mode
mode_after_mark kinds.TextBegin = modes.Inside
mode_after_mark kinds.InterpolationEnd = modes.Inside
mode_after_mark _ = modes.AfterToken

-- the mode behind what stands at a place
abbrev pub mode_after : Found → Mode
mode_after found.Blank = modes.AfterBlank
mode_after found.CutOff = modes.Inside
mode_after (found.Mark kind) = mode_after_mark kind
mode_after (found.Dollar kinds.VariableInText) = modes.Inside
mode_after found.Run = modes.Inside
mode_after _ = modes.AfterToken

-- the open braces without the innermost
abbrev pub without_last : List Open → List Open
without_last nest = take (length nest - 1) nest

-- the braces that are open behind a token that says nothing, the innermost last
abbrev pub open_after_mark : Kind → List Open → List Open
open_after_mark kinds.OpenBrace nest = nest ++ opens.Brace ∷ []
open_after_mark kinds.InterpolationBegin nest = nest ++ opens.Interpolation ∷ []
open_after_mark kinds.CloseBrace nest = without_last nest
open_after_mark kinds.InterpolationEnd nest = without_last nest
open_after_mark _ nest = nest

abbrev pub open_after : Found → List Open → List Open
open_after (found.Mark kind) nest = open_after_mark kind nest
open_after _ nest = nest

-- whether the innermost open brace is that of `${`
abbrev pub is_interpolation : Option Open → Bool
is_interpolation (Some opens.Interpolation) = true
is_interpolation _ = false

abbrev pub in_interpolation : List Open → Bool
in_interpolation nest = is_interpolation (slice_get nest (length nest - 1))
