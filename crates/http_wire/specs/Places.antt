-- How far the bytes of a head have come. It tells when to ask the parser again, and that bytes end within a target.
use Rattle.std.specs.Prelude.{ℕ, Bool, true, false, ◌==◌, if◌then◌else◌, List, [], ◌∷◌}
use Rattle.httparse.specs.Grammar.{is_token_byte, is_uri_byte}
use Rattle.http_wire.specs.declared.places.Place.{Place}
use Rattle.http_wire.specs.declared.places.Place.TheVariants.{Blank, BlankReturn, Method, Target, Line, LineStart}
use Rattle.http_wire.specs.declared.places.Place.TheVariants.{LineReturn, Ended}

-- what a byte of a line leads to
abbrev pub in_line : ℕ → Place
in_line b = if b == 10 then LineStart else Line

abbrev pub in_blank : ℕ → Place
in_blank b = if b == 10 then Blank else if b == 13 then BlankReturn else if is_token_byte b then Method else Line

abbrev pub in_method : ℕ → Place
in_method b = if is_token_byte b then Method else if b == 32 then Target else in_line b

abbrev pub at_line_start : ℕ → Place
at_line_start b = if b == 10 then Ended else if b == 13 then LineReturn else Line

-- Past the method and the target lines are told apart alone. What fits no method and no target is taken for a part of a
-- line, so the parser is asked at its end at the latest.
abbrev pub next : Place → ℕ → Place
next Blank b = in_blank b
next BlankReturn b = if b == 10 then Blank else Line
next Method b = in_method b
next Target b = if is_uri_byte b then Target else in_line b
next Line b = in_line b
next LineStart b = at_line_start b
next LineReturn b = if b == 10 then Ended else Line
next Ended b = Ended

abbrev pub after : Place → List ℕ → Place
after p [] = p
after p (b ∷ bytes) = after (next p b) bytes

abbrev pub is_ended : Place → Bool
is_ended Ended = true
is_ended Blank = false
is_ended BlankReturn = false
is_ended Method = false
is_ended Target = false
is_ended Line = false
is_ended LineStart = false
is_ended LineReturn = false

abbrev pub is_target : Place → Bool
is_target Target = true
is_target Blank = false
is_target BlankReturn = false
is_target Method = false
is_target Line = false
is_target LineStart = false
is_target LineReturn = false
is_target Ended = false
