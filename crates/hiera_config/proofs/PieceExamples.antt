-- Cuts and blanks, what stands between `%{` and `}`, and the pieces of texts.
use Rattle.std.proofs.Common.{◌≡◌, [], ◌∷◌, Some, None, codes, refl}
use Rattle.hiera_config.specs.declared.interpolation.Piece.TheVariants as piece
use Rattle.hiera_config.specs.Cuts.{cut_at, after_prefix, before_suffix, trimmed, trimmed_start, trimmed_end}
use Rattle.hiera_config.specs.Pieces.{variable, looked_up, said, alias, unlawful, method_of, form_of, path_form, pieces_from, pieces, path_pieces, whole_alias}

-- at the first mark, and at both ends
cuts : (cut_at (codes "%{") (codes "a%{b%{c") ≡ Some (codes "a", codes "b%{c"))
    × (cut_at (codes "%{") (codes "%{") ≡ Some ([], []))
    × (cut_at (codes "%{") (codes "a%") ≡ None)
    × (cut_at (codes "::") (codes "::a") ≡ Some ([], codes "a"))
    × (after_prefix (codes "ab") (codes "abc") ≡ Some (codes "c"))
    × (after_prefix (codes "ab") (codes "a") ≡ None)
    × (before_suffix (codes "bc") (codes "abc") ≡ Some (codes "a"))
    × (before_suffix (codes "bc") (codes "c") ≡ None)
unfolding cut_at
cuts = (refl, refl, refl, refl, refl, refl, refl, refl)

-- space, tab, CR and LF are blanks; a form feed is none
blanks : (trimmed (codes " \t\r\n a b \n") ≡ codes "a b") × (trimmed (codes " \t") ≡ [])
    × (trimmed (12 ∷ 97 ∷ []) ≡ 12 ∷ 97 ∷ [])
unfolding trimmed_start trimmed_end
blanks = (refl, refl, refl)

-- each method, in either quotes; what has no parenthesis is a variable, also where the name is odd
forms : (form_of (codes "facts.os") ≡ variable (codes "facts.os"))
    × (form_of (codes "::top") ≡ variable (codes "::top"))
    × (form_of [] ≡ variable [])
    × (form_of (codes "a b)") ≡ variable (codes "a b)"))
    × (form_of (codes "scope('a.b')") ≡ variable (codes "a.b"))
    × (form_of (codes "lookup('a::b')") ≡ looked_up (codes "a::b"))
    × (form_of (codes "hiera(\"a\")") ≡ looked_up (codes "a"))
    × (form_of (codes "literal('%')") ≡ said (codes "%"))
    × (form_of (codes "alias(\"a\")") ≡ alias (codes "a"))
    × (form_of (codes "lookup('')") ≡ looked_up [])
    × (form_of (codes "lookup('a\"b')") ≡ looked_up (codes "a\"b"))
unfolding form_of method_of cut_at
forms = (refl, refl, refl, refl, refl, refl, refl, refl, refl, refl, refl)

-- another method, blanks around the quotes or before the parenthesis, no quotes, two kinds of quotes, a quote within
unlawful_forms : (form_of (codes "f('a')") ≡ unlawful)
    × (form_of (codes "Lookup('a')") ≡ unlawful)
    × (form_of (codes "lookup( 'a')") ≡ unlawful)
    × (form_of (codes "lookup('a' )") ≡ unlawful)
    × (form_of (codes "lookup ('a')") ≡ unlawful)
    × (form_of (codes "lookup(a)") ≡ unlawful)
    × (form_of (codes "lookup('a\")") ≡ unlawful)
    × (form_of (codes "lookup('a'b')") ≡ unlawful)
    × (form_of (codes "lookup(')") ≡ unlawful)
    × (form_of (codes "lookup('a') x") ≡ unlawful)
    × (form_of (codes "(") ≡ unlawful)
unfolding form_of method_of cut_at
unlawful_forms = (refl, refl, refl, refl, refl, refl, refl, refl, refl, refl, refl)

-- a path takes variables alone
path_forms : (path_form (codes "a.b") ≡ variable (codes "a.b")) × (path_form (codes "scope('a')") ≡ unlawful)
    × (path_form (codes "literal('a')") ≡ unlawful)
unfolding path_form cut_at
path_forms = (refl, refl, refl)

whole : (pieces [] ≡ piece.Letters [] ∷ []) × (pieces (codes "50% {a}") ≡ piece.Letters (codes "50% {a}") ∷ [])
unfolding pieces_from cut_at
whole = (refl, refl)

-- an interpolation ends at the first `}`, and blanks within at both ends are dropped
parts : (pieces (codes "x%{a}y")
    ≡ piece.Letters (codes "x") ∷ piece.Reads (codes "a") ∷ piece.Letters (codes "y") ∷ [])
    × (pieces (codes "%{ a.b\t}}") ≡ piece.Letters [] ∷ piece.Reads (codes "a.b") ∷ piece.Letters (codes "}") ∷ [])
    × (pieces (codes "%{}") ≡ piece.Letters [] ∷ piece.Reads [] ∷ piece.Letters [] ∷ [])
    × (pieces (codes "%{lookup('k')}") ≡ piece.Letters [] ∷ piece.Asks (codes "k") ∷ piece.Letters [] ∷ [])
    × (pieces (codes "%{literal('%')}{a}")
    ≡ piece.Letters [] ∷ piece.Letters (codes "%") ∷ piece.Letters (codes "{a}") ∷ [])
unfolding pieces_from form_of method_of cut_at trimmed_start trimmed_end
parts = (refl, refl, refl, refl, refl)

-- a broken one is the last piece: the text from its `%{` to the end
broken : (pieces (codes "a%{b") ≡ piece.Letters (codes "a") ∷ piece.Broken (codes "%{b") ∷ [])
    × (pieces (codes "%{f('a')}%{b}") ≡ piece.Letters [] ∷ piece.Broken (codes "%{f('a')}%{b}") ∷ [])
    × (pieces (codes "%{lookup('}')}") ≡ piece.Letters [] ∷ piece.Broken (codes "%{lookup('}')}") ∷ [])
    × (pieces (codes "%{alias('a')}x") ≡ piece.Letters [] ∷ piece.Broken (codes "%{alias('a')}x") ∷ [])
    × (path_pieces (codes "a/%{lookup('b')}")
    ≡ piece.Letters (codes "a/") ∷ piece.Broken (codes "%{lookup('b')}") ∷ [])
unfolding pieces_from form_of method_of path_form cut_at trimmed_start trimmed_end
broken = (refl, refl, refl, refl, refl)

-- the whole text, and no other interpolation
aliases : (whole_alias (codes "%{alias('a.b')}") ≡ Some (codes "a.b"))
    × (whole_alias (codes "%{ alias(\"a\") }") ≡ Some (codes "a"))
    × (whole_alias (codes " %{alias('a')}") ≡ None) × (whole_alias (codes "%{alias('a')} ") ≡ None)
    × (whole_alias (codes "%{alias('a')") ≡ None) × (whole_alias (codes "%{lookup('a')}") ≡ None)
    × (whole_alias (codes "%{alias( 'a')}") ≡ None) × (whole_alias (codes "a") ≡ None)
unfolding whole_alias form_of method_of cut_at trimmed_start trimmed_end
aliases = (refl, refl, refl, refl, refl, refl, refl, refl)
