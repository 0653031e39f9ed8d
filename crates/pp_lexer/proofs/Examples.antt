-- Texts, and their tokens.
use Rattle.std.proofs.Common.{◌≡◌, ℕ, pos, [], ◌∷◌, ◌++◌, map, Ok, Err, refl}
use Rattle.std.specs.Prelude.{codes}
use Rattle.std.specs.Char.{encode_utf8}
use Rattle.pp_lexer.specs.Bytes.{blank_len}
use Rattle.pp_lexer.specs.Escapes.{braced, four_digits, double, said}
use Rattle.pp_lexer.specs.Marks.{punctuation}
use Rattle.pp_lexer.specs.Digits.{number_value}
use Rattle.pp_lexer.specs.Numbers.{number}
use Rattle.pp_lexer.specs.Texts.{quoted, in_text}
use Rattle.pp_lexer.specs.Tokens.{token, number_token as number_of, token_front, in_code, tokens, syntax_fault, lexed}
use Rattle.pp_lexer.specs.Words.{name_kind, name, type_name, variable}
use Rattle.pp_lexer.specs.declared.kind.Kind.{Kind}
use Rattle.pp_lexer.specs.declared.kind.Kind.TheVariants as k
use Rattle.pp_lexer.specs.Seen.{Token}

-- a token that says nothing
abbrev mark : Kind → ℕ → Token
mark kind line = token kind [] line

abbrev number_token : ℕ → ℕ → Token
number_token n line = number_of (pos n) line

-- a space, a tab, a carriage return and a line feed are white space, and nothing else is
white_space : (tokens [] ≡ [])
    × (tokens (codes " a" ++ 9 ∷ 13 ∷ 10 ∷ 10 ∷ codes "b") ≡ token k.Name (codes "a") 1 ∷ token k.Name (codes "b") 3 ∷ [])
    × (tokens (codes "a" ++ 12 ∷ codes "b") ≡ token k.Name (codes "a") 1 ∷ mark k.Bad 1 ∷ [])
    × (tokens (10 ∷ (codes "a" ++ 194 ∷ 160 ∷ [])) ≡ token k.Name (codes "a") 2 ∷ mark k.Bad 2 ∷ [])
    × (tokens (239 ∷ 187 ∷ 191 ∷ codes "a") ≡ mark k.Bad 1 ∷ [])
    × (tokens (0 ∷ []) ≡ mark k.Bad 1 ∷ [])
unfolding tokens blank_len name_kind name type_name variable number_value number punctuation quoted in_text token_front in_code braced four_digits double said encode_utf8
white_space = (refl, refl, refl, refl, refl, refl)

-- `#` goes to the end of its line, and `/*` to the first `*/`
comments : (tokens (codes "a # b 'c" ++ 10 ∷ codes "d") ≡ token k.Name (codes "a") 1 ∷ token k.Name (codes "d") 2 ∷ [])
    × (tokens (codes "a/* b" ++ 10 ∷ 34 ∷ codes "**/c") ≡ token k.Name (codes "a") 1 ∷ token k.Name (codes "c") 2 ∷ [])
    × (tokens (codes "a # b") ≡ token k.Name (codes "a") 1 ∷ [])
    × (tokens (codes "/*/ a */ b") ≡ token k.Name (codes "b") 1 ∷ [])
    × (tokens (codes "a # /*" ++ 10 ∷ codes "b") ≡ token k.Name (codes "a") 1 ∷ token k.Name (codes "b") 2 ∷ [])
    × (tokens (codes "a /* #" ++ 10 ∷ codes "*/ b") ≡ token k.Name (codes "a") 1 ∷ token k.Name (codes "b") 2 ∷ [])
unfolding tokens blank_len name_kind name type_name variable number_value number punctuation quoted in_text token_front in_code braced four_digits double said encode_utf8
comments = (refl, refl, refl, refl, refl, refl)

-- the end of the file within a text or a comment is a token on its own line, and it is not a token within `${`
unclosed_1 : (tokens (codes "a" ++ (10 ∷ (codes "/* b" ++ 10 ∷ []))) ≡ token k.Name (codes "a") 1 ∷ mark k.Unclosed 3 ∷ [])
    × (tokens (codes "a 'b" ++ 10 ∷ []) ≡ token k.Name (codes "a") 1 ∷ mark k.TextBegin 1 ∷ mark k.Unclosed 2 ∷ [])
    × (tokens (10 ∷ (34 ∷ (codes "b" ++ 10 ∷ codes "c"))) ≡ mark k.TextBegin 2 ∷ token k.Piece (codes "b" ++ 10 ∷ codes "c") 2 ∷ mark k.Unclosed 3 ∷ [])
    × (tokens (34 ∷ []) ≡ mark k.TextBegin 1 ∷ mark k.Unclosed 1 ∷ [])
    × (tokens (34 ∷ codes "a\\") ≡ mark k.TextBegin 1 ∷ token k.Piece (codes "a\\") 1 ∷ mark k.Unclosed 1 ∷ [])
    × (tokens (34 ∷ (codes "${" ++ 10 ∷ [])) ≡ mark k.TextBegin 1 ∷ mark k.InterpolationBegin 1 ∷ [])
unfolding tokens blank_len name_kind name type_name variable number_value number punctuation quoted in_text token_front in_code braced four_digits double said encode_utf8
unclosed_1 = (refl, refl, refl, refl, refl, refl)

unclosed_2 : (tokens (34 ∷ codes "${x") ≡ mark k.TextBegin 1 ∷ mark k.InterpolationBegin 1 ∷ token k.Name (codes "x") 1 ∷ [])
    × (tokens (34 ∷ (codes "${ 'b" ++ 10 ∷ [])) ≡ mark k.TextBegin 1 ∷ mark k.InterpolationBegin 1 ∷ mark k.TextBegin 1 ∷ mark k.Unclosed 2 ∷ [])
unfolding tokens blank_len name_kind name type_name variable number_value number punctuation quoted in_text token_front in_code braced four_digits double said encode_utf8
unclosed_2 = (refl, refl)

-- a name is taken as long as it goes; `-` stands between two letters, digits or `_`
names : (tokens (codes "a_1B a-b-1 a- -a a--b") ≡ token k.Name (codes "a_1B") 1 ∷ token k.Name (codes "a-b-1") 1 ∷ token k.Name (codes "a") 1 ∷ mark k.Minus 1 ∷ mark k.Minus 1 ∷ token k.Name (codes "a") 1 ∷ token k.Name (codes "a") 1 ∷ mark k.Minus 1 ∷ mark k.Minus 1 ∷ token k.Name (codes "b") 1 ∷ [])
    × (tokens (codes "a::b ::a::_b") ≡ token k.Name (codes "a::b") 1 ∷ token k.Name (codes "::a::_b") 1 ∷ [])
    × (tokens (codes "a::-b :: a::1") ≡ token k.Name (codes "a") 1 ∷ mark k.Colon 1 ∷ mark k.Colon 1 ∷ mark k.Minus 1 ∷ token k.Name (codes "b") 1 ∷ mark k.Colon 1 ∷ mark k.Colon 1 ∷ token k.Name (codes "a") 1 ∷ mark k.Colon 1 ∷ mark k.Colon 1 ∷ number_token 1 1 ∷ [])
    × (tokens (codes "a:b") ≡ token k.Name (codes "a") 1 ∷ mark k.Colon 1 ∷ token k.Name (codes "b") 1 ∷ [])
unfolding tokens blank_len name_kind name type_name variable number_value number punctuation quoted in_text token_front in_code braced four_digits double said encode_utf8
names = (refl, refl, refl, refl)

-- the segments of a type begin with a capital
types : (tokens (codes "File Web::V-host ::Foo") ≡ token k.Type (codes "File") 1 ∷ token k.Type (codes "Web::V-host") 1 ∷ token k.Type (codes "::Foo") 1 ∷ [])
    × (tokens (codes "foo::Bar Foo::bar") ≡ token k.Name (codes "foo") 1 ∷ token k.Type (codes "::Bar") 1 ∷ token k.Type (codes "Foo") 1 ∷ token k.Name (codes "::bar") 1 ∷ [])
unfolding tokens blank_len name_kind name type_name variable number_value number punctuation quoted in_text token_front in_code braced four_digits double said encode_utf8
types = (refl, refl)

-- a variable has the segments of a name without `-`, and it is qualified where it has `::`
variables : (tokens (codes "$x $_1 $aB") ≡ token k.Variable (codes "x") 1 ∷ token k.Variable (codes "_1") 1 ∷ token k.Variable (codes "aB") 1 ∷ [])
    × (tokens (codes "$::x $a::b") ≡ token k.QualifiedVariable (codes "::x") 1 ∷ token k.QualifiedVariable (codes "a::b") 1 ∷ [])
    × (tokens (codes "$a-b $a::B") ≡ token k.Variable (codes "a") 1 ∷ mark k.Minus 1 ∷ token k.Name (codes "b") 1 ∷ token k.Variable (codes "a") 1 ∷ token k.Type (codes "::B") 1 ∷ [])
    × (tokens (codes "$a::") ≡ token k.Variable (codes "a") 1 ∷ mark k.Colon 1 ∷ mark k.Colon 1 ∷ [])
unfolding tokens blank_len name_kind name type_name variable number_value number punctuation quoted in_text token_front in_code braced four_digits double said encode_utf8
variables = (refl, refl, refl, refl)

-- `$` before anything else is no token
no_variable : (tokens (codes "a $") ≡ token k.Name (codes "a") 1 ∷ mark k.Bad 1 ∷ [])
    × (tokens (codes "$1") ≡ mark k.Bad 1 ∷ [])
    × (tokens (codes "$Foo") ≡ mark k.Bad 1 ∷ [])
    × (tokens (codes "$ a") ≡ mark k.Bad 1 ∷ [])
    × (tokens (codes "$::") ≡ mark k.Bad 1 ∷ [])
    × (tokens (codes "${") ≡ mark k.Bad 1 ∷ [])
unfolding tokens blank_len name_kind name type_name variable number_value number punctuation quoted in_text token_front in_code braced four_digits double said encode_utf8
no_variable = (refl, refl, refl, refl, refl, refl)

-- decimal, hexadecimal and octal numbers up to 2^63 - 1
numbers_1 : (tokens (codes "0 7 120") ≡ number_token 0 1 ∷ number_token 7 1 ∷ number_token 120 1 ∷ [])
    × (tokens (codes "0x1fF 017 00") ≡ number_token 511 1 ∷ number_token 15 1 ∷ number_token 0 1 ∷ [])
    × (tokens (codes "9223372036854775807") ≡ number_token 9223372036854775807 1 ∷ [])
    × (tokens (codes "0x7fffffffffffffff") ≡ number_token 9223372036854775807 1 ∷ [])
    × (tokens (codes "0777777777777777777777") ≡ number_token 9223372036854775807 1 ∷ [])
    × (tokens (codes "1-2") ≡ number_token 1 1 ∷ mark k.Minus 1 ∷ number_token 2 1 ∷ [])
unfolding tokens blank_len name_kind name type_name variable number_value number punctuation quoted in_text token_front in_code braced four_digits double said encode_utf8
numbers_1 = (refl, refl, refl, refl, refl, refl)

numbers_2 : (tokens (codes "1.a") ≡ number_token 1 1 ∷ mark k.Dot 1 ∷ token k.Name (codes "a") 1 ∷ [])
    × (tokens (codes "1..2") ≡ number_token 1 1 ∷ mark k.Dot 1 ∷ mark k.Dot 1 ∷ number_token 2 1 ∷ [])
unfolding tokens blank_len name_kind name type_name variable number_value number punctuation quoted in_text token_front in_code braced four_digits double said encode_utf8
numbers_2 = (refl, refl)

-- anything else that begins with a digit is no token, and neither is a fraction
no_number_1 : (tokens (codes "12abc") ≡ mark k.Bad 1 ∷ [])
    × (tokens (codes "08") ≡ mark k.Bad 1 ∷ [])
    × (tokens (codes "0x") ≡ mark k.Bad 1 ∷ [])
    × (tokens (codes "0X1") ≡ mark k.Bad 1 ∷ [])
    × (tokens (codes "1_0") ≡ mark k.Bad 1 ∷ [])
    × (tokens (codes "1e5") ≡ mark k.Bad 1 ∷ [])
unfolding tokens blank_len name_kind name type_name variable number_value number punctuation quoted in_text token_front in_code braced four_digits double said encode_utf8
no_number_1 = (refl, refl, refl, refl, refl, refl)

no_number_2 : (tokens (codes "0xg") ≡ mark k.Bad 1 ∷ [])
    × (tokens (codes "9223372036854775808") ≡ mark k.Bad 1 ∷ [])
    × (tokens (codes "0x8000000000000000") ≡ mark k.Bad 1 ∷ [])
    × (tokens (codes "01000000000000000000000") ≡ mark k.Bad 1 ∷ [])
    × (tokens (10 ∷ codes "1.5") ≡ mark k.Bad 2 ∷ [])
    × (tokens (codes "0.1 a") ≡ mark k.Bad 1 ∷ [])
unfolding tokens blank_len name_kind name type_name variable number_value number punctuation quoted in_text token_front in_code braced four_digits double said encode_utf8
no_number_2 = (refl, refl, refl, refl, refl, refl)

-- in single quotes a backslash before itself or a quote says just that, and any other stays
single_quotes : (tokens (codes "'it\\'s' ''") ≡ token k.Text (codes "it's") 1 ∷ token k.Text [] 1 ∷ [])
    × (tokens (codes "'\\\\n\\n'") ≡ token k.Text (codes "\\n\\n") 1 ∷ [])
    × (tokens (codes "'\\\\' a") ≡ token k.Text (codes "\\") 1 ∷ token k.Name (codes "a") 1 ∷ [])
    × (tokens (codes "'a" ++ 10 ∷ codes "b' c") ≡ token k.Text (codes "a" ++ 10 ∷ codes "b") 1 ∷ token k.Name (codes "c") 2 ∷ [])
    × (tokens (codes "'$x " ++ 195 ∷ 169 ∷ codes "'") ≡ token k.Text (codes "$x " ++ 195 ∷ 169 ∷ []) 1 ∷ [])
unfolding tokens blank_len name_kind name type_name variable number_value number punctuation quoted in_text token_front in_code braced four_digits double said encode_utf8
single_quotes = (refl, refl, refl, refl, refl)

-- in double quotes the run between two quotes is never empty
double_quotes : (tokens (34 ∷ 34 ∷ []) ≡ mark k.TextBegin 1 ∷ mark k.TextEnd 1 ∷ [])
    × (tokens (34 ∷ (codes "a b" ++ 34 ∷ [])) ≡ mark k.TextBegin 1 ∷ token k.Piece (codes "a b") 1 ∷ mark k.TextEnd 1 ∷ [])
    × (tokens (34 ∷ (codes "a" ++ (10 ∷ (codes "b" ++ 34 ∷ codes " c")))) ≡ mark k.TextBegin 1 ∷ token k.Piece (codes "a" ++ 10 ∷ codes "b") 1 ∷ mark k.TextEnd 2 ∷ token k.Name (codes "c") 2 ∷ [])
unfolding tokens blank_len name_kind name type_name variable number_value number punctuation quoted in_text token_front in_code braced four_digits double said encode_utf8
double_quotes = (refl, refl, refl)

-- `\n`, `\r`, `\t`, `\s`, `\$`, `\"`, `\'` and `\\`, each read once; any other backslash stays
letters : (tokens (34 ∷ (codes "\\n\\r\\t\\s\\$\\" ++ (34 ∷ (codes "\\'\\\\" ++ 34 ∷ [])))) ≡ mark k.TextBegin 1 ∷ token k.Piece (10 ∷ (13 ∷ (9 ∷ (codes " $" ++ 34 ∷ codes "'\\")))) 1 ∷ mark k.TextEnd 1 ∷ [])
    × (tokens (34 ∷ (codes "\\\\n" ++ 34 ∷ [])) ≡ mark k.TextBegin 1 ∷ token k.Piece (codes "\\n") 1 ∷ mark k.TextEnd 1 ∷ [])
    × (tokens (34 ∷ (codes "\\\\\\n" ++ 34 ∷ [])) ≡ mark k.TextBegin 1 ∷ token k.Piece (codes "\\" ++ 10 ∷ []) 1 ∷ mark k.TextEnd 1 ∷ [])
    × (tokens (34 ∷ (codes "\\x\\" ++ 195 ∷ 169 ∷ 34 ∷ [])) ≡ mark k.TextBegin 1 ∷ token k.Piece (codes "\\x\\" ++ 195 ∷ 169 ∷ []) 1 ∷ mark k.TextEnd 1 ∷ [])
    × (tokens (34 ∷ (codes "\\${x}" ++ 34 ∷ [])) ≡ mark k.TextBegin 1 ∷ token k.Piece (codes "${x}") 1 ∷ mark k.TextEnd 1 ∷ [])
unfolding tokens blank_len name_kind name type_name variable number_value number punctuation quoted in_text token_front in_code braced four_digits double said encode_utf8
letters = (refl, refl, refl, refl, refl)

-- `\u` and four digits, or one to six in braces, name a character; what names none keeps its backslash
characters : (tokens (34 ∷ (codes "a\\u0041\\u{41}\\u{1F600}" ++ 34 ∷ [])) ≡ mark k.TextBegin 1 ∷ token k.Piece (codes "aAA" ++ 240 ∷ 159 ∷ 152 ∷ 128 ∷ []) 1 ∷ mark k.TextEnd 1 ∷ [])
    × (tokens (34 ∷ (codes "\\u00e9\\u{20ac}" ++ 34 ∷ [])) ≡ mark k.TextBegin 1 ∷ token k.Piece (195 ∷ 169 ∷ 226 ∷ 130 ∷ 172 ∷ []) 1 ∷ mark k.TextEnd 1 ∷ [])
    × (tokens (34 ∷ (codes "\\ud800\\u{110000}" ++ 34 ∷ [])) ≡ mark k.TextBegin 1 ∷ token k.Piece (codes "\\ud800\\u{110000}") 1 ∷ mark k.TextEnd 1 ∷ [])
    × (tokens (34 ∷ (codes "\\u12\\u{}\\u{0000041}" ++ 34 ∷ [])) ≡ mark k.TextBegin 1 ∷ token k.Piece (codes "\\u12\\u{}\\u{0000041}") 1 ∷ mark k.TextEnd 1 ∷ [])
    × (tokens (34 ∷ (codes "\\u{41 \\u004g" ++ 34 ∷ [])) ≡ mark k.TextBegin 1 ∷ token k.Piece (codes "\\u{41 \\u004g") 1 ∷ mark k.TextEnd 1 ∷ [])
    × (tokens (34 ∷ (codes "\\u{00041}" ++ 34 ∷ [])) ≡ mark k.TextBegin 1 ∷ token k.Piece (codes "A") 1 ∷ mark k.TextEnd 1 ∷ [])
unfolding tokens blank_len name_kind name type_name variable number_value number punctuation quoted in_text token_front in_code braced four_digits double said encode_utf8
characters = (refl, refl, refl, refl, refl, refl)

-- a backslash and the line break behind it say nothing
line_breaks : (tokens (34 ∷ (codes "a\\" ++ (10 ∷ (codes "b" ++ 34 ∷ [])))) ≡ mark k.TextBegin 1 ∷ token k.Piece (codes "ab") 1 ∷ mark k.TextEnd 2 ∷ [])
    × (tokens (34 ∷ (codes "a\\" ++ (13 ∷ (10 ∷ (codes "b" ++ 34 ∷ []))))) ≡ mark k.TextBegin 1 ∷ token k.Piece (codes "ab") 1 ∷ mark k.TextEnd 2 ∷ [])
    × (tokens (34 ∷ (codes "\\" ++ 10 ∷ 34 ∷ [])) ≡ mark k.TextBegin 1 ∷ mark k.TextEnd 2 ∷ [])
    × (tokens (34 ∷ (codes "\\" ++ 13 ∷ 34 ∷ [])) ≡ mark k.TextBegin 1 ∷ token k.Piece (codes "\\" ++ 13 ∷ []) 1 ∷ mark k.TextEnd 1 ∷ [])
unfolding tokens blank_len name_kind name type_name variable number_value number punctuation quoted in_text token_front in_code braced four_digits double said encode_utf8
line_breaks = (refl, refl, refl, refl)

-- `$` before the name of a variable is that variable, and any other stays but before `{`
variables_in_text : (tokens (34 ∷ (codes "$x" ++ 34 ∷ [])) ≡ mark k.TextBegin 1 ∷ token k.VariableInText (codes "x") 1 ∷ mark k.TextEnd 1 ∷ [])
    × (tokens (34 ∷ (codes "a$x$::y b" ++ 34 ∷ [])) ≡ mark k.TextBegin 1 ∷ token k.Piece (codes "a") 1 ∷ token k.VariableInText (codes "x") 1 ∷ token k.VariableInText (codes "::y") 1 ∷ token k.Piece (codes " b") 1 ∷ mark k.TextEnd 1 ∷ [])
    × (tokens (34 ∷ (codes "$a[0]$a::" ++ 34 ∷ [])) ≡ mark k.TextBegin 1 ∷ token k.VariableInText (codes "a") 1 ∷ token k.Piece (codes "[0]") 1 ∷ token k.VariableInText (codes "a") 1 ∷ token k.Piece (codes "::") 1 ∷ mark k.TextEnd 1 ∷ [])
    × (tokens (34 ∷ (codes "$ $1$$x$" ++ 34 ∷ [])) ≡ mark k.TextBegin 1 ∷ token k.Piece (codes "$ $1$") 1 ∷ token k.VariableInText (codes "x") 1 ∷ token k.Piece (codes "$") 1 ∷ mark k.TextEnd 1 ∷ [])
    × (tokens (34 ∷ (codes "$a-b" ++ 34 ∷ [])) ≡ mark k.TextBegin 1 ∷ token k.VariableInText (codes "a") 1 ∷ token k.Piece (codes "-b") 1 ∷ mark k.TextEnd 1 ∷ [])
unfolding tokens blank_len name_kind name type_name variable number_value number punctuation quoted in_text token_front in_code braced four_digits double said encode_utf8
variables_in_text = (refl, refl, refl, refl, refl)

-- within `${` and the `}` that ends it stand tokens, texts among them; braces are matched by themselves
interpolations : (tokens (34 ∷ (codes "a${x}b" ++ 34 ∷ [])) ≡ mark k.TextBegin 1 ∷ token k.Piece (codes "a") 1 ∷ mark k.InterpolationBegin 1 ∷ token k.Name (codes "x") 1 ∷ mark k.InterpolationEnd 1 ∷ token k.Piece (codes "b") 1 ∷ mark k.TextEnd 1 ∷ [])
    × (tokens (34 ∷ (codes "${ {} }" ++ 34 ∷ [])) ≡ mark k.TextBegin 1 ∷ mark k.InterpolationBegin 1 ∷ mark k.OpenBrace 1 ∷ mark k.CloseBrace 1 ∷ mark k.InterpolationEnd 1 ∷ mark k.TextEnd 1 ∷ [])
    × (tokens (34 ∷ (codes "${" ++ (34 ∷ (codes "}${$y}" ++ (34 ∷ (codes "}" ++ 34 ∷ codes " }")))))) ≡ mark k.TextBegin 1 ∷ mark k.InterpolationBegin 1 ∷ mark k.TextBegin 1 ∷ token k.Piece (codes "}") 1 ∷ mark k.InterpolationBegin 1 ∷ token k.Variable (codes "y") 1 ∷ mark k.InterpolationEnd 1 ∷ mark k.TextEnd 1 ∷ mark k.InterpolationEnd 1 ∷ mark k.TextEnd 1 ∷ mark k.CloseBrace 1 ∷ [])
    × (tokens (34 ∷ (codes "${'}'" ++ (10 ∷ (codes "}" ++ 10 ∷ 34 ∷ [])))) ≡ mark k.TextBegin 1 ∷ mark k.InterpolationBegin 1 ∷ token k.Text (codes "}") 1 ∷ mark k.InterpolationEnd 2 ∷ token k.Piece (10 ∷ []) 2 ∷ mark k.TextEnd 3 ∷ [])
    × (tokens (codes "} {} }") ≡ mark k.CloseBrace 1 ∷ mark k.OpenBrace 1 ∷ mark k.CloseBrace 1 ∷ mark k.CloseBrace 1 ∷ [])
unfolding tokens blank_len name_kind name type_name variable number_value number punctuation quoted in_text token_front in_code braced four_digits double said encode_utf8
interpolations = (refl, refl, refl, refl, refl)

-- `[` is tight directly behind a token, and directly behind `${`
brackets : (tokens (codes "[a[[ [") ≡ mark k.OpenBracket 1 ∷ token k.Name (codes "a") 1 ∷ mark k.TightBracket 1 ∷ mark k.TightBracket 1 ∷ mark k.OpenBracket 1 ∷ [])
    × (tokens (codes "a/**/[ 'b'[") ≡ token k.Name (codes "a") 1 ∷ mark k.OpenBracket 1 ∷ token k.Text (codes "b") 1 ∷ mark k.TightBracket 1 ∷ [])
    × (tokens (34 ∷ 34 ∷ codes "[") ≡ mark k.TextBegin 1 ∷ mark k.TextEnd 1 ∷ mark k.TightBracket 1 ∷ [])
    × (tokens (34 ∷ codes "${[") ≡ mark k.TextBegin 1 ∷ mark k.InterpolationBegin 1 ∷ mark k.TightBracket 1 ∷ [])
    × (tokens (codes "a" ++ 10 ∷ codes "[") ≡ token k.Name (codes "a") 1 ∷ mark k.OpenBracket 2 ∷ [])
unfolding tokens blank_len name_kind name type_name variable number_value number punctuation quoted in_text token_front in_code braced four_digits double said encode_utf8
brackets = (refl, refl, refl, refl, refl)

-- `|` before the token `{` is the last bar
bars : (tokens (codes "|a| {") ≡ mark k.Bar 1 ∷ token k.Name (codes "a") 1 ∷ mark k.LastBar 1 ∷ mark k.OpenBrace 1 ∷ [])
    × (tokens (codes "|/* | */ # {" ++ 10 ∷ codes "{") ≡ mark k.LastBar 1 ∷ mark k.OpenBrace 2 ∷ [])
    × (tokens (codes "| /* {") ≡ mark k.Bar 1 ∷ mark k.Unclosed 1 ∷ [])
    × (tokens (codes "|") ≡ mark k.Bar 1 ∷ [])
    × (tokens (codes "| | {") ≡ mark k.Bar 1 ∷ mark k.LastBar 1 ∷ mark k.OpenBrace 1 ∷ [])
unfolding tokens blank_len name_kind name type_name variable number_value number punctuation quoted in_text token_front in_code braced four_digits double said encode_utf8
bars = (refl, refl, refl, refl, refl)

-- the longest mark is taken
longest : (tokens (codes "<<| << <| < <- <~ <= <<=") ≡ mark k.OpenExported 1 ∷ mark k.Append 1 ∷ mark k.OpenCollector 1 ∷ mark k.Less 1 ∷ mark k.OutEdge 1 ∷ mark k.OutEdgeSub 1 ∷ mark k.AtMost 1 ∷ mark k.Append 1 ∷ mark k.Assign 1 ∷ [])
    × (tokens (codes "|>> |> >> >= ->> ~> > >>>") ≡ mark k.CloseExported 1 ∷ mark k.CloseCollector 1 ∷ mark k.Returns 1 ∷ mark k.AtLeast 1 ∷ mark k.InEdge 1 ∷ mark k.Greater 1 ∷ mark k.InEdgeSub 1 ∷ mark k.Greater 1 ∷ mark k.Returns 1 ∷ mark k.Greater 1 ∷ [])
    × (tokens (codes "== => = =~ != !~ ! +> + @@@") ≡ mark k.Equal 1 ∷ mark k.Arrow 1 ∷ mark k.Assign 1 ∷ mark k.Match 1 ∷ mark k.NotEqual 1 ∷ mark k.NoMatch 1 ∷ mark k.Bang 1 ∷ mark k.PlusArrow 1 ∷ mark k.Plus 1 ∷ mark k.AtAt 1 ∷ mark k.At 1 ∷ [])
    × (tokens (codes ":;,.?-*/%()]") ≡ mark k.Colon 1 ∷ mark k.Semicolon 1 ∷ mark k.Comma 1 ∷ mark k.Dot 1 ∷ mark k.Question 1 ∷ mark k.Minus 1 ∷ mark k.Star 1 ∷ mark k.Slash 1 ∷ mark k.Percent 1 ∷ mark k.OpenParen 1 ∷ mark k.CloseParen 1 ∷ mark k.CloseBracket 1 ∷ [])
unfolding tokens blank_len name_kind name type_name variable number_value number punctuation quoted in_text token_front in_code braced four_digits double said encode_utf8
longest = (refl, refl, refl, refl)

-- where no token can be read, nothing behind it is
no_token : (tokens (codes "a ~ b") ≡ token k.Name (codes "a") 1 ∷ mark k.Bad 1 ∷ [])
    × (tokens (codes "a" ++ 10 ∷ codes "& 'b") ≡ token k.Name (codes "a") 1 ∷ mark k.Bad 2 ∷ [])
    × (tokens (195 ∷ 169 ∷ []) ≡ mark k.Bad 1 ∷ [])
    × (tokens (codes "\\") ≡ mark k.Bad 1 ∷ [])
    × (tokens (codes "^") ≡ mark k.Bad 1 ∷ [])
    × (tokens (codes "`") ≡ mark k.Bad 1 ∷ [])
unfolding tokens blank_len name_kind name type_name variable number_value number punctuation quoted in_text token_front in_code braced four_digits double said encode_utf8
no_token = (refl, refl, refl, refl, refl, refl)

-- the keywords, the names of the statement functions, and other names
keywords : map name_kind (codes "and" ∷ codes "case" ∷ codes "class" ∷ codes "default" ∷ codes "define" ∷ codes "else" ∷ codes "elsif" ∷ codes "false" ∷ codes "function" ∷ codes "if" ∷ codes "in" ∷ codes "inherits" ∷ codes "node" ∷ codes "or" ∷ codes "true" ∷ codes "undef" ∷ codes "unless" ∷ [])
    ≡ k.And ∷ k.Case ∷ k.Class ∷ k.Default ∷ k.Define ∷ k.Else ∷ k.Elsif ∷ k.False ∷ k.Function ∷ k.If ∷ k.In ∷ k.Inherits ∷ k.Node ∷ k.Or ∷ k.True ∷ k.Undef ∷ k.Unless ∷ []
unfolding name_kind
keywords = refl

statement_functions : map name_kind (codes "include" ∷ codes "contain" ∷ codes "require" ∷ codes "realize" ∷ codes "notice" ∷ codes "warning" ∷ codes "info" ∷ codes "debug" ∷ codes "err" ∷ codes "fail" ∷ []) ≡ k.StatementFunction ∷ k.StatementFunction ∷ k.StatementFunction ∷ k.StatementFunction ∷ k.StatementFunction ∷ k.StatementFunction ∷ k.StatementFunction ∷ k.StatementFunction ∷ k.StatementFunction ∷ k.StatementFunction ∷ []
unfolding name_kind
statement_functions = refl

other_names : map name_kind (codes "andy" ∷ codes "an" ∷ codes "::if" ∷ codes "if-x" ∷ codes "alert" ∷ codes "emerg" ∷ codes "notify" ∷ codes "true1" ∷ codes "create_resources" ∷ []) ≡ k.Name ∷ k.Name ∷ k.Name ∷ k.Name ∷ k.Name ∷ k.Name ∷ k.Name ∷ k.Name ∷ k.Name ∷ []
unfolding name_kind
other_names = refl

-- A file has its tokens, or the fault at the line where they end early.
files : (lexed (codes "a.pp") (codes "a") ≡ Ok (token k.Name (codes "a") 1 ∷ []))
    × (lexed (codes "a.pp") [] ≡ Ok [])
    × (lexed (codes "a.pp") (10 ∷ codes "08 a") ≡ Err (syntax_fault (codes "a.pp") 2))
    × (lexed (codes "a.pp") (codes "'a" ++ 10 ∷ []) ≡ Err (syntax_fault (codes "a.pp") 2))
    × (lexed (codes "a.pp") (34 ∷ codes "${") ≡ Ok (mark k.TextBegin 1 ∷ mark k.InterpolationBegin 1 ∷ []))
unfolding tokens lexed blank_len name_kind name type_name variable number_value number punctuation quoted in_text token_front in_code braced four_digits double said encode_utf8
files = (refl, refl, refl, refl, refl)
