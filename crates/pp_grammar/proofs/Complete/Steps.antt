-- What each step of a rule reads where what it asks for stands, and how much it takes.
use Rattle.std.proofs.Common.{◌≡◌, suc, Bool, true, false, length, Option, Some, None, Ok, refl, ap, rules}
use denote.Enum.Bare.{same_true, true_same}
use Rattle.pp_lexer.specs.declared.kind.Kind.{Kind}
use Rattle.pp_lexer.specs.contracts.kind.Kind.{the_type}
use Rattle.pp_lexer.specs.Seen.{Token}
use Rattle.pp_grammar.proofs.Reader.Input.{Input, kind, kind_at, line_at, take, sees, expect, expect_any, eat, open_level}
use Rattle.pp_grammar.proofs.Reader.Inner.{Inner, opening}
use Rattle.pp_grammar.specs.Kinds.{is_kind, same_kind}
use Rattle.pp_grammar.specs.Places.{Stands, Within, Opens}

-- a kind that is this one
pub kind_is : (word : Kind) (next : Option Kind) → is_kind word next ≡ true → next ≡ Some word
unfolding is_kind same_kind
kind_is word None e = absurd (cc)
kind_is word (Some other) e = ap Some (same_true the_type (search rules) other word e)

pub fits_kind : (word : Kind) {next : Option Kind} → next ≡ Some word → is_kind word next ≡ true
unfolding is_kind same_kind
fits_kind word e = rw e (true_same the_type word word refl)

-- ---- the token that stands there

pub kind_there : {fits : Option Kind → Bool} {i j : Input} {t : Token} → Stands fits i t j → kind i ≡ Some t.kind
unfolding kind kind_at
kind_there s = rw s.is refl

pub line_there : {fits : Option Kind → Bool} {i j : Input} {t : Token} → Stands fits i t j → line_at i.left ≡ t.line
unfolding line_at
line_there s = rw s.is refl

pub fits_there : {fits : Option Kind → Bool} {i j : Input} {t : Token} → Stands fits i t j → fits (kind i) ≡ true
fits_there s = rw (kind_there s) s.kind

pub word_there : {word : Kind} {i j : Input} {t : Token} → Stands (is_kind word) i t j → kind i ≡ Some word
word_there {word = w} {i = i} s = kind_is w (kind i) (fits_there s)

-- what stands there falls by one token
pub stands_falls : {fits : Option Kind → Bool} {i j : Input} {t : Token} → Stands fits i t j → length i.left ≡ suc (length j.left)
stands_falls s = rw s.is refl

-- ---- steps

pub take_gives : {fits : Option Kind → Bool} {i j : Input} {t : Token} → Stands fits i t j → take i ≡ Ok (t, j)
unfolding take
take_gives s = rw s.is refl

pub expect_gives : (word : Kind) {i j : Input} {t : Token} → Stands (is_kind word) i t j → expect word i ≡ Ok (t, j)
unfolding expect sees
expect_gives word s = rw (fits_there s) (take_gives s)

pub expect_any_gives : {fits : Option Kind → Bool} {i j : Input} {t : Token} → Stands fits i t j → expect_any fits i ≡ Ok (t, j)
unfolding expect_any
expect_any_gives s = rw (fits_there s) (take_gives s)

pub eat_gives : (word : Kind) {i j : Input} {t : Token} → Stands (is_kind word) i t j → eat word i ≡ Ok (true, j)
unfolding eat sees
eat_gives word s = rw (fits_there s, take_gives s) refl

pub eat_leaves : (word : Kind) (i : Input) → is_kind word (kind i) ≡ false → eat word i ≡ Ok (false, i)
unfolding eat sees
eat_leaves word i e = rw e refl

pub opening_gives : (inner : Inner) {N : Within} (word : Kind) {i j : Input} {t : Token} → inner.is_deepest ≡ N.is_deepest → Opens N word i t j → opening inner word i ≡ Ok (t, j)
unfolding open_level sees
opening_gives inner word same o = rw (fits_there o.token, same, o.room) (take_gives o.token)
