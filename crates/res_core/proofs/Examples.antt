-- What the definitions give on worked examples.
use Rattle.std.proofs.Common.{◌≡◌, true, false, Some, None, [], ◌∷◌, refl, codes}
use Rattle.pp_values.specs.Rising.{sorted, is_rising}
use Rattle.pp_values.specs.Datum.{flag, undef}
use Rattle.res_core.specs.AttributeViews.{set_in}
use Rattle.res_core.specs.TagNames.{segments, is_word_byte, is_tag_byte, is_taggable, tags, is_tagged}

each_once : sorted (codes "b" ∷ codes "a" ∷ codes "b" ∷ []) ≡ codes "a" ∷ codes "b" ∷ []
each_once = refl

not_twice : is_rising (codes "a" ∷ codes "a" ∷ []) ≡ false
not_twice = refl

-- the first two colons of three are the cut
three_colons : segments (codes "a:::b::") ≡ codes "a" ∷ codes ":b" ∷ [] ∷ []
unfolding segments
three_colons = refl

single_colon : segments (codes "a:b") ≡ codes "a:b" ∷ []
unfolding segments
single_colon = refl

path_is_no_tag : is_taggable (codes "/etc/hosts") ≡ false
unfolding is_word_byte
path_is_no_tag = refl

-- a defined type's instance
vhost : tags (codes "web::vhost") (codes "x") [] [] ≡ codes "vhost" ∷ codes "web" ∷ codes "web::vhost" ∷ codes "x" ∷ []
unfolding segments is_word_byte is_tag_byte
vhost = refl

-- a notify in `Class[main]`
in_main : tags (codes "notify") (codes "hi") [] (codes "class" ∷ codes "main" ∷ []) ≡ codes "class" ∷ codes "hi" ∷ codes "main" ∷ codes "notify" ∷ []
unfolding segments is_word_byte is_tag_byte
in_main = refl

-- `Class[main]` itself
main : tags (codes "class") (codes "main") [] [] ≡ codes "class" ∷ codes "main" ∷ []
unfolding segments is_word_byte is_tag_byte
main = refl

-- the title `A::B` and the given text `C` are lowered, the title `a b` gives no tag
lowered_title : tags (codes "file") (codes "A::B") (codes "C" ∷ []) [] ≡ codes "a" ∷ codes "a::b" ∷ codes "b" ∷ codes "c" ∷ codes "file" ∷ []
unfolding segments is_word_byte is_tag_byte
lowered_title = refl

title_with_space : tags (codes "file") (codes "a b") [] [] ≡ codes "file" ∷ []
unfolding segments is_word_byte is_tag_byte
title_with_space = refl

letters_are_folded : is_tagged (codes "dns" ∷ codes "host" ∷ []) (codes "Host") ≡ true
letters_are_folded = refl

part_of_a_tag : is_tagged (codes "dns" ∷ codes "host" ∷ []) (codes "hos") ≡ false
part_of_a_tag = refl

set : set_in ((codes "ensure", flag true) ∷ (codes "mode", undef) ∷ []) (codes "mode") ≡ Some undef
set = refl

not_set : set_in ((codes "ensure", flag true) ∷ []) (codes "Ensure") ≡ None
not_set = refl
