-- What a declaration's body means, by its row.
use Rattle.std.proofs.Common.{◌≡◌, ℕ, zero, suc, ◌<◌, List, [], ◌∷◌, length, Some, refl, ap, sym, ◌∙◌, arith}
use Rattle.std.specs.Prelude.{option_map, unwrap_or, slice_get}
use Rattle.override_rules.specs.Names.{attributes_of}
use Rattle.pp_values.specs.Settings.{Setting}
use Rattle.res_book.specs.Rows.{item_at, reference_of, with_change, bound_to}
use Rattle.res_book.specs.declared.row.Row.{Row}
use Rattle.res_core.specs.declared.declared.Declared.{Declared}
use Rattle.eval_world.specs.Inner.{Inner}
use Rattle.eval_world.specs.declared.here.Here.{Here}
use Rattle.eval_world.specs.declared.world.World.{World}
use Rattle.eval_classes.specs.Bodies.{class_rule, class_by, class_body, instance_rule, instance_by, instance_body, kept}
use Rattle.eval_classes.specs.declared.binding.Binding.{Binding}

-- what a body goes by
abbrev pub bound_by : List Setting → Declared → Binding
bound_by given item = record { given = given; of = reference_of item; at = item.at }

pub class_declared : (inner : Inner) (number line : ℕ) (own : Here) (w : World) (item : Declared) (b : Binding) →
    item_at w.book number ≡ Some item → b ≡ bound_by item.item.attributes item →
    class_rule inner number line own w ≡ class_body inner b.given b.of b.at number line own w
unfolding class_rule
class_declared inner number line own w item b there e =
    ap (λ o. class_by inner o number line own w) there
    ∙ sym (ap (λ b. class_body inner b.given b.of b.at number line own w) e)

pub instance_declared : (inner : Inner) (number line : ℕ) (own : Here) (w : World) (item : Declared) (b : Binding)
    (given : List Setting) → item_at w.book number ≡ Some item →
    option_map (attributes_of w.overrides) (slice_get w.book number) ≡ Some given → b ≡ bound_by given item →
    instance_rule inner number line own w ≡ instance_body inner b.given b.of b.at number line own w
unfolding instance_rule
instance_declared inner number line own w item b given there set e =
    ap (λ o. instance_by inner o number line own w) there
    ∙ ap (λ o. instance_body inner (unwrap_or o []) (reference_of item) item.at number line own w) set
    ∙ sym (ap (λ b. instance_body inner b.given b.of b.at number line own w) e)

none_changed : (change : Row → Row) (n : ℕ) (rows : List Row) → ¬ (n < length rows) → with_change change n rows ≡ rows
none_changed change n [] outside = refl
none_changed change zero (r ∷ rs) outside = absurd (outside (omega arith))
none_changed change (suc n) (r ∷ rs) outside = ap (λ rs. r ∷ rs) (none_changed change n rs (λ h. outside (omega arith)))

-- nothing is kept of a declaration that is not there
pub nothing_kept : (n : ℕ) (bound : List Setting) (w : World) → ¬ (n < length w.book) → kept n bound w ≡ w
nothing_kept n bound w outside = ap (λ rows. record w { book = rows }) (none_changed (bound_to bound) n w.book outside)
