-- Literals with parts: lists, hashes, and texts with interpolation. Parts are evaluated in order.
use Rattle.std.specs.Prelude.{ℕ, Bool, true, false, List, [], ◌∷◌, ◌++◌, codes}
use Rattle.pp_tree.specs.declared.expr.Expr.{Expr}
use Rattle.pp_tree.specs.declared.expr.Pair as tree
use Rattle.pp_tree.specs.declared.expr.Piece.{Piece}
use Rattle.pp_tree.specs.declared.expr.Piece.TheVariants as piece
use Rattle.pp_values.specs.Datum.{Datum, Pair, text, list, hash, data_of, entries_of}
use Rattle.pp_values.specs.Keys.{is_key, with_pair}
use Rattle.pp_values.specs.TextOf.{text_of}
use Rattle.eval_world.specs.Arguments.{values_from}
use Rattle.eval_world.specs.Inner.{Inner}
use Rattle.eval_world.specs.Outcomes.{Step, ◌>>=◌, pure}
use Rattle.eval_world.specs.declared.here.Here.{Here}
use Rattle.eval_forms.specs.Answering.{bad_operand}

-- `[1, *$a]`
unfoldable pub list_rule : Inner → List Expr → Here → Step Datum
list_rule inner es here = do
  ds ← values_from inner [] es here
  pure (list (data_of ds))

-- The value of a pair, where its key is a text or an integer. It is set behind the pairs that are there, or, where one
-- of them has exactly this key, in the place of its value.
unfoldable pub value_rule : Inner → List Pair → Bool → Datum → Expr → ℕ → Here → Step (List Pair)
value_rule inner done false key e line here = bad_operand (codes "=>") line here
value_rule inner done true key e line here = do
  d ← inner.value e here
  pure (with_pair key d done)

unfoldable pub pair_rule : Inner → List Pair → tree.Pair Expr → ℕ → Here → Step (List Pair)
pair_rule inner done p line here = do
  key ← inner.value p.key here
  value_rule inner done (is_key key) key p.value line here

unfoldable pub pairs_from : Inner → List Pair → List (tree.Pair Expr) → ℕ → Here → Step (List Pair)
pairs_from inner done [] line here = pure done
pairs_from inner done (p ∷ ps) line here = do
  more ← pair_rule inner done p line here
  pairs_from inner more ps line here

-- `{ a => 1, b => 2 }`
unfoldable pub hash_rule : Inner → List (tree.Pair Expr) → ℕ → Here → Step Datum
hash_rule inner ps line here = do
  done ← pairs_from inner [] ps line here
  pure (hash (entries_of done))

unfoldable pub piece_rule : Inner → List ℕ → Piece Expr → Here → Step (List ℕ)
piece_rule inner done (piece.Text t) here = pure (done ++ t)
piece_rule inner done (piece.Value e) here = do
  d ← inner.value e here
  pure (done ++ text_of d)

unfoldable pub pieces_from : Inner → List ℕ → List (Piece Expr) → Here → Step (List ℕ)
pieces_from inner done [] here = pure done
pieces_from inner done (p ∷ ps) here = do
  more ← piece_rule inner done p here
  pieces_from inner more ps here

-- `"a${b}c"`
unfoldable pub interpolated_rule : Inner → List (Piece Expr) → Here → Step Datum
interpolated_rule inner ps here = do
  t ← pieces_from inner [] ps here
  pure (text t)
