-- Functions, and what they are.
use Rattle.std.proofs.Common.{◌≡◌, List, [], ◌∷◌, Some, None, Result, Ok, refl}
use Rattle.std.specs.Prelude.{ℕ, codes}
use Rattle.pp_values.specs.declared.fault.Fault.{Fault}
use Rattle.pp_tree.specs.declared.definition.Definition.TheVariants as definition
use Rattle.pp_tree.specs.declared.definition.Function.{Function}
use Rattle.pp_tree.specs.declared.expr.Expr.{Expr}
use Rattle.pp_tree.specs.declared.expr.Form.TheVariants as form
use Rattle.pp_tree.specs.declared.expr.Postfix.TheVariants as postfix
use Rattle.pp_tree.specs.declared.file.File.{File}
use Rattle.pp_tree.specs.declared.statement.Statement.{Statement}
use Rattle.pp_tree.specs.declared.statement.Statement.TheVariants as statement
use Rattle.pp_tree.specs.declared.table.DefinitionName.TheVariants as name_of
use Rattle.pp_tree.specs.Building as tree
use Rattle.pp_parser.specs.Manifest.{main_path, file_of}
use Rattle.pp_grammar.proofs.Examples.{read, faulty, line, alone, number, name, variable}

-- a file that defines this function alone
abbrev defines : List ℕ → Function → Result File Fault
defines key f = Ok (record { statements = []; definitions = (name_of.Function key, definition.Function f) ∷ [] })

abbrev type : ℕ → List ℕ → Expr
type at text = tree.expr_at at (form.Type text)

-- the function `f` without parameters and type, with this body
abbrev bare : List Statement → Result File Fault
bare body = defines (codes "f") (tree.function_of (tree.name_at (codes "f") 1) [] None body 1)

-- its parameters, what it gives, its words and its expressions
function : file_of main_path (line (codes "function ::m::f($x, Integer $y = 2) >> Array[B] {") (line (codes "notice $x, 1; f(2) $y") (codes "}")))
    ≡ defines (codes "m::f") (tree.function_of (tree.name_at (codes "::m::f") 1)
    (tree.param None (codes "x") None 1 ∷ tree.param (Some (type 1 (codes "Integer"))) (codes "y") (Some (number 1 2)) 1 ∷ [])
    (Some (tree.expr_at 1 (form.Postfix (type 1 (codes "Array")) (postfix.Access (type 1 (codes "B") ∷ []) ∷ []))))
    (statement.Words (tree.words (codes "notice") (variable 2 (codes "x") ∷ number 2 1 ∷ []) 2)
    ∷ alone (tree.expr_at 2 (form.Call (tree.call (codes "f") (number 2 2 ∷ []) None))) ∷ alone (variable 2 (codes "y")) ∷ []) 1)
unfolding read
function = refl

-- parameters and type may be left out, and a module file defines functions too
least : (file_of main_path (codes "function f { }") ≡ bare [])
    × (file_of main_path (codes "function f() >> T { };") ≡ defines (codes "f") (tree.function_of (tree.name_at (codes "f") 1) [] (Some (type 1 (codes "T"))) [] 1))
    × (file_of (codes "m") (codes "function f { }") ≡ bare [])
unfolding read
least = (refl, refl, refl)

-- the name of a statement function takes words, and before `(` it is called; a type before `{` is a value
statements : (file_of main_path (codes "function f { notice(1) notice }") ≡ bare (alone (tree.expr_at 1 (form.Call (tree.call (codes "notice") (number 1 1 ∷ []) None))) ∷ statement.Words (tree.words (codes "notice") [] 1) ∷ []))
    × (file_of main_path (codes "function f { T {} }") ≡ bare (alone (type 1 (codes "T")) ∷ alone (tree.expr_at 1 (form.Hash [])) ∷ []))
    × (file_of main_path (codes "function f { notice a, }") ≡ bare (statement.Words (tree.words (codes "notice") (name 1 (codes "a") ∷ []) 1) ∷ []))
unfolding read
statements = (refl, refl, refl)

-- no resource, and no chain, stands in a body, and no function in a block
refused : (file_of main_path (line (codes "function f { a") (codes "{ b: } }")) ≡ faulty 2)
    × (file_of main_path (line (codes "function f { notice a") (codes "{ b: } }")) ≡ faulty 2)
    × (file_of main_path (line (codes "function f { notice") (codes "{ b: } }")) ≡ faulty 2)
    × (file_of main_path (line (codes "function f {") (codes "class { b: } }")) ≡ faulty 2)
    × (file_of main_path (line (codes "function f { A[b]") (codes "-> c }")) ≡ faulty 2)
    × (file_of main_path (line (codes "function f { T") (codes "<| |> }")) ≡ faulty 2)
    × (file_of main_path (line (codes "if a {") (codes "function f { } }")) ≡ faulty 2)
unfolding read
refused = (refl, refl, refl, refl, refl, refl, refl)

-- what a function gives is a type, and its bracket stands directly behind it; `>>` stands nowhere else
refused_types : (file_of main_path (line (codes "function f >>") (codes "a { }")) ≡ faulty 2)
    × (file_of main_path (line (codes "function f >> A") (codes "[B] { }")) ≡ faulty 2)
    × (file_of main_path (line (codes "function f >> A[B]") (codes "[C] { }")) ≡ faulty 2)
    × (file_of main_path (line (codes "class f") (codes ">> A { }")) ≡ faulty 2)
    × (file_of main_path (line (codes "1") (codes ">> 2")) ≡ faulty 2)
unfolding read
refused_types = (refl, refl, refl, refl, refl)

-- functions have names of their own, by their letters
names : (file_of main_path (line (codes "function f { }") (codes "function ::f { }")) ≡ faulty 2)
    × (file_of main_path (codes "class f { } function f { }")
    ≡ Ok (record {
      statements = [];
      definitions =
          (name_of.Code (codes "f"), definition.Class (tree.class_of (tree.name_at (codes "f") 1) [] None [] 1))
          ∷ (name_of.Function (codes "f"), definition.Function (tree.function_of (tree.name_at (codes "f") 1) [] None [] 1)) ∷ [];
    }))
unfolding read
names = (refl, refl)
