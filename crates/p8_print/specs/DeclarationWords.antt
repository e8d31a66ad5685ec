-- Declarations as words (Propeller Manual v1.2, "CON", "VAR", "OBJ", "PUB" and "PRI").
use Rattle.std.specs.Prelude.{ℕ, List, [], ◌∷◌, ◌++◌, Option, Some, None}
use Rattle.p8_tree.specs.Expressions.{Tree}
use Rattle.p8_tree.specs.Sources.{Constant, Declared, Child, MethodTree}
use Rattle.p8_lexer.specs.declared.word.Word.TheVariants as word
use Rattle.p8_print.specs.Spelled.{Spelled, reserved, name, string}
use Rattle.p8_print.specs.Tables.{size_word}
use Rattle.p8_print.specs.Wording.{wrapped, words_of_count}

-- `#e`, if there is a value
abbrev pub words_of_setting : Option Tree → List Spelled
words_of_setting None = []
words_of_setting (Some e) = reserved word.Hash ∷ wrapped e

-- an item of CON, by its name, its value and its step: `name = e`, `name`, `name[e]` and `#e`
abbrev pub words_of_item : Option (List ℕ) → Option Tree → Option Tree → List Spelled
words_of_item (Some n) (Some e) step = name n ∷ reserved word.EqualSign ∷ wrapped e
words_of_item (Some n) None step = name n ∷ words_of_count step
words_of_item None value step = words_of_setting value

abbrev pub words_of_constant : Constant → List Spelled
words_of_constant x = words_of_item x.name x.value x.step

-- a name with its count
abbrev pub words_of_name_and_count : Declared → List Spelled
words_of_name_and_count x = name x.name ∷ words_of_count x.count

-- a variable of VAR
abbrev pub words_of_variable : Declared → List Spelled
words_of_variable x = reserved (size_word x.size) ∷ words_of_name_and_count x

-- an object
abbrev pub words_of_child : Child → List Spelled
words_of_child x = name x.name ∷ (words_of_count x.count ++ reserved word.Colon ∷ string x.file ∷ [])

-- names after others, each with the comma before it
abbrev pub more_names : List (List ℕ) → List Spelled
more_names [] = []
more_names (n ∷ ns) = reserved word.Comma ∷ name n ∷ more_names ns

-- parameters in parentheses, if there are any
abbrev pub words_of_parameters : List (List ℕ) → List Spelled
words_of_parameters [] = []
words_of_parameters (n ∷ ns) = reserved word.LeftParenthesis ∷ name n ∷ (more_names ns ++ reserved word.RightParenthesis ∷ [])

-- the name of the result, if it has one
abbrev pub words_of_result : Option (List ℕ) → List Spelled
words_of_result None = []
words_of_result (Some n) = reserved word.Colon ∷ name n ∷ []

-- locals after others, each with the comma before it
abbrev pub more_locals : List Declared → List Spelled
more_locals [] = []
more_locals (x ∷ xs) = reserved word.Comma ∷ (words_of_name_and_count x ++ more_locals xs)

-- `|` and the locals, if there are any
abbrev pub words_of_locals : List Declared → List Spelled
words_of_locals [] = []
words_of_locals (x ∷ xs) = reserved word.BitOr ∷ (words_of_name_and_count x ++ more_locals xs)

-- the head of a method, after PUB or PRI
abbrev pub words_of_head : MethodTree → List Spelled
words_of_head m = name m.name ∷ (words_of_parameters m.params ++ (words_of_result m.result_name ++ words_of_locals m.locals))
