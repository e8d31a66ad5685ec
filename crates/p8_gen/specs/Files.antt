-- What the names of a method mean to its code, by the kinds of the file's names and by the labels of its data.
use Rattle.std.specs.Prelude.{ℕ, List, [], ◌∷◌, Option, Some, None, if◌then◌else◌}
use Rattle.std.specs.Option.{option_or}
use Rattle.std.specs.Str.{bytes_eq}
use Rattle.p8_tree.specs.declared.places.Place.{Place}
use Rattle.p8_tree.specs.Names.{result_word}
use Rattle.p8_words.specs.Operators.{or_zero}
use Rattle.p8_kinds.specs.declared.children.Children.{Children}
use Rattle.p8_kinds.specs.declared.kinds.Kinds.{Kinds}
use Rattle.p8_kinds.specs.declared.name_kinds.Label.{Label}
use Rattle.p8_kinds.specs.declared.name_kinds.NameKind.{NameKind}
use Rattle.p8_kinds.specs.declared.name_kinds.NameKind.TheVariants as kinds
use Rattle.p8_kinds.specs.Kinds.{kind_of}
use Rattle.p8_kinds.specs.Publics.{public_of}
use Rattle.p8_kinds.specs.FileSettings.{file_setting}
use Rattle.p8_gen.specs.Names.{Names, all_wide}

-- ---- labels

abbrev pub named_offset : Label → List ℕ → Option ℕ
named_offset x name = if bytes_eq name x.name then Some x.offset else None

-- of two labels with one name the first counts
abbrev pub first_offset : List Label → List ℕ → Option ℕ
first_offset [] name = None
first_offset (x ∷ xs) name = option_or (named_offset x name) (first_offset xs name)

-- ---- names

-- RESULT is a word and has no entry: it is the first long of the frame
abbrev pub kind_here : Kinds → (method : ℕ) → List ℕ → Option NameKind
kind_here found method name = if bytes_eq name result_word then Some (kinds.Local 0) else kind_of found method name

-- the names of the method with this number, in a statement; texts stand nowhere yet
abbrev pub names_in : Kinds → Children → List Label → (method : ℕ) → (statement : Place) → Names
names_in found children labels method statement = record {
  kind = kind_here found method;
  public = public_of children;
  constants = file_setting found children;
  label = λ name. or_zero (first_offset labels name);
  text = λ place. 0;
  wide = all_wide;
  statement = statement;
}
