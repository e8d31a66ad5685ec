-- What a file sees of the methods of its objects: of PRIs nothing (Propeller Manual v1.2, "PUB" and "PRI").
use Rattle.std.specs.Prelude.{ℕ, suc, min, List, [], ◌∷◌, Option, Some, None, if◌then◌else◌, slice_get}
use Rattle.std.specs.Str.{bytes_eq}
use Rattle.p8_kinds.specs.declared.children.Child.{Child}
use Rattle.p8_kinds.specs.declared.children.ChildMethod.{ChildMethod}
use Rattle.p8_kinds.specs.declared.children.Children.{Children}
use Rattle.p8_kinds.specs.declared.name_kinds.NameKind.{NameKind}
use Rattle.p8_kinds.specs.declared.name_kinds.NameKind.TheVariants as kind
use Rattle.p8_kinds.specs.Kinds.{or_else}

-- a method by its name
abbrev pub named_method : ℕ → ChildMethod → List ℕ → Option NameKind
named_method number m name = if bytes_eq name m.name then Some (kind.Method number m.params) else None

-- methods with their numbers, from this one on, which stop at 255; of two with one name the first counts
abbrev pub method_among : ℕ → List ChildMethod → List ℕ → Option NameKind
method_among number [] name = None
method_among number (m ∷ ms) name = or_else (named_method (min number 255) m name) (method_among (suc number) ms name)

abbrev pub method_in : Option Child → List ℕ → Option NameKind
method_in None name = None
method_in (Some child) name = method_among 1 child.methods name

-- a PUB of an object's file, by the object's number among the items of OBJ
abbrev pub public_of : Children → ℕ → List ℕ → Option NameKind
public_of children item name = method_in (slice_get children.items item) name
