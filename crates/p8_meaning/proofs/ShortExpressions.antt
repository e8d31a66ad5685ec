-- What a folded expression does is what the expression does.
use Rattle.std.proofs.Common.{◌≡◌, refl, sym, ap, ◌∙◌, ℕ, ◌+◌, ◌%◌, ◌^◌, ◌==◌, nat_le, Bool, true, false, if◌then◌else◌, List, [], ◌∷◌, ◌++◌, Option, Some, None, option_map}
use Rattle.std.specs.Str.{bytes_eq}
use Rattle.p8_tree.specs.declared.places.Place.{Place}
use Rattle.p8_tree.specs.Names.{result_word}
use Rattle.p8_tree.specs.Sources.{Source}
use Rattle.p8_tree.specs.Expressions.{Tree, node, Form, Number, Str, Strings, Here, Var, Call, Unary, Binary, Assign, Change, Address, ObjectAddress, ObjConst, Built, Look, Variable, Named, Part, Memory, Register, Index, no_index, index, Bits, whole, bits, Item, single, range, Trees, no_trees, ◌▷◌, Items, no_items, ◌▸◌}
use Rattle.p8_words.specs.Operators.{unary_value, binary_value, or_zero}
use Rattle.p8_fold.specs.declared.meanings.Meaning.TheVariants as meaning_case
use Rattle.p8_fold.specs.Values as constants
use Rattle.p8_kinds.specs.declared.name_kinds.NameKind.{NameKind}
use Rattle.p8_kinds.specs.declared.name_kinds.NameKind.TheVariants as kind_case
use Rattle.p8_kinds.specs.FileSettings.{meaning_of_kind}
use Rattle.p8_meaning.specs.Programs.{Program, Scope, kind_of, scope_setting, object_constant}
use Rattle.p8_meaning.specs.Doing.{Rest, Gives}
use Rattle.p8_meaning.specs.Variables.{Location, Pins, element, address_at}
use Rattle.p8_meaning.specs.Builtins.{new_cog, does_one, does_two, does_three}
use Rattle.p8_meaning.specs.Calls.{Returned, used, unused, Callee}
use Rattle.p8_meaning.specs.Expressions as expressions
use Rattle.p8_meaning.specs.Constants.{value_meant, value_behind, both, constant_value, number_length, code_length, within, shorter_number}
use Rattle.p8_meaning.specs.Folding.{number_or, folded, form_with, variable_with, index_with, bits_with, item_with, trees_with, arguments_with, items_with, folded_inside}
use Rattle.p8_meaning.specs.Projects.{constants_of}
use Rattle.p8_meaning.proofs.Scopes.{moved, Folds, named-same, part-same, fetches-same, assigns-same, changes-same, changes_alone-same, calls_own-same, calls_of_object-same, value_of_name-same, begins_method-same, begins_pasm-same, begins_name-same}

-- ---- constants

-- where there is a value, it is what is given, and nothing is done
abbrev pub Worth : Option ℕ → Gives ℕ → Type 0
Worth None x = Unit {0}
Worth (Some v) x = (go : ℕ → Rest) → x go ≡ go v

-- where there is a value, the name is a constant's
abbrev NamesIt : Option ℕ → Option NameKind → Type 0
NamesIt None kind = Unit {0}
NamesIt (Some v) kind = kind ≡ Some (kind_case.Const v)

worth-unary : (operator : ℕ) (o : Option ℕ) (x : Gives ℕ) → Worth o x → Worth (option_map (unary_value operator) o) (λ go. x (λ a. go (unary_value operator a)))
worth-unary operator None x h = tt
worth-unary operator (Some v) x h = λ go. h (λ a. go (unary_value operator a))

worth-binary : (operator : ℕ) (o p : Option ℕ) (x y : Gives ℕ) → Worth o x → Worth p y → Worth (both o p (binary_value operator)) (λ go. x (λ a. y (λ b. go (binary_value operator a b))))
worth-binary operator None p x y h k = tt
worth-binary operator (Some v) None x y h k = tt
worth-binary operator (Some v) (Some w) x y h k = λ go. h (λ a. y (λ b. go (binary_value operator a b))) ∙ k (λ b. go (binary_value operator v b))

worth-if : (b : Bool) (v : ℕ) (x : Gives ℕ) → Worth (Some v) x → Worth (if b then Some v else None) x
worth-if true v x h = h
worth-if false v x h = tt

worth-within : (room : ℕ) (o : Option ℕ) (x : Gives ℕ) → Worth o x → Worth (within room o) x
worth-within room None x h = tt
worth-within room (Some v) x h = worth-if (nat_le (number_length v) room) v x h

-- the value of a name, by its kind
kind_names : (hidden : Bool) (kind : Option NameKind) → NamesIt (value_meant (if hidden then Some meaning_case.Other else option_map meaning_of_kind kind)) kind
kind_names true kind = tt
kind_names false None = tt
kind_names false (Some (kind_case.Const v)) = refl
kind_names false (Some (kind_case.Local offset)) = tt
kind_names false (Some (kind_case.Global size offset)) = tt
kind_names false (Some (kind_case.Label size)) = tt
kind_names false (Some (kind_case.Method number params)) = tt
kind_names false (Some (kind_case.Object item position count)) = tt

module _ (callee : Callee) (s : Scope) (abort : Returned → Rest) where
  worth-kind : (hidden : Bool) (name : List ℕ) (kind : Option NameKind) (other : Gives ℕ)
      → Worth (value_meant (if hidden then Some meaning_case.Other else option_map meaning_of_kind kind)) (λ go. if hidden then other go else expressions.value_of_kind callee s abort name kind go)
  worth-kind true name kind other = tt
  worth-kind false name None other = tt
  worth-kind false name (Some (kind_case.Const v)) other = λ go. refl
  worth-kind false name (Some (kind_case.Local offset)) other = tt
  worth-kind false name (Some (kind_case.Global size offset)) other = tt
  worth-kind false name (Some (kind_case.Label size)) other = tt
  worth-kind false name (Some (kind_case.Method number params)) other = tt
  worth-kind false name (Some (kind_case.Object item position count)) other = tt

  -- a constant behind an object's name
  worth-found : (o : Option ℕ) → Worth (value_meant (option_map meaning_case.Value o)) (λ go. go (or_zero o))
  worth-found None = tt
  worth-found (Some v) = λ go. refl

  worth-behind : (hidden : Bool) (name : List ℕ) (kind : Option NameKind)
      → Worth (value_behind (if hidden then Some meaning_case.Other else option_map meaning_of_kind kind) (option_map meaning_case.Value (object_constant s.file kind name))) (λ go. go (or_zero (object_constant s.file kind name)))
  worth-behind true name kind = tt
  worth-behind false name None = tt
  worth-behind false name (Some (kind_case.Const v)) = tt
  worth-behind false name (Some (kind_case.Local offset)) = tt
  worth-behind false name (Some (kind_case.Global size offset)) = tt
  worth-behind false name (Some (kind_case.Label size)) = tt
  worth-behind false name (Some (kind_case.Method number params)) = tt
  worth-behind false name (Some (kind_case.Object item position count)) = worth-found (object_constant s.file (Some (kind_case.Object item position count)) name)

  pub worth : (e : Tree) → Worth (constant_value (constants_of s.file s.method) e) (expressions.evaluates callee s abort e)
  worth (node place (Number n)) = λ go. refl
  worth (node place (Var (Named name no_index at))) = worth-kind (bytes_eq name result_word) name (kind_of s name) _
  worth (node place (ObjConst object name at)) = worth-behind (bytes_eq object result_word) name (kind_of s object)
  worth (node place (Unary operator e)) = worth-unary operator (constant_value (constants_of s.file s.method) e) (expressions.evaluates callee s abort e) (worth e)
  worth (node place (Binary operator a b)) =
      worth-binary operator (constant_value (constants_of s.file s.method) a) (constant_value (constants_of s.file s.method) b)
      (expressions.evaluates callee s abort a) (expressions.evaluates callee s abort b) (worth a) (worth b)
  worth (node place (Str text)) = tt
  worth (node place (Strings es)) = tt
  worth (node place Here) = tt
  worth (node place (Var (Named name (index e) at))) = tt
  worth (node place (Var (Part name size i at))) = tt
  worth (node place (Var (Memory size e i at))) = tt
  worth (node place (Var (Register register x at))) = tt
  worth (node place (Call stops object i method at arguments)) = tt
  worth (node place (Assign v operator e)) = tt
  worth (node place (Change v change)) = tt
  worth (node place (Address v)) = tt
  worth (node place (ObjectAddress e)) = tt
  worth (node place (Built code arguments)) = tt
  worth (node place (Look code e items)) = tt

  worth_shorter : (e : Tree) → Worth (shorter_number (constants_of s.file s.method) e) (expressions.evaluates callee s abort e)
  worth_shorter e = worth-within (code_length (constants_of s.file s.method) e) (constant_value (constants_of s.file s.method) e) (expressions.evaluates callee s abort e) (worth e)

-- ---- expressions

module _ (callee : Callee) (s : Scope) (abort : Returned → Rest) (program : Program) (source : Source) (folds : Folds s.file source) where
  -- a number in place of a form, or the form
  chosen : (o : Option ℕ) (place : Place) (form : Form) (x : Gives ℕ) → Worth o x → (go : ℕ → Rest)
      → expressions.evaluates callee (moved program source s) abort (node place form) go ≡ x go
      → expressions.evaluates callee (moved program source s) abort (node place (number_or o form)) go ≡ x go
  chosen None place form x h go same = same
  chosen (Some v) place form x h go same = sym (h go)

  constant-same : (b : Bool) (e f : Tree) (go : ℕ → Rest) (k : ℕ → Rest)
      → expressions.evaluates callee (moved program source s) abort f k ≡ expressions.evaluates callee s abort e k
      → (if b then go (or_zero (constants.value (scope_setting s) (if b then e else f))) else expressions.evaluates callee (moved program source s) abort (if b then e else f) k)
      ≡ (if b then go (or_zero (constants.value (scope_setting s) e)) else expressions.evaluates callee s abort e k)
  constant-same true e f go k same = refl
  constant-same false e f go k same = same

  -- ---- what a COGNEW or a COGINIT begins

  begins_named : (id : ℕ) (place : Place) (name : List ℕ) (at : Place) (p q x y : Gives ℕ) → ((go : ℕ → Rest) → p go ≡ q go) → ((go : ℕ → Rest) → x go ≡ y go) → (go : ℕ → Rest)
      → (b : Bool) (v : ℕ) → NamesIt (Some v) (kind_of s name)
      → expressions.begins callee (moved program source s) abort id (node place (number_or (if b then Some v else None) (Var (Named name no_index at)))) p x go
      ≡ expressions.begins_name callee s abort id name (kind_of s name) q y go
  begins_named id place name at p q x y first second go true v is =
      begins_pasm-same program source s folds callee abort id p q x y first second go
      ∙ ap (λ kind. expressions.begins_name callee s abort id name kind q y go) (sym is)
  begins_named id place name at p q x y first second go false v is =
      begins_name-same program source s folds callee abort id name (kind_of s name) p q x y first second go

  begins_name_or_number : (id : ℕ) (place : Place) (name : List ℕ) (at : Place) (p q x y : Gives ℕ) → ((go : ℕ → Rest) → p go ≡ q go) → ((go : ℕ → Rest) → x go ≡ y go) → (go : ℕ → Rest)
      → (room : ℕ) (o : Option ℕ) → NamesIt o (kind_of s name)
      → expressions.begins callee (moved program source s) abort id (node place (number_or (within room o) (Var (Named name no_index at)))) p x go
      ≡ expressions.begins_name callee s abort id name (kind_of s name) q y go
  begins_name_or_number id place name at p q x y first second go room None is =
      begins_name-same program source s folds callee abort id name (kind_of s name) p q x y first second go
  begins_name_or_number id place name at p q x y first second go room (Some v) is =
      begins_named id place name at p q x y first second go (nat_le (number_length v) room) v is

  begins_constant : (id : ℕ) (place : Place) (object name : List ℕ) (at : Place) (o : Option ℕ) (p x : Gives ℕ) (go : ℕ → Rest)
      → expressions.begins callee (moved program source s) abort id (node place (number_or o (ObjConst object name at))) p x go ≡ expressions.begins_pasm callee s abort id p x go
  begins_constant id place object name at None p x go = refl
  begins_constant id place object name at (Some v) p x go = refl

  begins_unary : (id : ℕ) (place : Place) (operator : ℕ) (e : Tree) (o : Option ℕ) (p x : Gives ℕ) (go : ℕ → Rest)
      → expressions.begins callee (moved program source s) abort id (node place (number_or o (Unary operator e))) p x go ≡ expressions.begins_pasm callee s abort id p x go
  begins_unary id place operator e None p x go = refl
  begins_unary id place operator e (Some v) p x go = refl

  begins_binary : (id : ℕ) (place : Place) (operator : ℕ) (e f : Tree) (o : Option ℕ) (p x : Gives ℕ) (go : ℕ → Rest)
      → expressions.begins callee (moved program source s) abort id (node place (number_or o (Binary operator e f))) p x go ≡ expressions.begins_pasm callee s abort id p x go
  begins_binary id place operator e f None p x go = refl
  begins_binary id place operator e f (Some v) p x go = refl

  begins_number : (id : ℕ) (place : Place) (n : ℕ) (o : Option ℕ) (p x : Gives ℕ) (go : ℕ → Rest)
      → expressions.begins callee (moved program source s) abort id (node place (number_or o (Number n))) p x go ≡ expressions.begins_pasm callee s abort id p x go
  begins_number id place n None p x go = refl
  begins_number id place n (Some v) p x go = refl

  -- a call, by what its arguments and its index do
  call-same : (stops : Bool) (object : Option (List ℕ)) (method : List ℕ) (xs ys : Gives (List ℕ)) (x y : Gives ℕ) → ((go : List ℕ → Rest) → xs go ≡ ys go) → ((go : ℕ → Rest) → x go ≡ y go) → (go : Returned → Rest)
      → expressions.makes_call callee (moved program source s) abort stops object method xs x go ≡ expressions.makes_call callee s abort stops object method ys y go
  call-same stops None method xs ys x y arguments number go = λ i. arguments (λ values. calls_own-same program source s folds callee abort stops (kind_of s method) values go i) i
  call-same stops (Some object) method xs ys x y arguments number go = λ i.
      arguments (λ values. number (λ n. calls_of_object-same program source s folds callee abort stops (kind_of s object) n method values go i) i) i

  mutual
    pub evaluates-same : (e : Tree) (go : ℕ → Rest) → expressions.evaluates callee (moved program source s) abort (folded (constants_of s.file s.method) e) go ≡ expressions.evaluates callee s abort e go
    evaluates-same (node place form) go =
        chosen (shorter_number (constants_of s.file s.method) (node place form)) place (form_with (shorter_number (constants_of s.file s.method)) form)
        (expressions.evaluates callee s abort (node place form)) (worth_shorter callee s abort (node place form)) go (form-same place form go)

    pub form-same : (place : Place) (form : Form) (go : ℕ → Rest) → expressions.evaluates callee (moved program source s) abort (node place (form_with (shorter_number (constants_of s.file s.method)) form)) go ≡ expressions.evaluates callee s abort (node place form) go
    form-same place (Number n) go = refl
    form-same place (Str text) go = refl
    form-same place (Strings es) go = refl
    form-same place Here go = refl
    form-same place (Var v) go = variable-same v go
    form-same place (Call stops object i method at arguments) go =
        λ j. used (λ k. call-same stops object method (expressions.evaluates_all callee (moved program source s) abort (trees_with (shorter_number (constants_of s.file s.method)) arguments)) (expressions.evaluates_all callee s abort arguments)
        (expressions.indexes callee (moved program source s) abort (index_with (shorter_number (constants_of s.file s.method)) i)) (expressions.indexes callee s abort i) (evaluates_all-same arguments) (indexes-same i) k j) go
    form-same place (Unary operator e) go = evaluates-same e (λ a. go (unary_value operator a))
    form-same place (Binary operator e f) go = λ i. evaluates-same e (λ a. evaluates-same f (λ b. go (binary_value operator a b)) i) i
    form-same place (Assign v operator e) go = λ i. evaluates-same e (λ right. locates-same v (λ p. assigns-same program source s operator p right go i) i) i
    form-same place (Change v change) go = λ i. locates-same v (λ p. changes-same program source s change p go i) i
    form-same place (Address v) go = locates-same v (λ p. go (address_at p))
    form-same place (ObjectAddress e) go = evaluates-same e (λ offset. go ((s.instance.base + offset) % 2 ^ 16))
    form-same place (ObjConst object name at) go = refl
    form-same place (Built code arguments) go = does-same code arguments go
    form-same place (Look code e items) go = λ i. evaluates-same e (λ wanted. looks-same (expressions.goes_up code) wanted items go (λ count. go 0) (expressions.first_count code) i) i

    variable-same : (v : Variable) (go : ℕ → Rest) → expressions.evaluates_variable callee (moved program source s) abort (variable_with (shorter_number (constants_of s.file s.method)) v) go ≡ expressions.evaluates_variable callee s abort v go
    variable-same (Named name no_index place) go = value_of_name-same program source s folds callee abort name go
    variable-same (Named name (index e) place) go = λ i. evaluates-same e (λ number. fetches-same program source s (named-same program source s name number i) go i) i
    variable-same (Part name size x place) go = λ i. indexes-same x (λ number. fetches-same program source s (part-same program source s name size number i) go i) i
    variable-same (Memory size e x place) go = λ i. evaluates-same e (λ address. indexes-same x (λ number. fetches-same program source s (element size address number) go i) i) i
    variable-same (Register register x place) go = λ i. selects-same register x (λ p. fetches-same program source s p go i) i

    pub locates-same : (v : Variable) (go : Location → Rest) → expressions.locates callee (moved program source s) abort (variable_with (shorter_number (constants_of s.file s.method)) v) go ≡ expressions.locates callee s abort v go
    locates-same (Named name x place) go = λ i. indexes-same x (λ number. go (named-same program source s name number i)) i
    locates-same (Part name size x place) go = λ i. indexes-same x (λ number. go (part-same program source s name size number i)) i
    locates-same (Memory size e x place) go = λ i. evaluates-same e (λ address. indexes-same x (λ number. go (element size address number)) i) i
    locates-same (Register register x place) go = selects-same register x go

    pub indexes-same : (x : Index) (go : ℕ → Rest) → expressions.indexes callee (moved program source s) abort (index_with (shorter_number (constants_of s.file s.method)) x) go ≡ expressions.indexes callee s abort x go
    indexes-same no_index go = refl
    indexes-same (index e) go = evaluates-same e go

    selects-same : (register : ℕ) (x : Bits) (go : Location → Rest) → expressions.selects callee (moved program source s) abort register (bits_with (shorter_number (constants_of s.file s.method)) x) go ≡ expressions.selects callee s abort register x go
    selects-same register whole go = refl
    selects-same register (bits (single e)) go = evaluates-same e (λ pin. go (Pins register (pin % 32) (pin % 32)))
    selects-same register (bits (range e f)) go = λ i. evaluates-same e (λ high. evaluates-same f (λ low. go (Pins register (high % 32) (low % 32))) i) i

    pub evaluates_all-same : (es : Trees) (go : List ℕ → Rest) → expressions.evaluates_all callee (moved program source s) abort (trees_with (shorter_number (constants_of s.file s.method)) es) go ≡ expressions.evaluates_all callee s abort es go
    evaluates_all-same no_trees go = refl
    evaluates_all-same (es ▷ e) go = λ i. evaluates_all-same es (λ values. evaluates-same e (λ value. go (values ++ value ∷ [])) i) i

    does-same : (code : ℕ) (es : Trees) (go : ℕ → Rest) → expressions.does callee (moved program source s) abort code (arguments_with (shorter_number (constants_of s.file s.method)) code es) go ≡ expressions.does callee s abort code es go
    does-same code no_trees go = refl
    does-same code (no_trees ▷ e) go =
        constant-same (code == 0) e (folded (constants_of s.file s.method) e) go (λ a. does_one code a go) (evaluates-same e (λ a. does_one code a go))
    does-same code (no_trees ▷ e ▷ f) go = λ i.
        if code == 0x2C then begins-same new_cog e _ (expressions.evaluates callee s abort e) _ (expressions.evaluates callee s abort f) (evaluates-same e) (evaluates-same f) go i
        else evaluates-same e (λ a. evaluates-same f (λ b. does_two code a b go) i) i
    does-same code (no_trees ▷ e ▷ f ▷ d) go = λ i.
        if code == 0x28 then evaluates-same e (λ id. begins-same id f _ (expressions.evaluates callee s abort f) _ (expressions.evaluates callee s abort d) (evaluates-same f) (evaluates-same d) go i) i
        else evaluates-same e (λ a. evaluates-same f (λ b. evaluates-same d (λ c. does_three code a b c go) i) i) i
    does-same code (es ▷ a ▷ e ▷ f ▷ d) go = refl

    begins-same : (id : ℕ) (e : Tree) (p q x y : Gives ℕ) → ((go : ℕ → Rest) → p go ≡ q go) → ((go : ℕ → Rest) → x go ≡ y go) → (go : ℕ → Rest)
        → expressions.begins callee (moved program source s) abort id (folded (constants_of s.file s.method) e) p x go ≡ expressions.begins callee s abort id e q y go
    begins-same id (node place (Call false None i method at arguments)) p q x y first second go =
        begins_method-same program source s folds callee abort id method (expressions.evaluates_all callee (moved program source s) abort (trees_with (shorter_number (constants_of s.file s.method)) arguments)) (expressions.evaluates_all callee s abort arguments) x y (evaluates_all-same arguments) second go
    begins-same id (node place (Call false (Some object) i method at arguments)) p q x y first second go = begins_pasm-same program source s folds callee abort id p q x y first second go
    begins-same id (node place (Call true object i method at arguments)) p q x y first second go = begins_pasm-same program source s folds callee abort id p q x y first second go
    begins-same id (node place (Var (Named name no_index at))) p q x y first second go =
        begins_name_or_number id place name at p q x y first second go (number_length (or_zero ((constants_of s.file s.method).named name))) ((constants_of s.file s.method).named name) (kind_names (bytes_eq name result_word) (kind_of s name))
    begins-same id (node place (Var (Named name (index e) at))) p q x y first second go = begins_pasm-same program source s folds callee abort id p q x y first second go
    begins-same id (node place (Var (Part name size i at))) p q x y first second go = begins_pasm-same program source s folds callee abort id p q x y first second go
    begins-same id (node place (Var (Memory size e i at))) p q x y first second go = begins_pasm-same program source s folds callee abort id p q x y first second go
    begins-same id (node place (Var (Register register i at))) p q x y first second go = begins_pasm-same program source s folds callee abort id p q x y first second go
    begins-same id (node place (Number n)) p q x y first second go =
        begins_number id place n _ p x go ∙ begins_pasm-same program source s folds callee abort id p q x y first second go
    begins-same id (node place (Str text)) p q x y first second go = begins_pasm-same program source s folds callee abort id p q x y first second go
    begins-same id (node place (Strings es)) p q x y first second go = begins_pasm-same program source s folds callee abort id p q x y first second go
    begins-same id (node place Here) p q x y first second go = begins_pasm-same program source s folds callee abort id p q x y first second go
    begins-same id (node place (Unary operator e)) p q x y first second go =
        begins_unary id place operator _ _ p x go ∙ begins_pasm-same program source s folds callee abort id p q x y first second go
    begins-same id (node place (Binary operator e f)) p q x y first second go =
        begins_binary id place operator _ _ _ p x go ∙ begins_pasm-same program source s folds callee abort id p q x y first second go
    begins-same id (node place (Assign v operator e)) p q x y first second go = begins_pasm-same program source s folds callee abort id p q x y first second go
    begins-same id (node place (Change v change)) p q x y first second go = begins_pasm-same program source s folds callee abort id p q x y first second go
    begins-same id (node place (Address v)) p q x y first second go = begins_pasm-same program source s folds callee abort id p q x y first second go
    begins-same id (node place (ObjectAddress e)) p q x y first second go = begins_pasm-same program source s folds callee abort id p q x y first second go
    begins-same id (node place (ObjConst object name at)) p q x y first second go =
        begins_constant id place object name at _ p x go ∙ begins_pasm-same program source s folds callee abort id p q x y first second go
    begins-same id (node place (Built code arguments)) p q x y first second go = begins_pasm-same program source s folds callee abort id p q x y first second go
    begins-same id (node place (Look code e items)) p q x y first second go = begins_pasm-same program source s folds callee abort id p q x y first second go

    looks-same : (up : Bool) (wanted : ℕ) (xs : Items) (found none : ℕ → Rest) (count : ℕ)
        → expressions.looks callee (moved program source s) abort up wanted (items_with (shorter_number (constants_of s.file s.method)) xs) found none count ≡ expressions.looks callee s abort up wanted xs found none count
    looks-same up wanted no_items found none count = refl
    looks-same up wanted (xs ▸ x) found none count = λ i. looks-same up wanted xs found (λ n. looks_at-same up wanted x found none n i) count i

    looks_at-same : (up : Bool) (wanted : ℕ) (x : Item) (found none : ℕ → Rest) (count : ℕ)
        → expressions.looks_at callee (moved program source s) abort up wanted (item_with (shorter_number (constants_of s.file s.method)) x) found none count ≡ expressions.looks_at callee s abort up wanted x found none count
    looks_at-same up wanted (single e) found none count = evaluates-same e (λ value. expressions.tries up wanted count value found none)
    looks_at-same up wanted (range e f) found none count = λ i. evaluates-same e (λ low. evaluates-same f (λ high. expressions.tries_range up wanted count low high found none) i) i

  -- an expression alone
  pub acts-same : (e : Tree) (go : Rest) → expressions.acts callee (moved program source s) abort (folded_inside (constants_of s.file s.method) e) go ≡ expressions.acts callee s abort e go
  acts-same (node place (Var (Named name no_index at))) go = λ j. unused (λ k. calls_own-same program source s folds callee abort false (kind_of s name) [] k j) go
  acts-same (node place (Call stops object i method at arguments)) go =
      λ j. unused (λ k. call-same stops object method (expressions.evaluates_all callee (moved program source s) abort (trees_with (shorter_number (constants_of s.file s.method)) arguments)) (expressions.evaluates_all callee s abort arguments)
      (expressions.indexes callee (moved program source s) abort (index_with (shorter_number (constants_of s.file s.method)) i)) (expressions.indexes callee s abort i) (evaluates_all-same arguments) (indexes-same i) k j) go
  acts-same (node place (Change v change)) go = λ i. locates-same v (λ p. changes_alone-same program source s change p go i) i
  acts-same (node place (Var (Named name (index e) at))) go = form-same place (Var (Named name (index e) at)) (λ x. go)
  acts-same (node place (Var (Part name size i at))) go = form-same place (Var (Part name size i at)) (λ x. go)
  acts-same (node place (Var (Memory size e i at))) go = form-same place (Var (Memory size e i at)) (λ x. go)
  acts-same (node place (Var (Register register i at))) go = form-same place (Var (Register register i at)) (λ x. go)
  acts-same (node place (Number n)) go = refl
  acts-same (node place (Str text)) go = refl
  acts-same (node place (Strings es)) go = refl
  acts-same (node place Here) go = refl
  acts-same (node place (Unary operator e)) go = form-same place (Unary operator e) (λ x. go)
  acts-same (node place (Binary operator e f)) go = form-same place (Binary operator e f) (λ x. go)
  acts-same (node place (Assign v operator e)) go = form-same place (Assign v operator e) (λ x. go)
  acts-same (node place (Address v)) go = form-same place (Address v) (λ x. go)
  acts-same (node place (ObjectAddress e)) go = form-same place (ObjectAddress e) (λ x. go)
  acts-same (node place (ObjConst object name at)) go = refl
  acts-same (node place (Built code arguments)) go = form-same place (Built code arguments) (λ x. go)
  acts-same (node place (Look code e items)) go = form-same place (Look code e items) (λ x. go)
