-- The premise of the law can be met: the image of a small program has its method.
--
-- VAR
--   long a
-- PUB main | i
--   repeat i from 0 to 2
--     a := i
use Rattle.std.proofs.Common.{◌≡◌, refl, sym, ap, ap₂, subst, arith, ℕ, zero, suc, ◌+◌, ◌-◌, ◌*◌, ◌%◌, ◌^◌, Bool, true, false, if◌then◌else◌, List, [], ◌∷◌, Option, Some, None}
use Rattle.std.specs.Prelude.{Contains, codes, slice_get}
use Rattle.std.specs.Str.{bytes_eq}
use Rattle.std.proofs.Common.{rules}
use Rattle.p8_access.specs.declared.kinds.Width.TheVariants.{Long}
use Rattle.p8_tree.specs.declared.places.Place.{Place}
use Rattle.p8_tree.specs.Names.{IsName, plain_name, two_operands, on_memory, one_operand, spin_words, condition_words}
use Rattle.p8_tree.specs.Expressions.{Tree, node, Number, Var, Assign, Variable, Named, no_index}
use Rattle.p8_tree.specs.Statements.{statement, Do, Repeat, From, Statements, no_statements, ◌▹◌}
use Rattle.p8_tree.specs.Sources.{MethodTree, Method}
use Rattle.p8_kinds.specs.declared.name_kinds.NameKind.{NameKind}
use Rattle.p8_kinds.specs.declared.name_kinds.NameKind.TheVariants as kind_case
use Rattle.p8_tree.specs.Proper.{AreProperStatements}
use Rattle.p8_bytecode.specs.Table.{rows}
use Rattle.p8_bytecode.specs.Reading.{bare}
use Rattle.p8_bcog.specs.declared.variable_place.VariablePlace.TheVariants as place_case
use Rattle.p8_bcog.specs.declared.step.Wanted.TheVariants as wanted_case
use Rattle.p8_bcog.specs.Calls as calling
use Rattle.p8_bcog.specs.Operands.{operand, taken, tested}
use Rattle.p8_bcog.specs.Places as places
use Rattle.p8_bcog.specs.Code.{fetched}
use Rattle.p8_bcog.specs.Changes.{pushes, pops, changes, steps_by_one}
use Rattle.p8_bcog.specs.Variables.{short_variable, acts}
use Rattle.p8_bcog.specs.Bytecodes.{row, return_row, constant_row}
use Rattle.p8_meaning.specs.Programs.{File, Program, Addresses, Instance}
use Rattle.p8_meaning.specs.Calls.{method_of}
use Rattle.p8_meaning.specs.Lives.{IsInstance, top_instance, inner_instance}
use Rattle.p8_compiled.specs.Courses.{gives, takes_names, takes_value, takes_two}
use Rattle.p8_compiled.specs.Standing as standing
use Rattle.p8_compiled.specs.Standing.{Compiled, At}
use Rattle.p8_compiled.specs.Bodies as bodies
use Rattle.p8_compiled.specs.Keeps.{Placed, MethodPlaced}

-- ---- the source

abbrev here : Place
here = record { line = 1; column = 1 }

abbrev a : Variable
a = Named (codes "A") no_index here

abbrev i : Variable
i = Named (codes "I") no_index here

abbrev number : ℕ → Tree
number n = node here (Number n)

abbrev assigns : Statements
assigns = no_statements ▹ statement here (Do (node here (Assign a None (node here (Var i)))))

abbrev body : Statements
body = no_statements ▹ statement here (Repeat (From (codes "I") (number 0) (number 2) None here) assigns)

abbrev main : MethodTree
main = record {
  place = here;
  public = true;
  name = codes "MAIN";
  params = [];
  param_places = [];
  result_name = None;
  result_place = None;
  locals = record { place = here; size = 4; name = codes "I"; count = None } ∷ [];
  body = body;
}

abbrev kinds : (method : ℕ) → List ℕ → Option NameKind
kinds method name = if bytes_eq name (codes "A") then Some (kind_case.Global 4 0) else if bytes_eq name (codes "I") then Some (kind_case.Local 4) else None

abbrev file : File
file = record { source = Method main ∷ []; kind = kinds; children = []; child_files = [] }

abbrev program : Program
program = file ∷ []

-- ---- the image

abbrev memory : List ℕ
memory =
    0x00 ∷ 0x1B ∷ 0xB7 ∷ 0x00 ∷ 0x00 ∷ 0x2E ∷ 0x10 ∷ 0x00 ∷ 0x24 ∷ 0x00 ∷ 0x30 ∷ 0x00 ∷ 0x18 ∷ 0x00 ∷ 0x38 ∷ 0x00 ∷
    0x14 ∷ 0x00 ∷ 0x02 ∷ 0x00 ∷ 0x08 ∷ 0x00 ∷ 0x04 ∷ 0x00 ∷ 0x35 ∷ 0x65 ∷ 0x64 ∷ 0x41 ∷ 0x35 ∷ 0x38 ∷ 0x02 ∷ 0x66 ∷
    0x02 ∷ 0xFF ∷ 0xF7 ∷ 0x32 ∷ []

abbrev addresses : Addresses
addresses = record {
  label = λ file name. 0;
  text = λ file place. 0;
  code = λ file method. 8;
  object_base = λ file position. 0;
  object_variables = λ file position. 0;
  top = record { file = 0; base = 0x10; variables = 0x24 };
}

-- all bytecodes are made from statements at this place
abbrev table : List (ℕ × Place)
table = (0x18, here) ∷ (0x19, here) ∷ (0x1A, here) ∷ (0x1B, here) ∷ (0x1C, here) ∷ (0x1D, here) ∷ (0x1F, here) ∷ (0x23, here) ∷ []

module _ (cog : ℕ) where
  abbrev t : Compiled
  t = record { memory = memory; cog = cog; program = program; addresses = addresses; number = 0; file = file; method = 1; table = table; hand = here }

  -- a long of the frame or of VAR is its own first element
  first_element : (address : ℕ) → address + 0 * 4 ≡ address
  first_element address = omega arith

  -- 35, 38 02
  gives-0 : (p q : ℕ) → fetched memory p ≡ Some (bare 0x35, q) → Contains table (p, here) → At t p (gives 0) q
  unfolding row return_row constant_row
  gives-0 p q is made = (bare 0x35, is, (λ s there. refl), made)

  gives-2 : At t 0x1D (gives 2) 0x1F
  unfolding row return_row constant_row rows
  gives-2 = (record (bare 0x38) { first = 2 }, refl, (λ s there. refl), (5, omega arith, refl))

  -- 65, 64, 41
  writes-i : At t 0x19 (takes_value 0 0 (standing.writes t false i)) 0x1A
  unfolding row short_variable acts pops rows
  writes-i = (bare 0x65, refl, (λ s there. ap (λ address. tested 1 0 s (places.writes_place (place_case.Memory Long (address % 2 ^ 16)) (operand s 0) None (taken 1 s))) (sym (first_element (s.frame + 4)))), (1, omega arith, refl))

  reads-i : At t 0x1A (takes_names 0 1 (standing.reads t i)) 0x1B
  unfolding row short_variable acts pushes rows
  reads-i = (bare 0x64, refl, (λ s there. ap (λ address. tested 0 1 s (places.reads_place wanted_case.Pushed (place_case.Memory Long (address % 2 ^ 16)) (taken 0 s))) (sym (first_element (s.frame + 4)))), (2, omega arith, refl))

  writes-a : At t 0x1B (takes_value 0 0 (standing.writes t false a)) 0x1C
  unfolding row short_variable acts pops rows
  writes-a = (bare 0x41, refl, (λ s there. ap (λ address. tested 1 0 s (places.writes_place (place_case.Memory Long (address % 2 ^ 16)) (operand s 0) None (taken 1 s))) (sym (first_element (s.vbase + 0)))), (3, omega arith, refl))

  -- 66 02 FF F7
  steps-i : At t 0x1F (takes_two 0 (bodies.steps_by_one t i 0x1A)) 0x23
  unfolding row short_variable acts changes steps_by_one rows
  steps-i = (
    record (bare 0x66) { second = 2 ^ 32 - 9; effect = 0x02; long_form = true },
    refl,
    (λ s there. ap₂ (λ target address. tested 2 0 s (places.reads_place (wanted_case.Stepped 1 (operand s 1) (operand s 0) target) (place_case.Memory Long (address % 2 ^ 16)) (taken 2 s)))
        (ap (λ p. (p + (2 ^ 32 - 9)) % 2 ^ 16) there) (sym (first_element (s.frame + 4)))),
    (6, omega arith, refl),
  )

  -- 32
  returns : At t 0x23 (calling.return_result cog) 0x24
  unfolding row return_row rows
  returns = (bare 0x32, refl, (λ s there. refl), (7, omega arith, refl))

  code : bodies.MethodAt t body 0x18
  unfolding rows
  code = (
    0x23,
    0x24,
    (
      0x18,
      refl,
      (
        0x19,
        0x1A,
        0x1C,
        gives-0 0x18 0x19 refl (0, omega arith, refl),
        writes-i,
        (0x1A, refl, (0x1B, 0x1B, reads-i, refl, tt, writes-a)),
        (0x1D, 0x1F, gives-0 0x1C 0x1D refl (4, omega arith, refl), gives-2, steps-i),
      ),
    ),
    returns,
  )

  -- ---- the tables

  name_a : IsName (codes "A")
  unfolding two_operands on_memory one_operand spin_words condition_words
  name_a = record { begins = refl; characters = search rules; short = omega arith; free = refl }

  name_i : IsName (codes "I")
  unfolding two_operands on_memory one_operand spin_words condition_words
  name_i = record { begins = refl; characters = search rules; short = omega arith; free = refl }

  proper : AreProperStatements body
  proper = (tt, ((plain_name name_i, (omega arith, omega arith), (omega arith, omega arith), tt), (tt, ((tt, refl, (plain_name name_a, tt), (plain_name name_i, tt)), omega arith))))

  abbrev top : Instance
  top = addresses.top

  main_placed : MethodPlaced memory cog program addresses table (record { instance = top; method = 1 }) file main
  main_placed = record { is_method = refl; entry = refl; locals = refl; code = code; proper = proper; shallow = omega arith }

  no_object : (x y : Bool) (item position count : ℕ) → (if x then Some (kind_case.Global 4 0) else if y then Some (kind_case.Local 4) else None) ≡ Some (kind_case.Object item position count) → ⊥
  no_object true y item position count is = cc
  no_object false true item position count is = cc
  no_object false false item position count is = cc

  one_file : (n : ℕ) (f : File) → slice_get program n ≡ Some f → file ≡ f
  one_file zero f is = cc
  one_file (suc n) f is = absurd (let no : None ≡ Some f = is in cc)

  only_top : (x : Instance) → IsInstance program addresses x → x ≡ top
  only_top x top_instance = refl
  only_top x (inner_instance {outer} {file = f} {name} {method} {item} {position} {count} {child} index within is_file is_object below is_child) =
      absurd (no_object (bytes_eq name (codes "A")) (bytes_eq name (codes "I")) item position count
      (subst (λ (g : File). g.kind method name ≡ Some (kind_case.Object item position count)) (sym (one_file outer.file f is_file)) is_object))

  one_method : (m : ℕ) (tree : MethodTree) → method_of file m ≡ Some tree → MethodPlaced memory cog program addresses table (record { instance = top; method = m }) file tree
  one_method zero tree is = absurd (let no : None ≡ Some tree = is in cc)
  one_method (suc zero) tree is = let same : main ≡ tree = cc in subst (λ (x : MethodTree). MethodPlaced memory cog program addresses table (record { instance = top; method = 1 }) file x) same main_placed
  one_method (suc (suc m)) tree is = absurd (let no : None ≡ Some tree = is in cc)

  in_file : (m : ℕ) (f : File) → file ≡ f → (tree : MethodTree) → method_of f m ≡ Some tree → MethodPlaced memory cog program addresses table (record { instance = top; method = m }) f tree
  in_file m f same = subst (λ (g : File). (tree : MethodTree) → method_of g m ≡ Some tree → MethodPlaced memory cog program addresses table (record { instance = top; method = m }) g tree) same (one_method m)

  placed : Placed memory cog program addresses
  placed = record {
    table = table;
    method = λ target is_instance f is_file tree is_tree.
        subst (λ (x : Instance). MethodPlaced memory cog program addresses table (record { instance = x; method = target.method }) f tree) (sym (only_top target.instance is_instance))
        (in_file target.method f (one_file target.instance.file f is_file) tree is_tree);
    object = λ outer is_instance f is_file method name item position count is index below child is_child.
        absurd (no_object (bytes_eq name (codes "A")) (bytes_eq name (codes "I")) item position count
        (subst (λ (g : File). g.kind method name ≡ Some (kind_case.Object item position count)) (sym (one_file outer.file f is_file)) is));
  }
