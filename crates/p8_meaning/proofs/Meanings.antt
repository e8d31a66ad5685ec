-- What a program says with its methods folded.
use Rattle.std.proofs.Common.{◌≡◌, refl, sym, ap, ap₂, ◌∙◌, ℕ, zero, suc, List, [], ◌∷◌, ◌++◌, map, Option, Some, None, option_map, Bool, true, false, if◌then◌else◌}
use Rattle.std.specs.Prelude.{slice_get, filter_map, All}
use Rattle.std.specs.List.{cons_option}
use Rattle.std.proofs.lemmas.List.{map-append}
use Rattle.std.proofs.lemmas.Option.{slice_get-map}
use Rattle.std.proofs.lemmas.List.Elements.{All-head, All-tail}
use Rattle.p8_tree.specs.Sources.{Source, MethodTree, BlockTree, Con, Var, Obj, Method, Dat}
use Rattle.p8_meaning.specs.Programs.{Program, File, Addresses, Target, public_method, private_method, methods_of, numbered}
use Rattle.p8_meaning.specs.Doing.{Rest, untold, for_statement, given, writes_longs}
use Rattle.p8_meaning.specs.Calls.{Callee, Returned, Result, method_of}
use Rattle.p8_meaning.specs.Lives.{meaning, begins, scope_with}
use Rattle.p8_meaning.specs.Constants.{Constants}
use Rattle.p8_meaning.specs.Projects.{folded_method, folded_block, folded_source, folded_file, folded_program, constants_of, IsFolded, AreFolded, HidesNone}
use Rattle.p8_meaning.proofs.Scopes.{Folds, given-mapped}
use Rattle.p8_meaning.proofs.ShortStatements.{body-same}

-- ---- files

-- a file of each program, by its number
files-same : (program other : Program) → AreFolded program other → (number : ℕ) (x y : File → Rest) → ((file folded : File) → IsFolded file folded → x folded ≡ y file)
    → given (slice_get other number) x ≡ given (slice_get program number) y
files-same [] [] h number x y same = refl
files-same [] (folded ∷ others) h number x y same = absurd h
files-same (file ∷ program) [] h number x y same = absurd h
files-same (file ∷ program) (folded ∷ others) h zero x y same = same file folded h.0
files-same (file ∷ program) (folded ∷ others) h (suc number) x y same = files-same program others h.1 number x y same

-- ---- methods

module _ (program other : Program) (addresses : Addresses) (par : ℕ) where
  -- what a method does, where its calls do the same
  begins-same : (most : ℕ) (callee before : Callee) → callee ≡ before → (target : Target) (file : File) (source : Source) → Folds file source → (m : MethodTree) (arguments : List ℕ) (frame active : ℕ) (return abort : Returned → Rest)
      → begins (suc most) callee (scope_with other addresses par target (record file { source = source }) (folded_method (constants_of file target.method) m) frame active) (folded_method (constants_of file target.method) m) arguments return abort
      ≡ begins (suc most) before (scope_with program addresses par target file m frame active) m arguments return abort
  begins-same most callee before same target file source folds m arguments frame active return abort =
      ap (λ k. begins (suc most) k (scope_with other addresses par target (record file { source = source }) (folded_method (constants_of file target.method) m) frame active) (folded_method (constants_of file target.method) m) arguments return abort) same
      ∙ ap (writes_longs frame (0 ∷ arguments))
      (body-same most before (scope_with program addresses par target file m frame active) return abort other source folds m.body untold untold (for_statement m.place (return (Result frame))))

  file-same : (most : ℕ) (callee before : Callee) → callee ≡ before → (target : Target) (arguments : List ℕ) (frame active : ℕ) (return abort : Returned → Rest) (file : File) (source : Source) → Folds file source
      → given (method_of (record file { source = source }) target.method) (λ m. begins (suc most) callee (scope_with other addresses par target (record file { source = source }) m frame active) m arguments return abort)
      ≡ given (method_of file target.method) (λ m. begins (suc most) before (scope_with program addresses par target file m frame active) m arguments return abort)
  file-same most callee before same target arguments frame active return abort file source folds =
      ap (λ o. given o (λ m. begins (suc most) callee (scope_with other addresses par target (record file { source = source }) m frame active) m arguments return abort)) (folds target.method)
      ∙ given-mapped (folded_method (constants_of file target.method)) (method_of file target.method) (λ m. begins (suc most) callee (scope_with other addresses par target (record file { source = source }) m frame active) m arguments return abort)
      ∙ (λ i. given (method_of file target.method) (λ m. begins-same most callee before same target file source folds m arguments frame active return abort i))

  pub meaning-same : AreFolded program other → (most : ℕ) (target : Target) (arguments : List ℕ) (frame active : ℕ) (return abort : Returned → Rest)
      → meaning most other addresses par target arguments frame active return abort ≡ meaning most program addresses par target arguments frame active return abort
  meaning-same are zero target arguments frame active return abort = refl
  meaning-same are (suc most) target arguments frame active return abort =
      files-same program other are target.instance.file _ _ (λ file folded h.
      ap (λ f. given (method_of f target.method) (λ m. begins (suc most) (meaning most other addresses par) (scope_with other addresses par target f m frame active) m arguments return abort)) h.same
      ∙ file-same most (meaning most other addresses par) (meaning most program addresses par) (λ i t xs f n r a. meaning-same are most t xs f n r a i) target arguments frame active return abort file folded.source h.methods)

-- ---- sources whose blocks are folded

chosen-mapped : (c : Constants) (m : MethodTree) (b : Bool) → (if b then Some (folded_method c m) else None) ≡ option_map (folded_method c) (if b then Some m else None)
chosen-mapped c m true = refl
chosen-mapped c m false = refl

others-mapped : (c : Constants) (m : MethodTree) (b : Bool) → (if b then None else Some (folded_method c m)) ≡ option_map (folded_method c) (if b then None else Some m)
others-mapped c m true = refl
others-mapped c m false = refl

public-mapped : (c : Constants) (x : BlockTree) → public_method (folded_block c x) ≡ option_map (folded_method c) (public_method x)
public-mapped c (Method m) = chosen-mapped c m m.public
public-mapped c (Con xs) = refl
public-mapped c (Var xs) = refl
public-mapped c (Obj xs) = refl
public-mapped c (Dat xs) = refl

private-mapped : (c : Constants) (x : BlockTree) → private_method (folded_block c x) ≡ option_map (folded_method c) (private_method x)
private-mapped c (Method m) = others-mapped c m m.public
private-mapped c (Con xs) = refl
private-mapped c (Var xs) = refl
private-mapped c (Obj xs) = refl
private-mapped c (Dat xs) = refl

cons-mapped : {Y : Type 0} (g : Y → Y) (o : Option Y) (ys : List Y) → cons_option (option_map g o) (map g ys) ≡ map g (cons_option o ys)
cons-mapped g None ys = refl
cons-mapped g (Some y) ys = refl

-- what is taken of each element, where that is mapped
taken-mapped : {X Y : Type 0} (f : X → X) (g : Y → Y) (take : X → Option Y) → ((x : X) → take (f x) ≡ option_map g (take x)) → (xs : List X) → filter_map take (map f xs) ≡ map g (filter_map take xs)
taken-mapped f g take same [] = refl
taken-mapped f g take same (x ∷ xs) = ap₂ cons_option (same x) (taken-mapped f g take same xs) ∙ cons-mapped g (take x) (filter_map take xs)

methods-mapped : (c : Constants) (source : Source) → methods_of (folded_source c source) ≡ map (folded_method c) (methods_of source)
methods-mapped c source =
    ap₂ (λ xs ys. xs ++ ys) (taken-mapped (folded_block c) (folded_method c) public_method (public-mapped c) source) (taken-mapped (folded_block c) (folded_method c) private_method (private-mapped c) source)
    ∙ sym (map-append (folded_method c) (filter_map public_method source) (filter_map private_method source))

numbered-mapped : (c : Constants) (ms : List MethodTree) (number : ℕ) → numbered (map (folded_method c) ms) number ≡ option_map (folded_method c) (numbered ms number)
numbered-mapped c ms zero = refl
numbered-mapped c ms (suc n) = slice_get-map (folded_method c) ms n

file-folded : (file : File) → HidesNone file → IsFolded file (folded_file file)
file-folded file none = record {
  same = refl;
  methods = λ number.
      ap (λ ms. numbered ms number) (methods-mapped (constants_of file 0) file.source)
      ∙ numbered-mapped (constants_of file 0) (methods_of file.source) number
      ∙ ap (λ c. option_map (folded_method c) (method_of file number)) (sym (none.same number));
}

pub program-folded : (program : Program) → All HidesNone program → AreFolded program (folded_program program)
program-folded [] h = tt
program-folded (file ∷ program) h = (file-folded file (All-head HidesNone file program h), program-folded program (All-tail HidesNone file program h))
