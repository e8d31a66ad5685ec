-- The files of a project with short code are recoded with the folded sources.
use Rattle.std.proofs.Common.{◌≡◌, ℕ, zero, suc, ◌==◌, Bool, true, false, if◌then◌else◌, List, [], ◌∷◌, ◌++◌, length, map, slice_get, Some, refl, ap, ap₂, sym, ◌∙◌, subst, arith}
use Rattle.std.specs.Prelude.{option_map}
use Rattle.std.proofs.lemmas.Grind.{flat_map-append}
use Rattle.std.proofs.lemmas.List.{length-map, map-append}
use Rattle.std.proofs.lemmas.Option.{slice_get_within, slice_get-map, same_Some, none-some}
use Rattle.p8_tree.specs.Projects.{NamedSource}
use Rattle.p8_tree.specs.Proper.{IsProperFile}
use Rattle.p8_tree.specs.Sources as trees
use Rattle.p8_tree.specs.Sources.{MethodTree, BlockTree, Source}
use Rattle.p8_constants.specs.FileItems.{Item, constant, variable, object, method, line, block_items, items}
use Rattle.p8_kinds.specs.declared.children.Children.{Children}
use Rattle.p8_names.specs.Kinds.{public_in, private_in, publics, privates, numbered}
use Rattle.p8_gen.specs.Names.{wide_in}
use Rattle.p8_stmt.specs.declared.code.MethodCode.{MethodCode}
use Rattle.p8_stmt.specs.Methods.{rebodied}
use Rattle.p8_compiled.specs.Agreeing.{environment}
use Rattle.p8_build.specs.Parts.{AreProper}
use Rattle.p8_build.specs.Files.{CompiledFile, IsCompiled, setting_of, method_names}
use Rattle.p8_build.specs.Builds.{AreCompiled}
use Rattle.p8_build.proofs.Lists.{element}
use Rattle.p8_build.proofs.Methods.{proper_method}
use Rattle.p8_names.specs.Children.{AreChildren}
use Rattle.p8_opt.specs.Recoding.{IsRecoded, HaveCodes, IsRecodedFile, AreRecoded}
use Rattle.p8_opt.proofs.Counting.{instances-few, few-methods}
use Rattle.p8_opt.proofs.Environments.{no-misuse}
use Rattle.p8_names.proofs.Seen.{has-words}
use Rattle.p8_opt.proofs.Resolved.{are-words}
use Rattle.p8_meaning.specs.Constants.{Constants, constants_in}
use Rattle.p8_meaning.specs.Folding.{folded_body}
use Rattle.p8_meaning.specs.Projects.{folded_method, folded_block, folded_source}
use Rattle.p8_opt.specs.Asked.{AreWords}
use Rattle.p8_opt.proofs.Proper.{body-proper}
use Rattle.p8_opt.proofs.Nesting.{body-leaves, body-shallow}
use Rattle.p8_opt.proofs.Misuse.{body-misused}
use Rattle.p8_stmt.proofs.Least.{no-fault}
use Rattle.p8_opt.specs.Shorts.{IsShort, AreShort}
use Rattle.p8_opt.proofs.Ready.{foldable}

-- ---- the methods of a folded source

-- items that are no methods
none-public : {X : Type 0} (f : X → Item) → ((x : X) → public_in (f x) ≡ []) → (xs : List X) → publics (map f xs) ≡ []
none-public f none [] = refl
none-public f none (x ∷ xs) = ap (λ ys. ys ++ publics (map f xs)) (none x) ∙ none-public f none xs

none-private : {X : Type 0} (f : X → Item) → ((x : X) → private_in (f x) ≡ []) → (xs : List X) → privates (map f xs) ≡ []
none-private f none [] = refl
none-private f none (x ∷ xs) = ap (λ ys. ys ++ privates (map f xs)) (none x) ∙ none-private f none xs

module _ (c : Constants) where
  folded-one : (b : Bool) (m : MethodTree) → (if b then folded_method c m ∷ [] else []) ≡ map (folded_method c) (if b then m ∷ [] else [])
  folded-one true m = refl
  folded-one false m = refl

  folded-none : (b : Bool) (m : MethodTree) → (if b then [] else folded_method c m ∷ []) ≡ map (folded_method c) (if b then [] else m ∷ [])
  folded-none true m = refl
  folded-none false m = refl

  -- the methods of items before others
  publics-join : (xs ys : List Item) → publics (xs ++ ys) ≡ publics xs ++ publics ys
  publics-join xs ys = flat_map-append public_in xs ys

  privates-join : (xs ys : List Item) → privates (xs ++ ys) ≡ privates xs ++ privates ys
  privates-join xs ys = flat_map-append private_in xs ys

  block-publics : (b : BlockTree) → publics (block_items (folded_block c b)) ≡ map (folded_method c) (publics (block_items b))
  block-publics (trees.Method m) = ap (λ xs. xs ++ []) (folded-one m.public m) ∙ sym (map-append (folded_method c) (public_in (method m)) [])
  block-publics (trees.Con xs) = let none = none-public constant (λ x. refl) xs in none ∙ ap (map (folded_method c)) (sym none)
  block-publics (trees.Var xs) = let none = none-public variable (λ x. refl) xs in none ∙ ap (map (folded_method c)) (sym none)
  block-publics (trees.Obj xs) = let none = none-public object (λ x. refl) xs in none ∙ ap (map (folded_method c)) (sym none)
  block-publics (trees.Dat xs) = let none = none-public line (λ x. refl) xs in none ∙ ap (map (folded_method c)) (sym none)

  block-privates : (b : BlockTree) → privates (block_items (folded_block c b)) ≡ map (folded_method c) (privates (block_items b))
  block-privates (trees.Method m) = ap (λ xs. xs ++ []) (folded-none m.public m) ∙ sym (map-append (folded_method c) (private_in (method m)) [])
  block-privates (trees.Con xs) = let none = none-private constant (λ x. refl) xs in none ∙ ap (map (folded_method c)) (sym none)
  block-privates (trees.Var xs) = let none = none-private variable (λ x. refl) xs in none ∙ ap (map (folded_method c)) (sym none)
  block-privates (trees.Obj xs) = let none = none-private object (λ x. refl) xs in none ∙ ap (map (folded_method c)) (sym none)
  block-privates (trees.Dat xs) = let none = none-private line (λ x. refl) xs in none ∙ ap (map (folded_method c)) (sym none)

  folded-publics : (source : Source) → publics (items (folded_source c source)) ≡ map (folded_method c) (publics (items source))
  folded-publics [] = refl
  folded-publics (b ∷ bs) =
      publics-join (block_items (folded_block c b)) (items (folded_source c bs))
      ∙ ap₂ (λ xs ys. xs ++ ys) (block-publics b) (folded-publics bs)
      ∙ sym (map-append (folded_method c) (publics (block_items b)) (publics (items bs)))
      ∙ ap (map (folded_method c)) (sym (publics-join (block_items b) (items bs)))

  folded-privates : (source : Source) → privates (items (folded_source c source)) ≡ map (folded_method c) (privates (items source))
  folded-privates [] = refl
  folded-privates (b ∷ bs) =
      privates-join (block_items (folded_block c b)) (items (folded_source c bs))
      ∙ ap₂ (λ xs ys. xs ++ ys) (block-privates b) (folded-privates bs)
      ∙ sym (map-append (folded_method c) (privates (block_items b)) (privates (items bs)))
      ∙ ap (map (folded_method c)) (sym (privates-join (block_items b) (items bs)))

  pub folded-numbered : (source : Source) → numbered (items (folded_source c source)) ≡ map (folded_method c) (numbered (items source))
  folded-numbered source = ap₂ (λ xs ys. xs ++ ys) (folded-publics source) (folded-privates source) ∙ sym (map-append (folded_method c) (publics (items source)) (privates (items source)))

-- ---- files

-- a compiled file with these codes
abbrev with_codes : CompiledFile → List MethodCode → CompiledFile
with_codes x codes = record x { codes = codes }

with-codes-is : (source : Source) (seen : Children) (x y : CompiledFile) → IsShort source seen x y → with_codes x y.codes ≡ y
with-codes-is source seen x y s =
    ap (λ k. record { kinds = k; dat = x.dat; labels = x.labels; codes = y.codes }) (sym s.kinds)
    ∙ ap (λ b. record { kinds = y.kinds; dat = b; labels = x.labels; codes = y.codes }) (sym s.dat)
    ∙ ap (λ ls. record { kinds = y.kinds; dat = y.dat; labels = ls; codes = y.codes }) (sym s.labels)

module _ (files : List NamedSource) (file : NamedSource) (seen : Children) (top : Bool) (x y : CompiledFile) (is : IsCompiled file.tree seen top x) (proper : IsProperFile file.tree) (words : AreWords (constants_in (setting_of seen x))) (s : IsShort file.tree seen x y) where
  abbrev c : Constants
  c = constants_in (setting_of seen x)

  method-recoded : (k : ℕ) (m : MethodTree) (code : MethodCode) → slice_get (numbered (items file.tree)) k ≡ Some m → slice_get y.codes k ≡ Some code → IsRecoded (method_names seen x k m) m (folded_body c m.body) code
  method-recoded k m code at coded =
      let read = proper_method file.tree k m proper at in
      let short = s.each k m code at coded in
      let less = body-shallow c m.body in
      let few = read.shallow in
      record {
        proper = body-proper c words m.body read.body;
        loops = body-leaves c false m.body read.loops;
        shallow = omega (arith, less, few);
        clean = λ f b. no-misuse files file seen top x is.names proper k m at f (body-misused (environment (method_names seen x k m)) f c m.body read.body b);
        wide = wide_in short.widths;
        right = short.code_is;
        fits = no-fault (method_names seen x k m) m (folded_body c m.body) (foldable file seen top x is proper k m at words).accepted (wide_in short.widths) short.least.fits;
      }

  codes-recoded : HaveCodes file.tree (folded_source c file.tree) seen (with_codes x y.codes)
  codes-recoded = record {
    few = few-methods file.tree seen x is.code (instances-few file.tree seen top x is.names);
    methods = ap length (folded-numbered c file.tree) ∙ length-map (numbered (items file.tree)) (folded_method c);
    count = s.count;
    each = λ k m n code at there coded.
        let same : folded_method c m ≡ n =
        same_Some (folded_method c m) n (sym (ap (λ ms. slice_get ms k) (folded-numbered c file.tree) ∙ slice_get-map (folded_method c) (numbered (items file.tree)) k ∙ ap (option_map (folded_method c)) at) ∙ there) in
        subst (λ (z : MethodTree). (z ≡ rebodied m z.body) × IsRecoded (method_names seen x k m) m z.body code) same (refl, method-recoded k m code at coded);
  }

  pub file-recoded : IsRecodedFile file.tree (folded_source (constants_in (setting_of seen x)) file.tree) seen top y
  file-recoded =
      subst (IsRecodedFile file.tree (folded_source c file.tree) seen top) (with-codes-is file.tree seen x y s)
      (record { names = is.names; dat = record { clean = is.dat.clean; bytes = is.dat.bytes; labels = is.dat.labels }; code = codes-recoded })

-- ---- the project

-- the folded sources of files, by their numbers
abbrev pub folded_sources : List NamedSource → List Children → List CompiledFile → ℕ → Source
folded_sources (file ∷ files) (seen ∷ children) (x ∷ xs) zero = folded_source (constants_in (setting_of seen x)) file.tree
folded_sources (file ∷ files) (seen ∷ children) (x ∷ xs) (suc i) = folded_sources files children xs i
folded_sources _ _ _ i = []

folded-at : (files : List NamedSource) (children : List Children) (xs : List CompiledFile) (i : ℕ) (file : NamedSource) (seen : Children) (x : CompiledFile) → slice_get files i ≡ Some file → slice_get children i ≡ Some seen → slice_get xs i ≡ Some x
    → folded_sources files children xs i ≡ folded_source (constants_in (setting_of seen x)) file.tree
folded-at [] children xs i file seen x a b d = absurd (none-some file a)
folded-at (f ∷ files) [] xs i file seen x a b d = absurd (none-some seen b)
folded-at (f ∷ files) (s ∷ children) [] i file seen x a b d = absurd (none-some x d)
folded-at (f ∷ files) (s ∷ children) (y ∷ xs) zero file seen x a b d =
    ap (λ (z : CompiledFile). folded_source (constants_in (setting_of s z)) f.tree) (same_Some y x d)
    ∙ ap (λ (z : Children). folded_source (constants_in (setting_of z x)) f.tree) (same_Some s seen b)
    ∙ ap (λ (z : NamedSource). folded_source (constants_in (setting_of seen x)) z.tree) (same_Some f file a)
folded-at (f ∷ files) (s ∷ children) (y ∷ xs) (suc i) file seen x a b d = folded-at files children xs i file seen x a b d

pub recoded : (files : List NamedSource) (children : List Children) (xs ys : List CompiledFile) → AreProper files → AreChildren files children → AreCompiled files children xs → AreShort files children xs ys → AreRecoded files (folded_sources files children xs) children ys
recoded files children xs ys proper seen_by are short = record {
  count = short.count ∙ are.count;
  each = λ i file seen y there at.
      let inside = slice_get_within ys i y at in
      let many = short.count in
      let x = element xs i (omega (arith, inside, many)) in
      let is = are.each i file seen x.0 there x.1 in
      let words = are-words (setting_of seen x.0) (has-words files children seen_by i file seen (i == 0) x.0.kinds there.stands there.beside is.names) in
      subst (λ (z : Source). IsRecodedFile file.tree z seen (i == 0) y) (sym (folded-at files children xs i file seen x.0 there.stands there.beside x.1))
      (file-recoded files file seen (i == 0) x.0 y is (proper i file there.stands) words (short.each i file seen x.0 y there x.1 at));
}
