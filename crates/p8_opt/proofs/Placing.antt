-- The entries of a project's objects in the memory of its image.
use Rattle.std.proofs.Common.{◌≡◌, ℕ, zero, suc, ◌+◌, ◌-◌, ◌%◌, ◌^◌, ◌<◌, ◌≤◌, Bool, true, false, ◌&&◌, nat_le, nat_lt, List, [], ◌∷◌, length, slice_get, slice_index, Some, refl, sym, ap, ◌∙◌, subst, arith}
use Rattle.std.specs.Prelude.{option_map, unwrap_or}
use Rattle.std.proofs.lemmas.Bool.Decides.{nat_tests}
use Rattle.std.proofs.lemmas.Option.{none-some, slice_get_within, get_or_from_slice_get}
use Rattle.p8_tree.specs.Projects.{NamedSource}
use Rattle.p8_kinds.specs.declared.children.Children.{Children}
use Rattle.p8_kinds.specs.declared.name_kinds.NameKind.TheVariants as kind
use Rattle.p8_bcog.specs.Code.{first_word, second_word, method_end, object_end, byte_at}
use Rattle.p8_image.specs.declared.clocks.Clock.{Clock}
use Rattle.p8_image.specs.declared.parts.ObjectPart.{ObjectPart}
use Rattle.p8_image.specs.Layout.{size_of, places_from, bases_of, variables_of, table_bytes, inner_offset, image_of}
use Rattle.p8_image.specs.Loading.{memory_of}
use Rattle.p8_image.specs.Places.{AllPartsStand, base_of}
use Rattle.p8_meaning.specs.Programs.{Program, Addresses, File, Instance, instance_at}
use Rattle.p8_meaning.specs.Lives.{IsInstance, top_instance, inner_instance}
use Rattle.p8_compiled.specs.Keeps.{ObjectPlaced}
use Rattle.p8_build.specs.Files.{CompiledFile, object_of}
use Rattle.p8_build.specs.Builds.{objects_of}
use Rattle.p8_opt.specs.Programs.{file_of, program_of, with_sources, addresses_of, instance_number, inner_base}
use Rattle.p8_opt.proofs.Tables.{stands-fits, TableSays, table-says}
use Rattle.p8_opt.proofs.Files.{file-of, object-at}
use Rattle.p8_opt.proofs.Counting.{element}
use Rattle.p8_image.proofs.Memories.{Lies, stands-in, memory-length}
use Rattle.p8_opt.proofs.Instances.{IsProject, IsInner, inner-of}

places-low : {A : Type 0} (size : A → ℕ) (p : ℕ) (xs : List A) (i : ℕ) (x : A) → slice_get xs i ≡ Some x → p ≤ slice_index (places_from size p xs) i
places-low size p [] i x is = absurd (none-some x is)
places-low size p (y ∷ xs) zero x is = omega arith
places-low size p (y ∷ xs) (suc i) x is = let more = places-low size (p + size y) xs i x is in omega (arith, more)

first-base : (os : List ObjectPart) (o : ObjectPart) → slice_get os 0 ≡ Some o → slice_index (bases_of os) 0 ≡ 16
first-base [] o is = absurd (none-some o is)
first-base (x ∷ os) o is = refl

pub between : (a o b : ℕ) → a ≤ o → o < b → (nat_le a o && nat_lt o b) ≡ true
between a o b f g = both (nat_le a o) (nat_lt o b) (grind (arith, nat_tests)) (grind (arith, nat_tests))
  where
    both : (x y : Bool) → x ≡ true → y ≡ true → (x && y) ≡ true
    both true y p q = q
    both false y p q = absurd (cc)

-- what an address is of a file that is there
pub of-file : {A : Type 0} (f : A → ℕ) (xs : List A) (i : ℕ) (x : A) → slice_get xs i ≡ Some x → unwrap_or (option_map f (slice_get xs i)) 0 ≡ f x
of-file f xs i x is = ap (λ o. unwrap_or (option_map f o) 0) is

way : (b B : ℕ) → b < 32768 → B < 32768 → (b + (B + 65536 - b % 65536) % 65536) % 65536 ≡ B
way b B f g = omega (arith, f, g)

module _ (files : List NamedSource) (children : List Children) (xs : List CompiledFile) (project : IsProject files children xs) (clock : Clock) (parts : AllPartsStand clock (objects_of files children xs)) (hub : Lies (image_of clock (objects_of files children xs))) where
  abbrev all : List ObjectPart
  all = objects_of files children xs

  abbrev program : Program
  program = with_sources project.changed (program_of files children xs)

  abbrev addresses : Addresses
  addresses = addresses_of files xs all

  abbrev memory : List ℕ
  memory = memory_of (image_of clock all)

  -- a base in the lower half of the memory
  pub base-low : (f : ℕ) (object : ObjectPart) → slice_get all f ≡ Some object → slice_index (bases_of all) f < 32768
  base-low f object is =
      let fits = stands-fits (image_of clock all) (base_of all f) (table_bytes (bases_of all) (variables_of all) (base_of all f) object) (parts f object is).table in
      omega (arith, fits, hub.below, hub.high)

  pub base-high : (f : ℕ) (object : ObjectPart) → slice_get all f ≡ Some object → 16 ≤ slice_index (bases_of all) f
  base-high f object is = places-low size_of 16 all f object is

  -- an instance stands at the base of its object
  pub record IsAt (i : Instance) : Type 0 where
    pub base_is : i.base ≡ slice_index (bases_of all) i.file
    pub low : i.base < 32768

  pub says : (i : Instance) (object : ObjectPart) → IsAt i → slice_get all i.file ≡ Some object → TableSays memory all i.base object
  says i object at is =
      let base = base_of all i.file in
      subst (λ b. TableSays memory all b object) (sym at.base_is)
      (table-says memory all base object (memory-length (image_of clock all) hub) (stands-in (image_of clock all) base _ (parts i.file object is).table))

  -- the entry of an instance inside another
  record Entry (outer : Instance) (object : ObjectPart) (o child : ℕ) : Type 0 where
    base : addresses.object_base outer.file o ≡ (slice_index (bases_of all) child + 65536 - outer.base % 65536) % 65536
    variables : addresses.object_variables outer.file o ≡ inner_offset all object (o - (length object.methods + 1)) % 65536

  entry-of : (outer : Instance) (object : ObjectPart) (o child : ℕ) → IsAt outer → slice_get all outer.file ≡ Some object → IsInner files object o child → Entry outer object o child
  entry-of outer object o child at is h =
      let place : instance_number object o ≡ h.place = omega (arith, h.position_is) in
      let one : slice_index object.instances (instance_number object o) ≡ child = ap (slice_index object.instances) place ∙ get_or_from_slice_get object.instances h.place child 0 h.is in
      record {
        base = of-file (inner_base all outer.file o) all outer.file object is
            ∙ ap (λ c. (slice_index (bases_of all) c + 65536 - slice_index (bases_of all) outer.file % 65536) % 65536) one
            ∙ ap (λ b. (slice_index (bases_of all) child + 65536 - b % 65536) % 65536) (sym at.base_is);
        variables = of-file (λ (p : ObjectPart). inner_offset all p (instance_number p o) % 65536) all outer.file object is;
      }

  object-there : (k : ℕ) → k < length files → (object : ObjectPart) × (slice_get all k ≡ Some object)
  object-there k less =
      let f = element files k less in
      let c = element children k (omega (arith, less, project.seen)) in
      let x = element xs k (omega (arith, less, project.compiled.count)) in
      (object_of files f.0.tree c.0 x.0, object-at files files children xs k f.0 c.0 x.0 (record { stands = f.1; beside = c.1; compiled = x.1 }))

  inner-at : (outer : Instance) (object : ObjectPart) (o child : ℕ) → IsAt outer → slice_get all outer.file ≡ Some object → IsInner files object o child → IsAt (instance_at addresses outer child o)
  inner-at outer object o child at is h =
      let e = entry-of outer object o child at is h in
      let there = object-there child h.known in
      let low = base-low child there.0 there.1 in
      let same : (outer.base + addresses.object_base outer.file o) % 2 ^ 16 ≡ slice_index (bases_of all) child =
      ap (λ a. (outer.base + a) % 2 ^ 16) e.base ∙ way outer.base (slice_index (bases_of all) child) at.low low in
      record { base_is = same; low = omega (arith, same, low) }

  -- what is known of the file of an instance
  inner-in : (outer : Instance) (file : File) (method : ℕ) (name : List ℕ) (item position count index child : ℕ) → slice_get program outer.file ≡ Some file → file.kind method name ≡ Some (kind.Object item position count)
      → index < count → slice_get file.child_files item ≡ Some child → (object : ObjectPart) × (slice_get all outer.file ≡ Some object) × IsInner files object (position + index) child
  inner-in outer file method name item position count index child is kind_is less leads =
      let f = file-of project.changed files children xs outer.file file is in
      let object = object_of files f.file.tree f.seen f.x in
      let kind_so : (file_of files f.file.tree f.seen f.x).kind method name ≡ Some (kind.Object item position count) = ap (λ (g : File). g.kind method name) (sym f.is) ∙ kind_is in
      let leads_so : slice_get (file_of files f.file.tree f.seen f.x).child_files item ≡ Some child = ap (λ (g : File). slice_get g.child_files item) (sym f.is) ∙ leads in (
        object,
        object-at files files children xs outer.file f.file f.seen f.x f.there,
        inner-of files children xs project outer.file f.file f.seen f.x f.there method name item position count index child kind_so less leads_so,
      )

  pub is-at : (top : ObjectPart) → slice_get all 0 ≡ Some top → (i : Instance) → IsInstance program addresses i → IsAt i
  is-at top first _ top_instance = record { base_is = sym (first-base all top first); low = omega arith }
  is-at top first _ (inner_instance {outer} {file} {name} {method} {item} {position} {count} {child} index outer_is file_is kind_is less leads) =
      let h = inner-in outer file method name item position count index child file_is kind_is less leads in
      inner-at outer h.0 (position + index) child (is-at top first outer outer_is) h.1 h.2

  -- the entries of the instances inside another
  pub object-placed : (cog : ℕ) (outer : Instance) → IsAt outer → (file : File) → slice_get program outer.file ≡ Some file → (method : ℕ) (name : List ℕ) (item position count : ℕ) → file.kind method name ≡ Some (kind.Object item position count)
      → (index : ℕ) → index < count → (child : ℕ) → slice_get file.child_files item ≡ Some child → ObjectPlaced memory cog program addresses outer (position + index) (instance_at addresses outer child (position + index))
  object-placed cog outer at file file_is method name item position count kind_is index less child leads =
      let o = position + index in
      let found = inner-in outer file method name item position count index child file_is kind_is less leads in
      let object = found.0 in
      let h = found.2 in
      let e = entry-of outer object o child at found.1 h in
      let s = says outer object at found.1 in
      let inside = slice_get_within object.instances h.place child h.is in
      let methods_end : method_end memory outer.base ≡ length object.methods + 1 = s.method_count ∙ omega (arith, h.near) in
      let count_is : byte_at memory (outer.base + 3) ≡ length object.instances = s.instance_count ∙ omega (arith, h.near, inside) in
      let place : suc (length object.methods) + h.place ≡ o = omega (arith, h.position_is) in
      let number : o - (length object.methods + 1) ≡ h.place = omega (arith, h.position_is) in
      let words = s.instances h.place child h.is in
      let first : first_word memory outer.base o ≡ (slice_index (bases_of all) child + 65536 - outer.base % 65536) % 2 ^ 16 = ap (first_word memory outer.base) (sym place) ∙ words.0 in
      let second : second_word memory outer.base o ≡ inner_offset all object h.place % 2 ^ 16 = ap (second_word memory outer.base) (sym place) ∙ words.1 in
      record {
        is_object = between (method_end memory outer.base) o (object_end memory outer.base) (omega (arith, methods_end, h.position_is)) (omega (arith, methods_end, count_is, h.position_is, inside));
        base = ap (λ a. (outer.base + a) % 2 ^ 16) (first ∙ sym e.base);
        variables = ap (λ a. (outer.variables + a) % 2 ^ 16) (second ∙ ap (λ k. inner_offset all object k % 65536) (sym number) ∙ sym e.variables);
      }
