-- What is found among the files of a shelf in memory, and after one more is set.
use Rattle.std.proofs.Common.{◌≡◌, ◌∙◌, ap, sym, refl, ℕ, Bool, true, false, cond, List, [], ◌∷◌, map, Option, Some, string_bytes}
use Rattle.std.specs.declared.alloc.Global.{Global}
use Rattle.std.specs.declared.string.String.{String}
use Rattle.std.specs.declared.vec.Vec.{Vec}
use Rattle.std.specs.Option.{option_map}
use Rattle.std.specs.Ordering.{nat_cmp, is_eq, eq_by_cmp}
use Rattle.std.specs.String.{string_cmp}
use Rattle.std.specs.Cmp.Lexicographic.{slice_cmp, nat_list_cmp_total}
use Rattle.std.specs.Str.{bytes_eq}
use Rattle.std.specs.Map.{lookup}
use Rattle.std.specs.BTreeMap.{BTreeMap, get_by_text, Updates, is_at}
use Rattle.std.specs.FinMap.{FinMap, get, insert, find, get-from_entries, get-insert, same_map, slice_cmp-IsAntisymmetric, nat_cmp-IsAntisymmetric}
use Rattle.std.proofs.lemmas.Cmp.{eq_by_cmp_equiv}
use Rattle.std.proofs.lemmas.Map.Text.{btree_map_updates_text, is_eq-slice_cmp}
use Rattle.p8_io.specs.Contents.{bytes_of, files_of}

abbrev Entries : Type 0
Entries = BTreeMap (String Global) (Vec ℕ Global)

abbrev items_of : Option (Vec ℕ Global) → Option (List ℕ)
items_of file = option_map (λ v. v.items) file

items_of-cond : (b : Bool) (v : Vec ℕ Global) (o : Option (Vec ℕ Global)) → items_of (cond b (Some v) o) ≡ cond b (Some v.items) (items_of o)
items_of-cond true v o = refl
items_of-cond false v o = refl

find-bytes_of : (name : List ℕ) (entries : List (String Global × Vec ℕ Global)) → find (slice_cmp nat_cmp) name (map bytes_of entries) ≡ items_of (lookup (is_at (λ key. slice_cmp nat_cmp name (string_bytes key))) entries)
find-bytes_of name [] = refl
find-bytes_of name (e ∷ entries) =
    ap (cond (is_eq (slice_cmp nat_cmp name (string_bytes e.0))) (Some e.1.items)) (find-bytes_of name entries)
    ∙ sym (items_of-cond (is_eq (slice_cmp nat_cmp name (string_bytes e.0))) e.1 _)

get-files_of : (m : Entries) (name : List ℕ) → get (files_of m.entries) name ≡ option_map (λ v. v.items) (get_by_text m name)
get-files_of m name = get-from_entries nat_list_cmp_total (map bytes_of m.entries) name ∙ find-bytes_of name m.entries

files_of-insert : (m n : Entries) (key : String Global) (v : Vec ℕ Global) → Updates string_cmp m n key (Some v) → files_of n.entries ≡ insert (files_of m.entries) (string_bytes key) v.items
files_of-insert m n key v u =
    same_map nat_list_cmp_total (slice_cmp-IsAntisymmetric nat_cmp-IsAntisymmetric) _ _
    (λ name. get-files_of n name
    ∙ ap items_of (btree_map_updates_text (string_bytes key) m n (Some v) u name)
    ∙ items_of-cond (bytes_eq (string_bytes key) name) v (get_by_text m name)
    ∙ ap (λ b. cond b (Some v.items) (items_of (get_by_text m name))) (same_test name)
    ∙ ap (cond (eq_by_cmp (slice_cmp nat_cmp) name (string_bytes key)) (Some v.items)) (sym (get-files_of m name))
    ∙ sym (get-insert nat_list_cmp_total (files_of m.entries) (string_bytes key) v.items name))
  where
    same_test : (name : List ℕ) → bytes_eq (string_bytes key) name ≡ eq_by_cmp (slice_cmp nat_cmp) name (string_bytes key)
    same_test name = sym (is_eq-slice_cmp (string_bytes key) name) ∙ (eq_by_cmp_equiv nat_list_cmp_total).symm (string_bytes key) name

-- what the map that holds the files gives for a name is the file of that name
pub get-held : (files : FinMap (slice_cmp nat_cmp) (List ℕ)) (m : Entries) (name : List ℕ) (found : Option (Vec ℕ Global)) → files_of m.entries ≡ files → found ≡ get_by_text m name → option_map (λ v. v.items) found ≡ get files name
get-held files m name found held same = ap items_of same ∙ sym (get-files_of m name) ∙ ap (λ (f : FinMap (slice_cmp nat_cmp) (List ℕ)). get f name) held

-- the map with one file set holds the shelf's files with that one set
pub held-insert : (files : FinMap (slice_cmp nat_cmp) (List ℕ)) (m n : Entries) (key : String Global) (v : Vec ℕ Global) (name bytes : List ℕ) → files_of m.entries ≡ files → string_bytes key ≡ name → v.items ≡ bytes → Updates string_cmp m n key (Some v) → files_of n.entries ≡ insert files name bytes
held-insert files m n key v name bytes held same_name same_bytes u = files_of-insert m n key v u ∙ (λ i. insert (held i) (same_name i) (same_bytes i))
