-- The places of a legend are those of the rows of a table: none is left out, and each address has that of the row which holds it.
use Rattle.std.proofs.Common.{◌≡◌, refl, sym, ap, ap₂, ◌∙◌, subst, ℕ, zero, suc, ◌+◌, ◌-◌, ◌<◌, ◌≤◌, ◌&&◌, nat_le, nat_lt, true, false, if◌then◌else◌, Bool, List, [], ◌∷◌, ◌++◌, append_assoc, length, slice_get, Option, Some, None, arith}
use Rattle.std.specs.Prelude.{All, map, option_map, codes}
use Rattle.std.proofs.lemmas.Bool.Decides.{nat_tests}
use Rattle.std.proofs.lemmas.List.{append-nil}
use Rattle.std.proofs.lemmas.List.Elements.{All-head, All-tail}
use Rattle.std.proofs.lemmas.Option.{none-some, same_Some, slice_get-map, slice_get_within}
use Rattle.std.specs.Fmt.{decimal}
use Rattle.p8_tree.specs.Projects.{NamedSource}
use Rattle.p8_tree.specs.Sources.{MethodTree}
use Rattle.p8_lexer.specs.Spelling.{spelled, text_in}
use Rattle.p8_fold.specs.Meanings.{Setting}
use Rattle.p8_kinds.specs.declared.children.Children.{Children}
use Rattle.p8_kinds.specs.declared.name_kinds.Label.{Label}
use Rattle.p8_constants.specs.FileItems.{items}
use Rattle.p8_names.specs.Kinds.{numbered}
use Rattle.p8_build.specs.Files.{CompiledFile, setting_of}
use Rattle.p8_build.proofs.Lists.{element}
use Rattle.p8_map.specs.declared.names.MethodNames.{MethodNames}
use Rattle.p8_map.specs.Names.{file_names, method_names}
use Rattle.p8_map.specs.Projects.{names_of}
use Rattle.p8_legend.specs.Origins.{IsRowOf}
use Rattle.p8_legend.specs.Telling.{TellsRows}
use Rattle.p8_legend.specs.declared.ranges.FoundRange.{FoundRange}
use Rattle.p8_legend.specs.declared.ranges.Range.{Range}
use Rattle.p8_legend.specs.declared.ranges.Ranges.{Ranges}
use Rattle.p8_legend.specs.declared.table.LineRow.{LineRow}
use Rattle.p8_map.specs.declared.names.FileNames.{FileNames}
use Rattle.p8_legend.specs.Ranges.{last_end, with_range, holds, behind_one, found_at, text_or}
use Rattle.p8_legend.specs.ProjectLegends.{Named, method_name, row_text, with_rows}
use Rattle.p8_legend.specs.Legends.{found_text, place_text}
use Rattle.p8_legend.specs.Rows.{AreApart, IsRowAt}

abbrev pub range_of : LineRow → Range
range_of row = record { address = row.address; end = row.end }

abbrev text_for : List FileNames → LineRow → List ℕ
text_for files row = row_text (slice_get files row.file) row

-- ---- no row is left out

pub fits : (ranges : List Range) (texts : List (List ℕ)) (r : Range) (text : List ℕ) → last_end 0 ranges ≤ r.address → r.address < r.end → with_range ranges texts r text ≡ (ranges ++ r ∷ [], texts ++ text ∷ [])
fits ranges texts r text behind some = grind (arith, nat_tests)

pub end-is : (lowest : ℕ) (ranges : List Range) (r : Range) → last_end lowest (ranges ++ r ∷ []) ≡ r.end
end-is lowest [] r = refl
end-is lowest (x ∷ ranges) r = end-is x.end ranges r

pub rest-apart : (row : LineRow) (rows : List LineRow) → AreApart (row ∷ rows) → AreApart rows
rest-apart row rows apart = record { some = λ i. apart.some (suc i); behind = λ i j a b lt. apart.behind (suc i) (suc j) a b (omega (arith, lt)) }

abbrev pub Behind : (end : ℕ) → List LineRow → Type 0
Behind end rows = (j : ℕ) (b : LineRow) → slice_get rows j ≡ Some b → end ≤ b.address

all-rows : (files : List FileNames) (ranges : List Range) (texts : List (List ℕ)) (rows : List LineRow) → AreApart rows → Behind (last_end 0 ranges) rows
    → with_rows (ranges, texts) files rows ≡ (ranges ++ map range_of rows, texts ++ map (text_for files) rows)
all-rows files ranges texts [] apart behind = ap₂ (λ (rs : List Range) (ts : List (List ℕ)). (rs, ts)) (sym (append-nil ranges)) (sym (append-nil texts))
all-rows files ranges texts (row ∷ rows) apart behind =
    let r = range_of row in
    let text = text_for files row in
    let more = ranges ++ r ∷ [] in
    ap (λ (n : Named). with_rows n files rows) (fits ranges texts r text (behind 0 row refl) (apart.some 0 row refl))
    ∙ all-rows files more (texts ++ text ∷ []) rows (rest-apart row rows apart) (λ j b at. let after = apart.behind 0 (suc j) row b (omega arith) refl at in let end = end-is 0 ranges r in omega (arith, after, end))
    ∙ ap₂ (λ (rs : List Range) (ts : List (List ℕ)). (rs, ts)) (append_assoc ranges (r ∷ []) (map range_of rows)) (append_assoc texts (text ∷ []) (map (text_for files) rows))

-- ---- the row that holds an address

pub held : (address : ℕ) (r : Range) {X : Type 0} (x y : X) → r.address ≤ address → address < r.end → (if holds address r then x else y) ≡ x
held address r x y from to = grind (arith, nat_tests)

pub past : (address : ℕ) (r : Range) {X : Type 0} (x y : X) → r.end ≤ address → (if holds address r then x else y) ≡ y
past address r x y behind = grind (arith, nat_tests)

pub found-row : (rows : List LineRow) (address : ℕ) → AreApart rows → (n : ℕ) (row : LineRow) → slice_get rows n ≡ Some row → row.address ≤ address → address < row.end
    → (f : FoundRange) × (found_at (map range_of rows) address ≡ Some f) × (f.number ≡ n)
found-row [] address apart n row at from to = absurd (none-some row at)
found-row (x ∷ rows) address apart zero row at from to =
    let same : x ≡ row = same_Some x row at in
    let low : x.address ≤ address = subst (λ (z : LineRow). z.address ≤ address) (sym same) from in
    let high : address < x.end = subst (λ (z : LineRow). address < z.end) (sym same) to in
    (record { number = 0; offset = address - x.address }, held address (range_of x) _ (option_map behind_one (found_at (map range_of rows) address)) low high, refl)
found-row (x ∷ rows) address apart (suc n) row at from to =
    let behind = apart.behind 0 (suc n) x row (omega arith) refl at in
    let rest = found-row rows address (rest-apart x rows apart) n row at from to in
    (behind_one rest.0, past address (range_of x) (Some (record { number = 0; offset = address - x.address })) _ (omega (arith, behind, from)) ∙ ap (option_map behind_one) rest.1, ap suc rest.2)

abbrev Misses : List LineRow → (address : ℕ) → Type 0
Misses rows address = (row : LineRow) → IsRowAt rows address row → ⊥

rest-misses : (row : LineRow) (rows : List LineRow) (address : ℕ) → Misses (row ∷ rows) address → Misses rows address
rest-misses row rows address none other h = none other (record { number = suc h.number; stands = h.stands; begins = h.begins; ends = h.ends })

low : (address a b : ℕ) → (nat_le a address && nat_lt address b) ≡ true → a ≤ address
low address a b h = grind (arith, nat_tests)

high : (address a b : ℕ) → (nat_le a address && nat_lt address b) ≡ true → address < b
high address a b h = grind (arith, nat_tests)

none-by : (b : Bool) (address : ℕ) (x : LineRow) (rest : Option FoundRange) → holds address (range_of x) ≡ b → (b ≡ true → ⊥) → rest ≡ None
    → (if b then Some (record { number = 0; offset = address - x.address }) else option_map behind_one rest) ≡ None
none-by true address x rest is never none = absurd (never refl)
none-by false address x rest is never none = ap (option_map behind_one) none

found-none : (rows : List LineRow) (address : ℕ) → Misses rows address → found_at (map range_of rows) address ≡ None
found-none [] address none = refl
found-none (x ∷ rows) address none =
    none-by (holds address (range_of x)) address x (found_at (map range_of rows) address) refl
    (λ is. none x (record { number = 0; stands = refl; begins = low address x.address x.end is; ends = high address x.address x.end is }))
    (found-none rows address (rest-misses x rows address none))

-- ---- what is told

-- the text of the row that holds an address, or none where no row does
record TellTexts (files : List FileNames) (rows : List LineRow) (places : Ranges) : Type 0 where
  told : (address : ℕ) (row : LineRow) → IsRowAt rows address row → place_text places (Some address) ≡ codes " " ++ row_text (slice_get files row.file) row
  untold : (address : ℕ) → Misses rows address → place_text places (Some address) ≡ []

tell-texts : (files : List FileNames) (rows : List LineRow) (places : Ranges) → AreApart rows → ◌≡◌ {A = Named} (places.ranges, places.texts) (with_rows ([], []) files rows) → TellTexts files rows places
tell-texts files rows places apart is =
    let whole : ◌≡◌ {A = Named} (places.ranges, places.texts) (map range_of rows, map (text_for files) rows) = is ∙ all-rows files [] [] rows apart (λ j b at. omega arith) in
    let ranges : places.ranges ≡ map range_of rows = ap (λ (n : Named). n.0) whole in
    let texts : places.texts ≡ map (text_for files) rows = ap (λ (n : Named). n.1) whole in
    record {
      told = λ address row h.
          let found = found-row rows address apart h.number row h.stands h.begins h.ends in
          let at : slice_get places.texts found.0.number ≡ Some (text_for files row) =
          ap₂ (λ (ts : List (List ℕ)) (n : ℕ). slice_get ts n) texts found.2 ∙ slice_get-map (text_for files) rows h.number ∙ ap (option_map (text_for files)) h.stands in
          ap (found_text places) (ap (λ (rs : List Range). found_at rs address) ranges ∙ found.1) ∙ ap (λ (t : Option (List ℕ)). codes " " ++ text_or t) at;
      untold = λ address none. ap (found_text places) (ap (λ (rs : List Range). found_at rs address) ranges ∙ found-none rows address none);
    }

-- ---- the words of the sources

all-at : {A : Type 0} (P : A → Type 0) (xs : List A) (k : ℕ) (x : A) → All P xs → slice_get xs k ≡ Some x → P x
all-at P [] k x all at = absurd (none-some x at)
all-at P (y ∷ xs) zero x all at = subst P (same_Some y x at) (All-head P y xs all)
all-at P (y ∷ xs) (suc k) x all at = all-at P xs k x (All-tail P y xs all) at

pub names-at : (sources : List (List ℕ)) (files : List NamedSource) (cs : List Children) (xs : List CompiledFile) (i : ℕ) (bytes : List ℕ) (file : NamedSource) (seen : Children) (x : CompiledFile)
    → slice_get sources i ≡ Some bytes → slice_get files i ≡ Some file → slice_get cs i ≡ Some seen → slice_get xs i ≡ Some x → slice_get (names_of sources files cs xs) i ≡ Some (file_names (text_in bytes) file (setting_of seen x) x.labels)
names-at [] files cs xs i bytes file seen x s a b c = absurd (none-some bytes s)
names-at (t ∷ sources) [] cs xs i bytes file seen x s a b c = absurd (none-some file a)
names-at (t ∷ sources) (f ∷ files) [] xs i bytes file seen x s a b c = absurd (none-some seen b)
names-at (t ∷ sources) (f ∷ files) (d ∷ cs) [] i bytes file seen x s a b c = absurd (none-some x c)
names-at (t ∷ sources) (f ∷ files) (d ∷ cs) (y ∷ xs) zero bytes file seen x s a b c =
    ap (λ (u : List ℕ). Some (file_names (text_in u) f (setting_of d y) y.labels)) (same_Some t bytes s)
    ∙ ap (λ (g : NamedSource). Some (file_names (text_in bytes) g (setting_of d y) y.labels)) (same_Some f file a)
    ∙ ap (λ (e : Children). Some (file_names (text_in bytes) file (setting_of e y) y.labels)) (same_Some d seen b)
    ∙ ap (λ (z : CompiledFile). Some (file_names (text_in bytes) file (setting_of seen z) z.labels)) (same_Some y x c)
names-at (t ∷ sources) (f ∷ files) (d ∷ cs) (y ∷ xs) (suc i) bytes file seen x s a b c = names-at sources files cs xs i bytes file seen x s a b c

-- the text of a row, where its file has these names
text-is : (text : List ℕ) (file : NamedSource) (s : Setting) (labels : List Label) (row : LineRow) (m : MethodTree) (number : ℕ) → row.method ≡ number + 1 → slice_get (numbered (items file.tree)) number ≡ Some m
    → row_text (Some (file_names text file s labels)) row ≡ file.name ++ codes ":" ++ decimal row.place.line ++ codes " " ++ spelled text m.place m.name
text-is text file s labels row m number counted at =
    let place : row.method - 1 ≡ number = omega (arith, counted) in
    let named : slice_get (map (method_names text s) (numbered (items file.tree))) (row.method - 1) ≡ Some (method_names text s m) =
    ap (slice_get (map (method_names text s) (numbered (items file.tree)))) place ∙ slice_get-map (method_names text s) (numbered (items file.tree)) number ∙ ap (option_map (method_names text s)) at in
    ap (λ (o : Option MethodNames). file.name ++ codes ":" ++ decimal row.place.line ++ codes " " ++ method_name o) named

pub tells-rows : (sources : List (List ℕ)) (files : List NamedSource) (children : List Children) (xs : List CompiledFile) (rows : List LineRow) (places : Ranges) → length sources ≡ length files → length children ≡ length files → length xs ≡ length files
    → AreApart rows → All (IsRowOf files) rows → ◌≡◌ {A = Named} (places.ranges, places.texts) (with_rows ([], []) (names_of sources files children xs) rows) → TellsRows sources files rows places
tells-rows sources files children xs rows places one two three apart all is =
    let names = names_of sources files children xs in
    let texts = tell-texts names rows places apart is in
    record {
      told = λ address row h.
          let stands = all-at (IsRowOf files) rows h.number row all h.stands in
          let inside = slice_get_within files row.file stands.file stands.is_file in
          let bytes = element sources row.file (omega (arith, inside, one)) in
          let seen = element children row.file (omega (arith, inside, two)) in
          let x = element xs row.file (omega (arith, inside, three)) in
          let named = names-at sources files children xs row.file bytes.0 stands.file seen.0 x.0 bytes.1 stands.is_file seen.1 x.1 in
          record {
            text = row_text (slice_get names row.file) row;
            shown = record {
              stands = stands;
              bytes = bytes.0;
              are_bytes = bytes.1;
              is = ap (λ (o : Option FileNames). row_text o row) named
                  ∙ text-is (text_in bytes.0) stands.file (setting_of seen.0 x.0) x.0.labels row stands.method stands.number stands.counted stands.is_method;
            };
            told = texts.told address row h;
          };
      untold = texts.untold;
    }
