-- Proper expressions and declarations, but for their places, are such as are read of a source.
use Rattle.std.proofs.Common.{◌≡◌, ℕ, ◌≤◌, length, Bool, true, false, List, [], ◌∷◌, map, Option, Some, None, option_map, refl, sym, ap, ◌∙◌, subst, arith}
use Rattle.std.specs.Prelude.{IsTrue, ◌==◌, ◌||◌, ◌++◌, if◌then◌else◌, codes}
use Rattle.std.specs.List.{AllByRecursion as Each, list_any}
use Rattle.std.proofs.lemmas.List.Elements.{recursion_from_All}
use Rattle.p8_tree.specs.declared.places.Place.{Place}
use Rattle.p8_tree.specs.Expressions.{Tree}
use Rattle.p8_tree.specs.Statements.{no_statements}
use Rattle.p8_tree.specs.Sources.{Constant, Declared, Child, MethodTree}
use Rattle.p8_tree.specs.Forgetting.{anywhere, tree_anywhere, constant_anywhere, declared_anywhere, child_anywhere}
use Rattle.p8_tree.specs.Heights.{height}
use Rattle.p8_tree.specs.Names.{IsName, has_dot}
use Rattle.p8_tree.specs.Proper.{IfThere, is_nothing, is_size, IsProperExpression, IsProperConstant, setting, with_value, counted, IsProperDeclared, IsProperLocal, IsProperChild}
use Rattle.p8_grammar.specs.Lexemes.{Setting, in_method, in_declaration, in_dat, in_data_item, is_value}
use Rattle.p8_declarations.specs.Constants as constants
use Rattle.p8_declarations.specs.Variables.{variable}
use Rattle.p8_declarations.specs.Objects.{file_of, child}
use Rattle.p8_declarations.specs.Proper.{IsProperHead}
use Rattle.p8_printed.proofs.Readings as readings
use Rattle.p8_printed.proofs.Readings.{IsRead}
use Rattle.p8_printed.proofs.Constants.{IsItem, sets, alone, valued, stepped}
use Rattle.p8_printed.proofs.Variables as variables
use Rattle.p8_printed.proofs.Variables.{IsVariable}
use Rattle.p8_printed.proofs.Objects as objects
use Rattle.p8_printed.proofs.Objects.{IsObject}
use Rattle.p8_printed.proofs.Heads.{made, IsMaybeName, IsHead}
use Rattle.p8_printed.proofs.Heights.{same_height}
use Rattle.p8_printed.proofs.ProperNames.{name_lexeme, string_lexeme}
use Rattle.p8_printed.proofs.Tables.{table_end, ◌&◌, one_of}
use Rattle.p8_printed.proofs.Rows.{IsSpelled, enclosed}
use Rattle.p8_printed.proofs.Expressions.{inner_of, in_methods, tree_spelled}

-- one that is the same but for places, and so
pub record Again {X : Type 0} (P : X → Type 0) (forget : X → X) (x : X) : Type 0 where
  pub other : X
  pub holds : P other
  pub same : forget other ≡ forget x

-- what doesn't depend on places is the same
pub alike : {X Y : Type 0} (forget : X → X) (f : X → Y) → ((x : X) → f (forget x) ≡ f x) → (x' x : X) → forget x' ≡ forget x → f x' ≡ f x
alike forget f kept x' x e = sym (kept x') ∙ ap f e ∙ kept x

-- all of them
pub each_again : {X : Type 0} (Q P : X → Type 0) (forget : X → X) → ((x : X) → Q x → Again P forget x) → (xs : List X) → Each Q xs → Again (Each P) (map forget) xs
each_again Q P forget f [] h = record { other = []; holds = tt; same = refl }
each_again Q P forget f (x ∷ xs) h =
    let y = f x h.0 in
    let r = each_again Q P forget f xs h.1 in
    record { other = y.other ∷ r.other; holds = (y.holds, r.holds); same = λ i. y.same i ∷ r.same i }

-- expressions

read_of : (s : Setting) (e : Tree) → IsTrue (is_value s) → IsSpelled s e → height e ≤ 64 → Again (IsRead s) tree_anywhere e
read_of s e v x low = record {
  other = x.tree;
  holds = record { tokens = x.tokens; is = x.reads; good = x.lexemes; low = subst (λ n. n ≤ 64) (sym (same_height x.tree e x.same)) low; value = v };
  same = x.same;
}

pub declared_again : (e : Tree) → IsProperExpression false e → Again (IsRead in_declaration) tree_anywhere e
declared_again e h = read_of in_declaration e refl (tree_spelled (inner_of in_declaration refl refl) e h.0) h.1

pub method_again : (e : Tree) → IsProperExpression false e → Again (IsRead in_method) tree_anywhere e
method_again e h = read_of in_method e refl (tree_spelled in_methods e h.0) h.1

pub dat_again : (e : Tree) → IsProperExpression true e → Again (IsRead in_dat) tree_anywhere e
dat_again e h = read_of in_dat e refl (tree_spelled (inner_of in_dat refl refl) e h.0) h.1

-- in parentheses it can stand in an item of data
pub data_again : (e : Tree) → IsProperExpression true e → Again (IsRead in_data_item) tree_anywhere e
data_again e h = read_of in_data_item e refl (enclosed {s = in_data_item} refl (tree_spelled (inner_of in_dat refl refl) e h.0)) h.1

-- what there is, if there is anything
pub there_again : (dat : Bool) (P : Tree → Type 0) → ((e : Tree) → IsProperExpression dat e → Again P tree_anywhere e) → (o : Option Tree) → IfThere (IsProperExpression dat) o → Again (IfThere P) (option_map tree_anywhere) o
there_again dat P f None h = record { other = None; holds = tt; same = refl }
there_again dat P f (Some e) h = let x = f e h in record { other = Some x.other; holds = x.holds; same = ap (λ e. Some e) x.same }

-- sizes

pub size_is : (z : ℕ) → IsTrue (is_size z) → readings.IsSize z
size_is z h = one_of readings.IsSize (1 ∷ 2 ∷ 4 ∷ []) z (readings.byte_size & readings.word_size & readings.long_size & table_end) h

-- CON

stepped_again : (p : Place) (n : List ℕ) (step : Option Tree) → IsName n → IfThere (IsProperExpression false) step → Again IsItem constant_anywhere (record { place = p; name = Some n; value = None; step = step; sets = false })
stepped_again p n None h k = record { other = constants.constant n p None None; holds = alone (name_lexeme n h); same = refl }
stepped_again p n (Some e) h k =
    let x = declared_again e k in
    record { other = constants.constant n p None (Some x.other); holds = stepped (name_lexeme n h) x.holds; same = λ i. record { place = anywhere; name = Some n; value = None; step = Some (x.same i); sets = false } }

pub constant_again : (x : Constant) → IsProperConstant x → Again IsItem constant_anywhere x
constant_again x (setting {p = p} {e = e} h) =
    let y = declared_again e h in
    record { other = constants.setting p y.other; holds = sets y.holds; same = λ i. record { place = anywhere; name = None; value = Some (y.same i); step = None; sets = true } }
constant_again x (with_value {p = p} {n = n} {e = e} h k) =
    let y = declared_again e k in
    record { other = constants.constant n p (Some y.other) None; holds = valued (name_lexeme n h) y.holds; same = λ i. record { place = anywhere; name = Some n; value = Some (y.same i); step = None; sets = false } }
constant_again x (counted {p = p} {n = n} {step = step} h k) = stepped_again p n step h k

-- VAR and locals

variable_again : (s : Setting) (p : Place) (z : ℕ) (n : List ℕ) (c : Option Tree) → IsName n → Again (IfThere (IsRead s)) (option_map tree_anywhere) c → Again (IsVariable s z) declared_anywhere (variable z n p c)
variable_again s p z n c h x = go x.other x.holds x.same
  where
    go : (d : Option Tree) → IfThere (IsRead s) d → option_map tree_anywhere d ≡ option_map tree_anywhere c → Again (IsVariable s z) declared_anywhere (variable z n p c)
    go None k e = record { other = variable z n p None; holds = variables.alone (name_lexeme n h); same = λ i. variable z n anywhere (e i) }
    go (Some d) k e = record { other = variable z n p (Some d); holds = variables.counted (name_lexeme n h) k; same = λ i. variable z n anywhere (e i) }

-- a variable of some size
pub record IsSized (x : Declared) : Type 0 where
  pub size : readings.IsSize x.size
  pub is : IsVariable in_declaration x.size x

size_kept : {s : Setting} {z : ℕ} {x : Declared} → IsVariable s z x → x.size ≡ z
size_kept (variables.alone y) = refl
size_kept (variables.counted y r) = refl

pub sized_again : (x : Declared) → IsProperDeclared x → Again IsSized declared_anywhere x
sized_again x h =
    let y = variable_again in_declaration x.place x.size x.name x.count h.name (there_again false (IsRead in_declaration) declared_again x.count h.count) in
    record {
      other = y.other;
      holds = record { size = subst readings.IsSize (sym (size_kept y.holds)) (size_is x.size h.size); is = subst (λ z. IsVariable in_declaration z y.other) (sym (size_kept y.holds)) y.holds };
      same = y.same;
    }

pub local_again : (x : Declared) → IsProperLocal x → Again (IsVariable in_method 4) declared_anywhere x
local_again x h =
    let y = variable_again in_method x.place x.size x.name x.count h.name (there_again false (IsRead in_method) method_again x.count h.count) in
    record { other = y.other; holds = subst (λ z. IsVariable in_method z y.other) h.long y.holds; same = y.same }

-- OBJ

dot_is_any : (t : List ℕ) → has_dot t ≡ list_any (λ c. c == 46) t
dot_is_any [] = refl
dot_is_any (c ∷ cs) = ap (λ b. (c == 46) || b) (dot_is_any cs)

whole_name : (t : List ℕ) → IsTrue (has_dot t) → file_of t ≡ t
unfolding file_of
whole_name t h = ap (λ b. if b then t else t ++ codes ".spin") (sym (dot_is_any t) ∙ h)

pub child_again : (x : Child) → IsProperChild x → Again IsObject child_anywhere x
child_again x h = go y.other y.holds y.same
  where
    y : Again (IfThere (IsRead in_declaration)) (option_map tree_anywhere) x.count
    y = there_again false (IsRead in_declaration) declared_again x.count h.count

    go : (c : Option Tree) → IfThere (IsRead in_declaration) c → option_map tree_anywhere c ≡ option_map tree_anywhere x.count → Again IsObject child_anywhere x
    go None k e = record { other = child x.name x.place None x.file x.file_place; holds = objects.single x.file (name_lexeme x.name h.name) (string_lexeme x.file h.file.0.1); same = λ i. record { place = anywhere; name = x.name; count = e i; file = whole_name x.file h.file.1 i; file_place = anywhere } }
    go (Some c) k e = record { other = child x.name x.place (Some c) x.file x.file_place; holds = objects.counted x.file (name_lexeme x.name h.name) k (string_lexeme x.file h.file.0.1); same = λ i. record { place = anywhere; name = x.name; count = e i; file = whole_name x.file h.file.1 i; file_place = anywhere } }

-- PUB and PRI

names_are : (ns : List (List ℕ)) → Each IsName ns → Each readings.IsName ns
names_are [] h = tt
names_are (n ∷ ns) h = (name_lexeme n h.0, names_are ns h.1)

maybe_name : (o : Option (List ℕ)) → IfThere IsName o → IsMaybeName o
maybe_name None h = tt
maybe_name (Some n) h = name_lexeme n h

places_same : (ps : List Place) (ns : List (List ℕ)) → length ps ≡ length ns → map (λ p. anywhere) ps ≡ map (λ n. anywhere) ns
places_same [] [] h = refl
places_same [] (n ∷ ns) h = absurd cc
places_same (p ∷ ps) [] h = absurd cc
places_same (p ∷ ps) (n ∷ ns) h = ap (λ l. anywhere ∷ l) (places_same ps ns (omega (arith, h)))

place_same : (p : Option Place) (n : Option (List ℕ)) → is_nothing p ≡ is_nothing n → option_map (λ p. anywhere) p ≡ option_map (λ n. anywhere) n
place_same None None h = refl
place_same None (Some n) h = absurd cc
place_same (Some p) None h = absurd cc
place_same (Some p) (Some n) h = refl

-- the head of a method, without its lines
pub record HeadAgain (x : MethodTree) : Type 0 where
  pub locals : List Declared
  pub same : map declared_anywhere locals ≡ map declared_anywhere x.locals
  pub is : IsHead x.public (record x { locals = locals; body = no_statements })

pub head_again : (x : MethodTree) → IsProperHead x → HeadAgain x
head_again x h =
    let y = each_again IsProperLocal (IsVariable in_method 4) declared_anywhere local_again x.locals (recursion_from_All IsProperLocal x.locals h.locals) in
    record {
      locals = y.other;
      same = y.same;
      is = record {
        name = name_lexeme x.name h.name;
        params = names_are x.params (recursion_from_All IsName x.params h.params);
        result = maybe_name x.result_name h.result_name;
        locals = y.holds;
        same = λ i. record (made x.public x.name x.params x.result_name y.other) { param_places = places_same x.param_places x.params h.param_places i; result_place = place_same x.result_place x.result_name h.result_place i };
      };
    }
