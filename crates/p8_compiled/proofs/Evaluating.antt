-- The code of an expression does what the expression does.
use Rattle.std.proofs.Common.{◌≡◌, refl, sym, ap, subst, ◌∙◌, arith, ℕ, max, ◌+◌, ◌%◌, ◌^◌, ◌≤◌, ◌==◌, Bool, true, false, List, [], ◌∷◌, ◌++◌, length, Some, None, append_assoc, append-nil}
use Rattle.std.proofs.Math.ListN.{length-append}
use Rattle.p8_access.specs.Courses.{Finish}
use Rattle.p8_tree.specs.Expressions.{Tree, node, Number, Str, Strings, Here, Var, Call, Unary, Binary, Assign, Change, Address, ObjectAddress, ObjConst, Built, Look, Variable, Named, Part, Memory, Register, Index, no_index, index, Bits, whole, bits, Item, single, range, Trees, no_trees, ◌▷◌, Items, no_items, ◌▸◌}
use Rattle.p8_words.specs.Operators.{unary_value, binary_value, or_zero}
use Rattle.p8_bcog.specs.declared.marks.CallMark.{CallMark}
use Rattle.p8_fold.specs.Values as constants
use Rattle.std.proofs.lemmas.Bool.{eqb-true}
use Rattle.p8_meaning.specs.Doing.{Rest, for_statement}
use Rattle.p8_meaning.specs.Programs.{object_constant, own_target, kind_of, setting_of}
use Rattle.p8_meaning.specs.Variables.{Location, Pins, element, named, part, address_at, fetches, assigns, changes}
use Rattle.p8_meaning.specs.Calls.{uses, starts_method}
use Rattle.p8_meaning.specs.Expressions as expressions
use Rattle.p8_tree.specs.Heights.{height, height_in_variable, height_in_index, height_in_bits, height_of_trees, height_of_items, height_of_item}
use Rattle.p8_tree.specs.Lists.{count_of_trees, tree_list}
use Rattle.p8_compiled.specs.Standing as standing
use Rattle.p8_compiled.specs.Standing.{names_count, index_count, bits_count, at_number, index_in, pins_in, site}
use Rattle.p8_compiled.proofs.Places.{at, left_on}
use Rattle.p8_compiled.proofs.Calling.{opened-low}
use Rattle.p8_meaning.specs.Builtins as builtins
use Rattle.p8_compiled.proofs.Stepping.{by-gives, by-text, by-one, by-two, by-three, by-four, by-names}
use Rattle.p8_compiled.proofs.Forms.{Working, depth, items_depth, item_depth, built_depth, begun_depth, trees_depth, names_depth, index_depth, bits_depth, room, fits_stack, marked, fits_marks, Stands, up, s, K, Then, backs, up_all, mark_of, opens-meets, own-meets, object-meets, used-back, read-meets, assign-meets, change-meets, name-meets, constant-meets, none-meets, one-meets, two-meets, three-meets, start-meets, where-deep, Gives_at, begun_pasm-meets, begun_name-meets, item-tried, both-tried, signed_same, where-is, longer}

module _ (w : Working) where
  open w use {t, c, callee, abort, placed, most, ok, g, begun, top, lesser, aborts, is_instance, is_file}

  mutual
    pub evaluates-meets : (e : Tree) (p q : ℕ) → standing.ValueAt t e p q → (b base : ℕ) (marks : List CallMark) (xs : List ℕ) → Stands w b base marks xs → length xs + (depth w) e ≤ (room w) → length marks + height e ≤ (marked w) → (k : ℕ → Rest) →
        ((value : ℕ) → Then w b (at c q base marks (xs ++ value ∷ [])) (k value)) → Then w b (at c p base marks xs) (expressions.evaluates callee (s w) abort e k)
    evaluates-meets (node place (Number n)) p q h b base marks xs here fits few k m =
        λ f own le. by-gives t.memory t.cog t.table t.hand c p q base marks xs own here.low.low f (k n) n h (omega (arith, fits, (fits_stack w))) (m n f own le)
    evaluates-meets (node place (Str text)) p q h b base marks xs here fits few k m =
        λ f own le. by-text t.memory t.cog t.table t.hand c p q base marks xs own here.low.low f _ (t.addresses.text t.number place) h (omega (arith, fits, (fits_stack w))) (m _ f own le)
    evaluates-meets (node place (Strings es)) p q h b base marks xs here fits few k m =
        λ f own le. by-text t.memory t.cog t.table t.hand c p q base marks xs own here.low.low f _ (t.addresses.text t.number place) h (omega (arith, fits, (fits_stack w))) (m _ f own le)
    evaluates-meets (node place Here) p q h b base marks xs here fits few k m = absurd h
    evaluates-meets (node place (Var v)) p q h b base marks xs here fits few k m = variable-meets v p q h b base marks xs here fits (omega (arith, few)) k m
    evaluates-meets (node place (Call stops None i name inside arguments)) p q h b base marks xs here fits few k m =
        let does : (ℕ → Rest) → Rest = λ go. expressions.makes_call callee (s w) abort stops None name (expressions.evaluates_all callee (s w) abort arguments) (expressions.indexes callee (s w) abort i) (λ x. uses x go) in
        backs w b (at c p base marks xs) (λ back. does (λ value. back (k value))) (
        let go : ℕ → Rest = λ value. for_statement t.hand (k value) in
        opens-meets w p h.0 base marks xs false stops h.2 (omega (arith, few, (fits_marks w))) b (does go)
        (values-meets arguments h.0 h.1 h.3 b (length xs) (mark_of w base false stops ∷ marks) xs (record { low = opened-low here.low (mark_of w base false stops); within = here.within }) (omega (arith, fits)) (omega (arith, few)) (λ values. expressions.calls_own callee (s w) abort stops (t.file.kind t.method name) values (λ x. uses x go))
        (λ values is. own-meets w q base marks xs b here (omega (arith, fits)) (omega (arith, few)) false stops (λ x. uses x go) (used-back w q base marks xs b stops (omega (arith, fits, (fits_stack w))) k m) h.1 (t.file.kind t.method name) values
        (subst (λ n. standing.OwnCallAt t (t.file.kind t.method name) n h.1 q) (sym is) h.4))))
    evaluates-meets (node place (Call stops (Some object) i name inside arguments)) p q h b base marks xs here fits few k m =
        let under : Stands w b (length xs) (mark_of w base false stops ∷ marks) xs = record { low = opened-low here.low (mark_of w base false stops); within = here.within } in
        let does : (ℕ → Rest) → Rest = λ go. expressions.makes_call callee (s w) abort stops (Some object) name (expressions.evaluates_all callee (s w) abort arguments) (expressions.indexes callee (s w) abort i) (λ x. uses x go) in
        backs w b (at c p base marks xs) (λ back. does (λ value. back (k value))) (
        let go : ℕ → Rest = λ value. for_statement t.hand (k value) in
        opens-meets w p h.0 base marks xs false stops h.3 (omega (arith, few, (fits_marks w))) b (does go)
        (values-meets arguments h.0 h.1 h.4 b (length xs) (mark_of w base false stops ∷ marks) xs under (omega (arith, fits)) (omega (arith, few))
        (λ values. expressions.indexes callee (s w) abort i (λ chosen. expressions.calls_of_object callee (s w) abort stops (t.file.kind t.method object) chosen name values (λ x. uses x go)))
        (λ values is. index-meets i h.1 h.2 h.5 b (length xs) (mark_of w base false stops ∷ marks) (xs ++ values) (up_all w under values) (omega (arith, fits, is, length-append xs values)) (omega (arith, few))
        (λ chosen. expressions.calls_of_object callee (s w) abort stops (t.file.kind t.method object) chosen name values (λ x. uses x go))
        (λ names named. object-meets w q base marks xs b here (omega (arith, fits)) (omega (arith, few)) false stops (λ x. uses x go) (used-back w q base marks xs b stops (omega (arith, fits, (fits_stack w))) k m)
        object name values (omega (arith, fits, is, length-append xs values, (fits_stack w))) h.2 i names named (t.file.kind t.method object) refl (subst (λ count. standing.ObjectCallAt t (t.file.kind t.method object) i name count h.2 q) (sym is) h.6)))))
    evaluates-meets (node place (Unary operator e)) p q h b base marks xs here fits few k m =
        where-is w (operator == 0xEC) h
        (λ h0 is. evaluates-meets e p q h0 b base marks xs here (omega (arith, fits)) (omega (arith, few)) (λ a. k (unary_value operator a))
        (λ a f own le. subst (λ (x : ℕ). (K w) f own (Finish (at c q base marks (xs ++ x ∷ []) own)) (k (unary_value operator a))) (signed_same w operator a (eqb-true operator 0xEC is)) (m (unary_value operator a) f own le)))
        (λ h1. evaluates-meets e p h1.0 h1.1 b base marks xs here (omega (arith, fits)) (omega (arith, few)) (λ a. k (unary_value operator a))
        (λ a f own le. by-one t.memory t.cog t.table t.hand c h1.0 q base marks xs own here.low.low f (k (unary_value operator a)) 1 (standing.applies_one operator) h1.2 a (omega (arith, fits, (fits_stack w))) (m (unary_value operator a) f own le)))
    evaluates-meets (node place (Binary operator left right)) p q h b base marks xs here fits few k m =
        evaluates-meets left p h.0 h.2 b base marks xs here (omega (arith, fits)) (omega (arith, few)) (λ x. expressions.evaluates callee (s w) abort right (λ y. k (binary_value operator x y)))
        (λ x. evaluates-meets right h.0 h.1 h.3 b base marks (xs ++ x ∷ []) (up w here x) (omega (arith, fits, (longer w) xs x)) (omega (arith, few)) (λ y. k (binary_value operator x y))
        (λ y f own le. by-two t.memory t.cog t.table t.hand c h.1 q base marks xs own here.low.low f (k (binary_value operator x y)) 1 (standing.applies_two operator) h.4 x y (omega (arith, fits, (fits_stack w))) (m (binary_value operator x y) f own le)))
    evaluates-meets (node place (Assign v operator e)) p q h b base marks xs here fits few k m =
        evaluates-meets e p h.0 h.2 b base marks xs here (omega (arith, fits)) (omega (arith, few)) (λ right. expressions.locates callee (s w) abort v (λ where_is. assigns (s w) operator where_is right k))
        (λ right. names-meets v h.0 h.1 h.3 b base marks (xs ++ right ∷ []) (up w here right) (omega (arith, fits, (longer w) xs right)) (omega (arith, few)) (λ where_is. assigns (s w) operator where_is right k)
        (λ names is. assign-meets w h.1 q base marks xs here.low.low b true (omega (arith, fits, (fits_stack w))) v h.4 operator h.5 right names is k m))
    evaluates-meets (node place (Change v change)) p q h b base marks xs here fits few k m =
        names-meets v p h.0 h.1 b base marks xs here (omega (arith, fits)) (omega (arith, few)) (λ where_is. changes (s w) change where_is k)
        (λ names is. change-meets w h.0 q base marks xs here.low.low b (omega (arith, fits, (fits_stack w))) v h.2 change h.3 names is k m)
    evaluates-meets (node place (Address v)) p q h b base marks xs here fits few k m =
        names-meets v p h.0 h.1 b base marks xs here (omega (arith, fits)) (omega (arith, few)) (λ where_is. k (address_at where_is))
        (λ names is f own le. by-names t.memory t.cog t.table t.hand c h.0 q base marks xs own here.low.low f (k (address_at (site (s w) v names))) (names_count v) 1 (standing.addresses_of t v) h.2 names is (omega (arith, fits, (fits_stack w))) (m (address_at (site (s w) v names)) f own le))
    evaluates-meets (node place (ObjectAddress e)) p q h b base marks xs here fits few k m =
        evaluates-meets e p h.0 h.1 b base marks xs here (omega (arith, fits)) (omega (arith, few)) (λ a. k ((c.pbase + a) % 2 ^ 16))
        (λ a f own le. by-one t.memory t.cog t.table t.hand c h.0 q base marks xs own here.low.low f (k ((c.pbase + a) % 2 ^ 16)) 1 standing.object_address h.2 a (omega (arith, fits, (fits_stack w))) (m ((c.pbase + a) % 2 ^ 16) f own le))
    evaluates-meets (node place (ObjConst object name inside)) p q h b base marks xs here fits few k m =
        λ f own le. by-gives t.memory t.cog t.table t.hand c p q base marks xs own here.low.low f _ (or_zero (object_constant t.file (t.file.kind t.method object) name)) h (omega (arith, fits, (fits_stack w))) (m _ f own le)
    evaluates-meets (node place (Built code arguments)) p q h b base marks xs here fits few k m = built-meets true code arguments p q h b base marks xs here fits (omega (arith, few)) k m
    evaluates-meets (node place (Look code e items)) p q h b base marks xs here fits few k m =
        let first : ℕ = expressions.first_count code in
        evaluates-meets e p h.0 h.3 b base marks xs here (omega (arith, fits)) (omega (arith, few)) (λ wanted. expressions.looks callee (s w) abort (expressions.goes_up code) wanted items k (λ count. k 0) first)
        (λ wanted f own le. by-gives t.memory t.cog t.table t.hand c h.0 h.1 base marks (xs ++ wanted ∷ []) own (up w here wanted).low.low f (expressions.looks callee (s w) abort (expressions.goes_up code) wanted items k (λ count. k 0) first) first h.4 (omega (arith, fits, (longer w) xs wanted, (fits_stack w)))
        (looks-meet (expressions.goes_up code) wanted items q h.1 h.2 h.5 b base marks xs here (omega (arith, fits)) (omega (arith, few)) k (λ count. k 0) m
        (λ count f own le. by-two t.memory t.cog t.table t.hand c h.2 q base marks xs own here.low.low f (k 0) 1 standing.look_fails h.6 wanted count (omega (arith, fits, (fits_stack w))) (m 0 f own le)) first f own le))

    variable-meets : (v : Variable) (p q : ℕ) → standing.VariableAt t v p q → (b base : ℕ) (marks : List CallMark) (xs : List ℕ) → Stands w b base marks xs → length xs + max 1 (names_depth w v) ≤ (room w) → length marks + height_in_variable v ≤ (marked w) → (k : ℕ → Rest) →
        ((value : ℕ) → Then w b (at c q base marks (xs ++ value ∷ [])) (k value)) → Then w b (at c p base marks xs) (expressions.evaluates_variable callee (s w) abort v k)
    variable-meets (Named name no_index place) p q h b base marks xs here fits few k m = name-meets w p q base marks xs here.low.low b here (omega (arith, fits)) (omega (arith, few)) (omega (arith, fits, (fits_stack w))) name place h k m
    variable-meets (Named name (index e) place) p q h b base marks xs here fits few k m =
        evaluates-meets e p h.0 h.1 b base marks xs here (omega (arith, fits)) (omega (arith, few)) (λ n. fetches (s w) (named (s w) name n) k)
        (λ n. read-meets w h.0 q base marks xs here.low.low b (omega (arith, fits, (fits_stack w))) (Named name (index e) place) tt h.2 (n ∷ []) refl k m)
    variable-meets (Part name size i place) p q h b base marks xs here fits few k m =
        index-meets i p h.0 h.1 b base marks xs here (omega (arith, fits)) (omega (arith, few)) (λ n. fetches (s w) (part (s w) name size n) k)
        (λ names is. read-meets w h.0 q base marks xs here.low.low b (omega (arith, fits, (fits_stack w))) (Part name size i place) tt h.2 names is k m)
    variable-meets (Memory size e i place) p q h b base marks xs here fits few k m =
        evaluates-meets e p h.0 h.2 b base marks xs here (omega (arith, fits)) (omega (arith, few)) (λ a. expressions.indexes callee (s w) abort i (λ n. fetches (s w) (element size a n) k))
        (λ a. index-meets i h.0 h.1 h.3 b base marks (xs ++ a ∷ []) (up w here a) (omega (arith, fits, (longer w) xs a)) (omega (arith, few)) (λ n. fetches (s w) (element size a n) k)
        (λ names is f own le. subst (λ (ys : List ℕ). (K w) f own (Finish (at c h.1 base marks ys own)) (fetches (s w) (element size a (index_in i (at_number names 0))) k)) (sym (append_assoc xs (a ∷ []) names))
        (read-meets w h.1 q base marks xs here.low.low b (omega (arith, fits, (fits_stack w))) (Memory size e i place) tt h.4 (a ∷ names) (omega (arith, is)) k m f own le)))
    variable-meets (Register register x place) p q h b base marks xs here fits few k m =
        bits-meets register x p h.0 h.1 b base marks xs here (omega (arith, fits)) (omega (arith, few)) (λ pins. fetches (s w) pins k)
        (λ names is. read-meets w h.0 q base marks xs here.low.low b (omega (arith, fits, (fits_stack w))) (Register register x place) h.2 h.3 names is k m)

    pub names-meets : (v : Variable) (p q : ℕ) → standing.NamesAt t v p q → (b base : ℕ) (marks : List CallMark) (xs : List ℕ) → Stands w b base marks xs → length xs + (names_depth w) v ≤ (room w) → length marks + height_in_variable v ≤ (marked w) → (k : Location → Rest) →
        ((names : List ℕ) → length names ≡ names_count v → Then w b (at c q base marks (xs ++ names)) (k (site (s w) v names))) → Then w b (at c p base marks xs) (expressions.locates callee (s w) abort v k)
    names-meets (Named name i place) p q h b base marks xs here fits few k m = index-meets i p q h b base marks xs here fits few (λ n. k (named (s w) name n)) m
    names-meets (Part name size i place) p q h b base marks xs here fits few k m = index-meets i p q h b base marks xs here fits few (λ n. k (part (s w) name size n)) m
    names-meets (Memory size e i place) p q h b base marks xs here fits few k m =
        evaluates-meets e p h.0 h.1 b base marks xs here (omega (arith, fits)) (omega (arith, few)) (λ a. expressions.indexes callee (s w) abort i (λ n. k (element size a n)))
        (λ a. index-meets i h.0 q h.2 b base marks (xs ++ a ∷ []) (up w here a) (omega (arith, fits, (longer w) xs a)) (omega (arith, few)) (λ n. k (element size a n))
        (λ names is f own le. subst (λ (ys : List ℕ). (K w) f own (Finish (at c q base marks ys own)) (k (element size a (index_in i (at_number names 0))))) (sym (append_assoc xs (a ∷ []) names)) (m (a ∷ names) (omega (arith, is)) f own le)))
    names-meets (Register register x place) p q h b base marks xs here fits few k m = bits-meets register x p q h b base marks xs here fits few k m

    pub index-meets : (i : Index) (p q : ℕ) → standing.IndexAt t i p q → (b base : ℕ) (marks : List CallMark) (xs : List ℕ) → Stands w b base marks xs → length xs + (index_depth w) i ≤ (room w) → length marks + height_in_index i ≤ (marked w) → (k : ℕ → Rest) →
        ((names : List ℕ) → length names ≡ index_count i → Then w b (at c q base marks (xs ++ names)) (k (index_in i (at_number names 0)))) → Then w b (at c p base marks xs) (expressions.indexes callee (s w) abort i k)
    index-meets no_index p q h b base marks xs here fits few k m =
        λ f own le. subst (λ (place : ℕ). (K w) f own (Finish (at c place base marks xs own)) (k 0)) (sym h)
        (subst (λ (ys : List ℕ). (K w) f own (Finish (at c q base marks ys own)) (k 0)) (append-nil xs) (m [] refl f own le))
    index-meets (index e) p q h b base marks xs here fits few k m = evaluates-meets e p q h b base marks xs here fits few k (λ value. m (value ∷ []) refl)

    bits-meets : (register : ℕ) (x : Bits) (p q : ℕ) → standing.BitsAt t x p q → (b base : ℕ) (marks : List CallMark) (xs : List ℕ) → Stands w b base marks xs → length xs + (bits_depth w) x ≤ (room w) → length marks + height_in_bits x ≤ (marked w) → (k : Location → Rest) →
        ((names : List ℕ) → length names ≡ bits_count x → Then w b (at c q base marks (xs ++ names)) (k (pins_in register x names))) → Then w b (at c p base marks xs) (expressions.selects callee (s w) abort register x k)
    bits-meets register whole p q h b base marks xs here fits few k m =
        λ f own le. subst (λ (place : ℕ). (K w) f own (Finish (at c place base marks xs own)) (k (Pins register 31 0))) (sym h)
        (subst (λ (ys : List ℕ). (K w) f own (Finish (at c q base marks ys own)) (k (Pins register 31 0))) (append-nil xs) (m [] refl f own le))
    bits-meets register (bits (single e)) p q h b base marks xs here fits few k m = evaluates-meets e p q h b base marks xs here fits few (λ pin. k (Pins register (pin % 32) (pin % 32))) (λ value. m (value ∷ []) refl)
    bits-meets register (bits (range e d)) p q h b base marks xs here fits few k m =
        evaluates-meets e p h.0 h.1 b base marks xs here (omega (arith, fits)) (omega (arith, few)) (λ high. expressions.evaluates callee (s w) abort d (λ last. k (Pins register (high % 32) (last % 32))))
        (λ high. evaluates-meets d h.0 q h.2 b base marks (xs ++ high ∷ []) (up w here high) (omega (arith, fits, (longer w) xs high)) (omega (arith, few)) (λ last. k (Pins register (high % 32) (last % 32)))
        (λ last f own le. subst (λ (ys : List ℕ). (K w) f own (Finish (at c q base marks ys own)) (k (Pins register (high % 32) (last % 32)))) (sym (append_assoc xs (high ∷ []) (last ∷ []))) (m (high ∷ last ∷ []) refl f own le)))

    pub values-meets : (es : Trees) (p q : ℕ) → standing.ValuesAt t es p q → (b base : ℕ) (marks : List CallMark) (xs : List ℕ) → Stands w b base marks xs → length xs + (trees_depth w) es ≤ (room w) → length marks + height_of_trees es ≤ (marked w) → (k : List ℕ → Rest) →
        ((values : List ℕ) → length values ≡ count_of_trees es → Then w b (at c q base marks (xs ++ values)) (k values)) → Then w b (at c p base marks xs) (expressions.evaluates_all callee (s w) abort es k)
    values-meets no_trees p q h b base marks xs here fits few k m =
        λ f own le. subst (λ (place : ℕ). (K w) f own (Finish (at c place base marks xs own)) (k [])) (sym h)
        (subst (λ (ys : List ℕ). (K w) f own (Finish (at c q base marks ys own)) (k [])) (append-nil xs) (m [] refl f own le))
    values-meets (es ▷ e) p q h b base marks xs here fits few k m =
        values-meets es p h.0 h.1 b base marks xs here (omega (arith, fits)) (omega (arith, few)) (λ values. expressions.evaluates callee (s w) abort e (λ value. k (values ++ value ∷ [])))
        (λ values is. evaluates-meets e h.0 q h.2 b base marks (xs ++ values) (up_all w here values) (omega (arith, fits, is, length-append xs values)) (omega (arith, few)) (λ value. k (values ++ value ∷ []))
        (λ value f own le. subst (λ (ys : List ℕ). (K w) f own (Finish (at c q base marks ys own)) (k (values ++ value ∷ []))) (sym (append_assoc xs values (value ∷ [])))
        (m (values ++ value ∷ []) (length-append values (value ∷ []) ∙ ap (λ n. n + 1) is ∙ sym (length-append (tree_list es) (e ∷ []))) f own le)))

    looks-meet : (goes : Bool) (wanted : ℕ) (items : Items) (target p q : ℕ) → standing.LooksAt t goes items target p q → (b base : ℕ) (marks : List CallMark) (xs : List ℕ) → Stands w b base marks xs → length xs + (2 + (items_depth w) items) ≤ (room w) → length marks + height_of_items items ≤ (marked w) → (found none : ℕ → Rest) →
        ((value : ℕ) → Then w b (at c target base marks (xs ++ value ∷ [])) (found value)) → ((count : ℕ) → Then w b (at c q base marks ((xs ++ wanted ∷ []) ++ count ∷ [])) (none count)) →
        (count : ℕ) → Then w b (at c p base marks ((xs ++ wanted ∷ []) ++ count ∷ [])) (expressions.looks callee (s w) abort goes wanted items found none count)
    looks-meet goes wanted no_items target p q h b base marks xs here fits few found none m n =
        λ count f own le. subst (λ (place : ℕ). (K w) f own (Finish (at c place base marks ((xs ++ wanted ∷ []) ++ count ∷ []) own)) (none count)) (sym h) (n count f own le)
    looks-meet goes wanted (items ▸ item) target p q h b base marks xs here fits few found none m n =
        looks-meet goes wanted items target p h.0 h.1 b base marks xs here (omega (arith, fits)) (omega (arith, few)) found (expressions.looks_at callee (s w) abort goes wanted item found none) m
        (λ count. look-meets goes wanted item target h.0 q h.2 b base marks xs here (omega (arith, fits)) (omega (arith, few)) found none m n count)

    look-meets : (goes : Bool) (wanted : ℕ) (item : Item) (target p q : ℕ) → standing.LookAt t goes item target p q → (b base : ℕ) (marks : List CallMark) (xs : List ℕ) → Stands w b base marks xs → length xs + (2 + (item_depth w) item) ≤ (room w) → length marks + height_of_item item ≤ (marked w) → (found none : ℕ → Rest) →
        ((value : ℕ) → Then w b (at c target base marks (xs ++ value ∷ [])) (found value)) → ((count : ℕ) → Then w b (at c q base marks ((xs ++ wanted ∷ []) ++ count ∷ [])) (none count)) →
        (count : ℕ) → Then w b (at c p base marks ((xs ++ wanted ∷ []) ++ count ∷ [])) (expressions.looks_at callee (s w) abort goes wanted item found none count)
    look-meets goes wanted (single e) target p q h b base marks xs here fits few found none m n =
        λ count. evaluates-meets e p h.0 h.1 b base marks ((xs ++ wanted ∷ []) ++ count ∷ []) (up w (up w here wanted) count) (omega (arith, fits, (longer w) xs wanted, (longer w) (xs ++ wanted ∷ []) count)) (omega (arith, few)) (λ value. expressions.tries goes wanted count value found none)
        (λ value f own le. by-three t.memory t.cog t.table t.hand c h.0 q base marks xs own here.low.low f (expressions.tries goes wanted count value found none) 2 (standing.tries_item goes target) h.2 wanted count value (omega (arith, fits, (fits_stack w)))
        (item-tried w wanted count goes value target q base marks xs f own found none (λ x. m x f own le) (λ x. n x f own le)))
    look-meets goes wanted (range e d) target p q h b base marks xs here fits few found none m n =
        λ count. evaluates-meets e p h.0 h.2 b base marks ((xs ++ wanted ∷ []) ++ count ∷ []) (up w (up w here wanted) count) (omega (arith, fits, (longer w) xs wanted, (longer w) (xs ++ wanted ∷ []) count)) (omega (arith, few)) (λ low. expressions.evaluates callee (s w) abort d (λ high. expressions.tries_range goes wanted count low high found none))
        (λ low. evaluates-meets d h.0 h.1 h.3 b base marks (((xs ++ wanted ∷ []) ++ count ∷ []) ++ low ∷ []) (up w (up w (up w here wanted) count) low) (omega (arith, fits, (longer w) xs wanted, (longer w) (xs ++ wanted ∷ []) count, (longer w) ((xs ++ wanted ∷ []) ++ count ∷ []) low)) (omega (arith, few)) (λ high. expressions.tries_range goes wanted count low high found none)
        (λ high f own le. by-four t.memory t.cog t.table t.hand c h.1 q base marks xs own here.low.low f (expressions.tries_range goes wanted count low high found none) 2 (standing.tries_both goes target) h.4 wanted count low high (omega (arith, fits, (fits_stack w)))
        (both-tried w wanted count goes low high target q base marks xs f own found none (λ x. m x f own le) (λ x. n x f own le))))

    pub built-meets : (used : Bool) (code : ℕ) (es : Trees) (p q : ℕ) → standing.BuiltAt t used code es p q → (b base : ℕ) (marks : List CallMark) (xs : List ℕ) → Stands w b base marks xs → length xs + max 1 (built_depth w code es) ≤ (room w) → length marks + height_of_trees es ≤ (marked w) → (k : ℕ → Rest) →
        ((value : ℕ) → Then w b (at c q base marks (left_on used xs value)) (k value)) → Then w b (at c p base marks xs) (expressions.does callee (s w) abort code es k)
    built-meets used code no_trees p q h b base marks xs here fits few k m = none-meets w q base marks xs here.low.low (omega (arith, fits, (fits_stack w))) b used code p h k m
    built-meets used code (no_trees ▷ e) p q h b base marks xs here fits few k m =
        let value : ℕ = or_zero (constants.value (setting_of t.file t.method) e) in
        where-deep w (code == 0) 1 (max 1 (depth w e)) xs b (at c p base marks xs) (k value) (expressions.evaluates callee (s w) abort e (λ a. builtins.does_one code a k)) fits h
        (λ h0 deep. constant-meets w q base marks xs here.low.low (omega (arith, deep, (fits_stack w))) b used value p h0 k m)
        (λ h1 deep. evaluates-meets e p h1.0 h1.1 b base marks xs here (omega (arith, deep)) (omega (arith, few)) (λ a. builtins.does_one code a k)
        (λ a. one-meets w q base marks xs here.low.low (omega (arith, deep, (fits_stack w))) b used code h1.0 a h1.2 k m))
    built-meets used code (no_trees ▷ e ▷ d) p q h b base marks xs here fits few k m =
        where-deep w (code == 0x2C) (1 + (begun_depth w) e (depth w e) (depth w d)) (max 1 (max (depth w e) (1 + (depth w) d))) xs b (at c p base marks xs)
        (expressions.begins callee (s w) abort builtins.new_cog e (expressions.evaluates callee (s w) abort e) (expressions.evaluates callee (s w) abort d) k)
        (expressions.evaluates callee (s w) abort e (λ x. expressions.evaluates callee (s w) abort d (λ y. builtins.does_two code x y k))) fits h
        (λ h0 deep f own le. by-gives t.memory t.cog t.table t.hand c p h0.0 base marks xs own here.low.low f (expressions.begins callee (s w) abort builtins.new_cog e (expressions.evaluates callee (s w) abort e) (expressions.evaluates callee (s w) abort d) k) builtins.new_cog h0.1 (omega (arith, deep, (fits_stack w)))
        (begins-meets used builtins.new_cog e e d (depth w e) (depth w d) b base marks
        (λ p q h xs here fits k m. evaluates-meets e p q h b base marks xs here fits (omega (arith, few)) k m) (λ p q h xs here fits k m. evaluates-meets d p q h b base marks xs here fits (omega (arith, few)) k m) h0.0 q h0.2 xs here (omega (arith, deep)) (omega (arith, few)) k m f own le))
        (λ h1 deep. evaluates-meets e p h1.0 h1.2 b base marks xs here (omega (arith, deep)) (omega (arith, few)) (λ x. expressions.evaluates callee (s w) abort d (λ y. builtins.does_two code x y k))
        (λ x. evaluates-meets d h1.0 h1.1 h1.3 b base marks (xs ++ x ∷ []) (up w here x) (omega (arith, deep, (longer w) xs x)) (omega (arith, few)) (λ y. builtins.does_two code x y k)
        (λ y. two-meets w q base marks xs here.low.low (omega (arith, deep, (fits_stack w))) b used code h1.1 x y h1.4 k m)))
    built-meets used code (no_trees ▷ e ▷ d ▷ r) p q h b base marks xs here fits few k m =
        where-deep w (code == 0x28) (max (depth w e) (1 + (begun_depth w) d (depth w d) (depth w r))) (max (depth w e) (max (1 + (depth w) d) (2 + (depth w) r))) xs b (at c p base marks xs)
        (expressions.evaluates callee (s w) abort e (λ id. expressions.begins callee (s w) abort id d (expressions.evaluates callee (s w) abort d) (expressions.evaluates callee (s w) abort r) k))
        (expressions.evaluates callee (s w) abort e (λ x. expressions.evaluates callee (s w) abort d (λ y. expressions.evaluates callee (s w) abort r (λ z. builtins.does_three code x y z k)))) fits h
        (λ h0 deep. evaluates-meets e p h0.0 h0.1 b base marks xs here (omega (arith, deep)) (omega (arith, few)) (λ id. expressions.begins callee (s w) abort id d (expressions.evaluates callee (s w) abort d) (expressions.evaluates callee (s w) abort r) k)
        (λ id. begins-meets used id d d r (depth w d) (depth w r) b base marks
        (λ p q h xs here fits k m. evaluates-meets d p q h b base marks xs here fits (omega (arith, few)) k m) (λ p q h xs here fits k m. evaluates-meets r p q h b base marks xs here fits (omega (arith, few)) k m) h0.0 q h0.2 xs here (omega (arith, deep)) (omega (arith, few)) k m))
        (λ h1 deep. evaluates-meets e p h1.0 h1.3 b base marks xs here (omega (arith, deep)) (omega (arith, few)) (λ x. expressions.evaluates callee (s w) abort d (λ y. expressions.evaluates callee (s w) abort r (λ z. builtins.does_three code x y z k)))
        (λ x. evaluates-meets d h1.0 h1.1 h1.4 b base marks (xs ++ x ∷ []) (up w here x) (omega (arith, deep, (longer w) xs x)) (omega (arith, few)) (λ y. expressions.evaluates callee (s w) abort r (λ z. builtins.does_three code x y z k))
        (λ y. evaluates-meets r h1.1 h1.2 h1.5 b base marks ((xs ++ x ∷ []) ++ y ∷ []) (up w (up w here x) y) (omega (arith, deep, (longer w) xs x, (longer w) (xs ++ x ∷ []) y)) (omega (arith, few)) (λ z. builtins.does_three code x y z k)
        (λ z. three-meets w q base marks xs here.low.low (omega (arith, deep, (fits_stack w))) b used code h1.2 x y z h1.6 k m))))
    built-meets used code (es ▷ a ▷ e ▷ d ▷ r) p q h b base marks xs here fits few k m = absurd h

    begins-meets : (used : Bool) (id : ℕ) (e : Tree) (first second : Tree) (deep high : ℕ) (b base : ℕ) (marks : List CallMark) → Gives_at w b base marks deep (standing.ValueAt t first) (expressions.evaluates callee (s w) abort first) → Gives_at w b base marks high (standing.ValueAt t second) (expressions.evaluates callee (s w) abort second) →
        (p q : ℕ) → standing.BeginsAt t used e (standing.ValueAt t first) (standing.ValueAt t second) p q → (xs : List ℕ) → Stands w b base marks xs → length xs + (1 + (begun_depth w) e deep high) ≤ (room w) → length marks + height e ≤ (marked w) → (k : ℕ → Rest) →
        ((value : ℕ) → Then w b (at c q base marks (left_on used xs value)) (k value)) → Then w b (at c p base marks (xs ++ id ∷ [])) (expressions.begins callee (s w) abort id e (expressions.evaluates callee (s w) abort first) (expressions.evaluates callee (s w) abort second) k)
    begins-meets used id (node place (Call false None i name inside arguments)) first second deep high b base marks m n p q h xs here fits few k goes =
        values-meets arguments p h.0 h.2 b base marks (xs ++ id ∷ []) (up w here id) (omega (arith, fits, (longer w) xs id)) (omega (arith, few)) (λ values. expressions.evaluates callee (s w) abort second (λ stack. starts_method (s w) id (own_target (s w) (kind_of (s w) name)) values stack k))
        (λ values is. n h.0 h.1 h.3 ((xs ++ id ∷ []) ++ values) (up_all w (up w here id) values) (omega (arith, fits, is, (longer w) xs id, length-append (xs ++ id ∷ []) values)) (λ stack. starts_method (s w) id (own_target (s w) (kind_of (s w) name)) values stack k)
        (λ stack. start-meets w q base marks xs here.low.low (omega (arith, fits, (fits_stack w))) b used (t.file.kind t.method name) h.1 id values stack (subst (λ count. standing.StartAt t used (t.file.kind t.method name) count h.1 q) (sym is) h.4) k goes))
    begins-meets used id (node place (Var (Named name no_index inside))) first second deep high b base marks m n p q h xs here fits few k goes = begun_name-meets w b base marks used id name (kind_of (s w) name) refl (standing.ValueAt t first) (standing.ValueAt t second) (expressions.evaluates callee (s w) abort first) (expressions.evaluates callee (s w) abort second) deep high m n p q h xs here fits k goes
    begins-meets used id (node place (Call false (Some object) i name inside arguments)) first second deep high b base marks m n p q h xs here fits few k goes = begun_pasm-meets w b base marks used id (standing.ValueAt t first) (standing.ValueAt t second) (expressions.evaluates callee (s w) abort first) (expressions.evaluates callee (s w) abort second) deep high m n p q h xs here fits k goes
    begins-meets used id (node place (Call true object i name inside arguments)) first second deep high b base marks m n p q h xs here fits few k goes = begun_pasm-meets w b base marks used id (standing.ValueAt t first) (standing.ValueAt t second) (expressions.evaluates callee (s w) abort first) (expressions.evaluates callee (s w) abort second) deep high m n p q h xs here fits k goes
    begins-meets used id (node place (Var (Named name (index e) inside))) first second deep high b base marks m n p q h xs here fits few k goes = begun_pasm-meets w b base marks used id (standing.ValueAt t first) (standing.ValueAt t second) (expressions.evaluates callee (s w) abort first) (expressions.evaluates callee (s w) abort second) deep high m n p q h xs here fits k goes
    begins-meets used id (node place (Var (Part name size i inside))) first second deep high b base marks m n p q h xs here fits few k goes = begun_pasm-meets w b base marks used id (standing.ValueAt t first) (standing.ValueAt t second) (expressions.evaluates callee (s w) abort first) (expressions.evaluates callee (s w) abort second) deep high m n p q h xs here fits k goes
    begins-meets used id (node place (Var (Memory size e i inside))) first second deep high b base marks m n p q h xs here fits few k goes = begun_pasm-meets w b base marks used id (standing.ValueAt t first) (standing.ValueAt t second) (expressions.evaluates callee (s w) abort first) (expressions.evaluates callee (s w) abort second) deep high m n p q h xs here fits k goes
    begins-meets used id (node place (Var (Register register x inside))) first second deep high b base marks m n p q h xs here fits few k goes = begun_pasm-meets w b base marks used id (standing.ValueAt t first) (standing.ValueAt t second) (expressions.evaluates callee (s w) abort first) (expressions.evaluates callee (s w) abort second) deep high m n p q h xs here fits k goes
    begins-meets used id (node place (Number x)) first second deep high b base marks m n p q h xs here fits few k goes = begun_pasm-meets w b base marks used id (standing.ValueAt t first) (standing.ValueAt t second) (expressions.evaluates callee (s w) abort first) (expressions.evaluates callee (s w) abort second) deep high m n p q h xs here fits k goes
    begins-meets used id (node place (Str text)) first second deep high b base marks m n p q h xs here fits few k goes = begun_pasm-meets w b base marks used id (standing.ValueAt t first) (standing.ValueAt t second) (expressions.evaluates callee (s w) abort first) (expressions.evaluates callee (s w) abort second) deep high m n p q h xs here fits k goes
    begins-meets used id (node place (Strings es)) first second deep high b base marks m n p q h xs here fits few k goes = begun_pasm-meets w b base marks used id (standing.ValueAt t first) (standing.ValueAt t second) (expressions.evaluates callee (s w) abort first) (expressions.evaluates callee (s w) abort second) deep high m n p q h xs here fits k goes
    begins-meets used id (node place Here) first second deep high b base marks m n p q h xs here fits few k goes = begun_pasm-meets w b base marks used id (standing.ValueAt t first) (standing.ValueAt t second) (expressions.evaluates callee (s w) abort first) (expressions.evaluates callee (s w) abort second) deep high m n p q h xs here fits k goes
    begins-meets used id (node place (Unary operator e)) first second deep high b base marks m n p q h xs here fits few k goes = begun_pasm-meets w b base marks used id (standing.ValueAt t first) (standing.ValueAt t second) (expressions.evaluates callee (s w) abort first) (expressions.evaluates callee (s w) abort second) deep high m n p q h xs here fits k goes
    begins-meets used id (node place (Binary operator e d)) first second deep high b base marks m n p q h xs here fits few k goes = begun_pasm-meets w b base marks used id (standing.ValueAt t first) (standing.ValueAt t second) (expressions.evaluates callee (s w) abort first) (expressions.evaluates callee (s w) abort second) deep high m n p q h xs here fits k goes
    begins-meets used id (node place (Assign v operator e)) first second deep high b base marks m n p q h xs here fits few k goes = begun_pasm-meets w b base marks used id (standing.ValueAt t first) (standing.ValueAt t second) (expressions.evaluates callee (s w) abort first) (expressions.evaluates callee (s w) abort second) deep high m n p q h xs here fits k goes
    begins-meets used id (node place (Change v change)) first second deep high b base marks m n p q h xs here fits few k goes = begun_pasm-meets w b base marks used id (standing.ValueAt t first) (standing.ValueAt t second) (expressions.evaluates callee (s w) abort first) (expressions.evaluates callee (s w) abort second) deep high m n p q h xs here fits k goes
    begins-meets used id (node place (Address v)) first second deep high b base marks m n p q h xs here fits few k goes = begun_pasm-meets w b base marks used id (standing.ValueAt t first) (standing.ValueAt t second) (expressions.evaluates callee (s w) abort first) (expressions.evaluates callee (s w) abort second) deep high m n p q h xs here fits k goes
    begins-meets used id (node place (ObjectAddress e)) first second deep high b base marks m n p q h xs here fits few k goes = begun_pasm-meets w b base marks used id (standing.ValueAt t first) (standing.ValueAt t second) (expressions.evaluates callee (s w) abort first) (expressions.evaluates callee (s w) abort second) deep high m n p q h xs here fits k goes
    begins-meets used id (node place (ObjConst object name inside)) first second deep high b base marks m n p q h xs here fits few k goes = begun_pasm-meets w b base marks used id (standing.ValueAt t first) (standing.ValueAt t second) (expressions.evaluates callee (s w) abort first) (expressions.evaluates callee (s w) abort second) deep high m n p q h xs here fits k goes
    begins-meets used id (node place (Built code arguments)) first second deep high b base marks m n p q h xs here fits few k goes = begun_pasm-meets w b base marks used id (standing.ValueAt t first) (standing.ValueAt t second) (expressions.evaluates callee (s w) abort first) (expressions.evaluates callee (s w) abort second) deep high m n p q h xs here fits k goes
    begins-meets used id (node place (Look code e items)) first second deep high b base marks m n p q h xs here fits few k goes = begun_pasm-meets w b base marks used id (standing.ValueAt t first) (standing.ValueAt t second) (expressions.evaluates callee (s w) abort first) (expressions.evaluates callee (s w) abort second) deep high m n p q h xs here fits k goes
