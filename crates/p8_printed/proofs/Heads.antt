-- The head of a method is read back.
use Rattle.std.proofs.Common.{◌≡◌, ℕ, List, [], ◌∷◌, ◌++◌, map, Option, Some, None, Bool, refl, sym, ap, ap₂, ◌∙◌, subst, append_assoc, append-nil}
use Rattle.std.specs.Prelude.{option_map}
use Rattle.std.specs.List.{AllByRecursion}
use Rattle.std.proofs.lemmas.List.{map-append}
use Rattle.p8_tree.specs.declared.places.Place.{Place}
use Rattle.p8_tree.specs.Statements.{no_statements}
use Rattle.p8_tree.specs.Sources.{Declared, MethodTree}
use Rattle.p8_tree.specs.Forgetting.{anywhere, declared_anywhere, method_anywhere}
use Rattle.p8_lexer.specs.declared.word.Word.TheVariants as word_case
use Rattle.p8_grammar.specs.Lexemes.{in_method}
use Rattle.p8_lexer.specs.Pieces.{Piece}
use Rattle.p8_lines.specs.declared.state.LineState.{LineState}
use Rattle.p8_lines.specs.declared.state.LineState.TheVariants as state
use Rattle.p8_lines.specs.Diagram.{choices}
use Rattle.p8_declarations.specs.Parts.{Part, line_end, comma, colon, bar, left_parenthesis, right_parenthesis, name, part_of_word, parts}
use Rattle.p8_declarations.specs.Variables.{variables}
use Rattle.p8_declarations.specs.Methods.{bare, with_parameter, with_result, with_locals, behind_result, result_named, behind_parameters, parameters, behind_parameter, behind_name, head, method_of_row}
use Rattle.p8_print.specs.Spelled as spelled
use Rattle.p8_printed.specs.Rereading.{ReadsBack}
use Rattle.p8_print.specs.DeclarationWords.{more_names, words_of_result, words_of_parameters, words_of_locals, words_of_head}
use Rattle.p8_printed.proofs.Readings.{IsName}
use Rattle.p8_printed.proofs.Values.{Where, where_is, where_map}
use Rattle.p8_printed.proofs.Variables.{IsVariable, Names, names_back}
use Rattle.p8_printed.proofs.RowSteps.{LeadsTo, unlabelled_end}
use Rattle.p8_printed.proofs.Steps.{Back, weaker, same_words, ends, a_word, a_name, reads_back}

-- a method with this head and without lines, anywhere
abbrev pub made : Bool → List ℕ → List (List ℕ) → Option (List ℕ) → List Declared → MethodTree
made public n ns r xs = record {
  place = anywhere;
  public = public;
  name = n;
  params = ns;
  param_places = map (λ n. anywhere) ns;
  result_name = r;
  result_place = option_map (λ n. anywhere) r;
  locals = map declared_anywhere xs;
  body = no_statements;
}

made_parameter : (public : Bool) (n : List ℕ) (ns : List (List ℕ)) (r : Option (List ℕ)) (xs : List Declared) (m : MethodTree) (k : List ℕ) (p : Place) → method_anywhere m ≡ made public n ns r xs → method_anywhere (with_parameter m k p) ≡ made public n (ns ++ k ∷ []) r xs
made_parameter public n ns r xs m k p h =
    ap (λ ps. record (method_anywhere m) { params = m.params ++ k ∷ []; param_places = ps }) (map-append (λ p. anywhere) m.param_places (p ∷ []))
    ∙ ap (λ m. with_parameter m k anywhere) h
    ∙ ap (λ ps. record (made public n (ns ++ k ∷ []) r xs) { param_places = ps }) (sym (map-append (λ n. anywhere) ns (k ∷ [])))

-- heads that are such as are read from tokens of a source

abbrev pub IsMaybeName : Option (List ℕ) → Type 0
IsMaybeName None = Unit {0}
IsMaybeName (Some n) = IsName n

pub record IsHead (public : Bool) (m : MethodTree) : Type 0 where
  pub name : IsName m.name
  pub params : AllByRecursion IsName m.params
  pub result : IsMaybeName m.result_name
  pub locals : AllByRecursion (IsVariable in_method 4) m.locals
  pub same : method_anywhere m ≡ made public m.name m.params m.result_name m.locals

-- reading them back

-- it is this method, but for places
abbrev Is : MethodTree → Option MethodTree → Type 0
Is M o = (v : MethodTree) × (o ≡ Some v) × (method_anywhere v ≡ M)

-- parts make this method of each that is the other one so far
abbrev Makes : (MethodTree → List Part → Option MethodTree) → MethodTree → MethodTree → List Part → Type 0
Makes f M M' ps = (m : MethodTree) → method_anywhere m ≡ M → Is M' (f m ps)

local_names : Names in_method state.Local state.LocalNamed state.LocalCount state.MoreLocals
local_names = record {
  unlabelled = refl;
  arrows = _;
  name = λ k. refl;
  opened = λ k. refl;
  next = λ k. refl;
  over = λ k. refl;
  count = refl;
  closed = λ k. refl;
  next_counted = λ k. refl;
  over_counted = λ k. refl;
}

module _ (public : Bool) (n : List ℕ) where
  -- locals, from a state where they, or the line's end, may stand
  locals_back : (q : LineState) (f : MethodTree → List Part → Option MethodTree) (ns : List (List ℕ)) (r : Option (List ℕ)) (xs : List Declared)
      → LeadsTo (choices q).arrows word_case.BitOr state.Local → LeadsTo (choices q).arrows word_case.LineEnd state.End
      → ((m : MethodTree) (ps : List Part) → f m (bar ∷ ps) ≡ behind_result m (bar ∷ ps)) → ((m : MethodTree) → f m (line_end ∷ []) ≡ Some m)
      → AllByRecursion (IsVariable in_method 4) xs → Back q (words_of_locals xs) (Makes f (made public n ns r []) (made public n ns r xs))
  unfolding part_of_word
  locals_back q f ns r [] to_bar to_end at_bar at_end h = ends q to_end (λ m same. (m, at_end m, same))
  locals_back q f ns r (x ∷ xs) to_bar to_end at_bar at_end h =
      a_word q state.Local (unlabelled_end q to_end) word_case.BitOr refl to_bar
      (weaker (λ ps v b m same. (with_locals m v.0, at_bar m ps ∙ ap (option_map (with_locals m)) v.1, ap₂ (λ m xs. with_locals m xs) same v.2))
      (names_back in_method state.Local state.LocalNamed state.LocalCount state.MoreLocals local_names 4 x xs h.0 h.1))

  -- the result and locals, from a state where they, or the line's end, may stand
  result_back : (q : LineState) (f : MethodTree → List Part → Option MethodTree) (ns : List (List ℕ)) (r : Option (List ℕ)) (xs : List Declared)
      → LeadsTo (choices q).arrows word_case.Colon state.ResultName → LeadsTo (choices q).arrows word_case.BitOr state.Local → LeadsTo (choices q).arrows word_case.LineEnd state.End
      → ((m : MethodTree) (ps : List Part) → f m (colon ∷ ps) ≡ result_named m ps) → ((m : MethodTree) (ps : List Part) → f m (bar ∷ ps) ≡ behind_result m (bar ∷ ps)) → ((m : MethodTree) → f m (line_end ∷ []) ≡ Some m)
      → IsMaybeName r → AllByRecursion (IsVariable in_method 4) xs → Back q (words_of_result r ++ words_of_locals xs) (Makes f (made public n ns None []) (made public n ns r xs))
  unfolding part_of_word
  result_back q f ns None xs to_colon to_bar to_end at_colon at_bar at_end y h = locals_back q f ns None xs to_bar to_end at_bar at_end h
  result_back q f ns (Some k) xs to_colon to_bar to_end at_colon at_bar at_end y h =
      a_word q state.ResultName (unlabelled_end q to_end) word_case.Colon refl to_colon
      (a_name state.ResultName state.ResultNamed refl k y (λ k. refl)
      (weaker (λ ps v p c m same. let z = v (with_result m k p) (ap (λ m. with_result m k anywhere) same) in (z.0, at_colon m (name k p ∷ ps) ∙ z.1, z.2))
      (locals_back state.ResultNamed behind_result ns (Some k) xs (λ k. refl) (λ k. refl) (λ m ps. refl) (λ m. refl) h)))

  module _ (r : Option (List ℕ)) (xs : List Declared) (y : IsMaybeName r) (h : AllByRecursion (IsVariable in_method 4) xs) where
    -- more parameters, and what stands after them
    more_back : (ns before : List (List ℕ)) → AllByRecursion IsName ns → Back state.MoreParameters (more_names ns ++ spelled.reserved word_case.RightParenthesis ∷ (words_of_result r ++ words_of_locals xs)) (Makes behind_parameter (made public n before None []) (made public n (before ++ ns) r xs))
    unfolding part_of_word
    more_back [] before g =
        a_word state.MoreParameters state.Parameters refl word_case.RightParenthesis refl (λ k. refl)
        (weaker (λ ps v b m same. subst (λ ns. Is (made public n ns r xs) (behind_parameters m ps)) (sym (append-nil before)) (v m same))
        (result_back state.Parameters behind_parameters before r xs (λ k. refl) (λ k. refl) (λ k. refl) (λ m ps. refl) (λ m ps. refl) (λ m. refl) y h))
    more_back (k ∷ ks) before g =
        a_word state.MoreParameters state.Parameter refl word_case.Comma refl (λ k. refl)
        (a_name state.Parameter state.MoreParameters refl k g.0 (λ k. refl)
        (weaker (λ ps v p c m same. subst (λ ns. Is (made public n ns r xs) (behind_parameter (with_parameter m k p) ps)) (append_assoc before (k ∷ []) ks) (v (with_parameter m k p) (made_parameter public n before None [] m k p same)))
        (more_back ks (before ++ k ∷ []) g.1)))

    name_back : (ns : List (List ℕ)) → AllByRecursion IsName ns → Back state.MethodNamed (words_of_parameters ns ++ (words_of_result r ++ words_of_locals xs)) (Makes behind_name (made public n [] None []) (made public n ns r xs))
    unfolding part_of_word
    name_back [] g = result_back state.MethodNamed behind_name [] r xs (λ k. refl) (λ k. refl) (λ k. refl) (λ m ps. refl) (λ m ps. refl) (λ m. refl) y h
    name_back (k ∷ ks) g =
        same_words (ap (λ l. spelled.reserved word_case.LeftParenthesis ∷ spelled.name k ∷ l) (append_assoc (more_names ks) (spelled.reserved word_case.RightParenthesis ∷ []) (words_of_result r ++ words_of_locals xs)))
        (a_word state.MethodNamed state.Parameter refl word_case.LeftParenthesis refl (λ k. refl)
        (a_name state.Parameter state.MoreParameters refl k g.0 (λ k. refl)
        (weaker (λ ps v p c m same. v (with_parameter m k p) (made_parameter public n [] None [] m k p same)) (more_back ks (k ∷ []) g.1))))

head_back : (public : Bool) (m : MethodTree) → IsHead public m → Back state.MethodName (words_of_head m) (λ ps. Is (method_anywhere m) (head public ps))
head_back public m h =
    a_name state.MethodName state.MethodNamed refl m.name h.name (λ k. refl)
    (weaker (λ ps v p. subst (λ M. Is M (head public (name m.name p ∷ ps))) (sym h.same) (v (bare public m.name p) refl))
    (name_back public m.name m.result_name m.locals h.result h.locals m.params h.params))

pub read_back : (public : Bool) (m : MethodTree) → IsHead public m → ReadsBack (method_of_row public) method_anywhere state.MethodName (words_of_head m) m
read_back public m h = reads_back (method_of_row public) (head public) method_anywhere state.MethodName (words_of_head m) m (λ row. refl) (head_back public m h)

-- a head that was read has the word before it, and no lines

module _ (b : Bool) where
  abbrev IsHeadOf : MethodTree → Type 0
  IsHeadOf m = (m.public ≡ b) × (m.body ≡ no_statements)

  behind : (m : MethodTree) (rest : List Part) → IsHeadOf m → Where IsHeadOf (behind_result m rest)
  behind m (bar ∷ rest) h = where_map IsHeadOf (with_locals m) (λ xs. h) (variables 4 rest)
  behind m (line_end ∷ []) h = h
  behind m rest h = tt

  result : (m : MethodTree) (rest : List Part) → IsHeadOf m → Where IsHeadOf (result_named m rest)
  result m (name n p ∷ rest) h = behind (with_result m n p) rest h
  result m rest h = tt

  results : (m : MethodTree) (rest : List Part) → IsHeadOf m → Where IsHeadOf (behind_parameters m rest)
  results m (colon ∷ rest) h = result m rest h
  results m (bar ∷ rest) h = behind m (bar ∷ rest) h
  results m (line_end ∷ rest) h = behind m (line_end ∷ rest) h
  results m rest h = tt

  mutual
    more : (m : MethodTree) (rest : List Part) → IsHeadOf m → Where IsHeadOf (parameters m rest)
    more m (name n p ∷ rest) h = further (with_parameter m n p) rest h
    more m rest h = tt

    further : (m : MethodTree) (rest : List Part) → IsHeadOf m → Where IsHeadOf (behind_parameter m rest)
    further m (comma ∷ rest) h = more m rest h
    further m (right_parenthesis ∷ rest) h = results m rest h
    further m rest h = tt

  named : (m : MethodTree) (rest : List Part) → IsHeadOf m → Where IsHeadOf (behind_name m rest)
  named m (left_parenthesis ∷ rest) h = more m rest h
  named m (colon ∷ rest) h = results m (colon ∷ rest) h
  named m (bar ∷ rest) h = results m (bar ∷ rest) h
  named m (line_end ∷ rest) h = results m (line_end ∷ rest) h
  named m rest h = tt

  headed : (rest : List Part) → Where IsHeadOf (head b rest)
  headed (name n p ∷ rest) = named (bare b n p) rest (refl, refl)
  headed rest = tt

pub head_of : (b : Bool) (row : List Piece) (m : MethodTree) → method_of_row b row ≡ Some m → (m.public ≡ b) × (m.body ≡ no_statements)
head_of b row m e = where_is (IsHeadOf b) (method_of_row b row) m (headed b (parts row)) e
