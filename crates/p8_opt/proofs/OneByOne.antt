-- The short codes of a file's methods, and of files, one by one.
use Rattle.std.proofs.Common.{◌≡◌, inl, inr, ℕ, ◌+◌, List, [], ◌∷◌, ◌++◌, length, slice_get, Some, refl, ap, sym, ◌∙◌, subst}
use Rattle.std.proofs.lemmas.Option.{none-some, same_Some}
use Rattle.p8_tree.specs.Projects.{NamedSource}
use Rattle.p8_tree.specs.Sources.{MethodTree}
use Rattle.p8_kinds.specs.FileSettings.{file_setting}
use Rattle.p8_kinds.specs.declared.kinds.Kinds.{Kinds}
use Rattle.p8_gen.specs.declared.coder.Tables.{Tables}
use Rattle.p8_gen.specs.Files.{names_in}
use Rattle.p8_gen.specs.Names.{Names}
use Rattle.p8_gen.proofs.Tabled.{names_same}
use Rattle.p8_stmt.specs.declared.code.MethodCode.{MethodCode}
use Rattle.p8_stmt.specs.Jumps.{IsShortCode}
use Rattle.p8_build.specs.declared.accepting.AcceptedFile.{AcceptedFile}
use Rattle.p8_build.specs.Accepted.{compiled_file, recoded_file, methods_of}
use Rattle.p8_build.specs.Files.{names_with}
use Rattle.p8_build.proofs.Lists.{at_more}
use Rattle.p8_meaning.specs.Constants.{constants_in}
use Rattle.p8_meaning.specs.Folding.{folded_body}
use Rattle.p8_opt.specs.Shorts.{IsShort}
use Rattle.p8_opt.specs.Steps.{constants_by, CanBeFolded, AreFoldable, AreShortCodes, IsAcceptedFile, IsItsShort, AreAllShort}
use Rattle.p8_opt.proofs.Ready.{foldable}

module _ (kinds : Kinds) (tables : Tables) (ms : List MethodTree) where
  pub no-codes : (codes : List MethodCode) → codes ≡ [] → AreShortCodes kinds tables ms codes
  no-codes codes none = subst (AreShortCodes kinds tables ms) (sym none) (record { each = λ k m code at there. absurd (none-some code there) })

  pub one-code-more : (k : ℕ) (m : MethodTree) (codes more : List MethodCode) (code : MethodCode) → slice_get ms k ≡ Some m → length codes ≡ k → AreShortCodes kinds tables ms codes
      → IsShortCode (names_with kinds tables k m) m (folded_body (constants_by tables) m.body) code → more ≡ codes ++ code ∷ [] → AreShortCodes kinds tables ms more
  one-code-more k m codes more code at long are short is =
      subst (AreShortCodes kinds tables ms) (sym is) (record {
        each = λ j n d at_n there. elim (at_more codes code j there) [
          | inl old ↦ are.each j n d at_n old
          | inr new ↦
              let place : k ≡ j = sym long ∙ sym new.0 in
              let P : ℕ → MethodTree → MethodCode → Type 0 = λ j n d. IsShortCode (names_with kinds tables j n) n (folded_body (constants_by tables) n.body) d in
              let here : slice_get ms j ≡ Some m = ap (slice_get ms) (sym place) ∙ at in
              subst (λ (z : MethodTree). P j z d) (same_Some m n (sym here ∙ at_n)) (subst (λ (z : MethodCode). P j m z) (sym new.1) (subst (λ (z : ℕ). P z m code) place short))
        ];
      })

module _ (accepted : List AcceptedFile) where
  pub no-files : (codes : List (List MethodCode)) → codes ≡ [] → AreAllShort accepted codes
  no-files codes none = subst (AreAllShort accepted) (sym none) (record { each = λ i f own at is. absurd (none-some own is) })

  pub one-file-more : (i : ℕ) (f : AcceptedFile) (codes more : List (List MethodCode)) (own : List MethodCode) → slice_get accepted i ≡ Some f → length codes ≡ i → AreAllShort accepted codes
      → IsItsShort f own → more ≡ codes ++ own ∷ [] → AreAllShort accepted more
  one-file-more i f codes more own at long are short is =
      subst (AreAllShort accepted) (sym is) (record {
        each = λ j g o at_g there. elim (at_more codes own j there) [
          | inl old ↦ are.each j g o at_g old
          | inr new ↦
              let place : i ≡ j = sym long ∙ sym new.0 in
              let here : slice_get accepted j ≡ Some f = ap (slice_get accepted) (sym place) ∙ at in
              subst (λ (z : AcceptedFile). IsItsShort z o) (same_Some f g (sym here ∙ at_g)) (subst (IsItsShort f) (sym new.1) short)
        ];
      })

-- ---- a file

module _ (f : AcceptedFile) (file : IsAcceptedFile f) where
  same-names : (k : ℕ) (m : MethodTree) → names_with f.kinds f.tables k m ≡ names_in f.kinds file.children f.dat.labels (k + 1) m.place
  same-names k m = names_same f.kinds (k + 1) f.tables m.place file.children f.dat.labels file.tables.publics file.tables.consts file.tables.labels

  pub are-foldable : AreFoldable f.kinds f.tables (methods_of f)
  are-foldable = subst (AreFoldable f.kinds f.tables) (sym file.tables.methods_are) (record {
    each = λ k m at.
        let own_source : NamedSource = record { name = []; tree = file.source } in
        subst (λ (names : Names). CanBeFolded names (constants_by f.tables) m) (sym (same-names k m))
        (subst (λ s. CanBeFolded (names_in f.kinds file.children f.dat.labels (k + 1) m.place) (constants_in s) m) (sym file.tables.consts)
        (foldable own_source file.children file.top (compiled_file f) file.is file.proper k m at file.words));
  })

  pub codes-short : (codes : List MethodCode) → length codes ≡ length (methods_of f) → AreShortCodes f.kinds f.tables (methods_of f) codes
      → IsShort file.source file.children (compiled_file f) (recoded_file f codes)
  codes-short codes long are = record {
    kinds = refl;
    dat = refl;
    labels = refl;
    count = long ∙ ap length file.tables.methods_are;
    each = λ k m code at there.
        subst (λ (names : Names). IsShortCode names m (folded_body (constants_in (file_setting f.kinds file.children)) m.body) code) (same-names k m)
        (subst (λ s. IsShortCode (names_with f.kinds f.tables k m) m (folded_body (constants_in s) m.body) code) file.tables.consts
        (are.each k m code (ap (λ xs. slice_get xs k) file.tables.methods_are ∙ at) there));
  }
