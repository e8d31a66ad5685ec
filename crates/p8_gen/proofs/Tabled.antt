-- The tables of a file: labels one after the other, and what the names of a method mean by the tables.
use Rattle.std.proofs.Common.{◌≡◌, inl, inr, ℕ, ◌+◌, ◌-◌, ◌<◌, ◌≤◌, List, [], ◌∷◌, length, drop, get_or, Option, Some, None, sym, ap, ◌∙◌, subst, arith}
use Rattle.std.specs.Prelude.{IfSome, map, if◌then◌else◌}
use Rattle.std.specs.Option.{option_or}
use Rattle.std.specs.Str.{bytes_eq}
use Rattle.std.proofs.lemmas.Bool.{cases_Bool, false≢true}
use Rattle.std.proofs.lemmas.List.{drop_more, drop_all}
use Rattle.std.proofs.lemmas.Slice.Eq.{bytes_eq-Decides}
use Rattle.p8_words.specs.Operators.{or_zero}
use Rattle.p8_fold.specs.ConstantEntries.{setting_of}
use Rattle.p8_tree.specs.declared.places.Place.{Place}
use Rattle.p8_kinds.specs.declared.children.Children.{Children}
use Rattle.p8_kinds.specs.declared.kinds.Kinds.{Kinds}
use Rattle.p8_kinds.specs.declared.name_kinds.Label.{Label}
use Rattle.p8_kinds.specs.Kinds.{own}
use Rattle.p8_kinds.specs.Publics.{public_of}
use Rattle.p8_kinds.specs.FileSettings.{file_setting}
use Rattle.p8_gen.specs.declared.coder.Tables.{Tables}
use Rattle.p8_gen.specs.declared.writer.Kept.{Kept}
use Rattle.p8_gen.specs.declared.writer.Writer.{Writer}
use Rattle.p8_gen.specs.Pieces.{Written}
use Rattle.p8_gen.specs.Files.{kind_here, named_offset, first_offset, names_in}
use Rattle.p8_gen.specs.Labels.{offset_in}
use Rattle.p8_gen.specs.Names.{all_wide}
use Rattle.p8_gen.specs.Scopes.{names_from}
use Rattle.p8_gen.specs.Uses.{use_of}
use Rattle.p8_gen.specs.Writing.{Stands}

-- of what stands at names, where a label was entered
pub label_entered : (x : Label) (old new : List ℕ → Option ℕ) → new x.name ≡ Some x.offset → ((n : List ℕ) → ¬ (n ≡ x.name) → new n ≡ old n) → (n : List ℕ) → new n ≡ option_or (named_offset x n) (old n)
label_entered x old new is others n =
    elim (cases_Bool (bytes_eq n x.name)) [
      | inl same ↦ ap new ((bytes_eq-Decides n x.name).0 same) ∙ is ∙ sym (ap (λ b. option_or (if b then Some x.offset else None) (old n)) same)
      | inr apart ↦ others n (λ e. false≢true (sym apart ∙ (bytes_eq-Decides n x.name).1 e)) ∙ sym (ap (λ b. option_or (if b then Some x.offset else None) (old n)) apart)
    ]

pub no_labels : (xs : List Label) (n : List ℕ) → first_offset (drop (length xs) xs) n ≡ None
no_labels xs n = ap (λ ys. first_offset ys n) (drop_all (length xs) xs (omega arith))

-- the labels from a place on, and the one before it
pub labels_more : (xs : List Label) (k : ℕ) (x : Label) (n : List ℕ) → 0 < k → k ≤ length xs → x ≡ get_or xs (k - 1) x → option_or (named_offset x n) (first_offset (drop k xs) n) ≡ first_offset (drop (k - 1) xs) n
labels_more xs k x n p l e =
    let last : drop (k - 1) xs ≡ x ∷ drop k xs =
    drop_more xs (k - 1) x (omega arith) ∙ ap (λ y. y ∷ drop ((k - 1) + 1) xs) (sym e) ∙ ap (λ (j : ℕ). x ∷ drop j xs) (let same : (k - 1) + 1 ≡ k = omega arith in same) in
    sym (ap (λ ys. first_offset ys n) last)

pub names_same : (found : Kinds) (method : ℕ) (t : Tables) (statement : Place) (children : Children) (labels : List Label) →
    ((item : ℕ) (name : List ℕ) → own t.publics item name ≡ public_of children item name) →
    setting_of t.consts ≡ file_setting found children →
    ((name : List ℕ) → offset_in t.labels name ≡ first_offset labels name) →
    names_from found method t statement ≡ names_in found children labels method statement
names_same found method t statement children labels p s l = λ i. record {
  kind = kind_here found method;
  public = λ item name. p item name i;
  constants = s i;
  label = λ name. ap or_zero (l name) i;
  text = λ place. 0;
  wide = all_wide;
  statement = statement;
}

pub kept_ops : (out : Writer) (w : Written) (k : Kept) → Stands out w → Some k ≡ out.kept → k.ops.items ≡ w.ops
kept_ops out w k stands is = subst (λ o. IfSome o (λ k. k.ops.items ≡ w.ops)) (sym is) stands.ops

pub kept_texts : (out : Writer) (w : Written) (k : Kept) → Stands out w → Some k ≡ out.kept → map use_of k.strings.items ≡ w.texts
kept_texts out w k stands is = subst (λ o. IfSome o (λ k. map use_of k.strings.items ≡ w.texts)) (sym is) stands.texts
