-- Tables of what names mean, one entry more.
use Rattle.std.proofs.Common.{◌≡◌, ℕ, Bool, true, false, List, [], ◌∷◌, ◌++◌, length, take, get_or, ◌+◌, ◌<◌, Option, Some, None, inl, inr, refl, sym, ap, ◌∙◌}
use Rattle.std.specs.Prelude.{if◌then◌else◌, is_some, option_map, Vec, cond}
use Rattle.std.specs.Option.{option_or}
use Rattle.std.specs.Str.{bytes_eq}
use Rattle.std.specs.Map.{lookup}
use Rattle.std.specs.BTreeMap.{is_at}
use Rattle.std.specs.Ordering.{nat_cmp}
use Rattle.std.specs.Cmp.Lexicographic.{slice_cmp}
use Rattle.std.specs.declared.alloc.Global.{Global}
use Rattle.std.proofs.lemmas.Bool.{cases_Bool, false≢true}
use Rattle.std.proofs.lemmas.List.{take_more}
use Rattle.std.proofs.lemmas.Map.Text.{is_eq-slice_cmp}
use Rattle.std.proofs.lemmas.Slice.Eq.{bytes_eq-Decides}
use Rattle.p8_fold.specs.declared.meanings.Meaning.{Meaning}
use Rattle.p8_fold.specs.declared.meanings.Meaning.TheVariants as meaning_case
use Rattle.p8_fold.specs.Meanings.{Setting, entry, outside_operands}
use Rattle.p8_kinds.specs.declared.children.ChildConst.{ChildConst}
use Rattle.p8_kinds.specs.declared.children.Children.{Children}
use Rattle.p8_kinds.specs.declared.name_kinds.NameKind.{NameKind}
use Rattle.p8_kinds.specs.declared.name_kinds.NameKind.TheVariants as kind
use Rattle.p8_kinds.specs.declared.kinds.Kinds.{Kinds}
use Rattle.p8_kinds.specs.Entries.{Names, at_bytes, names_at, in_names}
use Rattle.p8_kinds.specs.FileSettings.{meaning_of_kind, named_constant, constant_among, constant_behind, file_setting, HasEntered, HasMeaning, IsSettingOf}

-- settings that give each entry the same meaning
pub same_settings : (s t : Setting) → ((n : List ℕ) → t.name n ≡ s.name n) → ((o n : List ℕ) → t.constant o n ≡ s.constant o n) → t.here ≡ s.here → t ≡ s
same_settings s t names constants here = λ i. record { name = λ n. names n i; constant = λ o n. constants o n i; here = here i }

or_none : (o : Option Meaning) → o ≡ option_or o None
or_none None = refl
or_none (Some m) = refl

or_assoc : (a b c : Option Meaning) → option_or (option_or a b) c ≡ option_or a (option_or b c)
or_assoc None b c = refl
or_assoc (Some m) b c = refl

or_covered : (a b : Option Meaning) → is_some a ≡ true → a ≡ option_or a b
or_covered None b h = absurd cc
or_covered (Some m) b h = refl

or_right : (a b : Option Meaning) → ((m : Meaning) → a ≡ Some m → b ≡ Some m) → option_or a b ≡ b
or_right None b h = refl
or_right (Some m) b h = sym (h m refl)

-- ---- the constants of an object

pub entered_nothing : (s : Setting) (o : List ℕ) (f : List ℕ → Option Meaning) → ((n : List ℕ) → f n ≡ None) → HasEntered s s o f
entered_nothing s o f none = record {
  names = λ n. refl;
  constants = λ n. or_none (s.constant o n) ∙ ap (option_or (s.constant o n)) (sym (none n));
  others = λ p n ne. refl;
  here = refl;
}

pub entered_along : {s t : Setting} (o : List ℕ) (f g : List ℕ → Option Meaning) → ((n : List ℕ) → f n ≡ g n) → HasEntered s t o f → HasEntered s t o g
entered_along {s} {t} o f g same h = record {
  names = h.names;
  constants = λ n. h.constants n ∙ ap (option_or (s.constant o n)) (same n);
  others = h.others;
  here = h.here;
}

pub entered_twice : {s t u : Setting} (o : List ℕ) (f g : List ℕ → Option Meaning) → HasEntered s t o f → HasEntered t u o g → HasEntered s u o (λ n. option_or (f n) (g n))
entered_twice {s} {t} {u} o f g h k = record {
  names = λ n. k.names n ∙ h.names n;
  constants = λ n. k.constants n ∙ ap (λ a. option_or a (g n)) (h.constants n) ∙ or_assoc (s.constant o n) (f n) (g n);
  others = λ p n ne. k.others p n ne ∙ h.others p n ne;
  here = k.here ∙ h.here;
}

unlike : (c : ChildConst) (n : List ℕ) → bytes_eq n c.name ≡ false → named_constant c n ≡ None
unlike c n e = ap (λ b. if b then Some (meaning_case.Value c.value) else None) e

alike : (c : ChildConst) (n : List ℕ) → bytes_eq n c.name ≡ true → named_constant c n ≡ Some (meaning_case.Value c.value)
alike c n e = ap (λ b. if b then Some (meaning_case.Value c.value) else None) e

-- a constant whose name is there already
pub constant_kept : (s : Setting) (o : List ℕ) (c : ChildConst) → is_some (s.constant o c.name) ≡ true → HasEntered s s o (named_constant c)
constant_kept s o c there = record {
  names = λ n. refl;
  constants = λ n.
      elim (cases_Bool (bytes_eq n c.name)) [
        | inl same ↦ or_covered (s.constant o n) (named_constant c n) (ap (λ n. is_some (s.constant o n)) ((bytes_eq-Decides n c.name).0 same) ∙ there)
        | inr apart ↦ or_none (s.constant o n) ∙ ap (option_or (s.constant o n)) (sym (unlike c n apart))
      ];
  others = λ p n ne. refl;
  here = refl;
}

some_is : {a b : List ℕ} → Some a ≡ Some b → a ≡ b
some_is e = cc

none_is_some : {P : Type 0} {o : List ℕ} → None ≡ Some o → P
none_is_some e = absurd cc

some_is_none : {P : Type 0} {o : List ℕ} → Some o ≡ None → P
some_is_none e = absurd cc

-- one that is entered
pub constant_set : (s t : Setting) (o : List ℕ) (c : ChildConst) → is_some (s.constant o c.name) ≡ false → entry t (Some o) c.name ≡ Some (meaning_case.Value c.value)
    → ((p : Option (List ℕ)) (n : List ℕ) → ¬ ((p ≡ Some o) × (n ≡ c.name)) → entry t p n ≡ entry s p n) → t.here ≡ s.here → HasEntered s t o (named_constant c)
constant_set s t o c none is others here = record {
  names = λ n. others None n (λ e. none_is_some e.0);
  constants = λ n.
      elim (cases_Bool (bytes_eq n c.name)) [
        | inl same ↦
            let e : n ≡ c.name = (bytes_eq-Decides n c.name).0 same in
            ap (t.constant o) e ∙ is ∙ sym (alike c n same) ∙ sym (ap (λ a. option_or a (named_constant c n)) (ap (s.constant o) e ∙ is_none (s.constant o c.name) none))
        | inr apart ↦ others (Some o) n (λ e. false≢true (sym apart ∙ (bytes_eq-Decides n c.name).1 e.1)) ∙ or_none (s.constant o n) ∙ ap (option_or (s.constant o n)) (sym (unlike c n apart))
      ];
  others = λ p n ne. others (Some p) n (λ e. ne (some_is e.0));
  here = here;
}
  where
    is_none : (a : Option Meaning) → is_some a ≡ false → a ≡ None
    is_none None h = refl
    is_none (Some m) h = absurd cc

constants_push : (cs : List ChildConst) (c : ChildConst) (n : List ℕ) → option_or (constant_among cs n) (named_constant c n) ≡ constant_among (cs ++ c ∷ []) n
constants_push [] c n = or_none (named_constant c n)
constants_push (x ∷ cs) c n = or_assoc (named_constant x n) (constant_among cs n) (named_constant c n) ∙ ap (option_or (named_constant x n)) (constants_push cs c n)

-- the constants up to a place, and the one there
pub constants_next : {s t u : Setting} (o : List ℕ) (cs : List ChildConst) (i : ℕ) (d : ChildConst) → i < length cs → HasEntered s t o (constant_among (take i cs)) → HasEntered t u o (named_constant (get_or cs i d)) → HasEntered s u o (constant_among (take (i + 1) cs))
constants_next o cs i d lt h k =
    entered_along o (λ n. option_or (constant_among (take i cs) n) (named_constant (get_or cs i d) n)) (constant_among (take (i + 1) cs))
    (λ n. constants_push (take i cs) (get_or cs i d) n ∙ sym (ap (λ cs. constant_among cs n) (take_more cs i d lt)))
    (entered_twice o (constant_among (take i cs)) (named_constant (get_or cs i d)) h k)

-- ---- a name

-- after a name that is no object stands nothing
pub nothing_behind : (children : Children) (k : NameKind) → ((item position count : ℕ) → ¬ (k ≡ kind.Object item position count)) → (n : List ℕ) → constant_behind children (Some k) n ≡ None
nothing_behind children (kind.Object item position count) h n = absurd (h item position count refl)
nothing_behind children (kind.Const v) h n = refl
nothing_behind children (kind.Global size offset) h n = refl
nothing_behind children (kind.Local offset) h n = refl
nothing_behind children (kind.Label size) h n = refl
nothing_behind children (kind.Method number params) h n = refl

pub meaning_entered : (s m t : Setting) (name : List ℕ) (k : NameKind) (children : Children) → entry m None name ≡ Some (meaning_of_kind k)
    → ((p : Option (List ℕ)) (n : List ℕ) → ¬ ((p ≡ None) × (n ≡ name)) → entry m p n ≡ entry s p n) → m.here ≡ s.here → HasEntered m t name (constant_behind children (Some k)) → HasMeaning s t name k children
meaning_entered s m t name k children is others here h = record {
  named = h.names name ∙ is;
  others = λ n ne. h.names n ∙ others None n (λ e. ne e.1);
  constants = λ n. h.constants n ∙ ap (λ a. option_or a (constant_behind children (Some k) n)) (others (Some name) n (λ e. some_is_none e.0));
  other_objects = λ o n ne. h.others o n ne ∙ others (Some o) n (λ e. some_is_none e.0);
  here = h.here ∙ here;
}

-- ---- all names of a map

abbrev Key : Type 0
Key = Vec ℕ Global

abbrev at : List ℕ → List (Key × NameKind) → Option NameKind
at n es = lookup (is_at (λ k. slice_cmp nat_cmp n k.items)) es

-- what is right while these entries are left
pub record IsPartly (names : Names) (children : Children) (rest : List (Key × NameKind)) (s : Setting) : Type 0 where
  pub named : (n : List ℕ) → at n rest ≡ None → s.name n ≡ option_map meaning_of_kind (at_bytes n names)
  pub constants : (o n : List ℕ) → at o rest ≡ None → s.constant o n ≡ constant_behind children (at_bytes o names) n
  pub right : (o n : List ℕ) (m : Meaning) → s.constant o n ≡ Some m → constant_behind children (at_bytes o names) n ≡ Some m

pub partly_first : (names : Names) (children : Children) (s : Setting) → ((n : List ℕ) → s.name n ≡ None) → ((o n : List ℕ) → s.constant o n ≡ None) → IsPartly names children names.entries s
partly_first names children s no_name no_constant = record {
  named = λ n h. no_name n ∙ sym (ap (option_map meaning_of_kind) h);
  constants = λ o n h. no_constant o n ∙ sym (ap (λ k. constant_behind children k n) h);
  right = λ o n m e. absurd (is_nothing m (sym (no_constant o n) ∙ e));
}
  where
    is_nothing : (m : Meaning) → None ≡ Some m → ⊥
    is_nothing m e = cc

pub partly_last : (names : Names) (children : Children) (s : Setting) → IsPartly names children [] s → IsSettingOf names children s
partly_last names children s h = record { named = λ n. h.named n refl; constants = λ o n. h.constants o n refl }

apart_at : (n : List ℕ) (k : Key) (v : NameKind) (rest : List (Key × NameKind)) → bytes_eq n k.items ≡ false → at n ((k, v) ∷ rest) ≡ at n rest
apart_at n k v rest e = ap (λ b. cond b (Some v) (at n rest)) (is_eq-slice_cmp n k.items ∙ e)

in_front : (b : Bool) (w : NameKind) (x y : Option NameKind) → cond b (Some w) x ≡ None → (x ≡ None → y ≡ None) → cond b (Some w) y ≡ None
in_front true w x y h f = absurd cc
in_front false w x y h f = f h

-- one entry more at the end, of another name
apart_last : (n : List ℕ) (k : Key) (v : NameKind) (rest : List (Key × NameKind)) → bytes_eq n k.items ≡ false → at n rest ≡ None → at n (rest ++ (k, v) ∷ []) ≡ None
apart_last n k v [] e none = apart_at n k v [] e ∙ none
apart_last n k v ((j, w) ∷ rest) e none = in_front (is_at (λ k. slice_cmp nat_cmp n k.items) j) w (at n rest) (at n (rest ++ (k, v) ∷ [])) none (apart_last n k v rest e)

module _ (names : Names) (children : Children) (k : Key) (v : NameKind) (rest : List (Key × NameKind)) (s t : Setting) (found : at_bytes k.items names ≡ Some v) (h : IsPartly names children (rest ++ (k, v) ∷ []) s) (e : HasMeaning s t k.items v children) where
  here_right : (n : List ℕ) → t.constant k.items n ≡ constant_behind children (at_bytes k.items names) n
  here_right n =
      let is : constant_behind children (at_bytes k.items names) n ≡ constant_behind children (Some v) n = ap (λ a. constant_behind children a n) found in
      e.constants n ∙ or_right (s.constant k.items n) (constant_behind children (Some v) n) (λ m r. sym is ∙ h.right k.items n m r) ∙ sym is

  differs : (n : List ℕ) → bytes_eq n k.items ≡ false → ¬ (n ≡ k.items)
  differs n apart same = false≢true (sym apart ∙ (bytes_eq-Decides n k.items).1 same)

  pub partly_next : IsPartly names children rest t
  partly_next = record {
    named = λ n none.
        elim (cases_Bool (bytes_eq n k.items)) [
          | inl same ↦
              let is : n ≡ k.items = (bytes_eq-Decides n k.items).0 same in
              ap t.name is ∙ e.named ∙ sym (ap (option_map meaning_of_kind) (ap (λ n. at_bytes n names) is ∙ found))
          | inr apart ↦ e.others n (differs n apart) ∙ h.named n (apart_last n k v rest apart none)
        ];
    constants = λ o n none.
        elim (cases_Bool (bytes_eq o k.items)) [
          | inl same ↦
              let is : o ≡ k.items = (bytes_eq-Decides o k.items).0 same in
              ap (λ o. t.constant o n) is ∙ here_right n ∙ sym (ap (λ o. constant_behind children (at_bytes o names) n) is)
          | inr apart ↦ e.other_objects o n (differs o apart) ∙ h.constants o n (apart_last o k v rest apart none)
        ];
    right = λ o n m r.
        elim (cases_Bool (bytes_eq o k.items)) [
          | inl same ↦
              let is : o ≡ k.items = (bytes_eq-Decides o k.items).0 same in
              ap (λ o. constant_behind children (at_bytes o names) n) is ∙ sym (here_right n) ∙ sym (ap (λ o. t.constant o n) is) ∙ r
          | inr apart ↦ h.right o n m (sym (e.other_objects o n (differs o apart)) ∙ r)
        ];
  }

-- ---- a file

pub no_names : (kinds : Kinds) (children : Children) (s : Setting) → s.here ≡ outside_operands None → names_at 0 kinds.scopes ≡ None → ((o : Option (List ℕ)) (n : List ℕ) → entry s o n ≡ None) → s ≡ file_setting kinds children
no_names kinds children s here none empty =
    same_settings (file_setting kinds children) s (λ n. empty None n ∙ sym (ap (λ a. option_map meaning_of_kind (in_names n a)) none))
    (λ o n. empty (Some o) n ∙ sym (ap (λ a. constant_behind children (in_names o a) n) none)) here
