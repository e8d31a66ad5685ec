-- The code of a method stands in the memory of an image.
use Rattle.std.proofs.Common.{◌≡◌, ◌≤◌, ℕ, List, [], ◌∷◌, ◌++◌, map, drop, slice_index, refl, sym, ap, ◌∙◌, subst, arith}
use Rattle.std.specs.Prelude.{Contains}
use Rattle.p8_tree.specs.declared.places.Place.{Place}
use Rattle.p8_tree.specs.Sources.{MethodTree}
use Rattle.p8_tree.specs.declared.faults.Fault.{Fault}
use Rattle.p8_tree.specs.Faults.{fault}
use Rattle.p8_tree.specs.declared.refusal.Refusal.TheVariants.{JumpTooFar}
use Rattle.p8_image.specs.Layout.{linked}
use Rattle.p8_image.specs.Loading.{memory_of}
use Rattle.p8_image.specs.Places.{Stands}
use Rattle.p8_gen.specs.declared.code.StringUse.{StringUse}
use Rattle.p8_gen.specs.Names.{Names, moved}
use Rattle.p8_gen.specs.Pieces.{Written}
use Rattle.p8_gen.specs.Methods.{bytes_of, method_code}
use Rattle.p8_gen.specs.Uses.{line_of, use_of}
use Rattle.p8_stmt.specs.declared.code.MethodCode.{MethodCode}
use Rattle.p8_stmt.specs.Methods.{IsCodeOf, IsMethodFault, jump_too_far, use_in}
use Rattle.p8_compiled.specs.Placing.{HasCode, HasLines}
use Rattle.p8_compiled.proofs.Lengths.{method-measured}
use Rattle.p8_build.specs.Strings.{Texts}
use Rattle.p8_build.specs.Parts.{text_number, use_of_text}
use Rattle.p8_opt.proofs.Linking.{zeros, twins}
use Rattle.p8_opt.proofs.Linked.{linked-is, used}
use Rattle.p8_image.proofs.Memories.{Lies}
use Rattle.p8_opt.proofs.Images.{code-is, drop-is}

module _ (strings : Texts) (offsets : List ℕ) where
  abbrev pub text : Place → ℕ
  text p = slice_index offsets (text_number strings p)

  abbrev number : Place → ℕ
  number p = text_number strings p

  uses-are : (us : List StringUse) → map (use_of_text strings) us ≡ map (used text (slice_index offsets) number (λ p. refl)) (map use_of us)
  uses-are [] = refl
  uses-are (u ∷ us) = ap (λ vs. use_of_text strings u ∷ vs) (uses-are us)

  module _ (names : Names) (s : Place) (m : MethodTree) where
    abbrev bare_code : Written
    bare_code = method_code (moved names zeros s) m.body

    abbrev whole : Written
    whole = method_code (moved names text s) m.body

    -- the bytes with the offsets of texts are those of the code that has them
    code-bytes : (code : MethodCode) → IsCodeOf (moved names zeros s) m code → linked (slice_index offsets) (map (use_of_text strings) code.strings) code.bytes ≡ bytes_of whole
    code-bytes code is =
        let f : ℕ → ℕ = slice_index offsets in
        let links = used text f number (λ p. refl) in
        ap (λ us. linked f us code.bytes) (uses-are code.strings ∙ ap (map links) is.strings)
        ∙ ap (linked f (map links (map (use_in bare_code) bare_code.texts))) is.bytes
        ∙ linked-is text f number (λ p. refl) (twins text names s m.body).ops

    none-in : (xs : List Place) → ((p : Place) → Contains xs p → ⊥) → xs ≡ []
    none-in [] never = refl
    none-in (x ∷ xs) never = absurd (never x (0, omega arith, refl))

    -- no jump goes too far
    near : ((f : Fault) → IsMethodFault (moved names zeros s) m f → ⊥) → whole.too_far ≡ []
    near clean = sym (twins text names s m.body).far ∙ none-in bare_code.too_far (λ p has. clean (fault JumpTooFar p) (jump_too_far p has refl))

    pub has-code : (code : MethodCode) (image : List ℕ) (entry : ℕ) → IsCodeOf (moved names zeros s) m code → ((f : Fault) → IsMethodFault (moved names zeros s) m f → ⊥) → Lies image → 16 ≤ entry
        → Stands image entry (linked (slice_index offsets) (map (use_of_text strings) code.strings) code.bytes) → HasCode (memory_of image) entry whole
    has-code code image entry is clean lies low stands = record {
      begins = low;
      rest = stands.after;
      bytes = ap (drop entry) (code-is image lies) ∙ drop-is image entry _ stands ∙ ap (λ xs. xs ++ stands.after) (code-bytes code is);
      ends = method-measured (moved names text s) m.body;
      near = near clean;
    }

    -- it has the lines of the code
    pub has-lines : (code : MethodCode) (table : List (ℕ × Place)) (entry : ℕ) → IsCodeOf (moved names zeros s) m code → HasLines table entry (map line_of code.lines) → HasLines table entry whole.lines
    has-lines code table entry is lines = subst (HasLines table entry) (is.lines ∙ (twins text names s m.body).lines) lines
