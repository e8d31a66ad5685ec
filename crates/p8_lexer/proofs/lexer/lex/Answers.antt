use Rattle.std.proofs.Common.{◌≡◌, ◌∙◌, ◌+◌, length, drop, sym, ap, subst, false, arith}
use Rattle.std.proofs.lemmas.List.{length-drop}
use Rattle.p8_tree.specs.declared.refusal.Refusal.TheVariants.{BadByte}
use Rattle.p8_lexer.specs.Characters.{text_of}
use Rattle.p8_lexer.specs.Places.{place_of}
use Rattle.p8_lexer.specs.Lexing.{IsStuck}
use Rattle.p8_lexer.specs.Cutting.{IsCut}
use Rattle.p8_lexer.proofs.Files.{one_further, text_short, whole, stuck_refusal, half_refusal, never_both, length_fault, fault_is, positive}
use Rattle.p8_lexer.proofs.lexer.lex.Goals as goal

pub returns-then-bytes-gt-LONGEST_FILE-clause-refused : goal.returns-then-bytes-gt-LONGEST_FILE-clause-refused
returns-then-bytes-gt-LONGEST_FILE-clause-refused c = length_fault c.args.bytes.now c.at.result (omega arith) c.at.ensures

pub add-requires : goal.add-requires
add-requires c =
    let bytes = c.args.bytes.now in
    let at = c.pieces.at in
    let rest = c.skip.ensures ∙ ap (drop at) c.of_file-text.ensures in
    let cut = subst (λ t. IsCut t c.in-Ok.cut) rest c.in-Ok.ensures in
    omega (arith, cut.0.within, length-drop at (text_of bytes), text_short bytes, c.pieces.invariant.within)

pub place_at-place-requires-clause-short : goal.place_at-place-requires-clause-short
place_at-place-requires-clause-short c = omega (arith, ap length c.of_file-text.ensures, text_short c.args.bytes.now)

pub pieces-smaller : goal.pieces-smaller
pieces-smaller c =
    let bytes = c.args.bytes.now in
    let at = c.pieces.at in
    let rest = c.skip.ensures ∙ ap (drop at) c.of_file-text.ensures in
    let cut = subst (λ t. IsCut t c.in-Ok.cut) rest c.in-Ok.ensures in
    let some = positive c.in-Ok.cut.kind (drop at (text_of bytes)) c.in-Ok.cut.length cut.0.within cut.0.is in
    omega (arith, some, cut.0.within, length-drop at (text_of bytes))

pub pieces-preserved : goal.pieces-preserved
pieces-preserved c =
    let bytes = c.args.bytes.now in
    let at = c.pieces.at in
    let rest = c.skip.ensures ∙ ap (drop at) c.of_file-text.ensures in
    let cut = subst (λ t. IsCut t c.in-Ok.cut) rest c.in-Ok.ensures in
    record {
      within = omega (arith, cut.0.within, length-drop at (text_of bytes), c.pieces.invariant.within);
      so_far = one_further bytes at c.pieces.tokens.items c.add.new.tokens.items c.in-Ok.cut c.pieces.place c.pieces.invariant.so_far c.pieces.invariant.here cut c.in_ok-add-in-Ok.ensures;
      here = c.place_at-place.ensures ∙ ap (λ t. place_of t (at + c.in-Ok.cut.length)) c.of_file-text.ensures;
    }

pub returns-in-Err-clause-refused : goal.returns-in-Err-clause-refused
returns-in-Err-clause-refused c =
    let bytes = c.args.bytes.now in
    let at = c.pieces.at in
    let rest = c.skip.ensures ∙ ap (drop at) c.of_file-text.ensures in
    fault_is bytes c.in-Err.refusal c.pieces.place c.at-in-Err.result (omega arith) c.at-in-Err.ensures
    (stuck_refusal bytes at c.pieces.tokens.items c.in-Err.refusal c.pieces.place c.pieces.invariant.so_far (subst (IsStuck c.in-Err.refusal false) rest c.in-Err.ensures) c.pieces.invariant.here)

pub returns-then-ends_in_half-clause-refused : goal.returns-then-ends_in_half-clause-refused
returns-then-ends_in_half-clause-refused c =
    let bytes = c.args.bytes.now in
    let end : c.pieces.at ≡ length (text_of bytes) = omega (arith, c.pieces-test.false, c.len.ensures, ap length c.of_file-text.ensures, c.pieces.invariant.within) in
    fault_is bytes BadByte c.pieces.place c.at-then-ends_in_half.result (omega arith) c.at-then-ends_in_half.ensures
    (half_refusal bytes c.pieces.at c.pieces.tokens.items c.pieces.place c.pieces.invariant.so_far end (sym c.if-ends_in_half.ensures) c.pieces.invariant.here)

pub returns-clause-accepted : goal.returns-clause-accepted
returns-clause-accepted c =
    let bytes = c.args.bytes.now in
    let end : c.pieces.at ≡ length (text_of bytes) = omega (arith, c.pieces-test.false, c.len.ensures, ap length c.of_file-text.ensures, c.pieces.invariant.within) in
    λ fault h. never_both bytes c.pieces.tokens.items fault (whole bytes c.pieces.at c.pieces.tokens.items end (sym c.if-ends_in_half.ensures) c.pieces.invariant.so_far) (omega arith) h
