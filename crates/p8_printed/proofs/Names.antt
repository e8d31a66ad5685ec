-- Nothing is wrong with the names of the file with a long's line: it has none.
use Rattle.std.proofs.Common.{◌≡◌, ℕ, inl, inr, Bool, true, false, [], None, sym, subst, arith}
use Rattle.std.specs.Prelude.{◌==◌, if◌then◌else◌}
use Rattle.p8_tree.specs.declared.places.Place.{Place}
use Rattle.p8_tree.specs.Sources.{Instruction, Instr, Line}
use Rattle.p8_tree.specs.declared.faults.Fault.{Fault}
use Rattle.p8_instr.specs.Instruction.{instr_of}
use Rattle.p8_dat.specs.Printed.{printed_line}
use Rattle.p8_constants.specs.FileItems.{items}
use Rattle.p8_kinds.specs.declared.children.Children.{Children}
use Rattle.p8_kinds.specs.Environments.{Environment}
use Rattle.p8_names.specs.Faults.{UnknownInContents, in_data, repeated, own_repeated, label_repeated, too_many_params, no_pub, count, instances, of_method, in_line, IsNameFault, of_constant, of_name}
use Rattle.p8_printed.specs.ReadBack.{nop_line, read_line, IsLineOf, file_with}

no_name : (env : Environment) (long : ℕ) (p q : Place) (f : Fault) → ¬ UnknownInContents env (Instr (read_line long p q)) f
no_name env long p q f = go (long == 0)
  where
    printed : ¬ UnknownInContents env (Instr (printed_line (instr_of long) p q)) f
    printed (inl (inl e)) = absurd cc
    printed (inl (inr b)) = b
    printed (inr (inl e)) = absurd cc
    printed (inr (inr b)) = b

    nop : ¬ UnknownInContents env (Instr (nop_line p)) f
    nop (inl b) = b
    nop (inr b) = b

    go : (b : Bool) → ¬ UnknownInContents env (Instr (if b then nop_line p else printed_line (instr_of long) p q)) f
    go true = nop
    go false = printed

abbrev at : Place → Place → Instruction → Line
at p w x = record { place = p; label = None; word_place = w; contents = Instr x }

no_fault : (children : Children) (p w : Place) (x : Instruction) → ((env : Environment) (f : Fault) → ¬ UnknownInContents env (Instr x) f) → (f : Fault) → ¬ IsNameFault (file_with (at p w x)) children false f
no_fault children p w x h f (of_constant c) = absurd (omega (arith, c.stands.1))
no_fault children p w x h f (of_name s right (repeated b)) = b
no_fault children p w x h f (of_name s right (own_repeated (inl b))) = b
no_fault children p w x h f (of_name s right (own_repeated (inr b))) = b
no_fault children p w x h f (of_name s right (label_repeated (inl b))) = b
no_fault children p w x h f (of_name s right (label_repeated (inr b))) = b
no_fault children p w x h f (of_name s right (too_many_params (inl b))) = b
no_fault children p w x h f (of_name s right (too_many_params (inr b))) = b
no_fault children p w x h f (of_name s right (no_pub y)) = absurd cc
no_fault children p w x h f (of_name s right (count (inl b))) = b
no_fault children p w x h f (of_name s right (count (inr b))) = b
no_fault children p w x h f (of_name s right (instances (inl b))) = b
no_fault children p w x h f (of_name s right (instances (inr b))) = b
no_fault children p w x h f (of_name s right (of_method b)) = b
no_fault children p w x h f (of_name s right (in_line (inl y))) = h (in_data s (items (file_with (at p w x))) children []) f y
no_fault children p w x h f (of_name s right (in_line (inr b))) = b

pub no_name_fault : (long : ℕ) (line : Line) (children : Children) → IsLineOf long line → (f : Fault) → ¬ IsNameFault (file_with line) children false f
no_name_fault long line children is f =
    let its_line : at line.place line.word_place (read_line long is.destination is.source) ≡ line = λ i. record { place = line.place; label = sym is.label i; word_place = line.word_place; contents = sym is.contents i } in
    subst (λ l. ¬ IsNameFault (file_with l) children false f) its_line
    (no_fault children line.place line.word_place (read_line long is.destination is.source) (λ env f. no_name env long is.destination is.source f) f)
