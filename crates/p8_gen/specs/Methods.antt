-- The code of a method.
use Rattle.std.specs.Prelude.{ℕ, List, flat_map, None}
use Rattle.p8_bytecode.specs.Spelling.{spelled}
use Rattle.p8_tree.specs.Statements.{Statements}
use Rattle.p8_gen.specs.Names.{Names}
use Rattle.p8_gen.specs.Pieces.{Written, empty, ◌⨾◌, of_statement, byte}
use Rattle.p8_gen.specs.Statements.{body}

-- the bytes of code, one bytecode after the other
abbrev pub bytes_of : Written → List ℕ
bytes_of w = flat_map spelled w.ops

-- the code of a method: its body, and a RETURN, which is made from no statement of the body and has the place that the names tell
abbrev pub method_code : Names → Statements → Written
method_code names ss = (body names None ss ⨾ of_statement names.statement (byte 0x32)) empty
