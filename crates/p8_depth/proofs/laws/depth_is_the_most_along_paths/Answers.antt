use Rattle.std.proofs.Common.{None, sym, subst, ◌^◌, ◌<◌, length}
use Rattle.std.specs.Prelude.{All, map}
use Rattle.p8_gen.specs.Uses.{line_of}
use Rattle.p8_gen.specs.Methods.{bytes_of, method_code}
use Rattle.p8_depth.specs.Entries.{entries_of_method}
use Rattle.p8_depth.specs.Paths.{IsComeTo, IsDepth}
use Rattle.p8_depth.proofs.Methods.{depth-is, each-line}
use Rattle.p8_depth.proofs.Places.{begin-is-entry}
use Rattle.p8_depth.proofs.laws.depth_is_the_most_along_paths.Goals as goal

pub returns-clause-begins : goal.returns-clause-begins
returns-clause-begins c = λ names ss. begin-is-entry names None 0 ss 0 0

pub returns-clause-depth : goal.returns-clause-depth
returns-clause-depth c = λ names m code resolved is are few.
    subst (λ bytes. IsDepth bytes (entries_of_method names m.body) code.depth) (sym is.bytes)
    (subst (λ depth. IsDepth (bytes_of (method_code names m.body)) (entries_of_method names m.body) depth) (sym is.depth)
    (depth-is names resolved.environment resolved.kinds m.body resolved.proper resolved.clean are (subst (λ bytes. length bytes < 2 ^ 32) is.bytes few)))

pub returns-clause-everywhere : goal.returns-clause-everywhere
returns-clause-everywhere c = λ names m code resolved is are few.
    subst (λ bytes. All (IsComeTo bytes (entries_of_method names m.body)) (map line_of code.lines)) (sym is.bytes)
    (subst (λ lines. All (IsComeTo (bytes_of (method_code names m.body)) (entries_of_method names m.body)) lines) (sym is.lines)
    (each-line names resolved.environment resolved.kinds m.body resolved.proper resolved.clean are (subst (λ bytes. length bytes < 2 ^ 32) is.bytes few)))
