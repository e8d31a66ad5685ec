-- What each rule is called, and what is said of a line (this project's profile).
use Rattle.std.specs.Prelude.{ℕ, List, [], ◌++◌, codes}
use Rattle.std.specs.Fmt.{decimal}
use Rattle.p8_hint.specs.declared.hint.Slip.{Slip}
use Rattle.p8_hint.specs.declared.hint.Slip.TheVariants as slip

abbrev pub rule_name : Slip → List ℕ
rule_name slip.AssignsInTest = codes "AssignsInTest"
rule_name slip.AssignsLessInTest = codes "AssignsInTest"
rule_name slip.AssignsGreaterInTest = codes "AssignsInTest"
rule_name slip.AssignsEqualInTest = codes "AssignsInTest"
rule_name slip.NoBody = codes "NoBody"
rule_name slip.NoNumberSignInJump = codes "NoNumberSign"
rule_name slip.NoNumberSign = codes "NoNumberSign"
rule_name slip.NoAddress = codes "NoAddress"
rule_name slip.NoAddressAtAll = codes "NoAddress"
rule_name (slip.ShortStack bytes needed) = codes "ShortStack"
rule_name slip.NotPortA = codes "NotPortA"
rule_name slip.UnusedMethod = codes "Unused"
rule_name slip.UnusedLocal = codes "Unused"
rule_name slip.UnusedVariable = codes "Unused"
rule_name slip.NeverEnds = codes "NeverEnds"

-- what the line does, and what mends it, where no number stands in that
abbrev pub sentence : Slip → List ℕ
sentence slip.AssignsInTest = codes "`:=` assigns here, and the test is the value that is assigned: to compare, write `==`."
sentence slip.AssignsLessInTest = codes "`<=` assigns here, as x <= y is x := x < y: to compare, write `=<`."
sentence slip.AssignsGreaterInTest = codes "`>=` assigns here, as x >= y is x := x > y: to compare, write `=>`."
sentence slip.AssignsEqualInTest = codes "`===` assigns here, as x === y is x := x == y: to compare, write `==`."
sentence slip.NoBody = codes "This has no body, for the next line stands at its column: indent the lines that belong to it."
sentence slip.NoNumberSignInJump = codes "Without `#` this jumps to the address in the low bits of the instruction at the label: to jump to the label, write `#` before it."
sentence slip.NoNumberSign = codes "Without `#` this is the register at that address: for the number itself, write `#` before it."
sentence slip.NoAddress = codes "The value of this variable is passed as the address of the stack: to pass its address, write `@` before it."
sentence slip.NoAddressAtAll = codes "A stack at address 0 lies over the program: declare an array in VAR, as long stack[32], and write `@stack`."
sentence (slip.ShortStack bytes needed) = []
sentence slip.NotPortA = codes "There is port 0 alone, with the pins 0 to 31: write 0."
sentence slip.UnusedMethod = codes "Nothing calls or starts this PRI: use it, or take it out."
sentence slip.UnusedLocal = codes "Nothing uses this local: use it, or take it out."
sentence slip.UnusedVariable = codes "Nothing uses this variable: use it, or take it out."
sentence slip.NeverEnds = codes "This is never done, for the loop before it has neither a condition nor a QUIT: move it to another place, or leave the loop by QUIT."

-- what is said of a stack that is too short
abbrev pub of_stack : (bytes needed : ℕ) → List ℕ
of_stack bytes needed =
    codes "The array has " ++ decimal bytes ++ codes " bytes, and the method takes " ++ decimal needed
    ++ codes " for its result, parameters, locals and operands alone: lengthen the array."

abbrev pub said : Slip → List ℕ
said (slip.ShortStack bytes needed) = of_stack bytes needed
said s = sentence s
