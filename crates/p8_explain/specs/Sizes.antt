-- How large what is refused as too large is, and by how much that is too large, and how many arguments a call has that is refused for their number,
-- in words (this project's profile).
use Rattle.std.specs.Prelude.{ℕ, ◌-◌, ◌==◌, nat_lt, Bool, List, [], ◌++◌, codes, Option, Some, None, if◌then◌else◌}
use Rattle.std.specs.Fmt.{decimal}
use Rattle.p8_stmt.specs.declared.frames.MethodSize.{MethodSize}
use Rattle.p8_stmt.specs.Methods.{most_longs, most_held}
use Rattle.p8_build.specs.declared.sizes.Size.{Size}
use Rattle.p8_build.specs.declared.sizes.Size.TheVariants as size_case

-- a number, or the least that it may be
abbrev pub least_words : (is_least : Bool) → List ℕ
least_words is_least = if is_least then codes "at least " else []

abbrev pub number_text : (is_least : Bool) → ℕ → List ℕ
number_text is_least n = least_words is_least ++ decimal n

abbrev pub counted : (front : List ℕ) → (is_least : Bool) → ℕ → (things : List ℕ) → List ℕ
counted front is_least n things = front ++ number_text is_least n ++ things

abbrev pub beyond : (is_least : Bool) → (more most : ℕ) → List ℕ
beyond is_least more most = codes ", " ++ number_text is_least more ++ codes " more than " ++ decimal most ++ codes ".\n"

-- a line for a number that is above the most that it may be; the last number that can be told stands for all above it, too
unfoldable pub excess : (front : List ℕ) → (n last : ℕ) → (things : List ℕ) → (most : ℕ) → List ℕ
excess front n last things most = if nat_lt most n then counted front (n == last) n things ++ beyond (n == last) (n - most) most else []

-- a method's frame, or what it holds at once on the operand stack
abbrev pub of_method : MethodSize → List ℕ
of_method size =
    excess (codes "The frame has ") size.longs 4294967295 (codes " longs") most_longs
    ++ excess (codes "The method holds ") size.held 65535 (codes " values at once") most_held

-- an image, by where its first frame ends
abbrev pub of_image : (bytes : ℕ) → List ℕ
of_image bytes = excess (codes "The image with its variables and the first frame has ") bytes 2147483648 (codes " bytes") 32768

-- a number of things, by the words for one and for any other number
unfoldable pub things : (one more : List ℕ) → ℕ → List ℕ
things one more n = decimal n ++ (if n == 1 then one else more)

-- a call
abbrev pub of_arguments : (wanted given : ℕ) → List ℕ
of_arguments wanted given = things (codes " argument is given, and ") (codes " arguments are given, and ") given ++
    things (codes " is expected.\n") (codes " are expected.\n") wanted

abbrev pub of_size : Option Size → List ℕ
of_size None = []
of_size (Some (size_case.Method size)) = of_method size
of_size (Some (size_case.Image bytes)) = of_image bytes
of_size (Some (size_case.Arguments wanted given)) = of_arguments wanted given
