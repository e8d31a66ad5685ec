-- internal: what is known of the files of an accepted project beside their names.
use Rattle.std.specs.Prelude.{ℕ, List, [], ◌∷◌, drop, slice_get, unwrap_or}
use Rattle.p8_stmt.specs.declared.code.MethodCode.{MethodCode}
use Rattle.p8_build.specs.declared.accepting.AcceptedFile.{AcceptedFile}
use Rattle.p8_code.specs.Sources.{lines_of}
use Rattle.p8_code.specs.Listing.{FileCode}

abbrev pub code_by : (bytes : List ℕ) → AcceptedFile → List MethodCode → FileCode
code_by bytes f codes = record { source = lines_of bytes; lines = f.dat.lines; methods = codes }

-- with the short codes of each file's methods, or its own where there are none
abbrev pub codes_by : (sources : List (List ℕ)) → List AcceptedFile → (short : List (List MethodCode)) → List FileCode
codes_by (bytes ∷ sources) (f ∷ fs) short = code_by bytes f (unwrap_or (slice_get short 0) f.codes) ∷ codes_by sources fs (drop 1 short)
codes_by _ _ _ = []
