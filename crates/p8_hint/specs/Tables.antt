-- internal: what the code's tables stand for.
use Rattle.std.specs.Prelude.{ℕ, List, Option, Some, None}
use Rattle.std.specs.Borrow.{Bor}
use Rattle.p8_fold.specs.ConstantEntries.{at_bytes}
use Rattle.p8_hint.specs.declared.table.Table.{Table}
use Rattle.p8_hint.specs.declared.facts.FileFacts.{FileFacts}
use Rattle.p8_hint.specs.Rules.{Facts}

-- the number of a name
abbrev pub number_in : Table → (name : List ℕ) → Option ℕ
number_in t name = at_bytes name t.entries

abbrev pub facts_of : FileFacts → Facts
facts_of f = record {
  needed = number_in f.needed;
  array = number_in f.array;
  times = number_in f.times;
  on_code = number_in f.on_code;
  exposed = f.exposed;
}

abbrev pub text_now : Option (Bor (List ℕ)) → Option (List ℕ)
text_now None = None
text_now (Some text) = Some text.now
