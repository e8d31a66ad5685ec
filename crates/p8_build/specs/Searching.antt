-- internal: what is looked for, as the code has it.
use Rattle.p8_constants.specs.Standing.{items_of}
use Rattle.p8_build.specs.declared.arguments.Sought.{Sought}
use Rattle.p8_build.specs.Arguments.{Search}

abbrev pub search_of : Sought → Search
search_of s = record { items = items_of s.items.now; children = s.children.now; place = s.place }
