-- What the code's values stand for.
use Rattle.std.specs.Prelude.{List, map}
use Rattle.p8_tree.specs.Views.{form_of}
use Rattle.p8_build.specs.declared.string_texts.StringText.{StringText}
use Rattle.p8_build.specs.Strings.{Texts}

-- STRINGs with their places
abbrev pub texts_of : List StringText → Texts
texts_of ts = map (λ t. (t.place, form_of t.form.now)) ts
