-- What a coder's tables say of names: internal.
use Rattle.std.specs.Prelude.{ℕ}
use Rattle.p8_tree.specs.declared.places.Place.{Place}
use Rattle.p8_words.specs.Operators.{or_zero}
use Rattle.p8_fold.specs.ConstantEntries.{setting_of}
use Rattle.p8_kinds.specs.declared.kinds.Kinds.{Kinds}
use Rattle.p8_kinds.specs.Kinds.{own}
use Rattle.p8_gen.specs.declared.coder.Coder.{Coder}
use Rattle.p8_gen.specs.declared.coder.Tables.{Tables}
use Rattle.p8_gen.specs.Files.{kind_here}
use Rattle.p8_gen.specs.Labels.{offset_in}
use Rattle.p8_gen.specs.Names.{Names, all_wide, wide_in, widened}

-- the names of the method with this number, in a statement, where all jumps are wide; texts stand nowhere yet
abbrev pub names_from : Kinds → (method : ℕ) → Tables → (statement : Place) → Names
names_from found method tables statement = record {
  kind = kind_here found method;
  public = λ item name. own tables.publics item name;
  constants = setting_of tables.consts;
  label = λ name. or_zero (offset_in tables.labels name);
  text = λ place. 0;
  wide = all_wide;
  statement = statement;
}

-- where the coder says which jumps are wide
abbrev pub names_of : Coder → Names
names_of c = widened (names_from c.kinds.now c.number c.tables.now c.statement) (wide_in c.widths.now)
