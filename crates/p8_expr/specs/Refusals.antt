-- The words that are refused by themselves where they stand after what begins an expression (this project's profile:
-- no floating point, and nothing of the chip that the machine doesn't carry out).
use Rattle.std.specs.Prelude.{Option, Some, None, if◌then◌else◌}
use Rattle.p8_lexer.specs.declared.word.Word.{Word}
use Rattle.p8_lexer.specs.declared.word.Word.TheVariants as word
use Rattle.p8_tree.specs.declared.refusal.Refusal.{Refusal}
use Rattle.p8_tree.specs.declared.refusal.Refusal.TheVariants.{Float, Unsupported}
use Rattle.p8_grammar.specs.Lexemes.{Setting, in_method, in_declaration, in_dat, in_data_item, in_action, is_dat}

-- refused in methods alone: in DAT the registers are operands
abbrev pub refused_in_methods : Setting → Option Refusal
refused_in_methods in_method = Some Unsupported
refused_in_methods in_declaration = None
refused_in_methods in_dat = None
refused_in_methods in_data_item = None
refused_in_methods in_action = Some Unsupported

abbrev pub refused_in_dat : Setting → Option Refusal
refused_in_dat s = if is_dat s then Some Unsupported else None

unfoldable pub refusal_of : Setting → Word → Option Refusal
-- floating point
refusal_of s word.FloatNumber = Some Float
refusal_of s word.Float = Some Float
refusal_of s word.Round = Some Float
refusal_of s word.Trunc = Some Float
refusal_of s word.Pi = Some Float
-- what the machine doesn't carry out
refusal_of s word.QuestionMark = Some Unsupported
refusal_of s word.File = refused_in_dat s
refusal_of s word.Clkset = refused_in_methods s
refusal_of s word.Reboot = refused_in_methods s
refusal_of s word.Chipver = refused_in_methods s
refusal_of s word.Spr = refused_in_methods s
refusal_of s word.Waitvid = refused_in_methods s
refusal_of s word.Inb = refused_in_methods s
refusal_of s word.Outb = refused_in_methods s
refusal_of s word.Dirb = refused_in_methods s
refusal_of s word.Ctra = refused_in_methods s
refusal_of s word.Ctrb = refused_in_methods s
refusal_of s word.Frqa = refused_in_methods s
refusal_of s word.Frqb = refused_in_methods s
refusal_of s word.Phsa = refused_in_methods s
refusal_of s word.Phsb = refused_in_methods s
refusal_of s word.Vcfg = refused_in_methods s
refusal_of s word.Vscl = refused_in_methods s
refusal_of s _ = None
