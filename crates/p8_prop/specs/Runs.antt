-- What `run` and `raw` print (this project's profile). Nothing of other commands is said here or below.
use Rattle.std.specs.Prelude.{◌≡◌, ◌⊎◌, ◌==◌, Bool, true, false, not, if◌then◌else◌, List, [], ◌∷◌, ◌++◌, fold, filter, Option, Some, None, option_map}
use Rattle.std.specs.Prelude.{option_and_then, ℕ, codes}
use Rattle.std.specs.List.{AllZip, ends_with}
use Rattle.std.specs.Str.Lines.{lines}
use Rattle.std.specs.Str.Parse.{digits_value}
use Rattle.clap.specs.declared.builder.action.ArgAction.TheVariants.{SetTrue}
use Rattle.clap.specs.Faults.{fault_of}
use Rattle.clap.specs.Simple.{App, matches_of, new_app, new_rule, with_rule}
use Rattle.clap.specs.Walk.{Rule, Text, first_of}
use Rattle.p8_access.specs.declared.order.Turn.{Turn}
use Rattle.p8_access.specs.Worlds.{Line, World}
use Rattle.p8_tree.specs.Projects.{NamedSource}
use Rattle.p8_kinds.specs.declared.children.Children.{Children}
use Rattle.p8_image.specs.declared.parts.ObjectPart.{ObjectPart}
use Rattle.p8_io.specs.Shelves.{Files, IsRead}
use Rattle.p8_build.specs.Files.{CompiledFile}
use Rattle.p8_compiled.specs.Told.{SpinIsTold}
use Rattle.p8_opt.specs.Programs.{program_of, addresses_of}
use Rattle.p8_report.specs.Text.{text_of}
use Rattle.p8_pins.specs.Scripts.{is_skipped, Carries}
use Rattle.p8_commands.specs.Commands.{Running, has_flag}
use Rattle.p8_inputs.specs.declared.program.Format.{Format}
use Rattle.p8_inputs.specs.declared.program.Format.TheVariants.{Memory, Image, Eeprom, Source}
use Rattle.p8_inputs.specs.Programs.{world_of}
use Rattle.p8_prop.specs.Headline.{IsOneHistory}
use Rattle.p8_prop.specs.Sources.{IsProjectOf}
use Rattle.p8_prop.specs.Images.{Coding, Plain, IsImageOf}

-- ---- the words, by the rules of `clap`

-- a word that stands for itself and can't be left out, an option with a value, and one without
abbrev pub operand : Text → Rule
operand name = record (new_rule name) { required = true }

abbrev pub option : Text → Rule
option name = record (new_rule name) { long = Some name }

abbrev pub flag : Text → Rule
flag name = record (new_rule name) { long = Some name; action = Some SetTrue }

-- what both `raw` and `run` take
abbrev pub run_rules : List Rule
run_rules = operand (codes "FILE") ∷ operand (codes "CLOCKS") ∷ option (codes "pins") ∷ option (codes "turns") ∷ option (codes "dump") ∷ []

abbrev pub raw_app : App
raw_app = fold with_rule (new_app (codes "raw")) run_rules

abbrev pub run_app : App
run_app = fold with_rule (new_app (codes "run")) (run_rules ++ flag (codes "alone") ∷ flag (codes "short") ∷ [])

-- the value that words give an argument, if any
abbrev pub value_in : App → List Text → Text → Option Text
value_in app words name = first_of name (matches_of app words)

-- the number that decimal digits say, or the usual one where there are none
abbrev pub number_or : ℕ → Option Text → ℕ
number_or usual None = usual
number_or usual (Some digits) = digits_value 10 digits

-- the range of hub RAM that `A:N` says: an address in four hexadecimal digits, and how many bytes
abbrev pub range_in : Text → Option (ℕ × ℕ)
range_in (a ∷ b ∷ c ∷ d ∷ colon ∷ count) = Some (digits_value 16 (a ∷ b ∷ c ∷ d ∷ []), digits_value 10 count)
range_in text = None

-- Words say this run: `clap` finds no fault in them, and their values are those of the run. What each value may be is no part of it: what is run was
-- accepted.
pub record SayRun (app : App) (words : List Text) (run : Running) : Type 0 where
  pub faultless : fault_of app words ≡ []
  pub file : value_in app words (codes "FILE") ≡ Some run.file
  pub clocks : option_map (digits_value 10) (value_in app words (codes "CLOCKS")) ≡ Some run.clocks
  pub script : run.script ≡ value_in app words (codes "pins")
  pub turns : run.turns ≡ number_or 100000 (value_in app words (codes "turns"))
  pub dump : run.dump ≡ option_and_then range_in (value_in app words (codes "dump"))

-- ---- what is run, and its trace

-- These bytes are compiled from a source: they are the image of the project of this top file. And in a history each life of Spin is
-- what its method's source says.
pub record IsCompiledFrom (Coded : Coding) (files : Files) (top bytes : List ℕ) (w : World) (past : List Turn) : Type 0 where
  pub sources : List NamedSource
  pub gathered : IsProjectOf files top sources
  pub children : List Children
  pub compiled : List CompiledFile
  pub objects : List ObjectPart
  pub image : IsImageOf Coded sources children compiled objects bytes
  pub lives : SpinIsTold (program_of sources children compiled) (addresses_of sources compiled objects) w past

-- These bytes are what is run of a file: the image of a source, by which lives are told, or else those of the file. Which bytes are no image is no
-- part of it: what is run is one.
abbrev pub IsRunOf : Coding → Files → Format → (file bytes : List ℕ) → World → List Turn → Type 0
IsRunOf Coded files (Source short) file bytes w past = IsCompiledFrom Coded files file bytes w past
IsRunOf Coded files format file bytes w past = IsRead files file bytes

-- what a file to run is taken for, by the end of its name
abbrev pub format_named : (short : Bool) → (name : List ℕ) → Format
format_named short name =
    if ends_with (λ (a b : ℕ). a == b) name (codes ".binary") then Image
    else if ends_with (λ (a b : ℕ). a == b) name (codes ".eeprom") then Eeprom else Source short

-- the lines of a pin script, where one is named: each line of its file carries one, but for those that are skipped
abbrev pub IsScriptOf : Files → Option (List ℕ) → List Line → Type 0
IsScriptOf files None script = script ≡ []
IsScriptOf files (Some name) script =
    (bytes : List ℕ) × IsRead files name bytes × AllZip Carries (filter (λ text. not (is_skipped text)) (lines bytes)) script

-- this text is the trace of the one history of a run, whose file is taken for this
pub record IsTraceOf (Coded : Coding) (files : Files) (format : Format) (run : Running) (text : List ℕ) : Type 0 where
  pub world : World
  pub past : List Turn
  pub bytes : List ℕ
  pub script : List Line
  pub program : IsRunOf Coded files format run.file bytes world past
  pub pins : IsScriptOf files run.script script
  pub begins : world ≡ world_of format bytes script run.clocks run.turns
  pub history : IsOneHistory world past
  pub told : text ≡ text_of world past run.dump

-- This text is what the words of `raw` print: the trace of hub memory, on which cog 0 starts as PASM. Or what those of `run` print, with `--short` or
-- without: that of an image, or of a source's image, whose methods have such codes.
abbrev pub PrintsRaw : Files → List Text → (text : List ℕ) → Type 0
PrintsRaw files words text = (run : Running) × SayRun raw_app words run × IsTraceOf Plain files Memory run text

abbrev pub PrintsRun : (short : Bool) → Coding → Files → List Text → (text : List ℕ) → Type 0
PrintsRun short Coded files words text =
    (run : Running) × SayRun run_app words run × (has_flag (codes "short") (value_in run_app words) ≡ short)
    × IsTraceOf Coded files (format_named short run.file) run text

-- `prop run ..` and `prop raw ..` print, with status 0, the trace of the one history of the eight-cog machine that begins with the file's image and the
-- pin script; and where the file is a source, the accesses of each life of Spin in it are, in order, those that the source makes of its answers.
-- Of `run --short` see `PrintsShortly`.
abbrev pub PrintsHistory : Files → List Text → (text : List ℕ) → Type 0
PrintsHistory files [] text = ⊥
PrintsHistory files (word ∷ words) text =
    ((word ≡ codes "raw") × PrintsRaw files (word ∷ words) text) ⊎ ((word ≡ codes "run") × PrintsRun false Plain files (word ∷ words) text)
