-- internal
-- The table and the command of the words, as the code has them.
use Rattle.std.specs.Prelude.{ℕ, ◌≤◌, List, Option, Some, None, map}
use Rattle.std.specs.Borrow.{Bor}
use Rattle.std.specs.Option.{ForSome}
use Rattle.p8_commands.specs.declared.table.Argument.{Argument as ArgumentHeld}
use Rattle.p8_commands.specs.declared.table.CommandEntry.{CommandEntry}
use Rattle.p8_commands.specs.declared.command.Command.{Command as CommandRead}
use Rattle.p8_commands.specs.declared.command.Command.TheVariants as read
use Rattle.p8_commands.specs.declared.command.Run.{Run as RunRead}
use Rattle.p8_commands.specs.declared.command.Dump.{Dump as DumpRead}
use Rattle.p8_commands.specs.declared.command.Dump.TheVariants as dumped
use Rattle.p8_commands.specs.Commands.{Command, Dump, RangeOf, Named, Running, BuildSource, ListSource, CodeSource, CodeImage, MapSource}
use Rattle.p8_commands.specs.Commands.{ExplainFile, ExplainNumber, HintSource, RunMemory, RunProgram, Save, Check, Serial, TypeFile, Wave, Plot}
use Rattle.p8_commands.specs.Commands.{ViewRun, PageRun, Convert, Make, Help}
use Rattle.p8_commands.specs.Table.{Argument, Entry}
use Rattle.p8_commands.specs.Naming.{name_of}
use Rattle.p8_commands.specs.Numbers.{most_clocks, most_shown_clocks, most_turns, most_saved_turns, most_page_turns, last_cog, last_pin}
use Rattle.p8_commands.specs.Numbers.{last_refusal, least_bits, most_bits, least_columns, most_columns}
use Rattle.p8_commands.specs.Ranges.{IsInRam}

abbrev pub argument_of : ArgumentHeld → Argument
argument_of a = record { kind = a.kind; name = a.name.now; value = a.value.now; about = a.about.now }

abbrev pub text_of : Bor (List ℕ) → List ℕ
text_of text = text.now

abbrev pub entry_in : CommandEntry → Entry
entry_in row =
    record { word = row.word.now; arguments = map argument_of row.arguments.now; about = row.about.now; examples = map text_of row.examples.now }

abbrev pub running : RunRead → Running
running run = record { file = run.file.now; clocks = run.clocks; script = name_of run.script; turns = run.turns; dump = run.dump }

abbrev pub dump_read : DumpRead → Dump
dump_read (dumped.Range range) = RangeOf range
dump_read (dumped.Name name) = Named name.now

abbrev pub dump_if_any : Option DumpRead → Option Dump
dump_if_any None = None
dump_if_any (Some dump) = Some (dump_read dump)

abbrev pub command_read : CommandRead → Command
command_read (read.Build short file) = BuildSource short file.now
command_read (read.List short file) = ListSource short file.now
command_read (read.CodeSource short file) = CodeSource short file.now
command_read (read.CodeImage kind file) = CodeImage kind file.now
command_read (read.Map file) = MapSource file.now
command_read (read.ExplainFile file) = ExplainFile file.now
command_read (read.ExplainNumber number) = ExplainNumber number
command_read (read.Hint file) = HintSource file.now
command_read (read.Raw run) = RunMemory (running run)
command_read (read.Run alone short run) = RunProgram alone short (running run)
command_read (read.Save raw run) = Save raw (running run)
command_read (read.Check raw file history script) = Check raw file.now history.now (name_of script)
command_read (read.Serial raw run pin bits) = Serial raw (running run) pin bits
command_read (read.TypeFile file pin bits start) = TypeFile file.now pin bits start
command_read (read.Wave alone raw all pins_only run) = Wave alone raw all pins_only (running run)
command_read (read.Plot alone raw ascii run pins from to columns) = Plot alone raw ascii (running run) pins from to columns
command_read (read.View raw pins_only quiet run cog from to dump) = ViewRun raw pins_only quiet (running run) cog from to (dump_if_any dump)
command_read (read.Page raw run from to) = PageRun raw (running run) from to
command_read (read.Convert kind file) = Convert kind file.now
command_read (read.Make seed alone) = Make alone seed
command_read (read.Help topic) = Help topic

abbrev pub command_if_any : Option CommandRead → Option Command
command_if_any None = None
command_if_any (Some command) = Some (command_read command)

abbrev pub run_if_any : Option RunRead → Option Running
run_if_any None = None
run_if_any (Some run) = Some (running run)

-- the numbers keep their limits
abbrev pub IsWithin : RunRead → Type 0
IsWithin run = (run.clocks ≤ most_shown_clocks) × (run.turns ≤ most_turns) × IsInRam run.dump

abbrev pub IsOnPin : (pin bits : ℕ) → Type 0
IsOnPin pin bits = (pin ≤ last_pin) × (least_bits ≤ bits) × (bits ≤ most_bits)

abbrev pub IsDumpInRam : Option DumpRead → Type 0
IsDumpInRam (Some (dumped.Range range)) = IsInRam (Some range)
IsDumpInRam _ = Unit {0}

abbrev pub HasLimits : CommandRead → Type 0
HasLimits (read.Raw run) = IsWithin run
HasLimits (read.Run alone short run) = IsWithin run
HasLimits (read.Save raw run) = IsWithin run × (run.clocks ≤ most_clocks) × (run.turns ≤ most_saved_turns)
HasLimits (read.Serial raw run pin bits) = IsWithin run × IsOnPin pin bits
HasLimits (read.Wave alone raw all pins_only run) = IsWithin run
HasLimits (read.Plot alone raw ascii run pins from to columns) = IsWithin run × (least_columns ≤ columns) × (columns ≤ most_columns)
HasLimits (read.View raw pins_only quiet run cog from to dump) = IsWithin run × ForSome cog (λ number. number ≤ last_cog) × IsDumpInRam dump
HasLimits (read.Page raw run from to) = IsWithin run × (run.turns ≤ most_page_turns) × (from ≤ most_shown_clocks)
HasLimits (read.ExplainNumber number) = (1 ≤ number) × (number ≤ last_refusal)
HasLimits (read.TypeFile file pin bits start) = IsOnPin pin bits × (1 ≤ start) × (start ≤ most_clocks)
HasLimits _ = Unit {0}
