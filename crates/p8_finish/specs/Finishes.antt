-- What is told of a history that has ended (this project's profile).
use Rattle.std.specs.Prelude.{ℕ, ◌+◌, ◌<◌, ◌≤◌, List}
use Rattle.std.specs.Option.{ForSome}
use Rattle.p8_access.specs.declared.order.Turn.{Turn}
use Rattle.p8_access.specs.Worlds.{World}
use Rattle.p8_finish.specs.Summary.{summary_of}
use Rattle.p8_wave.specs.Plot.{plot_of}
use Rattle.p8_report.specs.Text.{text_of}
use Rattle.p8_serial.specs.Laws.{IsRate}
use Rattle.p8_serial.specs.Serial.{serial_of}
use Rattle.p8_verify.specs.Files.{file_of, HasFile}
use Rattle.p8_wave.specs.Wave.{wave_of}
use Rattle.p8_finish.specs.declared.finish.Finish.{Finish}
use Rattle.p8_finish.specs.declared.finish.Finish.TheVariants.{Trace, Summary, Saved, Serial, Wave, Plot}

-- the text of a past: its trace with a dump, the summary of the made program of a seed, the bytes of its file, those on a pin, its wave, or the
-- picture of some of its pins
abbrev pub told_by : Finish → World → List Turn → List ℕ
told_by (Trace dump) w past = text_of w past dump
told_by (Summary seed) w past = summary_of seed w past
told_by Saved w past = file_of w past
told_by (Serial pin bits) w past = serial_of w past pin bits
told_by (Wave selection) w past = wave_of w past selection
told_by (Plot view) w past = plot_of w past view

-- what is told of a past is whole: where it is saved, it has a file, with the record of each of its turns
abbrev pub IsWhole : Finish → World → List Turn → Type 0
IsWhole (Trace dump) w past = Unit {0}
IsWhole (Summary seed) w past = Unit {0}
IsWhole Saved w past = HasFile w past
IsWhole (Serial pin bits) w past = Unit {0}
IsWhole (Wave selection) w past = Unit {0}
IsWhole (Plot view) w past = Unit {0}

-- It can be told: the range of a dump is in hub RAM, and isn't empty; a history that is saved has at most 100,000,000 clocks and 40,000 turns by its
-- limits; there is such a pin, and such a bit.
abbrev pub CanBeTold : Finish → (clocks turns : ℕ) → Type 0
CanBeTold (Trace dump) clocks turns = ForSome dump (λ range. 1 ≤ range.1) × ForSome dump (λ range. range.0 + range.1 ≤ 32768)
CanBeTold (Summary seed) clocks turns = Unit {0}
CanBeTold Saved clocks turns = (clocks ≤ 100000000) × (turns ≤ 40000)
CanBeTold (Wave selection) clocks turns = Unit {0}
CanBeTold (Plot view) clocks turns = Unit {0}
CanBeTold (Serial pin bits) clocks turns = (pin < 32) × IsRate bits
