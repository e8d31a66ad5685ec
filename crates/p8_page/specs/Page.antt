-- The page of a run: one text in HTML, of which a browser shows the run, without a network (this project's profile).
use Rattle.std.specs.Prelude.{ℕ, zero, suc, ◌+◌, ◌==◌, if◌then◌else◌, List, [], ◌∷◌, ◌++◌, codes, flat_map}
use Rattle.std.specs.Fmt.{decimal}
use Rattle.std.specs.List.{range_with_len}
use Rattle.p8_access.specs.Windows.{window_of}
use Rattle.p8_access.specs.Worlds.{Line}
use Rattle.p8_instr.specs.Numerals.{hex}
use Rattle.p8_page.specs.declared.frame.TheConstants.{OPENING, BODY, RUNNING, CLOSING}
use Rattle.p8_page.specs.declared.script.TheConstants.{SCRIPT}
use Rattle.p8_page.specs.declared.style.TheConstants.{STYLE}
use Rattle.p8_page.specs.declared.block_kind.BlockKind.{BlockKind}
use Rattle.p8_page.specs.declared.block_kind.BlockKind.TheVariants as kind
use Rattle.p8_page.specs.Blocks.{block_text}

pub record Block : Type 0 where
  pub kind : BlockKind
  pub bytes : List ℕ

-- what every page begins with: its style, its buttons and its places; and what it ends with, its script
unfoldable pub head : List ℕ
head = OPENING.now ++ STYLE.now ++ BODY.now

unfoldable pub tail : List ℕ
tail = RUNNING.now ++ SCRIPT.now ++ CLOSING.now

abbrev pub blocks_text : List Block → List ℕ
blocks_text blocks = flat_map (λ (block : Block). block_text block.kind block.bytes) blocks

-- the page of some blocks
abbrev pub page_of : List Block → List ℕ
page_of blocks = head ++ blocks_text blocks ++ tail

-- a number on a line
abbrev pub number_line : ℕ → List ℕ
number_line n = decimal n ++ codes "\n"

-- the first clock that is shown, and the one behind the last
abbrev pub range_text : (from to : ℕ) → List ℕ
range_text from to = number_line from ++ number_line to

-- of each cog the first clock from one on at which the hub serves it
abbrev pub windows_text : (from : ℕ) → List ℕ
windows_text from = flat_map (λ (cog : ℕ). number_line (window_of cog from)) (range_with_len 0 8)

-- the changes of some pins, among so many clocks from one on: each clock at which the pins aren't what they were before it, with the pins from it on
abbrev pub changes_from : (pins : ℕ → ℕ) → (before clock count : ℕ) → List Line
changes_from pins before clock zero = []
changes_from pins before clock (suc count) =
    (if pins clock == before then [] else record { clock = clock; levels = pins clock } ∷ []) ++ changes_from pins (pins clock) (clock + 1) count

-- those of a run, of the clocks before its end; before its first clock all pins are low
abbrev pub changes_by : (pins : ℕ → ℕ) → (end : ℕ) → List Line
changes_by pins end = changes_from pins 0 0 end

-- a clock, and the 32 pins from it on
abbrev pub pins_line : Line → List ℕ
pins_line line = decimal line.clock ++ codes " " ++ hex 8 line.levels ++ codes "\n"

-- the blocks of a run of a file: the clocks that are shown, the windows of the cogs among them, the view, and the pins
abbrev pub run_blocks : (file : List ℕ) → (from to : ℕ) → (view : List ℕ) → (pins : List Line) → List Block
run_blocks file from to view pins =
    record { kind = kind.File; bytes = file }
    ∷ record { kind = kind.Range; bytes = range_text from to }
    ∷ record { kind = kind.Windows; bytes = windows_text from }
    ∷ record { kind = kind.View; bytes = view }
    ∷ record { kind = kind.Pins; bytes = flat_map pins_line pins } ∷ []

-- the block of a map, and those of a file of the project
abbrev pub map_block : (map : List ℕ) → List Block
map_block map = record { kind = kind.Map; bytes = map } ∷ []

abbrev pub source_blocks : (name bytes : List ℕ) → List Block
source_blocks name bytes = record { kind = kind.Name; bytes = name } ∷ record { kind = kind.Source; bytes = bytes } ∷ []
