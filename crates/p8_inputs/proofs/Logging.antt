-- What was read for an ask, and for asks one after the other.
use Rattle.std.proofs.Common.{ℕ, inl, inr, refl, subst, List, [], ◌∷◌, ◌++◌}
use Rattle.p8_io.specs.Shelves.{Files, Log, WereRead}
use Rattle.p8_commands.specs.declared.image_kind.ImageKind.{ImageKind}
use Rattle.p8_commands.specs.declared.image_kind.ImageKind.TheVariants as kind
use Rattle.p8_objects.specs.Orders.{no_more}
use Rattle.p8_objects.proofs.Logs.{nothing-read}
use Rattle.p8_inputs.specs.declared.program.Format.{Format}
use Rattle.p8_inputs.specs.declared.program.Format.TheVariants.{Memory, Image, Eeprom, Source}
use Rattle.p8_inputs.specs.Asks.{Ask, program, viewing, paging, listing, coding, mapping, hinting, script, history, message, Given, Give}
use Rattle.p8_inputs.specs.Orders.{IsAllRead, MayBeRead, IsReadSoFar, AreAllRead, AreReadSoFar}
use Rattle.p8_inputs.specs.Programs.{format_of}
use Rattle.p8_inputs.specs.Steps.{IsOfBytes}

pub unread : (file : List ℕ) (log : Log) → MayBeRead file log log
unread file log = inl (nothing-read log)

module _ (files : Files) (before now : Log) where
  -- the one file of a program that has the bytes which are run
  pub bytes-all_read : (format : Format) (file : List ℕ) → IsOfBytes format → WereRead before now (file ∷ []) → IsAllRead files (program format file) before now
  bytes-all_read Memory file of read = read
  bytes-all_read Image file of read = read
  bytes-all_read Eeprom file of read = read
  bytes-all_read (Source short) file of read = absurd of

  pub bytes-read : (format : Format) (file : List ℕ) → IsOfBytes format → MayBeRead file before now → IsReadSoFar files (program format file) before now
  bytes-read Memory file of read = read
  bytes-read Image file of read = read
  bytes-read Eeprom file of read = read
  bytes-read (Source short) file of read = absurd of

pub kind-of_bytes : (k : ImageKind) → IsOfBytes (format_of k)
kind-of_bytes kind.Binary = tt
kind-of_bytes kind.Eeprom = tt

-- where nothing is read, that is a beginning
pub none-read_of : (files : Files) (ask : Ask) (log : Log) → IsReadSoFar files ask log log
none-read_of files (program Memory file) log = unread file log
none-read_of files (program Image file) log = unread file log
none-read_of files (program Eeprom file) log = unread file log
none-read_of files (program (Source short) file) log = ([], nothing-read log, no_more)
none-read_of files (viewing Memory file name) log = unread file log
none-read_of files (viewing Image file name) log = unread file log
none-read_of files (viewing Eeprom file name) log = unread file log
none-read_of files (viewing (Source short) file name) log = ([], nothing-read log, no_more)
none-read_of files (paging Memory file) log = unread file log
none-read_of files (paging Image file) log = unread file log
none-read_of files (paging Eeprom file) log = unread file log
none-read_of files (paging (Source short) file) log = ([], nothing-read log, no_more)
none-read_of files (listing short file) log = ([], nothing-read log, no_more)
none-read_of files (coding short file) log = ([], nothing-read log, no_more)
none-read_of files (mapping file) log = ([], nothing-read log, no_more)
none-read_of files (hinting file) log = ([], nothing-read log, no_more)
none-read_of files (script file) log = unread file log
none-read_of files (history file) log = unread file log
none-read_of files (message file) log = unread file log

pub none-read : (files : Files) (asks : List Ask) (log : Log) → AreReadSoFar files asks log log
none-read files [] log = refl
none-read files (ask ∷ asks) log = inl (none-read_of files ask log)

-- a beginning of one ask more, behind asks for which all was read
pub some-more_read : (files : Files) (asks : List Ask) (given : List Given) (ask : Ask) (before between now : Log) → Give files asks given → AreAllRead files asks before between → IsReadSoFar files ask between now
    → AreReadSoFar files (asks ++ ask ∷ []) before now
some-more_read files [] [] ask before between now gives none one = inl (subst (λ (log : Log). IsReadSoFar files ask log now) none one)
some-more_read files (first ∷ asks) (x ∷ given) ask before between now gives some one =
    inr (some.0, some.1, (x, gives.0), some-more_read files asks given ask some.0 between now gives.1 some.2 one)
some-more_read files [] (x ∷ given) ask before between now gives none one = absurd gives
some-more_read files (first ∷ asks) [] ask before between now gives some one = absurd gives
