-- internal: how gathering goes on.
use Rattle.std.specs.Prelude.{ℕ, ◌<◌, List, [], Option, Some, None, length}
use Rattle.p8_tree.specs.Projects.{NamedSource, most_files}
use Rattle.p8_io.specs.Shelves.{Files}
use Rattle.p8_objects.specs.declared.next.Wanted.{Wanted}
use Rattle.p8_objects.specs.Projects.{IsIn, Calls, read, refuse, nothing}
use Rattle.p8_objects.specs.Outcomes.{Outcome, shelved, ComesTo, IsMentionedAt, WasRead}
use Rattle.p8_objects.specs.Standing.{AllLeadTo}
use Rattle.p8_objects.specs.declared.fault.GatherFault.{GatherFault}
use Rattle.p8_objects.specs.declared.fault.GatherFault.TheVariants as gather_case

-- this file is to be read next
pub record IsAsked (top : List ℕ) (files : List NamedSource) (done : List ℕ) (name : List ℕ) : Type 0 where
  pub calls : Calls top files (read name)
  pub new : ¬ IsIn files name
  pub room : length files < most_files
  pub led : AllLeadTo files done name

-- the files call for this one to be read, or for no more
abbrev pub CallsFor : Files → List ℕ → List NamedSource → List ℕ → Option Wanted → Type 0
CallsFor shelf top files done None = Calls top files nothing
CallsFor shelf top files done (Some asked) = IsAsked top files done asked.name × IsMentionedAt shelf files asked.name asked.mention

-- a mention is refused
abbrev pub IsRefusedCall : Files → List ℕ → List NamedSource → GatherFault → Type 0
IsRefusedCall shelf top files (gather_case.Source file f) = Calls top files (refuse file.name f) × WasRead shelf file
IsRefusedCall shelf top files gather_case.NoMemory = Unit {0}
IsRefusedCall shelf top files _ = ⊥

-- what these files come to is what gathering comes to
pub record GoesOn (files : Files) (before : ℕ) (top : List ℕ) (sources : List NamedSource) : Type 0 where
  pub on : (now : ℕ) (o : Outcome) → ComesTo (shelved files before now) top sources o → ComesTo (shelved files before now) top [] o
