-- What a call of the program promises (this project's profile).
use Rattle.std.specs.Prelude.{◌≡◌, ◌≤◌, Option, Some}
use Rattle.p8_io.specs.Shelves.{Files}
use Rattle.p8_commands.specs.Commands.{Command}
use Rattle.p8_prop.specs.declared.status.Status.{Status}
use Rattle.p8_prop.specs.Headline.{IsHeadline}
use Rattle.p8_prop.specs.Verdicts.{Outside, Verdict, written, status_of, IsVerdict, IsOut, IsRead, IsTold, HasOneVerdict, IsComplete}

-- the headline, of a text that was written
abbrev pub HasHeadline : Files → Option Command → Verdict → Type 0
HasHeadline files (Some command) (written text) = IsHeadline files command text
HasHeadline files command verdict = Unit {0}

-- a call with this command, as it is seen from outside, and the status that it answers
pub record Keeps (o : Outside) (command : Option Command) (status : Status) : Type 0 where
  -- one verdict comes, which tells the status, the line, what was written and what was read
  pub verdict : Verdict
  pub is_verdict : IsVerdict o command verdict
  pub answered : status ≡ status_of verdict
  pub told : IsTold o.faults command verdict
  pub out : IsOut o.out command verdict
  pub read : IsRead o command verdict
  -- where the shelf tells its files there is one verdict, and it is the one that comes
  pub one_verdict : HasOneVerdict o command
  pub complete : IsComplete o command verdict
  -- What a run prints with status 0 is the trace, or the file, of the one rotation-ordered history of the eight-cog machine started from the image
  -- of its program, whichever threads took its turns; and there the accesses of each life of Spin are, in order, those that its source
  -- makes of the answers it got. The image that a build writes with status 0 keeps the meaning of its source: whichever of its methods
  -- a cog begins with, and whatever answers come, its bytecodes make the accesses that the source says, and never halt for a reason
  -- that the source doesn't have.
  pub headline : HasHeadline o.shelf.files command verdict
  -- the shelf keeps its files, and no count falls
  pub kept : o.shelf.files_now ≡ o.shelf.files
  pub shelf_later : o.shelf.before ≤ o.shelf.now
  pub out_later : o.out.before ≤ o.out.now
  pub faults_later : o.faults.before ≤ o.faults.now
