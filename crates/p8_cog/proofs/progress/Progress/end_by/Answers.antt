use Rattle.std.proofs.Common.{[], ◌∷◌, ◌++◌, sym, ap}
use Rattle.p8_cog.specs.declared.progress.Had.{Had}
use Rattle.p8_cog.specs.Standing.{turns_of}
use Rattle.p8_cog.specs.Reaching.{whole-takes}
use Rattle.p8_cog.specs.Replaying.{third-last}
use Rattle.p8_cog.proofs.progress.Progress.end_by.Goals as goal

pub unreachable-requires : goal.unreachable-requires
unreachable-requires c = third-last c.args.cog c.args.self.now.begun c.args.first c.args.second c.args.turn.now _ _ c.in-Half.ensures.comes

pub returns-in-Whole-clause-takes : goal.returns-in-Whole-clause-takes
returns-in-Whole-clause-takes c = whole-takes c.args.cog c.args.self.now.begun c.advance.new.self (turns_of c.args.self.now.had) (c.args.first ∷ c.args.second ∷ c.args.turn.now ∷ []) c.args.turn.now (ap (λ (had : Had). turns_of had ++ c.args.turn.now ∷ []) (sym c.requires.had)) c.requires.comes c.in-Whole.ensures.comes
